-- Which submissions are accepted: each check, and what it asks in words.
use mathlib.Core.Path.{◌≡◌, refl, sym, ap, ◌∙◌}
use mathlib.Core.Bool.{Bool, true, false, cond, not, ◌&&◌, ◌||◌, or-true, or-false, or_assoc, and-false, and-eq-true_iff, true≢false, false≢true}
use mathlib.Core.Logic.{◌⊎◌, inl, inr, ⊎_elim}
use mathlib.Core.List.{List, [], ◌∷◌, ◌++◌}
use Prim.Native.Nat.{ℕ}
use native.Mathlib.Omega.{arith}
use lib.Dec.{eqb}
use lib.ListN.{length, get_or}
use borrow.Author.Tests.{eqb-true, eqb-false, ltb-false, not-true, not-false, eq-eqb, ne_eqb, le-ltb}
use Rattle.rules.specs.First.{Check, ◌when◌, first}
use Rattle.rules.proofs.First.{Silent, silent, neither, first_answers, second_answers}
use Rattle.checksum.specs.Checksum.{damaged}
use Rattle.passthrough_fields.specs.Fields.{long, longest, service_action, protocol, t_length, t_type, t_dir, byte_block}
use Rattle.passthrough_length.specs.Length.{lacking, in_sectors}
use Rattle.passthrough_order.specs.Order.{without_data, from_drive, to_drive, with_data, reset}
use Rattle.passthrough_checks.specs.Checks as Checks
use Rattle.passthrough_checks.specs.Helpers.{command_checks}
use Rattle.passthrough_checks.proofs.Laws.{sized}
use Rattle.buildable.proofs.Laws.{one_of}
use Rattle.passthrough.specs.Record.{nothing_pending, reset_pending}
use Rattle.passthrough.specs.Submit.{is_later}
use Rattle.demands.specs.Promises.{Submission, number_of, OneOf, MovesData, CountsBlocks, Fits, Submittable, SubmitAccepts}
use Rattle.demands.proofs.Runs.{none_answers, neither_answers, first_of_kind}
use Rattle.demands.proofs.Counted.{rule_length, rule_asks}
use Rattle.demands.proofs.Order.{refusal, zero, number_is}

-- A list of numbers as a test, and as words.
abbrev pub among : ℕ → List ℕ → Bool
among n [] = false
among n (m ∷ ms) = eqb n m || among n ms

pub listed : (n : ℕ) (ms : List ℕ) → among n ms ≡ true → OneOf n ms
listed n [] e = absurd (false≢true e)
listed n (m ∷ ms) e = ⊎_elim (λ t. inl (eqb-true n m t)) (λ t. inr (listed n ms t)) (one_of (eqb n m) (among n ms) e)

in_list : (n : ℕ) (ms : List ℕ) → OneOf n ms → among n ms ≡ true
in_list n [] x = elim x [ ]
in_list n (m ∷ ms) (inl e) = rw (eq-eqb n m e)
in_list n (m ∷ ms) (inr h) = rw (in_list n ms h) (or-true (eqb n m))

-- A test that a list stands for.
pub record Listed (n : ℕ) (ms : List ℕ) (test : Bool) : Type 0 where
  pub words : test ≡ true → OneOf n ms
  pub passes : OneOf n ms → test ≡ true

lists : (n : ℕ) (ms : List ℕ) {test : Bool} → among n ms ≡ test → Listed n ms test
lists n ms e = record { words = λ t. listed n ms (e ∙ t); passes = λ h. sym e ∙ in_list n ms h }

-- The protocols by number.
module _ (p : ℕ) where
  pub data_listed : Listed p (4 ∷ 10 ∷ 5 ∷ 11 ∷ 6 ∷ []) (with_data p)
  data_listed = lists p _ (simp (or-false, or_assoc))

  none_listed : Listed p (3 ∷ 8 ∷ 9 ∷ []) (without_data p)
  none_listed = lists p _ (simp (or-false, or_assoc))

  from_listed : Listed p (4 ∷ 10 ∷ []) (from_drive p)
  from_listed = lists p _ (simp or-false)

  to_listed : Listed p (5 ∷ 11 ∷ []) (to_drive p)
  to_listed = lists p _ (simp or-false)

  reset_listed : Listed p (0 ∷ 1 ∷ []) (reset p)
  reset_listed = lists p _ (simp or-false)

  wrong_listed : Listed p (2 ∷ 7 ∷ 12 ∷ 13 ∷ 14 ∷ []) (Checks.wrong_protocol p)
  wrong_listed = lists p _ (simp (or-false, or_assoc))

-- A test of two: where the first holds, the second does not.
unless : (a b : Bool) → (a && b) ≡ false → a ≡ true → b ≡ false
unless true b e h = e
unless false b e h = absurd (false≢true h)

neither_both : (a b : Bool) → (a ≡ true → b ≡ false) → (a && b) ≡ false
neither_both true b h = h refl
neither_both false b h = refl

pub fails : (b : Bool) → (b ≡ true → ⊥) → b ≡ false
fails true h = absurd (h refl)
fails false h = refl

module _ (s : Submission) where
  abbrev c : List ℕ
  c = s.command

  abbrev p : ℕ
  p = protocol c

  abbrev later : Bool
  later = is_later s.edition

  -- The checks before those of the length, and those.
  abbrev front : List Check
  front =
      command_checks (not (nothing_pending s.record_given)) (reset_pending s.record_given) later c (length s.registers) s.block (length s.sense)
      ++ ((6 when Checks.no_block p (lacking later s.block c)) ∷ [])

  abbrev rear : List Check
  rear = (13 when Checks.no_length p (rule_length s)) ∷ (14 when Checks.too_long p (rule_length s) s.declared) ∷ []

  -- Each test in words, that fails: the opcode is served,
  served_words : Checks.wrong_opcode later c ≡ false → OneOf (get_or c 0 0) (0xA1 ∷ 0x85 ∷ []) ⊎ ((get_or c 0 0 ≡ 0x7F) × (later ≡ true))
  served_words e = by (longest c) refl e
    where
      by : (b : Bool) → longest c ≡ b → cond b (not later) (not (long c || eqb (get_or c 0 0) 0xA1)) ≡ false → OneOf (get_or c 0 0) (0xA1 ∷ 0x85 ∷ []) ⊎ ((get_or c 0 0 ≡ 0x7F) × (later ≡ true))
      by true l h = inr (eqb-true _ _ l, not-false later h)
      by false l h =
          inl (⊎_elim (λ t. inr (inl (eqb-true _ _ t))) (λ t. inl (eqb-true _ _ t)) (one_of (long c) (eqb (get_or c 0 0) 0xA1) (not-false _ h)))

  served_test : OneOf (get_or c 0 0) (0xA1 ∷ 0x85 ∷ []) ⊎ ((get_or c 0 0 ≡ 0x7F) × (later ≡ true)) → Checks.wrong_opcode later c ≡ false
  served_test (inl (inl e)) = rw e
  served_test (inl (inr (inl e))) = rw e
  served_test (inl (inr (inr x))) = elim x [ ]
  served_test (inr w) = rw (w.0, w.1)

  -- bytes 7 to 9 are those of the 32-byte form,
  action_words : Checks.wrong_action c ≡ false → get_or c 0 0 ≡ 0x7F → (get_or c 7 0 ≡ 0x18) × (get_or c 8 0 ≡ 0x1F) × (get_or c 9 0 ≡ 0xF0)
  action_words e h =
      let both = (and-eq-true_iff (eqb (get_or c 7 0) 0x18 && eqb (get_or c 8 0) 0x1F) (eqb (get_or c 9 0) 0xF0)).0 (not-false _ (unless (longest c) (not (service_action c)) e (eq-eqb _ _ h))) in
      let first_two = (and-eq-true_iff (eqb (get_or c 7 0) 0x18) (eqb (get_or c 8 0) 0x1F)).0 both.0 in
      (eqb-true _ _ first_two.0, eqb-true _ _ first_two.1, eqb-true _ _ both.1)

  action_test : (get_or c 0 0 ≡ 0x7F → (get_or c 7 0 ≡ 0x18) × (get_or c 8 0 ≡ 0x1F) × (get_or c 9 0 ≡ 0xF0)) → Checks.wrong_action c ≡ false
  action_test h =
      neither_both (longest c) (not (service_action c)) (λ l. let w = h (eqb-true _ _ l) in rw (w.0, w.1, w.2))

  -- what is pending is nothing to wait for,
  abbrev waiting : Bool
  waiting = Checks.waits (not (nothing_pending s.record_given)) (reset_pending s.record_given) p

  reset_words : waiting ≡ false → OneOf p (0 ∷ 1 ∷ []) → reset_pending s.record_given ≡ false
  reset_words e h = rw ((reset_listed p).passes h) at e

  record_words : waiting ≡ false → (OneOf p (0 ∷ 1 ∷ 15 ∷ []) → ⊥) → nothing_pending s.record_given ≡ true
  record_words e h =
      let r = fails (reset p) (λ t. h (three ((reset_listed p).words t))) in
      let f = fails (eqb p 15) (λ t. h (inr (inr (inl (eqb-true _ _ t))))) in
      by (nothing_pending s.record_given) (rw (r, f) at e)
    where
      three : OneOf p (0 ∷ 1 ∷ []) → OneOf p (0 ∷ 1 ∷ 15 ∷ [])
      three (inl z) = inl z
      three (inr (inl z)) = inr (inl z)
      three (inr (inr x)) = elim x [ ]

      by : (b : Bool) → (not b && true) ≡ false → b ≡ true
      by true e = refl
      by false e = absurd (true≢false e)

  free_test : (OneOf p (0 ∷ 1 ∷ []) → reset_pending s.record_given ≡ false) → ((OneOf p (0 ∷ 1 ∷ 15 ∷ []) → ⊥) → nothing_pending s.record_given ≡ true) → waiting ≡ false
  free_test g h = by (reset p) (eqb p 15) refl refl
    where
      by : (a b : Bool) → reset p ≡ a → eqb p 15 ≡ b → cond a (reset_pending s.record_given) (not (nothing_pending s.record_given) && not b) ≡ false
      by true b r f = g ((reset_listed p).words r)
      by false true r f = and-false (not (nothing_pending s.record_given))
      by false false r f = rw (h none)
        where
          none : OneOf p (0 ∷ 1 ∷ 15 ∷ []) → ⊥
          none (inl z) = true≢false (sym ((reset_listed p).passes (inl z)) ∙ r)
          none (inr (inl z)) = true≢false (sym ((reset_listed p).passes (inr (inl z))) ∙ r)
          none (inr (inr (inl z))) = eqb-false _ _ f z
          none (inr (inr (inr x))) = elim x [ ]

  -- T_LENGTH is zero exactly without data,
  length_words : Checks.wrong_length p (t_length c) ≡ false → (OneOf p (3 ∷ 8 ∷ 9 ∷ []) → t_length c ≡ 0) × (MovesData s → t_length c ≡ 0 → ⊥)
  length_words e =
      let both = neither (without_data p && not (eqb (t_length c) 0)) (with_data p && eqb (t_length c) 0) e in (
        λ h. eqb-true _ _ (not-false _ (unless _ _ both.0 ((none_listed p).passes h))),
        λ h. eqb-false _ _ (unless _ _ both.1 ((data_listed p).passes h)),
      )

  length_test : (OneOf p (3 ∷ 8 ∷ 9 ∷ []) → t_length c ≡ 0) → (MovesData s → t_length c ≡ 0 → ⊥) → Checks.wrong_length p (t_length c) ≡ false
  length_test g h =
      rw (neither_both (without_data p) (not (eqb (t_length c) 0)) (λ t. rw (eq-eqb _ _ (g ((none_listed p).words t)))))
      (neither_both (with_data p) (eqb (t_length c) 0) (λ t. ne_eqb _ _ (h ((data_listed p).words t))))

  -- T_DIR is the protocol's,
  direction_words : Checks.wrong_direction p (t_dir c) ≡ false → (OneOf p (4 ∷ 10 ∷ []) → t_dir c ≡ true) × (OneOf p (5 ∷ 11 ∷ []) → t_dir c ≡ false)
  direction_words e =
      let both = neither (from_drive p && not (t_dir c)) (to_drive p && t_dir c) e in
      (λ h. not-false _ (unless _ _ both.0 ((from_listed p).passes h)), λ h. unless _ _ both.1 ((to_listed p).passes h))

  direction_test : (OneOf p (4 ∷ 10 ∷ []) → t_dir c ≡ true) → (OneOf p (5 ∷ 11 ∷ []) → t_dir c ≡ false) → Checks.wrong_direction p (t_dir c) ≡ false
  direction_test g h =
      rw (neither_both (from_drive p) (not (t_dir c)) (λ t. rw (g ((from_listed p).words t))))
      (neither_both (to_drive p) (t_dir c) (λ t. h ((to_listed p).words t)))

  -- and a block is there where it is needed.
  points_listed : Listed (t_length c) (1 ∷ 2 ∷ []) (eqb (t_length c) 1 || eqb (t_length c) 2)
  points_listed = lists (t_length c) _ (simp or-false)

  block_listed : Listed (length s.block) (512 ∷ 0 ∷ []) (eqb (length s.block) 512 || eqb (length s.block) 0)
  block_listed = lists (length s.block) _ (simp or-false)

  abbrev BlockTold : Type 0
  BlockTold = later ≡ true → MovesData s → CountsBlocks s → t_type c ≡ true → length s.block ≡ 0 → ⊥

  told_words : Checks.no_block p (lacking later s.block c) ≡ false → BlockTold
  told_words e l d b t z =
      true≢false (sym (rw (l, eq-eqb _ _ z, t, b.1, points_listed.passes b.0)) ∙ unless (with_data p) (lacking later s.block c) e ((data_listed p).passes d))

  told_test : BlockTold → Checks.no_block p (lacking later s.block c) ≡ false
  told_test h = neither_both (with_data p) (lacking later s.block c) (λ d. fails _ (λ t. by d t))
    where
      by : with_data p ≡ true → lacking later s.block c ≡ true → ⊥
      by d t =
          let outer = (and-eq-true_iff (later && eqb (length s.block) 0) (in_sectors c)).0 t in
          let lent = (and-eq-true_iff later (eqb (length s.block) 0)).0 outer.0 in
          let counts = (and-eq-true_iff (t_type c && byte_block c) (eqb (t_length c) 1 || eqb (t_length c) 2)).0 outer.1 in
          let flags = (and-eq-true_iff (t_type c) (byte_block c)).0 counts.0 in
          h lent.0 ((data_listed p).words d) (points_listed.words counts.1, flags.1) flags.0 (eqb-true _ _ lent.1)

  fits_words : Silent front → Fits s
  fits_words q =
      let sizes = sized (length s.registers) (length s.sense) q.0 in
      let after = q.1.1.1 in
      let fields = after.1.1.1.1.1 in
      let lengths = length_words fields.1.1.0 in
      let directions = direction_words fields.1.1.1.0 in
      record {
        registers = sizes.0;
        sense_room_is = sizes.1;
        block_or_none = λ l. block_listed.words (not-false _ (unless later _ q.1.0 l));
        block_passes = unless later (damaged s.block) q.1.1.0;
        some_byte = omega (arith, eqb-false (length c) 0 after.0);
        opcode = served_words after.1.0;
        all_bytes = ltb-false _ _ after.1.1.0;
        no_naca = after.1.1.1.0;
        service_action_is = action_words after.1.1.1.1.0;
        protocol_served = λ h. true≢false (sym ((wrong_listed p).passes h) ∙ fields.0);
        reset_free = reset_words fields.1.0;
        record_free = record_words fields.1.0;
        without_data_is = lengths.0;
        with_data_is = lengths.1;
        from_drive_is = directions.0;
        to_drive_is = directions.1;
        block_told = told_words fields.1.1.1.1.0;
      }

  fits_test : Fits s → Silent front
  fits_test f =
      let sizes : Checks.wrong_size (length s.registers) (length s.sense) ≡ false = rw (eq-eqb _ _ f.registers, le-ltb _ _ f.sense_room_is) in
      let block : Checks.wrong_block later (length s.block) ≡ false = neither_both later _ (λ l. rw (block_listed.passes (f.block_or_none l))) in
      let some : eqb (length c) 0 ≡ false = ne_eqb (length c) 0 (λ z. omega (arith, f.some_byte)) in
      let known : Checks.wrong_protocol p ≡ false = fails _ (λ t. f.protocol_served ((wrong_listed p).words t)) in
      (sizes, (block, (neither_both later (damaged s.block) f.block_passes, (some, (served_test f.opcode, (le-ltb _ _ f.all_bytes, (f.no_naca, (action_test f.service_action_is, (known, (free_test f.reset_free f.record_free, (length_test f.without_data_is f.with_data_is, (direction_test f.from_drive_is f.to_drive_is, (told_test f.block_told, tt)))))))))))))

  -- A submission that fits is left to the checks of the length.
  pub fitting : Fits s → refusal s ≡ first rear
  unfolding Checks.refusal_of
  fitting f = second_answers front rear refl (none_answers front (fits_test f))

  fitted : first front ≡ 0 → Fits s
  fitted e = fits_words (silent front refl e)

  -- And one that those refuse fits.
  pub fits_from : (eqb (number_of s) 13 || eqb (number_of s) 14) ≡ true → Fits s
  unfolding Checks.refusal_of
  fits_from h = by (eqb (first front) 0) refl
    where
      by_rear : ℕ → Bool
      by_rear number = eqb number 13 || eqb number 14

      by : (b : Bool) → eqb (first front) 0 ≡ b → Fits s
      by true e = fitted (eqb-true _ _ e)
      by false e =
          let same = number_is s ∙ first_answers front rear refl (eqb-false _ _ e) in
          absurd (true≢false (sym h ∙ ap by_rear same ∙ not-true _ (first_of_kind (λ n. not (by_rear n)) refl front refl)))

  accepts : Submittable s → number_of s ≡ 0
  accepts a = number_is s ∙ fitting a.fits ∙ none_answers rear (some, (within, tt))
    where
      some : Checks.no_length p (rule_length s) ≡ false
      some =
          neither_both (with_data p) _ (λ d.
          let m = (data_listed p).words d in
          rw (rule_asks s (a.fits.with_data_is m)) (ne_eqb _ _ (a.some_length m)))

      within : Checks.too_long p (rule_length s) s.declared ≡ false
      within =
          neither_both (with_data p) _ (λ d.
          let m = (data_listed p).words d in
          rw (rule_asks s (a.fits.with_data_is m)) (le-ltb _ _ (a.within_declared m)))

  accepted : number_of s ≡ 0 → Submittable s
  unfolding Checks.refusal_of
  accepted e =
      let both = neither_answers front rear refl (zero s e) in
      let q = silent rear refl both.1 in
      let f = fitted both.0 in
      record {
        fits = f;
        some_length = λ h. rw (rule_asks s (f.with_data_is h)) at (eqb-false (rule_length s) 0 (unless (with_data p) _ q.0 ((data_listed p).passes h)));
        within_declared = λ h. rw (rule_asks s (f.with_data_is h)) at (ltb-false s.declared (rule_length s) (unless (with_data p) _ q.1.0 ((data_listed p).passes h)));
      }

pub submit_accepts : SubmitAccepts
submit_accepts s = (accepted s, accepts s)
