-- How a stream is cut into runs does not matter: from empty, all of it in one run leaves the same store, count and sum; no run is
-- refused, each is used up to the stream's byte 512, and that byte's run is the first to be told complete.
use Rattle.std.proofs.Common.{◌≡◌, ℕ, zero, suc, ◌+◌, ◌-◌, ◌%◌, ◌<◌, ◌≤◌, Bool, true, false, eqb, leb, List, [], ◌∷◌, ◌++◌, length, take, sym, refl, ap, ◌∙◌, subst, append-nil, arith, length-append, drop_of_length-le, length-take, length-take-le, take_all, le-ltb, eq-eqb, ne_eqb, leb-false, leb-true}
use Rattle.rules.specs.Bits.{flag}
use Rattle.room.specs.Room.{written}
use Rattle.room.proofs.Laws.{length_written, written_append, written_front}
use Rattle.checksum.specs.Checksum.{sum_of}
use Rattle.checksum.proofs.Laws.{sum_append}
use Rattle.intake.specs.Intake.{intake, wrong_intake, used_by, after, used, taken, block_of}
use Rattle.intake.specs.Stream.{Held, begin, step, runs, stream}
use Rattle.intake.proofs.Laws.{take_join}

-- What every run leaves true.
pub record Sound (held : Held) : Type 0 where
  pub store : length held.store ≡ 512
  pub have : held.intake.have ≤ 512
  pub sum : held.intake.sum < 256

abbrev stepped : Held → List ℕ → Held
stepped held bytes =
    record {
      intake = after held.intake bytes;
      store = written held.store held.intake.have bytes;
      used = held.used + length bytes;
    }

-- From there no run is refused.
not_wrong : (held : Held) → Sound held → wrong_intake held.intake.have (length held.store) ≡ false
not_wrong held s = rw (eq-eqb _ _ s.store, le-ltb _ _ s.have)

taken_is : (held : Held) → Sound held → (run : List ℕ) → taken held.intake held.store run ≡ used held.intake held.store (used_by held.intake.have run)
unfolding taken
taken_is held s run = rw (not_wrong held s)

step_is : (held : Held) → Sound held → (run : List ℕ) → step held run ≡ stepped held (used_by held.intake.have run)
step_is held s run = rw (taken_is held s run)

sound_step : (held : Held) → Sound held → (run : List ℕ) → Sound (step held run)
sound_step held s run =
    subst Sound (sym (step_is held s run))
    (record {
      store = length_written held.store held.intake.have (used_by held.intake.have run) ∙ s.store;
      have = rw length-take (omega (arith, s.have));
      sum = omega arith;
    })

abbrev held : ℕ → ℕ → List ℕ → ℕ → Held
held have sum store used = record { intake = intake have sum; store = store; used = used }

same : {h h' s s' u u' : ℕ} {w w' : List ℕ} → h ≡ h' → s ≡ s' → w ≡ w' → u ≡ u' → held h s w u ≡ held h' s' w' u'
same e f g k = cc

-- Two runs in a row are one.
two_are_one : (h : Held) → Sound h → (a b : List ℕ) → step (step h a) b ≡ step h (a ++ b)
two_are_one h s a b =
    step_is (step h a) (sound_step h s a) b ∙ ap (λ (k : Held). stepped k (used_by k.intake.have b)) (step_is h s a) ∙ both ∙ sym (step_is h s (a ++ b))
  where
    p : List ℕ
    p = used_by h.intake.have a

    q : List ℕ
    q = used_by (h.intake.have + length p) b

    joined : used_by h.intake.have (a ++ b) ≡ p ++ q
    joined =
        let e : 512 - h.intake.have - length p ≡ 512 - (h.intake.have + length p) = omega arith in
        rw e at (take_join (512 - h.intake.have) a b)

    both : stepped (stepped h p) q ≡ stepped h (used_by h.intake.have (a ++ b))
    both =
        rw joined
        (same (omega (arith, length-append p q)) (omega (arith, sum_append p q)) (written_append h.store h.intake.have p q)
        (omega (arith, length-append p q)))

-- So are any number, also none.
all_are_one : (h : Held) → Sound h → (rs : List (List ℕ)) → runs h rs ≡ step h (stream rs)
unfolding sum_of runs stream
all_are_one h s [] = sym (step_is h s [] ∙ nothing (512 - h.intake.have))
  where
    nothing : (n : ℕ) → stepped h (take n []) ≡ h
    nothing zero = same (omega arith) (omega (arith, s.sum)) refl (omega arith)
    nothing (suc n) = same (omega arith) (omega (arith, s.sum)) refl (omega arith)
all_are_one h s (r ∷ rs) = all_are_one (step h r) (sound_step h s r) rs ∙ two_are_one h s r (stream rs)

-- A block over a whole store.
covered : (store t : List ℕ) → length store ≡ 512 → length t ≡ 512 → written store 0 t ≡ t
covered store t l m =
    rw (written_front store t, l, m, take_all 512 t (omega arith), drop_of_length-le store {i = 512} (omega arith), append-nil t)

module _ (store : List ℕ) (l : length store ≡ 512) where
  abbrev sound : Sound (begin store)
  sound = record { store = l; have = omega arith; sum = omega arith }

  pub however_divided : (rs : List (List ℕ)) → runs (begin store) rs ≡ step (begin store) (stream rs)
  however_divided rs = all_are_one (begin store) sound rs

  -- That one run keeps the stream up to byte 512 at the store's front, and counts as used what it keeps.
  pub single_run : (s : List ℕ) → step (begin store) s ≡ held (length (take 512 s)) (sum_of (take 512 s) % 256) (written store 0 (take 512 s)) (length (take 512 s))
  single_run s = step_is (begin store) sound s ∙ same (omega arith) (omega arith) refl (omega arith)

  -- Where the stream has 512 bytes, the block is those, and the sum carried along is the block's.
  module _ (rs : List (List ℕ)) where
    abbrev end : Held
    end = runs (begin store) rs

    abbrev block : List ℕ
    block = block_of end.intake.have end.store

    is : end ≡ held (length (take 512 (stream rs))) (sum_of (take 512 (stream rs)) % 256) (written store 0 (take 512 (stream rs))) (length (take 512 (stream rs)))
    is = however_divided rs ∙ single_run (stream rs)

    pub whole_block : 512 ≤ length (stream rs) → block ≡ take 512 (stream rs)
    whole_block h =
        let t = length-take-le 512 (stream rs) h in
        rw (is, t) (covered store (take 512 (stream rs)) l t)

    pub sum_of_the_block : 512 ≤ length (stream rs) → end.intake.sum ≡ sum_of block % 256
    sum_of_the_block h = rw (whole_block h, is)

    -- Where it has fewer, there is no block yet.
    pub no_block_yet : length (stream rs) < 512 → block ≡ []
    no_block_yet h =
        let t : length (take 512 (stream rs)) ≡ length (stream rs) = rw length-take (omega arith) in
        rw (is, t, ne_eqb (length (stream rs)) 512 (λ e. absurd (omega (arith, e, h))))

    sound_end : Sound end
    sound_end = subst Sound (sym (however_divided rs)) (sound_step (begin store) sound (stream rs))

    -- After any runs the intake is right.
    pub right_end : wrong_intake end.intake.have (length end.store) ≡ false
    right_end = not_wrong end sound_end

-- A stream gives 512 bytes exactly if it has as many.
full : (s : List ℕ) → eqb (length (take 512 s)) 512 ≡ leb 512 (length s)
full s = by (leb 512 (length s)) refl
  where
    by : (b : Bool) → leb 512 (length s) ≡ b → eqb (length (take 512 s)) 512 ≡ b
    by true e = eq-eqb _ _ (length-take-le 512 s (leb-true 512 (length s) e))
    by false e = ne_eqb (length (take 512 s)) 512 (λ k. absurd (omega (arith, leb-false 512 (length s) e, length-take 512 s, k)))

-- What is told of one run, after any number of others or none.
module _ (store : List ℕ) (l : length store ≡ 512) (before : List (List ℕ)) (run : List ℕ) where
  abbrev so_far : Held
  so_far = runs (begin store) before

  told : taken so_far.intake so_far.store run ≡ used so_far.intake so_far.store (used_by so_far.intake.have run)
  told = taken_is so_far (sound_end store l before) run

  has : so_far.intake.have ≡ length (take 512 (stream before))
  has = ap (λ (k : Held). k.intake.have) (is store l before)

  grown : so_far.intake.have + length (used_by so_far.intake.have run) ≡ length (take 512 (stream before ++ run))
  grown = rw (has, take_join 512 (stream before) run, length-append)

  pub never_refused : (taken so_far.intake so_far.store run).took.number ≡ 0
  never_refused = rw told

  -- It is complete from the run that brings byte 512 on.
  pub complete_from_byte_512 : (taken so_far.intake so_far.store run).took.complete ≡ flag (leb 512 (length (stream before ++ run)))
  complete_from_byte_512 = rw (told, grown, full (stream before ++ run))

  -- It uses of the run what the stream has up to byte 512, beyond what came before.
  pub used_of_a_run : (taken so_far.intake so_far.store run).took.used ≡ length (take 512 (stream before ++ run)) - length (take 512 (stream before))
  used_of_a_run = rw told (omega (arith, has, grown))
