-- Blocks fed one after another: none that a census can count is refused, each of those is counted once in every grouping, and any
-- other in none.
use mathlib.Core.Path.{◌≡◌, refl, sym, ap, ◌∙◌}
use mathlib.Core.Bool.{Bool, true, false, cond, not, ◌&&◌, and-eq-true_iff, true≢false}
use mathlib.Core.List.{List, [], ◌∷◌}
use Prim.Native.Nat.{ℕ, ◌+◌, ◌-◌, ◌≤◌, ◌<◌}
use native.Mathlib.Omega.{arith}
use lib.Dec.{eqb}
use lib.ListN.{length, get_or, length-set}
use lib.Seq.{get_or-set_same, get_or-set_other}
use borrow.Author.Tests.{eq-eqb, ne_eqb, eqb-true, eqb-false, not-true}
use Rattle.rules.specs.Bits.{flag}
use Rattle.checksum.specs.Checksum.{sum_of, damaged}
use Rattle.identify.specs.Names.{carries_name}
use Rattle.classes.specs.Classes.{major_version}
use Rattle.classes.proofs.Masked.{mode_within, version_within}
use Rattle.tally.specs.declared.Census.{Census}
use Rattle.tally.specs.Census.{empty, uneven, closed, refusal_of, raised, counted, answer, feed, mode_place, version_place}
use Rattle.tally.specs.Fleet.{feed_all, count_of, countable, countables, Countable, more}
use Rattle.tally.proofs.Laws.{sum_raised}

-- What feeding leaves true of a census.
pub record Sound (c : Census) : Type 0 where
  pub names : c.named + c.unnamed ≡ c.blocks
  pub modes : sum_of c.udma ≡ c.blocks
  pub versions : sum_of c.version ≡ c.blocks
  pub mode_places : length c.udma ≡ 8
  pub version_places : length c.version ≡ 15

pub sound_empty : Sound empty
unfolding sum_of
sound_empty = record { names = refl; modes = refl; versions = refl; mode_places = refl; version_places = refl }

-- A name form is one of two.
either_form : (b : Bool) → flag b + flag (not b) ≡ 1
either_form true = refl
either_form false = refl

mode_place_is : {c : Census} → Sound c → (block : List ℕ) → mode_place block < length c.udma
mode_place_is s block = omega (arith, s.mode_places, mode_within block)

version_place_is : {c : Census} → Sound c → (block : List ℕ) → version_place block < length c.version
version_place_is s block = omega (arith, s.version_places, version_within block)

sound_counted : {c : Census} → Sound c → (block : List ℕ) → Sound (counted c block)
sound_counted {c} s block =
    record {
      names = omega (arith, s.names, either_form (carries_name block));
      modes = sum_raised c.udma (mode_place block) (mode_place_is s block) ∙ ap (λ (n : ℕ). n + 1) s.modes;
      versions = sum_raised c.version (version_place block) (version_place_is s block) ∙ ap (λ (n : ℕ). n + 1) s.versions;
      mode_places = length-set c.udma (mode_place block) _ ∙ s.mode_places;
      version_places = length-set c.version (version_place block) _ ∙ s.version_places;
    }

-- A block that can be counted is, where there is room for it.
is_counted : {c : Census} → Sound c → (block : List ℕ) → c.blocks < 65535 → countable block ≡ true → feed c block ≡ answer (counted c block) 0
unfolding feed refusal_of uneven countable
is_counted {c} s block room p =
    let both = (and-eq-true_iff (eqb (length block) 512) (not (damaged block))).0 p in
    rw (both.0, ne_eqb c.blocks 65535 (λ e. absurd (omega (arith, room, e))), eq-eqb _ _ s.names, eq-eqb _ _ s.modes, eq-eqb _ _ s.versions, not-true (damaged block) both.1)

-- One more at its own place, and no more at any other.
at_place : (counts : List ℕ) (place k : ℕ) → place < length counts → get_or (raised counts place) k 0 ≡ get_or counts k 0 + flag (eqb place k)
at_place counts place k h = by (eqb place k) refl
  where
    by : (b : Bool) → eqb place k ≡ b → get_or (raised counts place) k 0 ≡ get_or counts k 0 + flag b
    by true e =
        let same = eqb-true place k e in
        ap (λ (n : ℕ). get_or (raised counts place) n 0) (sym same) ∙ get_or-set_same counts place _ 0 h ∙ ap (λ (n : ℕ). get_or counts n 0 + 1) same
    by false e = get_or-set_other counts place k _ 0 (λ same. eqb-false place k e (sym same)) ∙ omega arith

-- What blocks add to a census.
pub record Added (c after : Census) (blocks : List (List ℕ)) : Type 0 where
  pub sound : Sound after
  pub in_all : after.blocks ≡ c.blocks + length blocks
  pub named : after.named ≡ c.named + count_of carries_name blocks
  pub unnamed : after.unnamed ≡ c.unnamed + count_of (λ block. not (carries_name block)) blocks
  pub modes : (k : ℕ) → get_or after.udma k 0 ≡ get_or c.udma k 0 + count_of (λ block. eqb (mode_place block) k) blocks
  pub versions : (k : ℕ) → get_or after.version k 0 ≡ get_or c.version k 0 + count_of (λ block. eqb (version_place block) k) blocks

pub each_once : (c : Census) → Sound c → (blocks : List (List ℕ)) → Countable blocks → c.blocks + length blocks ≤ 65535 → Added c (feed_all c blocks) blocks
unfolding feed_all count_of
each_once c s [] p h =
    record {
      sound = s;
      in_all = omega arith;
      named = omega arith;
      unnamed = omega arith;
      modes = λ k. omega arith;
      versions = λ k. omega arith;
    }
each_once c s (block ∷ blocks) (more b p) h =
    rw (is_counted s block (omega (arith, h)) b)
    (let rest = each_once (counted c block) (sound_counted s block) blocks p (omega (arith, h)) in
    record {
      sound = rest.sound;
      in_all = omega (arith, rest.in_all);
      named = omega (arith, rest.named);
      unnamed = omega (arith, rest.unnamed);
      modes = λ k. omega (arith, rest.modes k, at_place c.udma (mode_place block) k (mode_place_is s block));
      versions = λ k. omega (arith, rest.versions k, at_place c.version (version_place block) k (version_place_is s block));
    })

-- One that cannot leaves every census as it is.
not_counted : (c : Census) (block : List ℕ) → countable block ≡ false → (feed c block).next ≡ c
unfolding feed refusal_of countable
not_counted c block f = by (eqb (length block) 512) (closed c) (damaged block) f
  where
    by : (size shut bad : Bool) → (size && not bad) ≡ false → (cond (eqb (cond (not size) 1 (cond shut 17 (cond bad 18 0))) 0) (answer (counted c block) 0) (answer c (cond (not size) 1 (cond shut 17 (cond bad 18 0))))).next ≡ c
    by false shut bad f = refl
    by true true bad f = refl
    by true false true f = refl
    by true false false f = absurd (true≢false f)

-- So the census of any blocks is that of those that can be counted.
one_left_out : (c : Census) (block : List ℕ) (blocks : List (List ℕ)) → ((d : Census) → feed_all d blocks ≡ feed_all d (countables blocks)) → (b : Bool) → countable block ≡ b → feed_all (feed c block).next blocks ≡ feed_all c (cond b (block ∷ countables blocks) (countables blocks))
unfolding feed_all
one_left_out c block blocks rest true e = rest (feed c block).next
one_left_out c block blocks rest false e = rw (not_counted c block e) (rest c)

pub left_out : (c : Census) (blocks : List (List ℕ)) → feed_all c blocks ≡ feed_all c (countables blocks)
unfolding feed_all countables
left_out c [] = refl
left_out c (block ∷ blocks) = one_left_out c block blocks (λ d. left_out d blocks) (countable block) refl

-- Properties that agree on every block have the same count.
same_count : (f g : List ℕ → Bool) → ((block : List ℕ) → f block ≡ g block) → (blocks : List (List ℕ)) → count_of f blocks ≡ count_of g blocks
unfolding count_of
same_count f g e [] = refl
same_count f g e (block ∷ blocks) = rw (e block) (ap (λ (n : ℕ). flag (g block) + n) (same_count f g e blocks))

-- A version's place is its own: versions begin with 1.
pub by_version : (version : ℕ) → 1 ≤ version → (blocks : List (List ℕ)) → count_of (λ block. eqb (version_place block) (version - 1)) blocks ≡ count_of (λ block. eqb (major_version block) version) blocks
by_version version h blocks = same_count _ _ (λ block. one (major_version block) (version_within block).0) blocks
  where
    one : (v : ℕ) → 1 ≤ v → eqb (v - 1) (version - 1) ≡ eqb v version
    one v g = by (eqb v version) refl
      where
        by : (b : Bool) → eqb v version ≡ b → eqb (v - 1) (version - 1) ≡ b
        by true e = eq-eqb (v - 1) (version - 1) (ap (λ (n : ℕ). n - 1) (eqb-true v version e))
        by false e = ne_eqb (v - 1) (version - 1) (λ same. eqb-false v version e (omega (arith, g, h, same)))
