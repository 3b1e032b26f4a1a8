-- Laws of the checks: one by one, in two runs, and what holds of a command that they let pass.
use mathlib.Core.Path.{◌≡◌, refl, sym, ◌∙◌}
use mathlib.Core.Bool.{Bool, true, false, cond, not, ◌&&◌, ◌||◌, true≢false}
use mathlib.Core.List.{List}
use Prim.Native.Nat.{ℕ, ◌^◌, ◌≤◌, ◌<◌}
use native.Mathlib.Nat.{le_trans, lt_of_le_of_lt}
use native.Mathlib.Omega.{arith}
use lib.Dec.{eqb, ltb}
use lib.ListN.{length, get_or}
use borrow.Author.Tests.{eqb-true, ltb-false, not-false, eq-eqb, ne_eqb}
use Rattle.refusals.specs.Helpers.{Roomy}
use Rattle.refusals.proofs.Table.{roomy_unless}
use Rattle.rules.proofs.Below.{all_below, at}
use Rattle.rules.specs.First.{Check, first}
use Rattle.rules.proofs.First.{Silent, silent, neither, first_answers, second_answers}
use Rattle.passthrough_fields.specs.Fields.{long, longest, size, protocol, t_length, byte_block, features_number, count_number}
use Rattle.passthrough_fields.specs.Helpers.{Whole}
use Rattle.passthrough_length.specs.Helpers.{Lent}
use Rattle.passthrough_length.specs.Length.{block_size, lacking, bytes_in, length_of}
use Rattle.passthrough_order.specs.Order.{without_data, with_data, reset}
use Rattle.passthrough_checks.specs.Checks.{wrong_size, wrong_protocol, wrong_length, refusal_of}
use Rattle.passthrough_checks.specs.Helpers.{form_checks, length_checks, command_checks, early_refusal}

-- Checks in order: one that applies answers, and one that does not leaves the answer to those after it.
pub applies : {b : Bool} (n rest : ℕ) → b ≡ true → n ≡ cond b n rest
applies n rest t = rw t

pub passes : {b : Bool} (r n rest : ℕ) → b ≡ false → r ≡ rest → r ≡ cond b n rest
passes r n rest f h = rw f h

-- What a test came to, in the code, is what the thing tested comes to.
pub found : {x b v : Bool} → x ≡ b → x ≡ v → b ≡ v
found e h = sym e ∙ h

-- For `search`: each answer of a function over a list of checks, from the tests that led there.
pub ruleset checks = (applies, passes, found, eq-eqb, ne_eqb)

-- A command that is as long as its form says is whole.
form_least : (longestForm longForm : Bool) → 12 ≤ cond longestForm 32 (cond longForm 16 12)
form_least true b = omega arith
form_least false true = omega arith
form_least false false = omega arith

not_both : (n : ℕ) → eqb n 0x85 ≡ true → eqb n 0x7F ≡ false
not_both n e = rw (eqb-true n 0x85 e)

pub whole : (command : List ℕ) → ltb (length command) (size command) ≡ false → Whole command
whole command h =
    let l = ltb-false _ _ h in
    record {
      short = le_trans (form_least (longest command) (long command)) l;
      sixteen = λ t. rw (not_both (get_or command 0 0) t, t) at l;
      thirty_two = λ t. rw t at l;
    }

-- Where the lent pieces have their sizes, there are 11 registers, and 22 bytes for sense data.
pub sized : (registers sense : ℕ) → wrong_size registers sense ≡ false → (registers ≡ 11) × (22 ≤ sense)
sized registers sense e =
    let both = neither (not (eqb registers 11)) (ltb sense 22) e in
    (eqb-true _ _ (not-false _ both.0), ltb-false _ _ both.1)

-- A command that the checks of its form pass is whole.
pub whole_form : (later : Bool) (command : List ℕ) → first (form_checks later command) ≡ 0 → Whole command
whole_form later command e = whole command (silent (form_checks later command) refl e).1.0

-- A command that no check but those of the length refuses came with all its registers and a block or none, and is whole.
module _ (pending reset_pending later : Bool) (command : List ℕ) (registers : ℕ) (block : List ℕ) (sense : ℕ) (e : early_refusal pending reset_pending later command registers block sense ≡ 0) where
  quiet : Silent (command_checks pending reset_pending later command registers block sense)
  unfolding early_refusal
  quiet = silent (command_checks pending reset_pending later command registers block sense) refl e

  pub taken_sized : (registers ≡ 11) × (22 ≤ sense)
  taken_sized = sized registers sense quiet.0

  pub taken_lent : Lent later block
  taken_lent = quiet.1.0

  pub taken_whole : Whole command
  taken_whole = whole command quiet.1.1.1.1.1.0

-- A protocol that is served, and makes an order that is no reset, has data or has none.
served : (p : ℕ) → p < 16 → wrong_protocol p ≡ false → eqb p 15 ≡ false → reset p ≡ false → (with_data p || without_data p) ≡ true
unfolding all_below
served p h w f r =
    rw (w, f, r) at (at (λ k. wrong_protocol k || eqb k 15 || reset k || (with_data k || without_data k)) 16 refl p h)

-- So T_LENGTH, which fits the protocol, says by itself whether there are data.
by_length : (some none zero : Bool) → (some || none) ≡ true → (none && not zero || some && zero) ≡ false → some ≡ not zero
by_length true none false s w = refl
by_length true true true s w = absurd (true≢false w)
by_length true false true s w = absurd (true≢false w)
by_length false true true s w = refl
by_length false true false s w = absurd (true≢false w)
by_length false false zero s w = absurd (true≢false (sym s))

pub data_by_length : (pending reset_pending later : Bool) (command : List ℕ) (registers : ℕ) (block : List ℕ) (sense : ℕ) → early_refusal pending reset_pending later command registers block sense ≡ 0 → eqb (protocol command) 15 ≡ false → reset (protocol command) ≡ false → with_data (protocol command) ≡ not (eqb (t_length command) 0)
unfolding early_refusal
data_by_length pending reset_pending later command registers block sense e f r =
    let q = (silent (command_checks pending reset_pending later command registers block sense) refl e).1.1.1.1.1.1.1.1 in
    by_length _ _ (eqb (t_length command) 0) (served (protocol command) (omega arith) q.0 f r) q.1.1.0

-- Without data T_LENGTH is 0, and so is the length.
none_counted : (p size : ℕ) (command : List ℕ) (declared : ℕ) → with_data p ≡ false → without_data p ≡ true → wrong_length p (t_length command) ≡ false → length_of size command declared ≡ 0
unfolding length_of
none_counted p size command declared d n w = by (eqb (t_length command) 0) (rw (d, n) at w)
  where
    by : (b : Bool) → (not b || false) ≡ false → cond b 0 (cond (eqb (t_length command) 1) (bytes_in (byte_block command) size (features_number command)) (cond (eqb (t_length command) 2) (bytes_in (byte_block command) size (count_number command)) declared)) ≡ 0
    by true e = refl
    by false e = absurd (true≢false e)

-- An order that is taken has a length that 32 bits hold: what is declared is not less.
module _ (pending reset_pending later : Bool) (command : List ℕ) (registers : ℕ) (block : List ℕ) (declared sense : ℕ) where
  abbrev length_in : ℕ
  length_in = length_of (block_size later block command) command declared

  pub length_fits : early_refusal pending reset_pending later command registers block sense ≡ 0 → first (length_checks (protocol command) (lacking later block command) length_in declared) ≡ 0 → eqb (protocol command) 15 ≡ false → declared < 2 ^ 32 → reset (protocol command) ≡ false → length_in < 2 ^ 32
  unfolding early_refusal
  length_fits e l f d r =
      let q = (silent (command_checks pending reset_pending later command registers block sense) refl e).1.1.1.1.1.1.1.1 in
      by (with_data (protocol command)) refl (silent (length_checks (protocol command) (lacking later block command) length_in declared) refl l).1.1.0
      (served (protocol command) (omega arith) q.0 f r) q.1.1.0
    where
      by : (b : Bool) → with_data (protocol command) ≡ b → (b && ltb declared length_in) ≡ false → (b || without_data (protocol command)) ≡ true → wrong_length (protocol command) (t_length command) ≡ false → length_in < 2 ^ 32
      by true w t n z = lt_of_le_of_lt (ltb-false _ _ t) d
      by false w t n z = rw (none_counted (protocol command) (block_size later block command) command declared w n z) (omega arith)

-- A refusal of a command that writes has room for it.
pub roomy : (pending reset_pending later : Bool) (command : List ℕ) (registers : ℕ) (block : List ℕ) (sense : ℕ) {number : ℕ} → number ≡ early_refusal pending reset_pending later command registers block sense → Roomy number sense
unfolding early_refusal
roomy pending reset_pending later command registers block sense e = roomy_unless (wrong_size registers sense) _ (λ w. (sized registers sense w).1) e

-- The refusal, by the checks that do not look at the length and those that do.
module _ (pending reset_pending later : Bool) (command : List ℕ) (registers : ℕ) (block : List ℕ) (declared sense : ℕ) where
  abbrev early : List Check
  early = command_checks pending reset_pending later command registers block sense

  abbrev late : List Check
  late = length_checks (protocol command) (lacking later block command) (length_of (block_size later block command) command declared) declared

  pub refused_early : (early_refusal pending reset_pending later command registers block sense ≡ 0 → ⊥) → refusal_of pending reset_pending later command registers block declared sense ≡ early_refusal pending reset_pending later command registers block sense
  unfolding refusal_of early_refusal
  refused_early = first_answers early late refl

  pub refused_late : early_refusal pending reset_pending later command registers block sense ≡ 0 → refusal_of pending reset_pending later command registers block declared sense ≡ first late
  unfolding refusal_of early_refusal
  refused_late = second_answers early late refl

-- Without data no length is refused: so not of protocol 15, and not of a reset.
no_data : (p : ℕ) (lack : Bool) (bytes declared : ℕ) → with_data p ≡ false → first (length_checks p lack bytes declared) ≡ 0
no_data p lack bytes declared h = rw h

pub none_for_15 : {p : ℕ} (lack : Bool) (bytes declared : ℕ) → p ≡ 15 → first (length_checks p lack bytes declared) ≡ 0
none_for_15 lack bytes declared e = rw e (no_data 15 lack bytes declared refl)

reset_without_data : (p : ℕ) → reset p ≡ true → with_data p ≡ false
reset_without_data p r = by (eqb p 0) refl r
  where
    by : (b : Bool) → eqb p 0 ≡ b → (b || eqb p 1) ≡ true → with_data p ≡ false
    by true z h = rw (eqb-true p 0 z)
    by false z h = rw (eqb-true p 1 h)

pub none_for_reset : (p : ℕ) (lack : Bool) (bytes declared : ℕ) → reset p ≡ true → first (length_checks p lack bytes declared) ≡ 0
none_for_reset p lack bytes declared r = no_data p lack bytes declared (reset_without_data p r)
