-- The first edition is what it was: where no later one is named, the 32-byte form is another opcode, no block is looked at, and the
-- two other forms are read as before.
use mathlib.Core.Path.{◌≡◌, refl, sym, ◌∙◌}
use mathlib.Core.Bool.{Bool, true, false, cond, not, ◌&&◌, ◌||◌, and-false, or-true}
use mathlib.Core.List.{List}
use Prim.Native.Nat.{ℕ}
use lib.Dec.{eqb}
use lib.ListN.{length, get_or}
use borrow.Author.Tests.{eqb-true}
use Rattle.passthrough_fields.specs.Fields.{long, longest}
use Rattle.passthrough_length.specs.Length.{length_of}
use Rattle.passthrough_order.specs.Order.{with_data, order_of}
use Rattle.passthrough_checks.specs.Checks as Check
use Rattle.passthrough_checks.specs.Checks.{wrong_size}
use Rattle.passthrough.specs.declared.Pending.{Pending}
use Rattle.passthrough.specs.Submit.{is_later, submit}
use Rattle.demands.specs.FirstEdition as First
use Rattle.demands.specs.Promises.{FirstEditionStays}

module _ (p : Pending) (command registers block : List ℕ) (declared edition form : ℕ) (sense : List ℕ) (l : is_later edition ≡ false) where
  abbrev Same : Type 0
  Same = submit p command registers block declared edition form sense ≡ First.submit p command registers declared form sense

  -- The two forms, field by field.
  in_form : (b d : Bool) → longest command ≡ false → long command ≡ b → eqb (get_or command 0 0) 0xA1 ≡ d → Same
  unfolding submit Check.refusal_of length_of order_of First.submit First.length_of First.order_of
  in_form true d s t u = rw (l, s, t, or-true (eqb (get_or command 0 0) 0xA1), and-false (with_data (First.protocol command)))
  in_form false true s t u = rw (l, s, t, u, and-false (with_data (First.protocol command)))
  in_form false false s t u = rw (l, s, t, u)

  -- Opcode 7Fh is refused by 3, or by a check before it, whatever its fields are.
  other_opcode : (w n : Bool) → wrong_size (length registers) (length sense) ≡ w → eqb (length command) 0 ≡ n → get_or command 0 0 ≡ 0x7F → Same
  unfolding submit Check.refusal_of First.submit
  other_opcode true n u z o = rw (l, u)
  other_opcode false true u z o = rw (l, u, z)
  other_opcode false false u z o = rw (l, u, z, o)

  stays : (b : Bool) → longest command ≡ b → Same
  stays true s = other_opcode (wrong_size (length registers) (length sense)) (eqb (length command) 0) refl refl (eqb-true _ _ s)
  stays false s = in_form (long command) (eqb (get_or command 0 0) 0xA1) s refl refl

pub first_edition_stays : FirstEditionStays
first_edition_stays p command registers block declared edition form sense l = stays p command registers block declared edition form sense l (longest command) refl
