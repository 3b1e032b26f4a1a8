-- What a drive's answer stands for is what the board gave, and by which registers it is given.
use mathlib.Core.Path.{◌≡◌, refl, sym, ap, ◌∙◌}
use mathlib.Core.Bool.{Bool, true, false, cond, ◌&&◌}
use mathlib.Core.List.{List, []}
use Prim.Native.Nat.{ℕ}
use lib.Dec.{eqb}
use lib.ListN.{length, get_or}
use borrow.Author.Tests.{eq-eqb}
use Rattle.room.specs.Room.{written}
use Rattle.refusals.specs.Refusal.{row_of, refused_sense, check_condition}
use Rattle.sense.specs.Sense.{descriptor, is_fixed, descriptor_sense, sense_data, registers as showing}
use Rattle.passthrough_order.specs.Order.{order_of}
use Rattle.passthrough_length.specs.Length.{length_of}
use Rattle.passthrough_checks.specs.Checks as Check
use Rattle.passthrough.specs.declared.Pending.{Pending}
use Rattle.passthrough.specs.Submit as Submit
use Rattle.passthrough.specs.Submit.{submit}
use Rattle.passthrough.specs.Complete as Complete
use Rattle.passthrough_end.specs.End.{failed}
use Rattle.passthrough.specs.Complete.{complete}
use Rattle.passthrough.specs.Record.{empty, holding}
use Rattle.health_asked.specs.declared.Asked.{Asked}
use Rattle.health_asked.specs.declared.Said.TheVariants.{Healthy, Failing, Unknown, Error, Refused}
use Rattle.health_asked.specs.Said.{values, values_of, verdict_of, heard_in, said_in}
use Rattle.health_asked.specs.Asked.{return_status, no_sense, answer, ended, asked, told, given_at_end, given}

-- Whatever the registers say, the command that gave them ended without an error.
verdict_values : (mid high : ℕ) → values_of (verdict_of mid high) ≡ values 0 check_condition 0x01 0x00
unfolding verdict_of
verdict_values mid high = by (eqb mid 0x4F && eqb high 0xC2) (eqb mid 0xF4 && eqb high 0x2C)
  where
    by : (healthy failing : Bool) → values_of (cond healthy Healthy (cond failing Failing Unknown)) ≡ values 0 check_condition 0x01 0x00
    by true failing = refl
    by false true = refl
    by false false = refl

-- The number of the command's refusal.
abbrev refusal : Pending → List ℕ → ℕ
refusal pending registers = Submit.refusal_of pending return_status registers [] 0 1 (length no_sense)

-- The command as the board takes it: refused for the registers' size, or while an order is pending, else taken.
module _ (pending : Pending) (registers : List ℕ) where
  number_1 : eqb (length registers) 11 ≡ false → refusal pending registers ≡ 1
  unfolding Check.refusal_of
  number_1 s = rw s

  number_10 : eqb (length registers) 11 ≡ true → eqb pending.state 0 ≡ false → refusal pending registers ≡ 10
  unfolding Check.refusal_of
  number_10 s f = rw (s, f)

  number_0 : eqb (length registers) 11 ≡ true → eqb pending.state 0 ≡ true → refusal pending registers ≡ 0
  unfolding Check.refusal_of length_of
  number_0 s f = rw (s, f)

  refused_as : (n : ℕ) → eqb n 0 ≡ false → told n (row_of n).status (refused_sense descriptor n no_sense) ≡ values_of (Refused n) → refusal pending registers ≡ n → values_of (asked pending registers).said ≡ given pending registers
  unfolding submit asked given
  refused_as n z t e =
      let s : submit pending return_status registers [] 0 1 descriptor no_sense ≡ Submit.refused pending descriptor n no_sense = rw (e, z) in
      rw (s, z) (sym t)

  taken_as : eqb (length registers) 11 ≡ true → eqb pending.state 0 ≡ true → submit pending return_status registers [] 0 1 descriptor no_sense ≡ Submit.taken empty (order_of return_status 0) no_sense
  unfolding submit length_of
  taken_as s f = rw (number_0 s f, f)

-- The order as it ends with all its registers, with an error or without: the record is empty, and the sense data tell them.
end_sense : Bool → List ℕ → List ℕ
end_sense error registers = written no_sense 0 (sense_data descriptor (cond error 0x0B 0x01) 0x00 (cond error 0x00 0x1D) (showing false registers))

answered : Bool → List ℕ → Asked
answered error registers = answer empty (cond error (Error (get_or registers 0 0)) (verdict_of (get_or registers 6 0) (get_or registers 8 0)))

module _ (registers : List ℕ) (sized : eqb (length registers) 11 ≡ true) where
  completed_as_is : (error : Bool) → failed registers ≡ error → complete (holding (order_of return_status 0)) registers descriptor no_sense ≡ Complete.outcome (Complete.answer empty 0 check_condition 0 0) (end_sense error registers)
  unfolding order_of Complete.refusal_of complete end_sense
  completed_as_is true e = rw (sized, e)
  completed_as_is false e = rw (sized, e)

  said_as : (error : Bool) → failed registers ≡ error → ended (holding (order_of return_status 0)) registers ≡ answered error registers
  unfolding sense_data is_fixed descriptor_sense end_sense answered heard_in ended
  said_as true e = rw (completed_as_is true e)
  said_as false e = rw (completed_as_is false e)

  told_as : (error : Bool) → failed registers ≡ error → given_at_end (complete (holding (order_of return_status 0)) registers descriptor no_sense) ≡ values 0 check_condition (cond error 0x0B 0x01) (cond error (get_or registers 0 0) 0x00)
  unfolding sense_data is_fixed descriptor_sense end_sense
  told_as true e = rw (completed_as_is true e)
  told_as false e = rw (completed_as_is false e)

-- A drive asked with nothing pending is said to be what its registers say, and nothing is pending again.
pub says_by_registers : (registers : List ℕ) → length registers ≡ 11 → asked empty registers ≡ answer empty (said_in registers)
unfolding answered asked
says_by_registers registers l =
    let sized : eqb (length registers) 11 ≡ true = eq-eqb (length registers) 11 l in
    rw (taken_as empty registers sized refl) (said_as registers sized (failed registers) refl)

module _ (pending : Pending) (registers : List ℕ) where
  -- Whatever is pending and whatever the registers are, an answer stands for what the board gave.
  pub stands_for : values_of (asked pending registers).said ≡ given pending registers
  unfolding row_of refused_sense answered asked given
  stands_for = by (eqb (length registers) 11) (eqb pending.state 0) (failed registers) refl refl refl
    where
      by : (sized free error : Bool) → eqb (length registers) 11 ≡ sized → eqb pending.state 0 ≡ free → failed registers ≡ error → values_of (asked pending registers).said ≡ given pending registers
      by false free error s f e = refused_as pending registers 1 refl refl (number_1 pending registers s)
      by true false error s f e = refused_as pending registers 10 refl refl (number_10 pending registers s f)
      by true true true s f e = rw (taken_as pending registers s f, said_as registers s true e, told_as registers s true e)
      by true true false s f e =
          rw (taken_as pending registers s f, said_as registers s false e, told_as registers s false e)
          (verdict_values (get_or registers 6 0) (get_or registers 8 0))

  -- So whoever answers by the rules answers what stands for it.
  pub as_promised : {r : Asked} → r ≡ asked pending registers → (r ≡ asked pending registers) × (values_of r.said ≡ given pending registers)
  as_promised e = (e, ap (λ (a : Asked). values_of a.said) e ∙ stands_for)
