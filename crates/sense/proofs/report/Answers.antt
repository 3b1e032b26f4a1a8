-- `report`: the form that is asked for, over all of the registers.
use mathlib.Core.Path.{◌≡◌, ◌∙◌, sym}
use native.Mathlib.Omega.{arith}
use lib.ListN.{take}
use lib.Seq.{take_all}
use Rattle.sense.specs.Sense.{sense_data}
use Rattle.sense.proofs.report.Goals as goal

pub returns-then-is_fixed : goal.returns-then-is_fixed
unfolding sense_data
returns-then-is_fixed c =
    let all : take 11 c.args.registers.now ≡ c.args.registers.now = take_all 11 c.args.registers.now (omega arith) in
    rw (sym c.is_fixed.ensures ∙ c.if-is_fixed.true) (rw all at c.report.ensures)

pub returns : goal.returns
unfolding sense_data
returns c =
    let all : take 11 c.args.registers.now ≡ c.args.registers.now = take_all 11 c.args.registers.now (omega arith) in
    rw (sym c.is_fixed.ensures ∙ c.if-is_fixed.false) (rw all at c.report_descriptor.ensures)
