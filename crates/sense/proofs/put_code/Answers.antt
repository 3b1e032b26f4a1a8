-- `put_code`: the form that is asked for.
use mathlib.Core.Path.{◌∙◌, sym}
use Rattle.sense.specs.Sense.{sense_data}
use Rattle.sense.proofs.put_code.Goals as goal

pub returns-then-is_fixed : goal.returns-then-is_fixed
unfolding sense_data
returns-then-is_fixed c = rw (sym c.is_fixed.ensures ∙ c.if-is_fixed.true) c.code.ensures

pub returns : goal.returns
unfolding sense_data
returns c = rw (sym c.is_fixed.ensures ∙ c.if-is_fixed.false) c.put_descriptor_code.ensures
