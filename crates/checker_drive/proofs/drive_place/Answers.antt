-- `drive_place`: by whether there is a name.
use mathlib.Core.Path.{◌∙◌}
use Rattle.page83_drive.proofs.Laws.{named_drive, unnamed_drive}
use Rattle.checker_drive.proofs.drive_place.Goals as goal

pub returns-then-named : goal.returns-then-named
returns-then-named c =
    rw (named_drive c.args.block.now (c.requires.1.1 ∙ c.if-named.true)) c.name_place.ensures

pub returns : goal.returns
returns c =
    rw (unnamed_drive c.args.block.now (c.requires.1.1 ∙ c.if-named.false)) c.texts_place.ensures
