use Rattle.std.specs.Fmt.{DisplaysOnOk}
use Rattle.output.proofs.Gathered.{written}
use Rattle.output.proofs.PieceDisplay.fmt.Goals as goal

pub returns-in-Ok-clause-writes : goal.returns-in-Ok-clause-writes
returns-in-Ok-clause-writes g c =
    written c.new-text.result c.write.new.self (g.T.Display.output c.args.self.now.0) c.new-text.ensures c.in-Ok.ensures.writes
    (λ text. DisplaysOnOk g.W.Write.write_str_gives c.args.f.now c.write-in-Ok.result text c.write-in-Ok.new.self) tt c.write-in-Ok.ensures.writes
