-- `fmt`: the bracket, each byte as it is shown, and the bracket.
use Rattle.std.proofs.Common.{◌≡◌, ◌<◌, ◌+◌, ◌++◌, ℕ, List, [], arith, refl, true, length, take, get_or}
use Rattle.std.specs.List.{flat_map}
use Rattle.std.proofs.lemmas.Grind.{put_two}
use Rattle.std.proofs.lemmas.List.{take_all, take_more, flat_map_more}
use Rattle.texts.specs.Text.{turned, spaced}
use Rattle.texts.proofs.Text.{length_spaced, length_turned}
use Rattle.output.specs.Shown.{shown}
use Rattle.labels.proofs.FieldDisplay.fmt.Goals as goal

-- One byte more.
shown_more : (text : List ℕ) (i byte : ℕ) → i < length text → byte ≡ get_or text i 0 → flat_map shown (take i text) ++ shown byte ≡ flat_map shown (take (i + 1) text)
shown_more text i byte h e = rw (take_more text i 0 h, ← e) (flat_map_more shown [] (take i text) byte)

pub loop-i-preserved : goal.loop-i-preserved
loop-i-preserved g c p =
    let text = c.args.self.now.0.now in
    let so_far = c.loop-i.invariant p in
    let here = c.in_ok-write-2.ensures.writes so_far.plain (refl {a = true}) in
    let within : c.loop-i.i < length (spaced (turned text)) = omega (arith, length_spaced (turned text), length_turned text) in
    put_two _ _ _ _ _ _ _ so_far here (shown_more (spaced (turned text)) c.loop-i.i c.turned_at.result within c.turned_at.ensures)

pub returns-clause-writes : goal.returns-clause-writes
returns-clause-writes g c p o =
    let text = c.args.self.now.0.now in
    let before = c.in_ok-write.ensures.writes p (refl {a = true}) in
    let bytes = rw (take_all c.loop-i.i (spaced (turned text)) (omega (arith, length_spaced (turned text), length_turned text))) at (c.loop-i.invariant before.plain) in
    let behind = c.write-2.ensures.writes bytes.plain o in
    put_two _ _ _ _ _ _ _ before (put_two _ _ _ _ _ _ _ bytes behind refl) refl
