-- The census: the theorems of tally, as they are promised.
use mathlib.Core.Path.{◌≡◌, refl, sym, ap, ◌∙◌}
use Prim.Native.Nat.{ℕ, ◌+◌, ◌-◌}
use native.Mathlib.Omega.{arith}
use lib.ListN.{get_or, get_or-replicate}
use Rattle.tally.specs.Census.{empty}
use Rattle.tally.specs.Fleet.{count_of}
use Rattle.tally.proofs.Fleet.{sound_empty, each_once, by_version, left_out}
use Rattle.demands.specs.Promises.{CensusOfBlocks, OthersLeftOut}

pub census_of_blocks : CensusOfBlocks
census_of_blocks blocks all few =
    let a = each_once empty sound_empty blocks all (omega (arith, few)) in
    let fed = a.in_all in
    record {
      in_all = omega (arith, fed);
      named = omega (arith, a.named);
      unnamed = omega (arith, a.unnamed);
      modes = λ mode h. omega (arith, a.modes mode, get_or-replicate {A = ℕ} 8 mode 0 0 (omega (arith, h)));
      versions = λ version h g. omega (arith, a.versions (version - 1), get_or-replicate {A = ℕ} 15 (version - 1) 0 0 (omega (arith, h, g)), by_version version h blocks);
      names_sum = a.sound.names ∙ omega (arith, fed);
      modes_sum = a.sound.modes ∙ omega (arith, fed);
      versions_sum = a.sound.versions ∙ omega (arith, fed);
    }

pub others_left_out : OthersLeftOut
others_left_out c blocks = left_out c blocks
