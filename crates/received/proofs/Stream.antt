-- INQUIRY and the roll from intakes that streams have filled, however divided: they see the first 512 bytes of a stream, and of a
-- shorter one nothing.
use mathlib.Core.Path.{◌≡◌, refl, sym}
use mathlib.Core.Bool.{Bool, true, false, cond, not}
use mathlib.Core.List.{List, [], ◌∷◌}
use Prim.Native.Nat.{ℕ, ◌*◌, ◌≤◌, ◌<◌}
use native.Mathlib.Omega.{arith}
use lib.Dec.{eqb, leb}
use lib.ListN.{length, take, length-append}
use lib.Seq.{take_at, drop_at}
use borrow.Author.Tests.{eq-eqb, eqb-true, le-ltb, leb-true, leb-false}
use Rattle.intake.specs.Intake.{block_of}
use Rattle.intake.specs.Stream.{Held, begin, runs, stream}
use Rattle.intake.proofs.Stream.{whole_block, no_block_yet, right_end}
use Rattle.intake.proofs.Laws.{right}
use Rattle.port.specs.declared.Ports.{Ports}
use Rattle.inquiry_asked.specs.Request.{request}
use Rattle.inquiry.specs.Inquiry.{inquiry}
use Rattle.roll.specs.Roll as Roll
use Rattle.roll.specs.Roll.{roll}
use Rattle.gathering.specs.Gathering.{claims_too_much, gathered, wrong_run}
use Rattle.received.specs.Received.{inquiry_of, refusal_of, Outcome, roll_of}
use Rattle.received.specs.Stream.{Bay, Stores, end, haves_of, stores_of, block_in, blocks_of}

-- The INQUIRY entry from one stream: with all of its block, and with none before.
module _ (store : List ℕ) (l : length store ≡ 512) (rs : List (List ℕ)) (command signature texts reply : List ℕ) (ports : Ports) (address : List ℕ) (form : ℕ) (room sense : List ℕ) where
  abbrev after : Held
  after = runs (begin store) rs

  pub inquiry_from_a_stream : 512 ≤ length (stream rs) → inquiry_of after.intake.have after.store command signature texts reply ports address form room sense ≡ inquiry (request command (take 512 (stream rs)) signature texts reply ports address) form room sense
  unfolding inquiry_of
  inquiry_from_a_stream h = rw (right_end store l rs, whole_block store l rs h)

  pub inquiry_before_the_block : length (stream rs) < 512 → inquiry_of after.intake.have after.store command signature texts reply ports address form room sense ≡ inquiry (request command [] signature texts reply ports address) form room sense
  unfolding inquiry_of
  inquiry_before_the_block h = rw (right_end store l rs, no_block_yet store l rs h)

-- An intake's block after its runs is what the stream brings.
block_in_is : (bay : Bay) → length bay.store ≡ 512 → block_of (end bay).intake.have (end bay).store ≡ block_in (stream bay.runs)
block_in_is bay l = by (leb 512 (length (stream bay.runs))) refl
  where
    by : (b : Bool) → leb 512 (length (stream bay.runs)) ≡ b → block_of (end bay).intake.have (end bay).store ≡ cond b (take 512 (stream bay.runs)) []
    by true e = whole_block bay.store l bay.runs (leb-true _ _ e)
    by false e = no_block_yet bay.store l bay.runs (leb-false _ _ e)

-- Its store keeps its size, and it claims no more.
sized : (bay : Bay) → length bay.store ≡ 512 → (length (end bay).store ≡ 512) × ((end bay).intake.have ≤ 512)
sized bay l = right (end bay).intake.have (length (end bay).store) (right_end bay.store l bay.runs)

-- So what a run of intakes gathers is what the streams bring.
pub gathered_streams : (bays : List Bay) → Stores bays → gathered (haves_of bays) (stores_of bays) ≡ blocks_of bays
unfolding Stores haves_of stores_of gathered blocks_of
gathered_streams [] s = refl
gathered_streams (bay ∷ bays) s =
    let size = (sized bay s.0).0 in
    rw (take_at (end bay).store (stores_of bays) 512 size, drop_at (end bay).store (stores_of bays) 512 size, block_in_is bay s.0, gathered_streams bays s.1)

-- There are 512 bytes of store for each intake, and none claims more.
sizes : (bays : List Bay) → Stores bays → length (stores_of bays) ≡ 512 * length (haves_of bays)
unfolding Stores haves_of stores_of
sizes [] s = refl
sizes (bay ∷ bays) s = omega (arith, length-append (end bay).store (stores_of bays), (sized bay s.0).0, sizes bays s.1)

claims : (bays : List Bay) → Stores bays → claims_too_much (haves_of bays) ≡ false
unfolding Stores haves_of claims_too_much
claims [] s = refl
claims (bay ∷ bays) s = rw (le-ltb 512 (end bay).intake.have (sized bay s.0).1, claims bays s.1)

right_run : (bays : List Bay) → Stores bays → wrong_run (haves_of bays) (length (stores_of bays)) ≡ false
right_run bays s = rw (eq-eqb _ _ (sizes bays s), claims bays s)

-- A number that is asked whether it is one.
itself : (number : ℕ) → cond (not (eqb number 0)) number 0 ≡ number
itself number = by (eqb number 0) refl
  where
    by : (b : Bool) → eqb number 0 ≡ b → cond (not b) number 0 ≡ number
    by true e = sym (eqb-true number 0 e)
    by false e = refl

module _ (bays : List Bay) (s : Stores bays) (room rows : List ℕ) (fits : length (blocks_of bays) ≤ length room) where
  -- In room that holds the blocks, the run is refused as the roll refuses them, and else not.
  refused_as : refusal_of (haves_of bays) (stores_of bays) (length room) (length rows) ≡ Roll.refusal_of (blocks_of bays) (length rows)
  unfolding refusal_of
  refused_as = rw (right_run bays s, gathered_streams bays s, le-ltb _ _ fits) (itself (Roll.refusal_of (blocks_of bays) (length rows)))

  abbrev from_intakes : Outcome
  from_intakes = roll_of (haves_of bays) (stores_of bays) room rows

  abbrev from_blocks : Roll.Outcome
  from_blocks = roll (blocks_of bays) rows

  -- What the roll answers is the same, refusals too.
  pub roll_of_streams : (from_intakes.counted ≡ from_blocks.counted) × (from_intakes.rows ≡ from_blocks.room)
  unfolding roll_of roll
  roll_of_streams = by (eqb (Roll.refusal_of (blocks_of bays) (length rows)) 0) refl
    where
      by : (b : Bool) → eqb (Roll.refusal_of (blocks_of bays) (length rows)) 0 ≡ b → (from_intakes.counted ≡ from_blocks.counted) × (from_intakes.rows ≡ from_blocks.room)
      by true e = rw (refused_as, gathered_streams bays s, e) (refl, refl)
      by false e = rw (refused_as, e) (refl, refl)
