-- The intake's stream: the theorems of intake and received, as they are promised.
use mathlib.Core.Path.{◌≡◌, refl}
use mathlib.Core.Bool.{Bool, true, false, cond}
use mathlib.Core.List.{List, []}
use Prim.Native.Nat.{ℕ}
use lib.Dec.{leb}
use lib.ListN.{length, take}
use borrow.Author.Tests.{leb-true, leb-false}
use Rattle.inquiry_asked.specs.Request.{request}
use Rattle.inquiry.specs.Inquiry.{inquiry}
use Rattle.intake.specs.Stream.{begin, runs, stream}
use Rattle.intake.proofs.Stream as Intake
use Rattle.received.specs.Received.{inquiry_of}
use Rattle.received.specs.Stream.{block_in}
use Rattle.received.proofs.Stream as Received
use Rattle.demands.specs.Promises.{StreamOfRuns, InquiryFromAStream, RollOfStreams}

pub stream_of_runs : StreamOfRuns
stream_of_runs store l =
    record {
      however_divided = Intake.however_divided store l;
      single_run = Intake.single_run store l;
      never_refused = Intake.never_refused store l;
      complete_from_byte_512 = Intake.complete_from_byte_512 store l;
      used_of_a_run = Intake.used_of_a_run store l;
    }

pub inquiry_from_a_stream : InquiryFromAStream
inquiry_from_a_stream store l rs command signature texts reply ports address form room sense = by (leb 512 (length (stream rs))) refl
  where
    by : (b : Bool) → leb 512 (length (stream rs)) ≡ b → inquiry_of (runs (begin store) rs).intake.have (runs (begin store) rs).store command signature texts reply ports address form room sense ≡ inquiry (request command (cond b (take 512 (stream rs)) []) signature texts reply ports address) form room sense
    by true e = Received.inquiry_from_a_stream store l rs command signature texts reply ports address form room sense (leb-true 512 (length (stream rs)) e)
    by false e = Received.inquiry_before_the_block store l rs command signature texts reply ports address form room sense (leb-false 512 (length (stream rs)) e)

pub roll_of_streams : RollOfStreams
roll_of_streams bays s room rows fits = Received.roll_of_streams bays s room rows fits
