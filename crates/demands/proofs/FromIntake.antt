-- INQUIRY from an intake: what is promised of INQUIRY carries over.
use mathlib.Core.Bool.{Bool, true, false, cond}
use mathlib.Core.List.{List}
use Prim.Native.Nat.{ℕ}
use lib.ListN.{length}
use Rattle.inquiry.specs.Inquiry.{refused, inquiry}
use Rattle.intake.specs.Intake.{wrong_intake, block_of}
use Rattle.received.specs.Received.{inquiry_of}
use Rattle.demands.specs.Answerable.{with_block}
use Rattle.demands.specs.Promises.{InquiryEntry, OfInquiry}

-- INQUIRY refuses a wrong intake with 1, and answers of any other as from its block.
abbrev refusing : InquiryEntry
refusing q form room sense = refused form 1 room sense

abbrev from : List ℕ → InquiryEntry
from block q = inquiry (with_block q block)

-- So what holds of INQUIRY, of that refusal, and of INQUIRY with any block for the request's own, holds from an intake too.
pub of_both : (P : InquiryEntry → Type 0) → P inquiry → P refusing → ((block : List ℕ) → P (from block)) → OfInquiry P
unfolding inquiry_of
of_both P own refusal other =
    record { of_inquiry = own; of_inquiry_from_intake = λ have store. by (wrong_intake have (length store)) (block_of have store) }
  where
    by : (wrong : Bool) (block : List ℕ) → P (λ q form room sense. cond wrong (refusing q form room sense) (from block q form room sense))
    by true block = refusal
    by false block = other block
