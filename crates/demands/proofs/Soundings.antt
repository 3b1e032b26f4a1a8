-- Soundings C1 to C13 hold of the rules: one statement over one list of cases.
use mathlib.Core.Path.{refl}
use Rattle.texts.specs.Text.{turned}
use Rattle.checksum.specs.Checksum.{damaged, damaged_by}
use Rattle.identify.specs.Bytes.{equal}
use Rattle.identify.specs.Names.{some_bit, carries_name}
use Rattle.identify.specs.Sector.{sector_size}
use Rattle.sense.specs.Sense.{is_fixed, descriptor_sense, sense_data}
use Rattle.refusals.specs.Refusal.{row_of, refused_sense}
use Rattle.port.specs.Ports.{relative_part, sas_part, wrong_address, wrong_port}
use Rattle.page83_drive.specs.Descriptor.{drive_descriptor}
use Rattle.page83.specs.Page83.{page83}
use Rattle.inquiry_asked.specs.Asked.{page}
use Rattle.inquiry_checks.specs.Checks.{refusal_of as inquiryRefusal}
use Rattle.inquiry.specs.Inquiry.{inquiry}
use Rattle.passthrough_length.specs.Length.{length_of}
use Rattle.passthrough_order.specs.Order.{order_of}
use Rattle.passthrough_checks.specs.Checks.{refusal_of as submitRefusal}
use Rattle.passthrough.specs.Submit.{submit}
use Rattle.passthrough.specs.Complete.{complete, refusal_of as completeRefusal}
use Rattle.demands.specs.Soundings.{SoundingsHold, LaterSoundingsHold}

pub soundings_hold : SoundingsHold
unfolding turned damaged damaged_by some_bit carries_name equal is_fixed descriptor_sense sense_data row_of refused_sense relative_part sas_part wrong_address wrong_port drive_descriptor page83 page inquiry inquiryRefusal length_of order_of submit submitRefusal complete completeRefusal
soundings_hold = refl

-- And those of the later edition.
pub later_soundings_hold : LaterSoundingsHold
unfolding damaged damaged_by equal sector_size is_fixed descriptor_sense sense_data row_of refused_sense length_of order_of submit submitRefusal
later_soundings_hold = refl
