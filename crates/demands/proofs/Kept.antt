-- Every promise of specs/Promises, proved.
use mathlib.Core.Path.{◌≡◌, sym, ◌∙◌}
use Rattle.drive.proofs.Words.{same_drive_by_words}
use Rattle.demands.specs.Promises.{Settled, OneOutcome, Promises}
use Rattle.demands.proofs.Refusals.{refusals_change_nothing}
use Rattle.demands.proofs.Soundings.{soundings_hold, later_soundings_hold}
use Rattle.demands.proofs.Inquiry.{within_allocation, always_within_allocation, read_alike, cut_again, always_cut_again, pages_of_inquiry}
use Rattle.demands.proofs.Answerable.{inquiry_accepts}
use Rattle.demands.proofs.Accepted.{submit_accepts}
use Rattle.demands.proofs.Length.{length_of_data}
use Rattle.demands.proofs.Places.{only_what_is_read_counts}
use Rattle.demands.proofs.Order.{direction_from_the_fields, own_flags, own_flags_when_taken, completed_with_its_own_fields}
use Rattle.demands.proofs.AtaCommand.{only_the_command_differs, outcomes_differ_in_the_command}
use Rattle.demands.proofs.Waiting.{taken_while_pending, answered_while_pending, protocol_15_keeps_the_record, protocol_15_only_reports}
use Rattle.demands.proofs.FirstEdition.{first_edition_stays}
use Rattle.demands.proofs.History.{every_order_accounted}
use Rattle.demands.proofs.Forms.{forms_agree_everywhere, form_changes_only_sense, usual_form}
use Rattle.demands.proofs.Page83.{reads_back, accepted_is_written, writer_accepts, pages_of_the_writer}
use Rattle.demands.proofs.Roll.{roll_accepts, roll_of_drives}
use Rattle.demands.proofs.Damaged.{damaged_is_refused, carried_sum}
use Rattle.demands.proofs.Stream.{stream_of_runs, inquiry_from_a_stream, roll_of_streams}
use Rattle.demands.proofs.Census.{census_of_blocks, others_left_out}
use Rattle.demands.proofs.Built.{built_reads_back, built_exactly_when, same_order_same_fields}
use Rattle.demands.proofs.Bridge.{check_of_captures, own_replies_accepted}

settled : {O : Type 0} (outcome : O) → Settled outcome
settled outcome a b p q = p ∙ sym q

pub one_outcome : OneOutcome
one_outcome =
    record {
      of_inquiry = λ q form room sense. settled _;
      of_served = λ reply room shown count. settled _;
      of_submit = λ p command registers block declared edition form sense. settled _;
      of_complete = λ p registers form sense. settled _;
      of_write = λ block ports address room. settled _;
      of_read = λ page. settled _;
      of_roll = λ bytes room. settled _;
      of_take = λ held store run. settled _;
      of_block = λ have store. settled _;
      of_gather = λ haves stores room. settled _;
      of_inquiry_from_intake = λ have store command signature texts reply ports address form room sense. settled _;
      of_roll_of_intakes = λ haves stores room rows. settled _;
      of_feed = λ c block. settled _;
      of_build = λ o. settled _;
      of_check = λ capture. settled _;
    }

pub kept : Promises
kept =
    record {
      one_outcome = one_outcome;
      refusals_change_nothing = refusals_change_nothing;
      damaged_is_refused = damaged_is_refused;
      within_allocation = within_allocation;
      always_within_allocation = always_within_allocation;
      read_alike = read_alike;
      cut_again = cut_again;
      always_cut_again = always_cut_again;
      inquiry_accepts = inquiry_accepts;
      soundings_hold = soundings_hold;
      later_soundings_hold = later_soundings_hold;
      submit_accepts = submit_accepts;
      length_of_data = length_of_data;
      only_what_is_read_counts = only_what_is_read_counts;
      direction_from_the_fields = direction_from_the_fields;
      only_the_command_differs = only_the_command_differs;
      outcomes_differ_in_the_command = outcomes_differ_in_the_command;
      first_edition_stays = first_edition_stays;
      own_flags = own_flags;
      own_flags_when_taken = own_flags_when_taken;
      completed_with_its_own_fields = completed_with_its_own_fields;
      taken_while_pending = taken_while_pending;
      answered_while_pending = answered_while_pending;
      protocol_15_keeps_the_record = protocol_15_keeps_the_record;
      protocol_15_only_reports = protocol_15_only_reports;
      every_order_accounted = every_order_accounted;
      forms_agree = forms_agree_everywhere;
      form_changes_only_sense = form_changes_only_sense;
      usual_form = usual_form;
      reads_back = reads_back;
      accepted_is_written = accepted_is_written;
      same_drive_by_words = λ a b ba bb la lb. same_drive_by_words ba bb la lb;
      roll_accepts = roll_accepts;
      roll_of_drives = roll_of_drives;
      writer_accepts = writer_accepts;
      pages_of_the_writer = pages_of_the_writer;
      pages_of_inquiry = pages_of_inquiry;
      stream_of_runs = stream_of_runs;
      inquiry_from_a_stream = inquiry_from_a_stream;
      roll_of_streams = roll_of_streams;
      carried_sum = carried_sum;
      census_of_blocks = census_of_blocks;
      others_left_out = others_left_out;
      built_reads_back = built_reads_back;
      built_exactly_when = built_exactly_when;
      same_order_same_fields = same_order_same_fields;
      check_of_captures = check_of_captures;
      own_replies_accepted = own_replies_accepted;
    }
