-- `command_fault`: the checks of a whole command, in order.
use mathlib.Core.Path.{◌∙◌, sym}
use Rattle.inquiry_checks.specs.Helpers.{command_refusal}
use Rattle.inquiry_checks.proofs.command_fault.Goals as goal

pub returns-then-wrong_field : goal.returns-then-wrong_field
unfolding command_refusal
returns-then-wrong_field c = rw (← c.packet_drive-packet.ensures, sym c.wrong_field.ensures ∙ c.if-wrong_field.true)

pub returns-then-wrong_page : goal.returns-then-wrong_page
unfolding command_refusal
returns-then-wrong_page c = rw (← c.packet_drive-packet.ensures, sym c.wrong_field.ensures ∙ c.if-wrong_field.false, sym c.wrong_page.ensures ∙ c.if-wrong_page.true)

pub returns-then-no_block : goal.returns-then-no_block
unfolding command_refusal
returns-then-no_block c = rw (← c.packet_drive-packet.ensures, sym c.wrong_field.ensures ∙ c.if-wrong_field.false, sym c.wrong_page.ensures ∙ c.if-wrong_page.false, sym c.no_block.ensures ∙ c.if-no_block.true)

pub returns-then-no_port : goal.returns-then-no_port
unfolding command_refusal
returns-then-no_port c = rw (← c.packet_drive-packet.ensures, sym c.wrong_field.ensures ∙ c.if-wrong_field.false, sym c.wrong_page.ensures ∙ c.if-wrong_page.false, sym c.no_block.ensures ∙ c.if-no_block.false, sym c.no_port.ensures ∙ c.if-no_port.true)

pub returns-then-no_list : goal.returns-then-no_list
unfolding command_refusal
returns-then-no_list c = rw (← c.packet_drive-packet.ensures, sym c.wrong_field.ensures ∙ c.if-wrong_field.false, sym c.wrong_page.ensures ∙ c.if-wrong_page.false, sym c.no_block.ensures ∙ c.if-no_block.false, sym c.no_port.ensures ∙ c.if-no_port.false, sym c.no_list.ensures ∙ c.if-no_list.true)

pub returns : goal.returns
unfolding command_refusal
returns c = rw (← c.packet_drive-packet.ensures, sym c.wrong_field.ensures ∙ c.if-wrong_field.false, sym c.wrong_page.ensures ∙ c.if-wrong_page.false, sym c.no_block.ensures ∙ c.if-no_block.false, sym c.no_port.ensures ∙ c.if-no_port.false, sym c.no_list.ensures ∙ c.if-no_list.false)
