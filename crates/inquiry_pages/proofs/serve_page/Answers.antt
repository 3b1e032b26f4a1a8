-- `serve_page`: the page that the tests lead to.
use mathlib.Core.Path.{◌∙◌, sym}
use borrow.Author.Tests.{eq-eqb, ne_eqb}
use Rattle.inquiry_asked.specs.Asked.{page}
use Rattle.inquiry_pages.proofs.serve_page.Goals as goal

pub returns-then-standard_asked : goal.returns-then-standard_asked
unfolding page
returns-then-standard_asked c = rw (← c.packet_drive-packet.ensures, sym c.standard_asked.ensures ∙ c.if-standard_asked.true) c.serve_standard.ensures

pub returns-then-packet : goal.returns-then-packet
unfolding page
returns-then-packet c = rw (← c.packet_drive-packet.ensures, sym c.standard_asked.ensures ∙ c.if-standard_asked.false, eq-eqb _ _ c.if-command-eq0.true, c.if-packet.true) c.serve_listed.ensures

pub returns-then-command-eq0 : goal.returns-then-command-eq0
unfolding page
returns-then-command-eq0 c = rw (← c.packet_drive-packet.ensures, sym c.standard_asked.ensures ∙ c.if-standard_asked.false, eq-eqb _ _ c.if-command-eq0.true, c.if-packet.false) c.serve_supported.ensures

pub returns-then-command : goal.returns-then-command
unfolding page
returns-then-command c = rw (← c.packet_drive-packet.ensures, sym c.standard_asked.ensures ∙ c.if-standard_asked.false, ne_eqb _ _ c.if-command-eq0.false, eq-eqb _ _ c.if-command.true) c.serve_serial.ensures

pub returns-then-command-2 : goal.returns-then-command-2
unfolding page
returns-then-command-2 c = rw (← c.packet_drive-packet.ensures, sym c.standard_asked.ensures ∙ c.if-standard_asked.false, ne_eqb _ _ c.if-command-eq0.false, ne_eqb _ _ c.if-command.false, eq-eqb _ _ c.if-command-2.true) c.serve_drive.ensures

pub returns : goal.returns
unfolding page
returns c = rw (← c.packet_drive-packet.ensures, sym c.standard_asked.ensures ∙ c.if-standard_asked.false, ne_eqb _ _ c.if-command-eq0.false, ne_eqb _ _ c.if-command.false, ne_eqb _ _ c.if-command-2.false) c.serve_information.ensures
