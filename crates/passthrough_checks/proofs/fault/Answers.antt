-- `fault`: each check answers where it is the first that applies.
use borrow.Author.Tests.{eq-eqb, ne_eqb}
use mathlib.Core.Path.{refl, ◌∙◌, sym}
use Rattle.rules.proofs.First.{silent, first_answers}
use Rattle.passthrough_checks.specs.Helpers.{block_checks, form_checks, field_checks, after_block, early_refusal}
use Rattle.passthrough_checks.proofs.Laws.{found}
use Rattle.passthrough_fields.specs.Fields.{protocol, t_length, t_dir}
use Rattle.passthrough_checks.proofs.fault.Goals as goal

pub returns-then-wrong_size : goal.returns-then-wrong_size
unfolding early_refusal
returns-then-wrong_size c = rw (found c.wrong_size.ensures c.if-wrong_size.true)

pub returns-then-of_block-ne0 : goal.returns-then-of_block-ne0
unfolding early_refusal
returns-then-of_block-ne0 c =
    let f = c.block_fault-of_block.ensures in
    rw (found c.wrong_size.ensures c.if-wrong_size.false) (f ∙ sym (first_answers (block_checks c.args.later c.args.block.now) (after_block c.args.pending c.args.reset_pending c.args.later c.args.command.now) refl (λ z. c.if-of_block-ne0.true (f ∙ z))))

pub returns-then-command-eq0 : goal.returns-then-command-eq0
unfolding early_refusal
returns-then-command-eq0 c =
    let q = silent (block_checks c.args.later c.args.block.now) refl (sym c.block_fault-of_block.ensures ∙ c.if-of_block-ne0.false) in
    rw (found c.wrong_size.ensures c.if-wrong_size.false, q.0, q.1.0, eq-eqb _ _ c.if-command-eq0.true)

pub returns-then-of_form-ne0 : goal.returns-then-of_form-ne0
unfolding early_refusal
returns-then-of_form-ne0 c =
    let q = silent (block_checks c.args.later c.args.block.now) refl (sym c.block_fault-of_block.ensures ∙ c.if-of_block-ne0.false) in
    let f = c.form_fault-of_form.ensures in
    rw (found c.wrong_size.ensures c.if-wrong_size.false, q.0, q.1.0, ne_eqb _ _ c.if-command-eq0.false) (f ∙ sym (first_answers (form_checks c.args.later c.args.command.now) (field_checks c.args.pending c.args.reset_pending (protocol c.args.command.now) (t_length c.args.command.now) (t_dir c.args.command.now)) refl (λ z. c.if-of_form-ne0.true (f ∙ z))))

pub returns : goal.returns
unfolding early_refusal
returns c =
    let q = silent (block_checks c.args.later c.args.block.now) refl (sym c.block_fault-of_block.ensures ∙ c.if-of_block-ne0.false) in
    let w = silent (form_checks c.args.later c.args.command.now) refl (sym c.form_fault-of_form.ensures ∙ c.if-of_form-ne0.false) in
    rw (found c.wrong_size.ensures c.if-wrong_size.false, q.0, q.1.0, ne_eqb _ _ c.if-command-eq0.false, w.0, w.1.0, w.1.1.0, w.1.1.1.0)
    (rw (c.protocol-protocol.ensures, c.t_length-t_length.ensures, c.t_dir.ensures) at c.field_fault.ensures)
