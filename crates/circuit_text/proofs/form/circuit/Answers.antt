use Rattle.std.proofs.Common.{◌∙◌}
use Rattle.text_fields.proofs.Moves.{ended_on, ended_stuck}
use Rattle.text_fields.proofs.Exits.{exact}
use Rattle.circuit_text.proofs.Exits.{form_stuck, form_all}
use Rattle.text_grammar.specs.Syntaxes as syntax
use Rattle.circuit_text.proofs.form.circuit.Goals as goal

pub returns-in_err-number : goal.returns-in_err-number
unfolding syntax.circuit_within
returns-in_err-number c =
    form_stuck _ _ _ c.from_residual.ensures.1
    (c.in_err-number.ensures _)

pub returns-in_err-opens : goal.returns-in_err-opens
unfolding syntax.circuit_within
returns-in_err-opens c =
    form_stuck _ _ _ c.from_residual-in_err-opens.ensures.1
    ((exact _ _ _ _ _ c.in_ok-number.ensures.1.0.0 c.in_ok-number.ensures.1.1).goes _
    ∙ c.in_err-opens.ensures _)

pub returns-in_err-lines : goal.returns-in_err-lines
unfolding syntax.circuit_within
returns-in_err-lines c =
    form_stuck _ _ _ c.from_residual-in_err-lines.ensures.1
    ((exact _ _ _ _ _ c.in_ok-number.ensures.1.0.0 c.in_ok-number.ensures.1.1).goes _
    ∙ (exact _ _ _ _ _ c.in_ok-opens.ensures.1.0.0 c.in_ok-opens.ensures.1.1).goes _
    ∙ c.in_err-lines.ensures _)

pub returns-in_err-steps : goal.returns-in_err-steps
unfolding syntax.circuit_within
returns-in_err-steps c =
    form_stuck _ _ _ c.from_residual-in_err-steps.ensures.1
    ((exact _ _ _ _ _ c.in_ok-number.ensures.1.0.0 c.in_ok-number.ensures.1.1).goes _
    ∙ (exact _ _ _ _ _ c.in_ok-opens.ensures.1.0.0 c.in_ok-opens.ensures.1.1).goes _
    ∙ c.in_ok-lines.ensures.1.1.goes _
    ∙ c.in_err-steps.ensures _)

pub returns-in_err-lines-2 : goal.returns-in_err-lines-2
unfolding syntax.circuit_within
returns-in_err-lines-2 c =
    form_stuck _ _ _ c.from_residual-in_err-lines-2.ensures.1
    ((exact _ _ _ _ _ c.in_ok-number.ensures.1.0.0 c.in_ok-number.ensures.1.1).goes _
    ∙ (exact _ _ _ _ _ c.in_ok-opens.ensures.1.0.0 c.in_ok-opens.ensures.1.1).goes _
    ∙ c.in_ok-lines.ensures.1.1.goes _
    ∙ (exact _ _ _ _ _ c.in_ok-steps.ensures.1.0.0 c.in_ok-steps.ensures.1.1).goes _
    ∙ c.in_err-lines-2.ensures _)

pub returns-in_err-reads : goal.returns-in_err-reads
unfolding syntax.circuit_within
returns-in_err-reads c =
    form_stuck _ _ _ c.from_residual-in_err-reads.ensures.1
    ((exact _ _ _ _ _ c.in_ok-number.ensures.1.0.0 c.in_ok-number.ensures.1.1).goes _
    ∙ (exact _ _ _ _ _ c.in_ok-opens.ensures.1.0.0 c.in_ok-opens.ensures.1.1).goes _
    ∙ c.in_ok-lines.ensures.1.1.goes _
    ∙ (exact _ _ _ _ _ c.in_ok-steps.ensures.1.0.0 c.in_ok-steps.ensures.1.1).goes _
    ∙ c.in_ok-lines-2.ensures.1.1.goes _
    ∙ c.in_err-reads.ensures _)

pub returns-in_err-lines-3 : goal.returns-in_err-lines-3
unfolding syntax.circuit_within
returns-in_err-lines-3 c =
    form_stuck _ _ _ c.from_residual-in_err-lines-3.ensures.1
    ((exact _ _ _ _ _ c.in_ok-number.ensures.1.0.0 c.in_ok-number.ensures.1.1).goes _
    ∙ (exact _ _ _ _ _ c.in_ok-opens.ensures.1.0.0 c.in_ok-opens.ensures.1.1).goes _
    ∙ c.in_ok-lines.ensures.1.1.goes _
    ∙ (exact _ _ _ _ _ c.in_ok-steps.ensures.1.0.0 c.in_ok-steps.ensures.1.1).goes _
    ∙ c.in_ok-lines-2.ensures.1.1.goes _
    ∙ (exact _ _ _ _ _ c.in_ok-reads.ensures.1.0.0 c.in_ok-reads.ensures.1.1).goes _
    ∙ c.in_err-lines-3.ensures _)

pub returns-in_err-end : goal.returns-in_err-end
unfolding syntax.circuit_within
returns-in_err-end c =
    form_stuck _ _ _ c.from_residual-in_err-end.ensures.1
    ((exact _ _ _ _ _ c.in_ok-number.ensures.1.0.0 c.in_ok-number.ensures.1.1).goes _
    ∙ (exact _ _ _ _ _ c.in_ok-opens.ensures.1.0.0 c.in_ok-opens.ensures.1.1).goes _
    ∙ c.in_ok-lines.ensures.1.1.goes _
    ∙ (exact _ _ _ _ _ c.in_ok-steps.ensures.1.0.0 c.in_ok-steps.ensures.1.1).goes _
    ∙ c.in_ok-lines-2.ensures.1.1.goes _
    ∙ (exact _ _ _ _ _ c.in_ok-reads.ensures.1.0.0 c.in_ok-reads.ensures.1.1).goes _
    ∙ c.in_ok-lines-3.ensures.1.1.goes _
    ∙ ended_stuck _ _ _ c.in_err-end.ensures)

pub returns : goal.returns
unfolding syntax.circuit_within
returns c =
    form_all _ _ _ _ _ _ _ _
    ((exact _ _ _ _ _ c.in_ok-number.ensures.1.0.0 c.in_ok-number.ensures.1.1).goes _
    ∙ (exact _ _ _ _ _ c.in_ok-opens.ensures.1.0.0 c.in_ok-opens.ensures.1.1).goes _
    ∙ c.in_ok-lines.ensures.1.1.goes _
    ∙ (exact _ _ _ _ _ c.in_ok-steps.ensures.1.0.0 c.in_ok-steps.ensures.1.1).goes _
    ∙ c.in_ok-lines-2.ensures.1.1.goes _
    ∙ (exact _ _ _ _ _ c.in_ok-reads.ensures.1.0.0 c.in_ok-reads.ensures.1.1).goes _
    ∙ c.in_ok-lines-3.ensures.1.1.goes _
    ∙ ended_on _ _ c.in_ok-end.ensures)
    c.in_ok-lines.ensures.1.0
    c.in_ok-lines-2.ensures.1.0
    c.in_ok-lines-3.ensures.1.0
