use Rattle.std.proofs.Common.{sym, ap, ◌∙◌}
use Rattle.text_words.specs.declared.spelling.QuestionWord.TheVariants.{Same}
use Rattle.text_fields.specs.Reading.{onward}
use Rattle.text_fields.proofs.Exits.{follows_stuck, follows_then}
use Rattle.text_grammar.specs.Syntaxes as syntax
use Rattle.text_phrases.proofs.phrases.question.Goals as goal

pub returns-in_err-keyword : goal.returns-in_err-keyword
unfolding syntax.question syntax.question_name
returns-in_err-keyword c = follows_stuck _ _ _ _ _ _ c.from_residual.ensures.1 (λ k. c.in_err-keyword.ensures Same _)

pub returns-in-Amp : goal.returns-in-Amp
unfolding syntax.question syntax.question_name syntax.question_tail
returns-in-Amp c =
    let n = c.in_ok-keyword.ensures Same in
    follows_then _ _ _ _ _ _ _ n.1.1.same (λ k. n.1.1.goes _ ∙ ap (λ x. onward (syntax.question_tail c.args.qubits.number k x) c.keyword.new.reader) (sym n.1.0 ∙ c.in-Amp.is)) c.amp_tail.ensures

pub returns-in-Weight : goal.returns-in-Weight
unfolding syntax.question syntax.question_name syntax.question_tail
returns-in-Weight c =
    let n = c.in_ok-keyword.ensures Same in
    follows_then _ _ _ _ _ _ _ n.1.1.same (λ k. n.1.1.goes _ ∙ ap (λ x. onward (syntax.question_tail c.args.qubits.number k x) c.keyword.new.reader) (sym n.1.0 ∙ c.in-Weight.is)) c.weight_tail.ensures

pub returns-in-Same : goal.returns-in-Same
unfolding syntax.question syntax.question_name syntax.question_tail
returns-in-Same c =
    let n = c.in_ok-keyword.ensures Same in
    follows_then _ _ _ _ _ _ _ n.1.1.same (λ k. n.1.1.goes _ ∙ ap (λ x. onward (syntax.question_tail c.args.qubits.number k x) c.keyword.new.reader) (sym n.1.0 ∙ c.in-Same.is)) c.same_tail.ensures
