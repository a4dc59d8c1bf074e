use Rattle.std.proofs.Common.{◌≡◌, ap, ◌∙◌}
use Rattle.std.specs.Option.{ok_or}
use Rattle.text_words.specs.Spelling.{named}
use Rattle.text_fields.proofs.Exits.{follows_told}
use Rattle.text_fields.proofs.Words.{named_judged}
use Rattle.text_grammar.specs.Syntaxes as syntax
use Rattle.text_fields.proofs.keyword.Goals as goal

pub returns : goal.returns
unfolding syntax.telling
returns g c = λ any. follows_told _ _ _ {Tells = λ w o. o ≡ named g.K.Keyword.spelling g.K.Keyword.all w} (record { word = c.word-word.result; lent = c.word-word.ensures; told = c.named.result; tells = c.named.ensures; answer = c.ok_or.ensures.value ∙ ap (ok_or c.named.result) c.unexpected.ensures }) (λ w o h. named_judged (named g.K.Keyword.spelling g.K.Keyword.all) any w o h)
