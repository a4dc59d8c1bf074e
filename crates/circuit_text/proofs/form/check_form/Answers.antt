use Rattle.std.proofs.Common.{◌≡◌, ℕ, List, Ok, Err, Result, sym, refl, ap, ◌∙◌, subst}
use Rattle.std.proofs.lemmas.Bool.{cond-true, cond-false, lt-ltb, le-ltb}
use Rattle.text_reader.specs.declared.fault.TextFault.{TextFault}
use Rattle.text_grammar.specs.Verdicts.{parsed, located}
use Rattle.text_grammar.proofs.Verdict.{right}
use Rattle.text_fields.specs.Reading.{onward}
use Rattle.circuit_text.specs.Forms.{checked, with_form, form_read, FormVerdict}
use Rattle.text_grammar.specs.Syntaxes as syntax
use Rattle.text_grammar.specs.Circuits.{Circuit}
use Rattle.text_grammar.specs.Verdicts.{Right}
use Rattle.text_grammar.specs.Syntaxes.{read}
use Rattle.circuit_text.specs.declared.form.Form.{Form}
use Rattle.circuit_text.proofs.form.check_form.Goals as goal

-- an answer that equals the definition says what the definition says
verdict : (text : List ℕ) (p : Result Circuit TextFault) → Right text p → FormVerdict text (with_form p)
verdict text (Ok c) h = (c, (h, refl))
verdict text (Err e) h = h

both : (text : List ℕ) (r : Result Form TextFault) → r ≡ checked text → record { equals : r ≡ checked text; right : FormVerdict text r }
unfolding checked
both text r e = record { equals = e; right = subst (FormVerdict text) (sym e) (verdict text (parsed text) (right text)) }

pub returns-then-text-gt-MAX_BYTES : goal.returns-then-text-gt-MAX_BYTES
unfolding checked parsed
returns-then-text-gt-MAX_BYTES c = both c.args.text.now _ (sym (ap with_form (cond-true _ _ _ (lt-ltb _ _ c.if-text-gt-MAX_BYTES.true))))

pub returns : goal.returns
unfolding checked parsed onward
returns c =
    let h = c.new-reader.ensures in
    both c.args.text.now _ (
    c.circuit.ensures
    ∙ (λ i. form_read (located (h.same i) (read syntax.circuit (h.whole i))))
    ∙ sym (ap with_form (cond-false _ _ _ (le-ltb _ _ c.if-text-gt-MAX_BYTES.false))))
