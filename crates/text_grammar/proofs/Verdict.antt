-- What the grammar's definition answers is right of every text.
use Rattle.std.proofs.Common.{◌≡◌, ℕ, ◌-◌, ◌<◌, ◌≤◌, Bool, true, false, cond, ltb, List, [], ◌++◌, length, take, Ok, Err, Result, sym, refl, ap, ◌∙◌, arith}
use Rattle.std.proofs.lemmas.List.{take_at, length-append, append_cancel_right}
use Rattle.std.proofs.lemmas.Bool.{ltb-true, ltb-false}
use Rattle.text_reader.specs.declared.fault.TextFault.TheVariants.{TooLong}
use Rattle.text_reader.specs.Places.{place_after}
use Rattle.text_words.specs.Spelling.{range_of}
use Rattle.text_grammar.specs.Circuits.{Circuit, InRange, IsCircuitText, any_count, written}
use Rattle.text_grammar.specs.Syntaxes.{Reading, Stop, read, circuit_within, circuit}
use Rattle.text_grammar.specs.Syntaxes.Stop.{unexpected, out_of_range}
use Rattle.text_grammar.specs.Verdicts.{place_at, located, circuit_read, parsed, Misfit, Accepted, Right}
use Rattle.text_grammar.proofs.Faithful.{err_not_ok}
use Rattle.text_grammar.proofs.Circuit.{ranges_writable, any_writable, circuit_sound, circuit_complete}
use Rattle.text_grammar.proofs.Faults.{Open, Breaks, breaks, count_there, count_token}
use Rattle.text_grammar.proofs.Meets.{ranges_filled, any_filled, open_circuit}
use Rattle.text_grammar.proofs.Looser.{same_stop, let_through, looser_circuit}

strict_open : Open circuit
strict_open = open_circuit range_of ranges_filled

loose_open : Open (circuit_within any_count)
loose_open = open_circuit any_count any_filled

pub read_written : (c : Circuit) → InRange c → read circuit (written c) ≡ Ok (c, [])
read_written c g = circuit_complete range_of ranges_writable c g

misfit : (text rest : List ℕ) → Breaks circuit text rest → Misfit text (place_at text rest) rest
unfolding place_at
misfit text rest b =
    let n : length b.before ≡ length text - length rest = (let l = ap length b.whole ∙ length-append b.before rest in omega (arith, l)) in
    record {
      before = b.before;
      whole = b.whole;
      here = ap place_after (ap (take (length text - length rest)) b.whole ∙ take_at b.before rest _ n);
      can = (let s = circuit_sound range_of ranges_writable _ _ b.can.1.1 in (b.can.0, (b.can.1.0.0, s.0, s.1)));
      cannot = λ more q t. b.cannot more q (t.0, []) (ap (read circuit) t.2 ∙ read_written t.0 t.1);
    }

accepted : (text : List ℕ) (r : Reading) → read circuit text ≡ Ok r → length text ≤ 16384 → Accepted text r.0
accepted text r e l =
    let s = circuit_sound range_of ranges_writable text r e in
    record {
      short = l;
      in_range = s.0;
      text_of_it = s.1;
      only = λ d g t.
          let x : Ok (d, []) ≡ Ok r = sym (read_written d g) ∙ ap (read circuit) (sym t) ∙ e in
          let q : (d, []) ≡ r = cc in
          ap (λ (p : Reading). p.0) q;
    }

not_text : (text : List ℕ) (s : Stop) → read circuit text ≡ Err s → IsCircuitText text → 16384 < length text
not_text text s e t = absurd (err_not_ok s (t.0, []) (sym e ∙ ap (read circuit) t.2 ∙ read_written t.0 t.1))

pub right : (text : List ℕ) → Right text (parsed text)
unfolding parsed located misfit
right text = whole (ltb 16384 (length text)) refl
  where
    answer : (r : Result Reading Stop) → read circuit text ≡ r → length text ≤ 16384 → Right text (circuit_read (located text r))
    answer (Ok c) e l = accepted text c e l
    answer (Err (unexpected rest)) e l =
        let b = breaks circuit text (unexpected rest) strict_open e in
        let f = breaks (circuit_within any_count) text (unexpected rest) loose_open (same_stop circuit (circuit_within any_count) text rest looser_circuit e) in
        let same : f.before ≡ b.before = append_cancel_right f.before b.before rest (sym f.whole ∙ b.whole) in
        record {
          no_text = not_text text (unexpected rest) e;
          says = record {
            rest = rest;
            begins = refl;
            misfit = misfit text rest b;
            whatever_counts = λ more q t. f.cannot more q (t.0, []) (ap (λ x. read (circuit_within any_count) (x ++ more)) same ∙ ap (read (circuit_within any_count)) t.2 ∙ circuit_complete any_count any_writable t.0 t.1);
          };
        }
    answer (Err (out_of_range n rest)) e l =
        let h = count_there circuit text n rest strict_open e in
        let b = breaks circuit text (out_of_range n rest) strict_open e in
        let f = let_through circuit (circuit_within any_count) text n rest strict_open loose_open looser_circuit e in
        let same : f.before ≡ b.before = append_cancel_right f.before b.before rest (sym f.whole ∙ b.whole) in
        let s = circuit_sound any_count any_writable (b.before ++ f.more) f.found (ap (λ x. read (circuit_within any_count) (x ++ f.more)) (sym same) ∙ f.goes) in
        record {
          no_text = not_text text (out_of_range n rest) e;
          says = record {
            rest = rest;
            there = count_token rest n h.0 h.1;
            misfit = misfit text rest b;
            with_any_count = (f.more, (f.there, (f.found.0, s.0, s.1)));
          };
        }

    whole : (q : Bool) → ltb 16384 (length text) ≡ q → Right text (cond q (Err (TooLong (length text))) (circuit_read (located text (read circuit text))))
    whole true e = let l = ltb-true _ _ e in record { no_text = λ t. l; says = (refl, l) }
    whole false e = answer (read circuit text) refl (ltb-false _ _ e)
