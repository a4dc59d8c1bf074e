-- The syntax of a circuit text reads just the texts of the circuits in its ranges.
use Rattle.std.proofs.Common.{◌≡◌, ℕ, List, [], ◌∷◌, ◌++◌, map, length, Ok, sym, refl, ap, ◌∙◌, subst, append_assoc, append-nil, arith}
use Rattle.std.specs.List.{flat_map}
use Rattle.text_words.specs.declared.spelling.Section.{Section}
use Rattle.text_words.specs.declared.spelling.Section.TheVariants.{Qubits, Opens, Steps, Reads}
use Rattle.text_words.specs.Spelling.{range_of}
use Rattle.text_numbers.specs.Numbers.{Small}
use Rattle.text_grammar.specs.Circuits.{Circuit, Opening, Step, Question, Line, Ranges, any_count, InRanges, section_line, opening_line, step_line, question_line, line_bytes, lines_of, written}
use Rattle.text_grammar.specs.Circuits.Line.{section as the-section, opening as the-opening, step as the_step, question as the-question}
use Rattle.text_grammar.specs.Syntaxes.{Reading, read, circuit_within}
use Rattle.text_grammar.specs.Syntaxes.Syntax.{finish}
use Rattle.text_grammar.proofs.Faithful.{finish_back, several_reads}
use Rattle.text_grammar.proofs.Phrases.{section_reads, opening_reads, step_reads, question_reads}

-- ranges of at most five digits
abbrev pub Writable : Ranges → Type 0
Writable ranges = (s : Section) → Small (ranges s).most

pub ranges_writable : Writable range_of
ranges_writable Qubits = omega arith
ranges_writable Opens = omega arith
ranges_writable Steps = omega arith
ranges_writable Reads = omega arith

pub any_writable : Writable any_count
any_writable s = omega arith

-- the lines of one kind among all lines, before others
joined_kind : {A : Type 0} (kind : A → Line) (spell : A → List ℕ) (xs : List A) (more : List Line) → ((a : A) → line_bytes (kind a) ≡ spell a) → flat_map line_bytes (map kind xs ++ more) ≡ flat_map spell xs ++ flat_map line_bytes more
joined_kind kind spell [] more e = refl
joined_kind kind spell (x ∷ xs) more e =
    (λ i. e x i ++ joined_kind kind spell xs more e i) ∙ sym (append_assoc (spell x) (flat_map spell xs) (flat_map line_bytes more))

-- the text of a circuit, section by section
parts : (n a b d : ℕ) → List Opening → List Step → List Question → List ℕ
parts n a b d os ss qs =
    section_line Qubits n
    ++ (section_line Opens a ++ (flat_map opening_line os
    ++ (section_line Steps b ++ (flat_map step_line ss
    ++ (section_line Reads d ++ flat_map question_line qs)))))

written_parts : (c : Circuit) → written c ≡ parts c.qubits (length c.opens) (length c.steps) (length c.reads) c.opens c.steps c.reads
unfolding written lines_of line_bytes parts
written_parts c =
    let reads : flat_map line_bytes (map the-question c.reads) ≡ flat_map question_line c.reads =
    ap (flat_map line_bytes) (sym (append-nil (map the-question c.reads))) ∙ joined_kind the-question question_line c.reads [] (λ q. refl) ∙ append-nil (flat_map question_line c.reads) in
    let steps = joined_kind the_step step_line c.steps (the-section Reads (length c.reads) ∷ map the-question c.reads) (λ s. refl)
    ∙ ap (λ l. flat_map step_line c.steps ++ (section_line Reads (length c.reads) ++ l)) reads in
    let opens = joined_kind the-opening opening_line c.opens (the-section Steps (length c.steps) ∷ (map the_step c.steps ++ (the-section Reads (length c.reads) ∷ map the-question c.reads))) (λ o. refl)
    ∙ ap (λ l. flat_map opening_line c.opens ++ (section_line Steps (length c.steps) ++ l)) steps in
    ap (λ l. section_line Qubits c.qubits ++ (section_line Opens (length c.opens) ++ l)) opens

joined_parts : (n a b d : ℕ) (os : List Opening) (ss : List Step) (qs : List Question) (t r₁ r₂ r₃ r₄ r₅ r₆ r₇ : List ℕ)
    → t ≡ section_line Qubits n ++ r₁ → r₁ ≡ section_line Opens a ++ r₂ → r₂ ≡ flat_map opening_line os ++ r₃ → r₃ ≡ section_line Steps b ++ r₄
    → r₄ ≡ flat_map step_line ss ++ r₅ → r₅ ≡ section_line Reads d ++ r₆ → r₆ ≡ flat_map question_line qs ++ r₇ → r₇ ≡ []
    → length os ≡ a → length ss ≡ b → length qs ≡ d
    → t ≡ written (record { qubits = n; opens = os; steps = ss; reads = qs })
unfolding parts
joined_parts n a b d os ss qs t r₁ r₂ r₃ r₄ r₅ r₆ r₇ e₁ e₂ e₃ e₄ e₅ e₆ e₇ z la lb ld =
    let last : r₆ ≡ flat_map question_line qs = e₇ ∙ ap (λ l. flat_map question_line qs ++ l) z ∙ append-nil (flat_map question_line qs) in
    let whole : t ≡ parts n a b d os ss qs =
    e₁ ∙ ap (λ l. section_line Qubits n ++ l)
    (e₂ ∙ ap (λ l. section_line Opens a ++ l)
    (e₃ ∙ ap (λ l. flat_map opening_line os ++ l)
    (e₄ ∙ ap (λ l. section_line Steps b ++ l)
    (e₅ ∙ ap (λ l. flat_map step_line ss ++ l)
    (e₆ ∙ ap (λ l. section_line Reads d ++ l) last))))) in
    whole ∙ (λ i. parts n (sym la i) (sym lb i) (sym ld i) os ss qs) ∙ sym (written_parts (record { qubits = n; opens = os; steps = ss; reads = qs }))

module _ (ranges : Ranges) (few : Writable ranges) where
  pub circuit_sound : (t : List ℕ) (r : Reading) → read (circuit_within ranges) t ≡ Ok r → InRanges ranges r.0 × (t ≡ written r.0) × (r ≡ (r.0, []))
  unfolding circuit_within
  circuit_sound t r e =
      let f₁ = (section_reads (ranges Qubits) Qubits (few Qubits)).sound _ t r e in
      let n = f₁.value in
      let f₂ = (section_reads (ranges Opens) Opens (few Opens)).sound _ f₁.rest r f₁.goes in
      let f₃ = (several_reads (opening_reads n) (λ a rest. tt) f₂.value).sound _ f₂.rest r f₂.goes in
      let f₄ = (section_reads (ranges Steps) Steps (few Steps)).sound _ f₃.rest r f₃.goes in
      let f₅ = (several_reads step_reads (λ a rest. tt) f₄.value).sound _ f₄.rest r f₄.goes in
      let f₆ = (section_reads (ranges Reads) Reads (few Reads)).sound _ f₅.rest r f₅.goes in
      let f₇ = (several_reads (question_reads n) (λ a rest. tt) f₆.value).sound _ f₆.rest r f₆.goes in
      let z = finish_back _ f₇.rest r f₇.goes in
      let d : Circuit = record { qubits = n; opens = f₃.value; steps = f₅.value; reads = f₇.value } in
      let good : InRanges ranges d = record {
        qubits_within = f₁.fine;
        opens_within = (omega (arith, f₃.fine.0, f₂.fine.0), omega (arith, f₃.fine.0, f₂.fine.1));
        steps_within = (omega (arith, f₅.fine.0, f₄.fine.0), omega (arith, f₅.fine.0, f₄.fine.1));
        reads_within = (omega (arith, f₇.fine.0, f₆.fine.0), omega (arith, f₇.fine.0, f₆.fine.1));
        opens_fit = f₃.fine.1;
        steps_fit = f₅.fine.1;
        reads_fit = f₇.fine.1;
      } in
      let text = joined_parts n f₂.value f₄.value f₆.value f₃.value f₅.value f₇.value t f₁.rest f₂.rest f₃.rest f₄.rest f₅.rest f₆.rest f₇.rest
      f₁.text f₂.text f₃.text f₄.text f₅.text f₆.text f₇.text z.0 f₃.fine.0 f₅.fine.0 f₇.fine.0 in
      subst (λ (x : Reading). InRanges ranges x.0 × (t ≡ written x.0) × (x ≡ (x.0, []))) z.1 (good, text, refl)

  parts_read : (c : Circuit) → InRanges ranges c → read (circuit_within ranges) (parts c.qubits (length c.opens) (length c.steps) (length c.reads) c.opens c.steps c.reads) ≡ Ok (c, [])
  unfolding circuit_within parts read
  parts_read c g =
      let n = c.qubits in
      (section_reads (ranges Qubits) Qubits (few Qubits)).complete _ n _ g.qubits_within tt
      ∙ (section_reads (ranges Opens) Opens (few Opens)).complete _ (length c.opens) _ g.opens_within tt
      ∙ (several_reads (opening_reads n) (λ a rest. tt) (length c.opens)).complete _ c.opens _ (refl, g.opens_fit) tt
      ∙ (section_reads (ranges Steps) Steps (few Steps)).complete _ (length c.steps) _ g.steps_within tt
      ∙ (several_reads step_reads (λ a rest. tt) (length c.steps)).complete _ c.steps _ (refl, g.steps_fit) tt
      ∙ (section_reads (ranges Reads) Reads (few Reads)).complete _ (length c.reads) _ g.reads_within tt
      ∙ ap (read _) (sym (append-nil (flat_map question_line c.reads)))
      ∙ (several_reads (question_reads n) (λ a rest. tt) (length c.reads)).complete (λ rs. finish (record { qubits = n; opens = c.opens; steps = c.steps; reads = rs })) c.reads [] (refl, g.reads_fit) tt

  pub circuit_complete : (c : Circuit) → InRanges ranges c → read (circuit_within ranges) (written c) ≡ Ok (c, [])
  circuit_complete c g = ap (read (circuit_within ranges)) (written_parts c) ∙ parts_read c g
