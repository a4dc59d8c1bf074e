-- What the calls of a store ask of a diagram, and their refusals that do not depend on space.
use Rattle.std.proofs.Common.{◌≡◌, ℕ, ◌-◌, ◌^◌, ◌<◌, ◌≤◌, Bool, ltb, Ok, Err, sym, ap, ◌∙◌, arith}
use Rattle.std.proofs.lemmas.Bool.{cond-true, cond-false, lt-ltb, le-ltb}
use Rattle.exact.specs.Indices.{bits}
use Rattle.exact.specs.declared.Qubit.{Qubit}
use Rattle.functions.specs.declared.faults.StoreFault.TheVariants.{IndexOutOfRange, QubitOutOfRange, NotHeld}
use Rattle.functions.specs.Tables.{value_at, literal, fixed, ones}
use Rattle.functions.specs.Answers.{checked, and_then, function_under, literal_asked, fixed_asked, combine_asked, value_answer, ones_answer}
use Rattle.functions.proofs.Asked.{function_at, function_none, and_then_ok, and_then_err, literal_known, fixed_known, combine_known}
use Rattle.diagrams.specs.Diagrams.{Diagram, function_over, Held, Reduced}
use Rattle.diagrams.specs.Forming.{combination, fixing, bit_of}
use Rattle.diagrams.specs.Meanings.{diagram_meaning, InLimit}
use Rattle.diagrams.proofs.Wanted.{fixing_asked, bit_asked}
use Rattle.diagrams.proofs.Meanings.{under_held, under_not_held}

-- the functions wanted look at no more than n qubits
pub combination_within : (n : ℕ) (s : Diagram) → Reduced n s → (rule f g h : ℕ) → (combination s rule f g h).least ≤ n
combination_within n s o rule f g h = omega (arith, o.within f, o.within g, o.within h)

pub fixing_within : (n : ℕ) (s : Diagram) → Reduced n s → (f m : ℕ) (b : Bool) → (fixing s f m b).least ≤ n
fixing_within n s o f m b = o.within f

module _ (n limit : ℕ) (s : Diagram) where
  function_missing : (h : ℕ) → (Held s h → ⊥) → function_under (diagram_meaning n limit s) h ≡ Err (NotHeld h)
  function_missing h out = function_none (diagram_meaning n limit s) h (under_not_held n limit s h out)

  -- qubits and indices out of range
  pub literal_out : (q : Qubit) → n ≤ q.0 → literal_asked (diagram_meaning n limit s) q ≡ Err (QubitOutOfRange q)
  unfolding literal_asked checked diagram_meaning
  literal_out q l = cond-false (ltb q.0 n) (Ok (literal n q.0)) (Err (QubitOutOfRange q)) (le-ltb q.0 n l)

  pub fixed_out : (f : ℕ) (q : Qubit) (b : Bool) → n ≤ q.0 → fixed_asked (diagram_meaning n limit s) f q b ≡ Err (QubitOutOfRange q)
  unfolding fixed_asked checked diagram_meaning
  fixed_out f q b l = cond-false (ltb q.0 n) (and_then (function_under (diagram_meaning n limit s) f) (λ t. Ok (fixed n t q.0 b))) (Err (QubitOutOfRange q)) (le-ltb q.0 n l)

  pub value_out : (f i : ℕ) → 2 ^ n ≤ i → value_answer (diagram_meaning n limit s) f i ≡ Err (IndexOutOfRange i)
  unfolding value_answer checked diagram_meaning
  value_out f i l = cond-false (ltb i (2 ^ n)) (and_then (function_under (diagram_meaning n limit s) f) (λ t. Ok (value_at t (bits n i)))) (Err (IndexOutOfRange i)) (le-ltb i (2 ^ n) l)

  -- handles that are not held
  pub fixed_missing : (f : ℕ) (q : Qubit) (b : Bool) → q.0 < n → (Held s f → ⊥) → fixed_asked (diagram_meaning n limit s) f q b ≡ Err (NotHeld f)
  unfolding fixed_asked checked diagram_meaning
  fixed_missing f q b l out =
      cond-true (ltb q.0 n) (and_then (function_under (diagram_meaning n limit s) f) (λ t. Ok (fixed n t q.0 b))) (Err (QubitOutOfRange q)) (lt-ltb q.0 n l)
      ∙ and_then_err (function_under (diagram_meaning n limit s) f) (λ t. Ok (fixed n t q.0 b)) (NotHeld f) (function_missing f out)

  pub value_missing : (f i : ℕ) → i < 2 ^ n → (Held s f → ⊥) → value_answer (diagram_meaning n limit s) f i ≡ Err (NotHeld f)
  unfolding value_answer checked diagram_meaning
  value_missing f i l out =
      cond-true (ltb i (2 ^ n)) (and_then (function_under (diagram_meaning n limit s) f) (λ t. Ok (value_at t (bits n i)))) (Err (IndexOutOfRange i)) (lt-ltb i (2 ^ n) l)
      ∙ and_then_err (function_under (diagram_meaning n limit s) f) (λ t. Ok (value_at t (bits n i))) (NotHeld f) (function_missing f out)

  pub ones_missing : (f : ℕ) → (Held s f → ⊥) → ones_answer (diagram_meaning n limit s) f ≡ Err (NotHeld f)
  unfolding ones_answer
  ones_missing f out = and_then_err (function_under (diagram_meaning n limit s) f) _ (NotHeld f) (function_missing f out)

  pub combine_missing_first : (rule f g h : ℕ) → (Held s f → ⊥) → combine_asked (diagram_meaning n limit s) rule f g h ≡ Err (NotHeld f)
  unfolding combine_asked
  combine_missing_first rule f g h out = and_then_err (function_under (diagram_meaning n limit s) f) _ (NotHeld f) (function_missing f out)

  module _ (o : Reduced n s) (inside : InLimit limit s) where
    function_held : (h : ℕ) → Held s h → function_under (diagram_meaning n limit s) h ≡ Ok (function_over s n h)
    function_held h hh = function_at (diagram_meaning n limit s) h (function_over s n h) (under_held n limit s o inside h hh)

    pub combine_missing_second : (rule f g h : ℕ) → Held s f → (Held s g → ⊥) → combine_asked (diagram_meaning n limit s) rule f g h ≡ Err (NotHeld g)
    unfolding combine_asked
    combine_missing_second rule f g h hf out =
        and_then_ok (function_under (diagram_meaning n limit s) f) _ (function_over s n f) (function_held f hf)
        ∙ and_then_err (function_under (diagram_meaning n limit s) g) _ (NotHeld g) (function_missing g out)

    pub combine_missing_third : (rule f g h : ℕ) → Held s f → Held s g → (Held s h → ⊥) → combine_asked (diagram_meaning n limit s) rule f g h ≡ Err (NotHeld h)
    unfolding combine_asked
    combine_missing_third rule f g h hf hg out =
        and_then_ok (function_under (diagram_meaning n limit s) f) _ (function_over s n f) (function_held f hf)
        ∙ and_then_ok (function_under (diagram_meaning n limit s) g) _ (function_over s n g) (function_held g hg)
        ∙ and_then_err (function_under (diagram_meaning n limit s) h) _ (NotHeld h) (function_missing h out)

    -- what is asked for is the function wanted, over all n qubits
    pub combine_held : (rule f g h : ℕ) → Held s f → Held s g → Held s h → combine_asked (diagram_meaning n limit s) rule f g h ≡ Ok ((combination s rule f g h).over n)
    unfolding diagram_meaning
    combine_held rule f g h hf hg hh = combine_known (diagram_meaning n limit s) rule f g h (function_over s n f) (function_over s n g) (function_over s n h) (under_held n limit s o inside f hf) (under_held n limit s o inside g hg) (under_held n limit s o inside h hh)

    pub fixed_held : (f : ℕ) (q : Qubit) (b : Bool) → q.0 < n → Held s f → fixed_asked (diagram_meaning n limit s) f q b ≡ Ok ((fixing s f (n - q.0) b).over n)
    unfolding diagram_meaning
    fixed_held f q b l hf = fixed_known (diagram_meaning n limit s) f q b (function_over s n f) l (under_held n limit s o inside f hf) ∙ ap Ok (sym (fixing_asked s f n q.0 b l))

    pub value_held : (f i : ℕ) → i < 2 ^ n → Held s f → value_answer (diagram_meaning n limit s) f i ≡ Ok (value_at (function_over s n f) (bits n i))
    unfolding value_answer checked diagram_meaning
    value_held f i l hf =
        cond-true (ltb i (2 ^ n)) (and_then (function_under (diagram_meaning n limit s) f) (λ t. Ok (value_at t (bits n i)))) (Err (IndexOutOfRange i)) (lt-ltb i (2 ^ n) l)
        ∙ and_then_ok (function_under (diagram_meaning n limit s) f) (λ t. Ok (value_at t (bits n i))) (function_over s n f) (function_held f hf)

    pub ones_held : (f : ℕ) → Held s f → ones_answer (diagram_meaning n limit s) f ≡ Ok (ones n (function_over s n f))
    unfolding ones_answer diagram_meaning
    ones_held f hf = and_then_ok (function_under (diagram_meaning n limit s) f) (λ t. Ok (ones n t)) (function_over s n f) (function_held f hf)

  pub literal_within : (q : Qubit) → q.0 < n → literal_asked (diagram_meaning n limit s) q ≡ Ok ((bit_of (n - q.0)).over n)
  unfolding diagram_meaning
  literal_within q l = literal_known (diagram_meaning n limit s) q l ∙ ap Ok (sym (bit_asked n q.0 l))
