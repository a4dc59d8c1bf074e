-- Two open registers, and the weights of one.
use Rattle.std.proofs.Common.{◌≡◌, ℕ, true, false, Decides, sym, ap, ◌∙◌, subst}
use Rattle.exact.specs.Indices.{Index}
use Rattle.exact.specs.Squares.{add_squares, sum_of_squares, outcome}
use Rattle.exact.specs.States.{State, SameAmplitudes}
use Rattle.exact.proofs.NormalForms.{states_reflexive, unique}
use Rattle.matrices.specs.Registers.{register}
use Rattle.matrices.specs.Products.{product_of, column, SameMatrix}
use Rattle.matrices.specs.Laws.{unit_total}
use Rattle.matrices.proofs.Registers as matrices
use Rattle.matrices.proofs.Weights as weights
use Rattle.plain.specs.Registers.{Contents}
use Rattle.plain.specs.Runs.{same_state}
use Rattle.plain.specs.Laws.{Sound}
use Rattle.plain.proofs.Equality.{same_decides}

module _ (n : ℕ) (c : Contents) (h : Sound n c) where
  pub amplitudes : SameAmplitudes c.state (column n (product_of n c.moves) c.opening)
  amplitudes = subst (λ (s : State). SameAmplitudes s (column n (product_of n c.moves) c.opening)) (sym h.led) (matrices.amplitudes n c.opening c.moves h.placed)

  pub outcomes : (q : ℕ) → add_squares (sum_of_squares n (outcome q false) c.state.quadruples) (sum_of_squares n (outcome q true) c.state.quadruples) ≡ unit_total c.state
  outcomes q =
      subst (λ (s : State). add_squares (sum_of_squares n (outcome q false) s.quadruples) (sum_of_squares n (outcome q true) s.quadruples) ≡ unit_total s) (sym h.led)
      (weights.outcomes n q c.opening c.moves h.of_qubits h.placed)

  module _ (d : Contents) (k : Sound n d) where
    pub same_then_equal : SameAmplitudes c.state d.state → c.state ≡ d.state
    same_then_equal a = unique c.state d.state h.normal k.normal a

    pub equal_then_same : c.state ≡ d.state → SameAmplitudes c.state d.state
    equal_then_same e = subst (λ (s : State). SameAmplitudes c.state s) e (states_reflexive c.state)

    pub same_answers : Decides (same_state c.state d.state) (SameAmplitudes c.state d.state)
    same_answers = ((λ e. equal_then_same ((same_decides c.state d.state).0 e)), (λ a. (same_decides c.state d.state).1 (same_then_equal a)))

    pub equal_products : c.opening ≡ d.opening → SameMatrix n (product_of n c.moves) (product_of n d.moves) → c.state ≡ d.state
    equal_products o m =
        h.led
        ∙ matrices.equal n c.opening c.moves d.moves h.of_qubits h.placed k.placed m
        ∙ ap (λ (x : Index). register n x d.moves) o
        ∙ sym k.led
