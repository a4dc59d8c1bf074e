-- The table of recipes and the table of matrices agree: at every setting of a gate's qubits, the recipe's four terms are the
-- row of the matrix. Both are polynomials in the old amplitudes' components, so that their normal forms decide.
use Rattle.std.proofs.Common.{◌≡◌, ◌*◌, Bool, cond, not, List, [], ◌∷◌, length, get_or, ℤ, pos, ◌+ℤ◌, ◌-ℤ◌, sym, refl, ap, ◌∙◌}
use Rattle.exact.specs.declared.Quadruple.{Quadruple}
use Rattle.exact.specs.Indices.{Index, number, listing, total, at_index}
use Rattle.exact.proofs.Ring.{Expr, num, plus, eval, Poly, end, normal, solve}
use Rattle.exact.proofs.Expressions.{QuadrupleExpr, vars, sub, eval_quadruple, parts}
use Rattle.exact.proofs.Listings.{at_listing}
use Rattle.gates.specs.declared.Gate.{Gate}
use Rattle.gates.specs.declared.Gate.TheVariants.{X, Z, H, S, T, Rx, Ry, Cx, Cz, Ccx}
use Rattle.gates.specs.Arity.{qubits_of}
use Rattle.matrices.specs.Gates.{entry}
use Rattle.matrices.proofs.Small.{small, small_expr}
use Rattle.matrices.proofs.Computed.{vars_at, small_at}
use Rattle.slicing.specs.declared.Component.{Component}
use Rattle.slicing.specs.declared.Component.TheVariants.{A, B, C, D}
use Rattle.slicing.specs.Components.{component}
use Rattle.slicing.proofs.Operations.{cond_map}
use Rattle.recipes.specs.declared.terms.Operand.{Operand}
use Rattle.recipes.specs.declared.terms.Operand.TheVariants.{Zero, Old, Fixed, Flipped, Chosen, Controlled}
use Rattle.recipes.specs.declared.terms.Term.{Term}
use Rattle.recipes.specs.declared.terms.Term.TheVariants.{Just, Add}
use Rattle.recipes.specs.Recipes.{gate_term}
use Rattle.recipes.proofs.TermValues.{Arithmetic, integers, picked, subtracts, term_value}
use Rattle.recipes.proofs.Settings.{last_bit, others_on, with_last, length_with_last}

-- ---- terms over expressions
abbrev component_expr : Component → QuadrupleExpr → Expr
component_expr A e = e.a
component_expr B e = e.b
component_expr C e = e.c
component_expr D e = e.d

abbrev expressions : Arithmetic Expr
expressions = record { none = num (pos 0); sum = plus; difference = sub }

module _ (ρ : List ℤ) (t c : Bool) (here : Component → Expr) (side : Bool → Component → Expr) where
  eval_picked : (o : Operand) → eval ρ (picked expressions t c here side o) ≡ picked integers t c (λ k. eval ρ (here k)) (λ b k. eval ρ (side b k)) o
  unfolding picked eval
  eval_picked Zero = refl
  eval_picked (Old k) = refl
  eval_picked (Fixed k b) = refl
  eval_picked (Flipped k) = refl
  eval_picked (Chosen k l) = cond_map (eval ρ) t (here k) (here l)
  eval_picked (Controlled k) = cond_map (eval ρ) c (side (not t) k) (here k)

  eval_term : (m : Term) → eval ρ (term_value expressions t c here side m) ≡ term_value integers t c (λ k. eval ρ (here k)) (λ b k. eval ρ (side b k)) m
  unfolding term_value eval
  eval_term (Just o) = eval_picked o
  eval_term (Add o p e) =
      cond_map (eval ρ) (subtracts t c e) (sub (picked expressions t c here side o) (picked expressions t c here side p)) (plus (picked expressions t c here side o) (picked expressions t c here side p))
      ∙ (λ i. cond (subtracts t c e) (eval_picked o i -ℤ eval_picked p i) (eval_picked o i +ℤ eval_picked p i))

eval_component : (ρ : List ℤ) (e : QuadrupleExpr) (k : Component) → eval ρ (component_expr k e) ≡ component k (eval_quadruple ρ e)
unfolding eval_quadruple
eval_component ρ e A = refl
eval_component ρ e B = refl
eval_component ρ e C = refl
eval_component ρ e D = refl

-- ---- both tables over expressions, at the setting r
abbrev recipe_expr : Gate → Index → Component → Expr
recipe_expr g r k = term_value expressions (last_bit r) (others_on r) (λ l. component_expr l (vars (4 * number r))) (λ b l. component_expr l (vars (4 * number (with_last r b)))) (gate_term g k)

abbrev matrix_expr : Gate → Index → Component → Expr
matrix_expr g r k = component_expr k (small_expr g r)

abbrev normals : (Component → Expr) → List Poly
normals e = normal (e A) ∷ normal (e B) ∷ normal (e C) ∷ normal (e D) ∷ []

-- at all settings; a further gate is a further line
agree : (g : Gate) → listing (qubits_of g) (λ r. normals (recipe_expr g r)) ≡ listing (qubits_of g) (λ r. normals (matrix_expr g r))
unfolding listing total number entry normal last_bit others_on with_last picked subtracts term_value
agree X = refl
agree Z = refl
agree H = refl
agree S = refl
agree T = refl
agree Rx = refl
agree Ry = refl
agree Cx = refl
agree Cz = refl
agree Ccx = refl

normals_at : (e f : Component → Expr) → normals e ≡ normals f → (k : Component) → normal (e k) ≡ normal (f k)
normals_at e f h A = ap (λ (l : List Poly). get_or l 0 end) h
normals_at e f h B = ap (λ (l : List Poly). get_or l 1 end) h
normals_at e f h C = ap (λ (l : List Poly). get_or l 2 end) h
normals_at e f h D = ap (λ (l : List Poly). get_or l 3 end) h

agree_at : (g : Gate) (r : Index) → length r ≡ qubits_of g → (k : Component) → normal (recipe_expr g r k) ≡ normal (matrix_expr g r k)
agree_at g r l = normals_at (recipe_expr g r) (matrix_expr g r)
    (sym (at_listing [] (qubits_of g) (λ s. normals (recipe_expr g s)) r l)
    ∙ ap (λ (t : List (List Poly)). at_index [] t r) (agree g)
    ∙ at_listing [] (qubits_of g) (λ s. normals (matrix_expr g s)) r l)

-- ---- and so over the integers
pub recipe_is_matrix : (g : Gate) (u : Index → Quadruple) (r : Index) → length r ≡ qubits_of g → (k : Component)
    → term_value integers (last_bit r) (others_on r) (λ l. component l (u r)) (λ b l. component l (u (with_last r b))) (gate_term g k) ≡ component k (small g u r)
recipe_is_matrix g u r l k =
    let ρ : List ℤ = parts (listing (qubits_of g) u) in
    (λ i. term_value integers (last_bit r) (others_on r) (λ m. old m r l i) (λ b m. old m (with_last r b) (length_with_last r b ∙ l) i) (gate_term g k))
    ∙ sym (eval_term ρ (last_bit r) (others_on r) (λ m. component_expr m (vars (4 * number r))) (λ b m. component_expr m (vars (4 * number (with_last r b)))) (gate_term g k))
    ∙ solve ρ (recipe_expr g r k) (matrix_expr g r k) (agree_at g r l k)
    ∙ eval_component ρ (small_expr g r) k
    ∙ ap (component k) (small_at g u r)
  where
    old : (m : Component) (s : Index) → length s ≡ qubits_of g → component m (u s) ≡ eval (parts (listing (qubits_of g) u)) (component_expr m (vars (4 * number s)))
    old m s e = sym (eval_component (parts (listing (qubits_of g) u)) (vars (4 * number s)) m ∙ ap (component m) (vars_at g u s e))
