-- What a record holds after a call was held before, was made by the call's plan, or is constant.
use Rattle.std.proofs.Common.{◌≡◌, ℕ, zero, suc, ◌^◌, Bool, true, false, cond, ◌||◌, List, [], ◌∷◌, ◌++◌, length, take, drop, replicate, sym, ap, ◌∙◌, subst, ⊎_elim}
use mathlib.Core.Bool.{false≢true}
use Rattle.std.proofs.lemmas.Bool.{cases_Bool, or_left, or_right}
use Rattle.exact.specs.Indices.{Index, bit}
use Rattle.exact.specs.States.{State, normal_form, width}
use Rattle.exact.proofs.Indices.{same_self, same_equal}
use Rattle.exact.proofs.Widths.{at_least_one}
use Rattle.functions.specs.Tables.{Table, constant, literal}
use Rattle.functions.specs.Sets.{same, among}
use Rattle.functions.proofs.Sets.{among_append}
use Rattle.adder.specs.Slices.{turned, slice_sum, next_carry, slice_plan}
use Rattle.matrices.specs.Registers.{Move, moved, opened, MovePlaced}
use Rattle.slicing.specs.declared.Component.{Component}
use Rattle.slicing.specs.declared.Component.TheVariants.{A, B, C, D}
use Rattle.slicing.specs.TwosComplement.{repeated}
use Rattle.slicing.specs.Columns.{Column, Columns}
use Rattle.slicing.specs.Operations.{all_repeated, for_each, zero_column, fixed_column, flip_plan, sums_from, sums_plan, added, addition_plan}
use Rattle.slicing.specs.Divisions.{divisible, root_sum, summed, summed_plan, divided, reduced_columns, reduction_plan}
use Rattle.slicing.specs.Trimming.{trimmed_width, trimmed}
use Rattle.recipes.specs.declared.terms.Operand.{Operand}
use Rattle.recipes.specs.declared.terms.Operand.TheVariants.{Zero, Old, Fixed, Flipped, Chosen, Controlled}
use Rattle.recipes.specs.declared.terms.Term.{Term}
use Rattle.recipes.specs.declared.terms.Term.TheVariants.{Just, Add}
use Rattle.recipes.specs.Recipes.{gate_term, target, controls, controls_product, operand_column, first_carry, term_column, new_columns, power_after, moved_columns}
use Rattle.recipes.specs.Plans.{columns_of_state, slices_of_state, narrowed, opening_from, product_from, opening_plan, opening_product, opened_columns, literals_plan, operand_plan, term_plan, move_plan, gate_plan}
use Rattle.recipes.specs.Laws.{AllAmong, constants}
use Rattle.recipes.proofs.Applied.{moved_columns_are, state_stands}
use Rattle.recipes.proofs.Openings.{opened_columns_are}

-- ---- lists within lists
none_within : (u : List Table) → AllAmong [] u
unfolding among AllAmong
none_within u f h = absurd (false≢true h)

more_within : (g : Table) (a u : List Table) → among g u ≡ true → AllAmong a u → AllAmong (g ∷ a) u
unfolding among AllAmong
more_within g a u i h f e = ⊎_elim
    (λ (t : same f g ≡ true). subst (λ (k : Table). among k u ≡ true) (sym (same_equal f g t)) i)
    (λ (t : same f g ≡ false). h f (ap (λ (b : Bool). b || among f a) (sym t) ∙ e))
    (cases_Bool (same f g))

head_within : (g : Table) (a u : List Table) → AllAmong (g ∷ a) u → among g u ≡ true
unfolding among AllAmong
head_within g a u h = h g (or_left (same g g) (among g a) (same_self g))

tail_within : (g : Table) (a u : List Table) → AllAmong (g ∷ a) u → AllAmong a u
unfolding among AllAmong
tail_within g a u h f e = h f (or_right (same f g) (among f a) e)

first_within : (a b u : List Table) → AllAmong (a ++ b) u → AllAmong a u
unfolding AllAmong
first_within a b u h f e = h f (among_append f a b ∙ or_left (among f a) (among f b) e)

second_within : (a b u : List Table) → AllAmong (a ++ b) u → AllAmong b u
unfolding AllAmong
second_within a b u h f e = h f (among_append f a b ∙ or_right (among f a) (among f b) e)

join_within : (a b u : List Table) → AllAmong a u → AllAmong b u → AllAmong (a ++ b) u
join_within [] b u h k = k
join_within (g ∷ a) b u h k = more_within g (a ++ b) u (head_within g a u h) (join_within a b u (tail_within g a u h) k)

itself_within : (a : List Table) → AllAmong a a
unfolding AllAmong
itself_within a f e = e

-- one of four plans, and the rest after them
one_within : (p : Component → List Table) (r u : List Table) → AllAmong (for_each p r) u → (k : Component) → AllAmong (p k) u
one_within p r u h A = first_within (p A) _ u h
one_within p r u h B = first_within (p B) _ u (second_within (p A) _ u h)
one_within p r u h C = first_within (p C) _ u (second_within (p B) _ u (second_within (p A) _ u h))
one_within p r u h D = first_within (p D) r u (second_within (p C) _ u (second_within (p B) _ u (second_within (p A) _ u h)))

rest_within : (p : Component → List Table) (r u : List Table) → AllAmong (for_each p r) u → AllAmong r u
rest_within p r u h = second_within (p D) r u (second_within (p C) _ u (second_within (p B) _ u (second_within (p A) _ u h)))

four_within : (p : Component → List Table) (r u : List Table) → ((k : Component) → AllAmong (p k) u) → AllAmong r u → AllAmong (for_each p r) u
four_within p r u h k = join_within (p A) _ u (h A) (join_within (p B) _ u (h B) (join_within (p C) _ u (h C) (join_within (p D) r u (h D) k)))

-- ---- operations
repeated_within : (ss u : List Table) → AllAmong ss u → AllAmong (repeated ss) u
unfolding repeated
repeated_within [] u h = none_within u
repeated_within (f ∷ []) u h = more_within f (f ∷ []) u (head_within f [] u h) h
repeated_within (f ∷ g ∷ ss) u h = more_within f (repeated (g ∷ ss)) u (head_within f (g ∷ ss) u h) (repeated_within (g ∷ ss) u (tail_within f (g ∷ ss) u h))

drop_within : (ss u : List Table) → AllAmong ss u → AllAmong (drop 1 ss) u
drop_within [] u h = none_within u
drop_within (f ∷ ss) u h = tail_within f ss u h

take_within : (w : ℕ) (ss u : List Table) → AllAmong ss u → AllAmong (take w ss) u
take_within zero ss u h = none_within u
take_within (suc w) [] u h = none_within u
take_within (suc w) (f ∷ ss) u h = more_within f (take w ss) u (head_within f ss u h) (take_within w ss u (tail_within f ss u h))

zeros_within : (n w : ℕ) (u : List Table) → among (constant n false) u ≡ true → AllAmong (zero_column n w) u
unfolding zero_column
zeros_within n zero u h = none_within u
zeros_within n (suc w) u h = more_within (constant n false) (replicate w (constant n false)) u h (zeros_within n w u h)

sums_within : (n : ℕ) (e c : Table) (ps qs : Column) (u : List Table) → AllAmong (sums_plan n e c ps qs) u → AllAmong (sums_from n e c ps qs) u
unfolding sums_from sums_plan slice_plan
sums_within n e c [] qs u h = none_within u
sums_within n e c (p ∷ ps) [] u h = none_within u
sums_within n e c (p ∷ ps) (q ∷ qs) u h =
    let k : AllAmong (slice_sum n p q e c ∷ next_carry n p q e c ∷ sums_plan n e (next_carry n p q e c) ps qs) u = tail_within (turned n q e) _ u h in
    more_within (slice_sum n p q e c) _ u (head_within (slice_sum n p q e c) _ u k)
    (sums_within n e (next_carry n p q e c) ps qs u (tail_within (next_carry n p q e c) _ u (tail_within (slice_sum n p q e c) _ u k)))

added_within : (n : ℕ) (e : Table) (ps qs : Column) (u : List Table) → AllAmong (addition_plan n e ps qs) u → AllAmong (added n e ps qs) u
unfolding added addition_plan
added_within n e ps qs u h = sums_within n e e ps qs u (tail_within e (sums_plan n e e ps qs) u h)

-- ---- terms
module _ (n q : ℕ) (c : Table) (x : Columns) (u : List Table) (none : among (constant n false) u ≡ true) (old : (k : Component) → AllAmong (x k) u) where
  operand_within : (o : Operand) → AllAmong (operand_plan n q c x o) u → AllAmong (operand_column n q c x o) u
  unfolding operand_plan operand_column flip_plan
  operand_within Zero h = zeros_within n (length (x A)) u none
  operand_within (Old k) h = old k
  operand_within (Fixed k b) h = h
  operand_within (Flipped k) h = second_within (fixed_column n q true (x k)) _ u (second_within (fixed_column n q false (x k)) _ u h)
  operand_within (Chosen k l) h = h
  operand_within (Controlled k) h = second_within (flip_plan n q (x k)) _ u h

  term_within : (m : Term) → AllAmong (term_plan n q c x m) u → AllAmong (term_column n q c x m) u
  unfolding term_plan term_column
  term_within (Just o) h = operand_within o h
  term_within (Add o p e) h = added_within n (first_carry n q c e) (operand_column n q c x o) (operand_column n q c x p) u (second_within (operand_plan n q c x p) _ u (second_within (operand_plan n q c x o) _ u h))

-- ---- the normal form
divided_within : (n : ℕ) (x : Columns) (k : Component) (u : List Table) → AllAmong (summed_plan n (all_repeated x) (root_sum k)) u → AllAmong (divided n x k) u
unfolding divided summed summed_plan
divided_within n x k u h = drop_within _ u (added_within n (constant n (root_sum k).minus) (repeated (x (root_sum k).first)) (repeated (x (root_sum k).second)) u h)

reduced_within : (n k : ℕ) (x : Columns) (u : List Table) → ((l : Component) → AllAmong (x l) u) → AllAmong (reduction_plan n k x) u → (l : Component) → AllAmong (reduced_columns n k x l) u
unfolding reduced_columns reduction_plan
reduced_within n zero x u h p = h
reduced_within n (suc k) x u h p = go (divisible n x) (tail_within _ _ u (tail_within _ _ u p)) (λ i j. reduced_within n k (divided n x) u i j)
  where
    go : (b : Bool) → AllAmong (cond b (for_each (λ l. summed_plan n (all_repeated x) (root_sum l)) (reduction_plan n k (divided n x))) []) u
        → (((l : Component) → AllAmong (divided n x l) u) → AllAmong (reduction_plan n k (divided n x)) u → (l : Component) → AllAmong (reduced_columns n k (divided n x) l) u)
        → (l : Component) → AllAmong (cond b (reduced_columns n k (divided n x)) x l) u
    go true t ih = ih (λ l. divided_within n x l u (one_within (λ l. summed_plan n (all_repeated x) (root_sum l)) (reduction_plan n k (divided n x)) u t l)) (rest_within (λ l. summed_plan n (all_repeated x) (root_sum l)) (reduction_plan n k (divided n x)) u t)
    go false t ih = h

-- ---- gates
module _ (n : ℕ) (m : Move) (k : ℕ) (x : Columns) (u : List Table) (none : among (constant n false) u ≡ true) (old : (l : Component) → AllAmong (x l) u) (made : AllAmong (move_plan n m k x) u) where
  terms_made : AllAmong (for_each (λ c. term_plan n (target m.qubits) (controls_product n m) (all_repeated x) (gate_term m.gate c)) (reduction_plan n (power_after m k) (new_columns n m x))) u
  unfolding move_plan
  terms_made = second_within (literals_plan n (controls m.qubits)) _ u (tail_within (literal n (target m.qubits)) _ u made)

  new_within : (l : Component) → AllAmong (new_columns n m x l) u
  unfolding new_columns
  new_within l = term_within n (target m.qubits) (controls_product n m) (all_repeated x) u none (λ c. repeated_within (x c) u (old c)) (gate_term m.gate l)
      (one_within (λ c. term_plan n (target m.qubits) (controls_product n m) (all_repeated x) (gate_term m.gate c)) _ u terms_made l)

  moved_within : (l : Component) → AllAmong (moved_columns n m k x l) u
  unfolding moved_columns
  moved_within = reduced_within n (power_after m k) (new_columns n m x) u new_within
      (rest_within (λ c. term_plan n (target m.qubits) (controls_product n m) (all_repeated x) (gate_term m.gate c)) _ u terms_made)

trimmed_within : (w : ℕ) (x : Columns) (u : List Table) (l : Component) → AllAmong (x l) u → AllAmong (trimmed w x l) u
unfolding trimmed
trimmed_within w x u l h = take_within (trimmed_width x w) (x l) u h

pub gate_enough : (n : ℕ) (m : Move) (s : State) → length s.quadruples ≡ 2 ^ n → MovePlaced n m → AllAmong (slices_of_state n (normal_form (moved n m s))) (constants n ++ (slices_of_state n s ++ gate_plan n m s))
unfolding slices_of_state gate_plan
gate_enough n m s l p =
    let x : Columns = columns_of_state n s in
    let w : ℕ = width s.quadruples in
    let u : List Table = constants n ++ (for_each x [] ++ move_plan n m s.power.0 x) in
    let rest : AllAmong (for_each x [] ++ move_plan n m s.power.0 x) u = second_within (constants n) _ u (itself_within u) in
    let old : ((k : Component) → AllAmong (x k) u) = one_within x [] u (first_within (for_each x []) _ u rest) in
    four_within (columns_of_state n (normal_form (moved n m s))) [] u
    (λ k. subst (λ (ss : Column). AllAmong ss u) (moved_columns_are n w m x s (at_least_one s.quadruples) p (state_stands n s l) k)
    (trimmed_within (suc w) (moved_columns n m s.power.0 x) u k
    (moved_within n m s.power.0 x u (head_within (constant n false) (constant n true ∷ (for_each x [] ++ move_plan n m s.power.0 x)) u (itself_within u)) old (second_within (for_each x []) _ u rest) k)))
    (none_within u)

-- ---- openings
product_made : (n : ℕ) (x : Index) (q : ℕ) (f : Table) (u : List Table) → among f u ≡ true → AllAmong (opening_from n x q f) u → among (product_from n x q f) u ≡ true
unfolding opening_from product_from
product_made n x zero f u h p = h
product_made n x (suc q) f u h p =
    let r : AllAmong (narrowed n f q (bit x q) ∷ opening_from n x q (narrowed n f q (bit x q))) u = tail_within (literal n q) _ u p in
    product_made n x q (narrowed n f q (bit x q)) u (head_within (narrowed n f q (bit x q)) _ u r) (tail_within (narrowed n f q (bit x q)) _ u r)

opened_within : (n : ℕ) (x : Index) (u : List Table) → among (constant n false) u ≡ true → among (opening_product n x) u ≡ true → (k : Component) → AllAmong (opened_columns n x k) u
opened_within n x u none made A = zeros_within n 2 u none
opened_within n x u none made B = zeros_within n 2 u none
opened_within n x u none made C = zeros_within n 2 u none
opened_within n x u none made D = more_within (opening_product n x) (constant n false ∷ []) u made (more_within (constant n false) [] u none (none_within u))

pub opening_enough : (n : ℕ) (x : Index) → length x ≡ n → AllAmong (slices_of_state n (opened n x)) (constants n ++ opening_plan n x)
unfolding slices_of_state opening_plan opening_product
opening_enough n x l =
    let u : List Table = constants n ++ opening_from n x n (constant n true) in
    let more : AllAmong (constant n true ∷ opening_from n x n (constant n true)) u = tail_within (constant n false) (constant n true ∷ opening_from n x n (constant n true)) u (itself_within u) in
    let none : among (constant n false) u ≡ true = head_within (constant n false) (constant n true ∷ opening_from n x n (constant n true)) u (itself_within u) in
    let made : among (product_from n x n (constant n true)) u ≡ true =
    product_made n x n (constant n true) u (head_within (constant n true) (opening_from n x n (constant n true)) u more) (tail_within (constant n true) (opening_from n x n (constant n true)) u more) in
    four_within (columns_of_state n (opened n x)) [] u
    (λ k. subst (λ (ss : Column). AllAmong ss u) (opened_columns_are n x l k) (opened_within n x u none made k))
    (none_within u)
