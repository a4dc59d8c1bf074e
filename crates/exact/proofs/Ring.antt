-- A normaliser for polynomial identities over ℤ: write the two sides as expressions over variables 0, 1, .. and cite `solve ρ e f refl`.
--     Expr, eval        polynomial expressions as data, and their value where variable i is element i of ρ
--     Poly, value       sums of integer multiples of monomials, a monomial being an ordered list of variables
--     normal, sound     the normal form, and that it has the expression's value
--     solve             equal normal forms: equal values
use Rattle.std.proofs.Common.{◌≡◌, ℕ, zero, suc, Bool, true, false, ◌&&◌, T, eqb, ltb, leb, List, [], ◌∷◌, get_or, ℤ, pos, negsuc, ◌+ℤ◌, ◌*ℤ◌, neg_ℤ, sym, refl, ap, ◌∙◌, ap₂, arith, eqb→eq}
use lib.IntN.{+ℤ_idl, +ℤ_idr, zero-*ℤ, *ℤ_comm, +ℤ_assoc}
use borrow.Author.Differences.{ints}
use Rattle.exact.proofs.Integers.{distrib_right, times_assoc}

pub data Expr : Type 0 where
  var : ℕ → Expr
  num : ℤ → Expr
  plus : Expr → Expr → Expr
  times : Expr → Expr → Expr
  minus : Expr → Expr

unfoldable pub eval : List ℤ → Expr → ℤ
eval ρ (var i) = get_or ρ i (pos 0)
eval ρ (num c) = c
eval ρ (plus e f) = eval ρ e +ℤ eval ρ f
eval ρ (times e f) = eval ρ e *ℤ eval ρ f
eval ρ (minus e) = neg_ℤ (eval ρ e)

pub data Poly : Type 0 where
  end : Poly
  term : ℤ → List ℕ → Poly → Poly

unfoldable pub product : List ℤ → List ℕ → ℤ
product ρ [] = pos 1
product ρ (i ∷ m) = get_or ρ i (pos 0) *ℤ product ρ m

unfoldable pub value : List ℤ → Poly → ℤ
unfolding product
value ρ end = pos 0
value ρ (term c m p) = c *ℤ product ρ m +ℤ value ρ p

-- ---- monomials
put_by : Bool → ℕ → ℕ → List ℕ → List ℕ → List ℕ
put_by true i j m r = i ∷ (j ∷ m)
put_by false i j m r = j ∷ r

unfoldable pub put : ℕ → List ℕ → List ℕ
unfolding put_by
put i [] = i ∷ []
put i (j ∷ m) = put_by (leb i j) i j m (put i m)

unfoldable pub joined : List ℕ → List ℕ → List ℕ
joined [] m = m
joined (i ∷ l) m = put i (joined l m)

unfoldable pub same : List ℕ → List ℕ → Bool
same [] [] = true
same [] (j ∷ m) = false
same (i ∷ l) [] = false
same (i ∷ l) (j ∷ m) = eqb i j && same l m

before_by : Bool → Bool → Bool → Bool
before_by true b r = r
before_by false b r = b

unfoldable pub before : List ℕ → List ℕ → Bool
unfolding before_by
before [] m = true
before (i ∷ l) [] = false
before (i ∷ l) (j ∷ m) = before_by (eqb i j) (ltb i j) (before l m)

-- ---- polynomials
placed : Bool → Bool → ℤ → List ℕ → ℤ → List ℕ → Poly → Poly → Poly
placed true b c m d n p r = term (c +ℤ d) n p
placed false true c m d n p r = term c m (term d n p)
placed false false c m d n p r = term d n r

unfoldable pub add_term : ℤ → List ℕ → Poly → Poly
unfolding placed same before
add_term c m end = term c m end
add_term c m (term d n p) = placed (same m n) (before m n) c m d n p (add_term c m p)

unfoldable pub add : Poly → Poly → Poly
unfolding add_term
add end q = q
add (term c m p) q = add_term c m (add p q)

unfoldable pub times_term : ℤ → List ℕ → Poly → Poly
unfolding add_term joined put
times_term c m end = end
times_term c m (term d n p) = add_term (c *ℤ d) (joined m n) (times_term c m p)

unfoldable pub multiplied : Poly → Poly → Poly
unfolding add times_term
multiplied end q = end
multiplied (term c m p) q = add (times_term c m q) (multiplied p q)

cleaned : ℤ → List ℕ → Poly → Poly
cleaned (pos zero) m r = r
cleaned (pos (suc n)) m r = term (pos (suc n)) m r
cleaned (negsuc n) m r = term (negsuc n) m r

unfoldable pub clean : Poly → Poly
unfolding cleaned
clean end = end
clean (term c m p) = cleaned c m (clean p)

unfoldable pub norm : Expr → Poly
unfolding add multiplied times_term
norm (var i) = term (pos 1) (i ∷ []) end
norm (num c) = term c [] end
norm (plus e f) = add (norm e) (norm f)
norm (times e f) = multiplied (norm e) (norm f)
norm (minus e) = times_term (negsuc 0) [] (norm e)

unfoldable pub normal : Expr → Poly
unfolding norm clean
normal e = clean (norm e)

-- ---- soundness
swap : (x y z : ℤ) → x +ℤ (y +ℤ z) ≡ y +ℤ (x +ℤ z)
swap x y z = omega (arith, ints)

times_swap : (x y z : ℤ) → x *ℤ (y *ℤ z) ≡ y *ℤ (x *ℤ z)
times_swap x y z = sym (times_assoc x y z) ∙ ap (λ (t : ℤ). t *ℤ z) (*ℤ_comm x y) ∙ times_assoc y x z

distrib_left : (a b c : ℤ) → a *ℤ (b +ℤ c) ≡ a *ℤ b +ℤ a *ℤ c
distrib_left a b c = *ℤ_comm a (b +ℤ c) ∙ distrib_right b c a ∙ ap₂ (λ (x y : ℤ). x +ℤ y) (*ℤ_comm b a) (*ℤ_comm c a)

zero_right : (a : ℤ) → a *ℤ pos 0 ≡ pos 0
zero_right a = *ℤ_comm a (pos 0) ∙ zero-*ℤ a

one_left : (a : ℤ) → pos 1 *ℤ a ≡ a
one_left a = omega (arith, ints)

one_right : (a : ℤ) → a *ℤ pos 1 ≡ a
one_right a = omega (arith, ints)

minus_is : (a : ℤ) → negsuc 0 *ℤ a ≡ neg_ℤ a
minus_is a = omega (arith, ints)

same_by : (i j : ℕ) (l m : List ℕ) (b : Bool) → eqb i j ≡ b → (T (same l m) → l ≡ m) → T (b && same l m) → ◌≡◌ {A = List ℕ} (i ∷ l) (j ∷ m)
same_by i j l m true e h u = ap₂ (λ (x : ℕ) (y : List ℕ). x ∷ y) (eqb→eq i j (rw e tt)) (h u)
same_by i j l m false e h u = absurd u

same_means : (l m : List ℕ) → T (same l m) → l ≡ m
unfolding same
same_means [] [] t = refl
same_means [] (j ∷ m) t = absurd t
same_means (i ∷ l) [] t = absurd t
same_means (i ∷ l) (j ∷ m) t = same_by i j l m (eqb i j) refl (λ v. same_means l m v) t

module _ (ρ : List ℤ) where
  put_by_is : (b : Bool) (i j : ℕ) (m r : List ℕ) → product ρ r ≡ get_or ρ i (pos 0) *ℤ product ρ m → product ρ (put_by b i j m r) ≡ get_or ρ i (pos 0) *ℤ (get_or ρ j (pos 0) *ℤ product ρ m)
  unfolding put_by product
  put_by_is true i j m r h = refl
  put_by_is false i j m r h = ap (λ (t : ℤ). get_or ρ j (pos 0) *ℤ t) h ∙ times_swap (get_or ρ j (pos 0)) (get_or ρ i (pos 0)) (product ρ m)

  put_is : (i : ℕ) (m : List ℕ) → product ρ (put i m) ≡ get_or ρ i (pos 0) *ℤ product ρ m
  unfolding put product
  put_is i [] = refl
  put_is i (j ∷ m) = put_by_is (leb i j) i j m (put i m) (put_is i m)

  joined_is : (l m : List ℕ) → product ρ (joined l m) ≡ product ρ l *ℤ product ρ m
  unfolding joined product
  joined_is [] m = sym (one_left (product ρ m))
  joined_is (i ∷ l) m = put_is i (joined l m) ∙ ap (λ (t : ℤ). get_or ρ i (pos 0) *ℤ t) (joined_is l m) ∙ sym (times_assoc (get_or ρ i (pos 0)) (product ρ l) (product ρ m))

  placed_is : (b b' : Bool) (c : ℤ) (m : List ℕ) (d : ℤ) (n : List ℕ) (p r : Poly) → (T b → m ≡ n) → value ρ r ≡ c *ℤ product ρ m +ℤ value ρ p
      → value ρ (placed b b' c m d n p r) ≡ c *ℤ product ρ m +ℤ (d *ℤ product ρ n +ℤ value ρ p)
  unfolding placed value
  placed_is true b' c m d n p r e h = ap (λ (t : ℤ). t +ℤ value ρ p) (distrib_right c d (product ρ n)) ∙ +ℤ_assoc (c *ℤ product ρ n) (d *ℤ product ρ n) (value ρ p)
      ∙ ap (λ (t : List ℕ). c *ℤ product ρ t +ℤ (d *ℤ product ρ n +ℤ value ρ p)) (sym (e tt))
  placed_is false true c m d n p r e h = refl
  placed_is false false c m d n p r e h = ap (λ (t : ℤ). d *ℤ product ρ n +ℤ t) h ∙ swap (d *ℤ product ρ n) (c *ℤ product ρ m) (value ρ p)

  add_term_is : (c : ℤ) (m : List ℕ) (p : Poly) → value ρ (add_term c m p) ≡ c *ℤ product ρ m +ℤ value ρ p
  unfolding add_term value
  add_term_is c m end = refl
  add_term_is c m (term d n p) = placed_is (same m n) (before m n) c m d n p (add_term c m p) (same_means m n) (add_term_is c m p)

  add_is : (p q : Poly) → value ρ (add p q) ≡ value ρ p +ℤ value ρ q
  unfolding add value
  add_is end q = sym (+ℤ_idl (value ρ q))
  add_is (term c m p) q = add_term_is c m (add p q) ∙ ap (λ (t : ℤ). c *ℤ product ρ m +ℤ t) (add_is p q) ∙ sym (+ℤ_assoc (c *ℤ product ρ m) (value ρ p) (value ρ q))

  four : (c d x y : ℤ) → (c *ℤ d) *ℤ (x *ℤ y) ≡ (c *ℤ x) *ℤ (d *ℤ y)
  four c d x y = times_assoc c d (x *ℤ y) ∙ ap (λ (t : ℤ). c *ℤ t) (times_swap d x y) ∙ sym (times_assoc c x (d *ℤ y))

  times_term_is : (c : ℤ) (m : List ℕ) (p : Poly) → value ρ (times_term c m p) ≡ (c *ℤ product ρ m) *ℤ value ρ p
  unfolding times_term value
  times_term_is c m end = sym (zero_right (c *ℤ product ρ m))
  times_term_is c m (term d n p) =
      add_term_is (c *ℤ d) (joined m n) (times_term c m p)
      ∙ ap₂ (λ (s t : ℤ). s +ℤ t) (ap (λ (t : ℤ). (c *ℤ d) *ℤ t) (joined_is m n) ∙ four c d (product ρ m) (product ρ n)) (times_term_is c m p)
      ∙ sym (distrib_left (c *ℤ product ρ m) (d *ℤ product ρ n) (value ρ p))

  multiplied_is : (p q : Poly) → value ρ (multiplied p q) ≡ value ρ p *ℤ value ρ q
  unfolding multiplied value
  multiplied_is end q = sym (zero-*ℤ (value ρ q))
  multiplied_is (term c m p) q =
      add_is (times_term c m q) (multiplied p q)
      ∙ ap₂ (λ (s t : ℤ). s +ℤ t) (times_term_is c m q) (multiplied_is p q)
      ∙ sym (distrib_right (c *ℤ product ρ m) (value ρ p) (value ρ q))

  cleaned_is : (c : ℤ) (m : List ℕ) (r : Poly) → value ρ (cleaned c m r) ≡ c *ℤ product ρ m +ℤ value ρ r
  unfolding cleaned value
  cleaned_is (pos zero) m r = sym (ap (λ (t : ℤ). t +ℤ value ρ r) (zero-*ℤ (product ρ m)) ∙ +ℤ_idl (value ρ r))
  cleaned_is (pos (suc n)) m r = refl
  cleaned_is (negsuc n) m r = refl

  clean_is : (p : Poly) → value ρ (clean p) ≡ value ρ p
  unfolding clean value
  clean_is end = refl
  clean_is (term c m p) = cleaned_is c m (clean p) ∙ ap (λ (t : ℤ). c *ℤ product ρ m +ℤ t) (clean_is p)

  norm_is : (e : Expr) → value ρ (norm e) ≡ eval ρ e
  unfolding norm value eval product
  norm_is (var i) = +ℤ_idr (pos 1 *ℤ (get_or ρ i (pos 0) *ℤ pos 1)) ∙ one_left (get_or ρ i (pos 0) *ℤ pos 1) ∙ one_right (get_or ρ i (pos 0))
  norm_is (num c) = +ℤ_idr (c *ℤ pos 1) ∙ one_right c
  norm_is (plus e f) = add_is (norm e) (norm f) ∙ ap₂ (λ (s t : ℤ). s +ℤ t) (norm_is e) (norm_is f)
  norm_is (times e f) = multiplied_is (norm e) (norm f) ∙ ap₂ (λ (s t : ℤ). s *ℤ t) (norm_is e) (norm_is f)
  norm_is (minus e) = times_term_is (negsuc 0) [] (norm e) ∙ minus_is (value ρ (norm e)) ∙ ap neg_ℤ (norm_is e)

  pub sound : (e : Expr) → value ρ (normal e) ≡ eval ρ e
  unfolding normal
  sound e = clean_is (norm e) ∙ norm_is e

  pub solve : (e f : Expr) → normal e ≡ normal f → eval ρ e ≡ eval ρ f
  solve e f h = sym (sound e) ∙ ap (value ρ) h ∙ sound f
