-- Chains as such: a walk is not changed by what stands outside, and a handle more at a head.
use Rattle.std.proofs.Common.{◌≡◌, ℕ, zero, suc, ◌<◌, ◌≤◌, ◌⊎◌, sym, refl, ap, ◌∙◌, subst, inl, inr, arith}
use Rattle.std.proofs.lemmas.Bool.{cases_eq, cases_lt}
use Rattle.node_table.specs.Chains.{walk, Chained}

-- past its end a walk stays there
pub walk_end : (next : ℕ → ℕ) → ((h : ℕ) → h < 2 → next h < 2) → (k p : ℕ) → p < 2 → walk next k p < 2
unfolding walk
walk_end next e zero p l = l
walk_end next e (suc k) p l = walk_end next e k (next p) (e p l)

-- a walk that ends elsewhere than it begins goes on from the next
pub walk_on : (next : ℕ → ℕ) (k p x : ℕ) → walk next k p ≡ x → (p ≡ x → ⊥) → (j : ℕ) × (k ≡ suc j) × (walk next j (next p) ≡ x)
unfolding walk
walk_on next zero p x e ne = absurd (ne e)
walk_on next (suc k) p x e ne = (k, refl, e)

-- two walks that agree at each handle that is In
module _ (In : ℕ → Type 0) (next next' : ℕ → ℕ) (link_in : (h : ℕ) → In h → 2 ≤ next h → In (next h)) (same : (h : ℕ) → In h → next' h ≡ next h) (ends : (h : ℕ) → h < 2 → next h < 2) where
  walk_step : (k p h : ℕ) → 2 ≤ h → (2 ≤ p → In p) → ((q : ℕ) → (2 ≤ q → In q) → walk next k q ≡ h → walk next' k q ≡ h) → walk next k (next p) ≡ h → walk next' k (next' p) ≡ h
  walk_step k p h l i ih e = go (cases_lt p 2)
    where
      past : walk next k (next p) < 2 → ⊥
      past y = omega arith

      go : (p < 2) ⊎ (2 ≤ p) → walk next' k (next' p) ≡ h
      go (inl x) = absurd (past (walk_end next ends k (next p) (ends p x)))
      go (inr x) = rw (same p (i x)) (ih (next p) (link_in p (i x)) e)

  pub walk_same : (k p h : ℕ) → 2 ≤ h → (2 ≤ p → In p) → walk next k p ≡ h → walk next' k p ≡ h
  unfolding walk
  walk_same zero p h l i e = e
  walk_same (suc k) p h l i e = walk_step k p h l i (λ q j x. walk_same k q h l j x) e

-- more steps are allowed
pub chained_more : (bound bound' : ℕ) (In : ℕ → Type 0) (limit : ℕ) (next heads chain : ℕ → ℕ) → bound ≤ bound' → Chained bound In limit next heads chain → Chained bound' In limit next heads chain
chained_more bound bound' In limit next heads chain l x = record {
  head_in = x.head_in;
  link_in = x.link_in;
  ends = x.ends;
  found = λ h i. let f = x.found h i in (f.0, omega (arith, f.1), f.2);
}

-- other words for the same chains
pub record Agree (limit : ℕ) (In In' : ℕ → Type 0) (next next' heads heads' chain chain' : ℕ → ℕ) : Type 0 where
  pub to : (h : ℕ) → In h → In' h
  pub back : (h : ℕ) → In' h → In h
  pub two : (h : ℕ) → In h → 2 ≤ h
  pub next_same : (h : ℕ) → In h → next' h ≡ next h
  pub next_end : (h : ℕ) → h < 2 → next' h < 2
  pub heads_same : (b : ℕ) → b < limit → heads' b ≡ heads b
  pub chain_same : (h : ℕ) → In h → chain' h ≡ chain h
  pub chain_in : (h : ℕ) → In h → chain h < limit

pub chained_agree : (bound limit : ℕ) (In In' : ℕ → Type 0) (next next' heads heads' chain chain' : ℕ → ℕ) → Agree limit In In' next next' heads heads' chain chain' → Chained bound In limit next heads chain → Chained bound In' limit next' heads' chain'
chained_agree bound limit In In' next next' heads heads' chain chain' a x = record {
  head_in = λ b l m. let e = a.heads_same b l in subst In' (sym e) (a.to (heads b) (x.head_in b l (subst (λ (y : ℕ). 2 ≤ y) e m)));
  link_in = λ h i m. let e = a.next_same h (a.back h i) in subst In' (sym e) (a.to (next h) (x.link_in h (a.back h i) (subst (λ (y : ℕ). 2 ≤ y) e m)));
  ends = a.next_end;
  found = λ h i. found' h (a.back h i);
}
  where
    found' : (h : ℕ) → In h → (k : ℕ) × (k < bound) × (walk next' k (heads' (chain' h)) ≡ h)
    found' h i =
        let f = x.found h i in
        let e : heads' (chain' h) ≡ heads (chain h) = ap heads' (a.chain_same h i) ∙ a.heads_same (chain h) (a.chain_in h i) in
        (f.0, f.1, ap (walk next' f.0) e ∙ walk_same In next next' x.link_in a.next_same x.ends f.0 (heads (chain h)) h (a.two h i) (x.head_in (chain h) (a.chain_in h i)) f.2)

-- c comes to the head of chain b
pub record Attach (limit : ℕ) (In In' : ℕ → Type 0) (next next' heads heads' chain chain' : ℕ → ℕ) (c b : ℕ) : Type 0 where
  pub cases : (h : ℕ) → In' h → (In h) ⊎ (h ≡ c)
  pub old : (h : ℕ) → In h → In' h
  pub new : In' c
  pub two : (h : ℕ) → In h → 2 ≤ h
  pub next_old : (h : ℕ) → In h → next' h ≡ next h
  pub next_end : (h : ℕ) → h < 2 → next' h < 2
  pub next_new : next' c ≡ heads b
  pub within : b < limit
  pub head_new : heads' b ≡ c
  pub head_old : (a : ℕ) → (a ≡ b → ⊥) → heads' a ≡ heads a
  pub chain_new : chain' c ≡ b
  pub chain_old : (h : ℕ) → In h → chain' h ≡ chain h
  pub chain_in : (h : ℕ) → In h → chain h < limit

module _ (bound limit : ℕ) (In In' : ℕ → Type 0) (next next' heads heads' chain chain' : ℕ → ℕ) (c b : ℕ) (x : Chained bound In limit next heads chain) (a : Attach limit In In' next next' heads heads' chain chain' c b) where
  head_in' : (d : ℕ) → d < limit → 2 ≤ heads' d → In' (heads' d)
  head_in' d l m = go (cases_eq d b)
    where
      go : (d ≡ b) ⊎ (d ≡ b → ⊥) → In' (heads' d)
      go (inl e) = subst In' (sym (ap heads' e ∙ a.head_new)) a.new
      go (inr ne) =
          let q = a.head_old d ne in
          subst In' (sym q) (a.old (heads d) (x.head_in d l (subst (λ (y : ℕ). 2 ≤ y) q m)))

  link_in' : (h : ℕ) → In' h → 2 ≤ next' h → In' (next' h)
  link_in' h i m = go (a.cases h i)
    where
      go : (In h) ⊎ (h ≡ c) → In' (next' h)
      go (inl j) =
          let q = a.next_old h j in
          subst In' (sym q) (a.old (next h) (x.link_in h j (subst (λ (y : ℕ). 2 ≤ y) q m)))
      go (inr e) =
          let q = ap next' e ∙ a.next_new in
          subst In' (sym q) (a.old (heads b) (x.head_in b a.within (subst (λ (y : ℕ). 2 ≤ y) q m)))

  found' : (h : ℕ) → In' h → (k : ℕ) × (k < suc bound) × (walk next' k (heads' (chain' h)) ≡ h)
  unfolding walk
  found' h i = go (a.cases h i)
    where
      -- the walk to an old handle from the old head of its chain
      walk_old : (j : In h) → walk next' (x.found h j).0 (heads (chain h)) ≡ h
      walk_old j = walk_same In next next' x.link_in a.next_old x.ends (x.found h j).0 (heads (chain h)) h (a.two h j) (x.head_in (chain h) (a.chain_in h j)) (x.found h j).2

      at_old : In h → (chain h ≡ b) ⊎ (chain h ≡ b → ⊥) → (k : ℕ) × (k < suc bound) × (walk next' k (heads' (chain' h)) ≡ h)
      at_old j (inl e) =
          let p : heads' (chain' h) ≡ c = ap heads' (a.chain_old h j ∙ e) ∙ a.head_new in
          let q : next' (heads' (chain' h)) ≡ heads (chain h) = ap next' p ∙ a.next_new ∙ ap heads (sym e) in
          (suc (x.found h j).0, omega (arith, (x.found h j).1), ap (walk next' (x.found h j).0) q ∙ walk_old j)
      at_old j (inr ne) =
          let p : heads' (chain' h) ≡ heads (chain h) = ap heads' (a.chain_old h j) ∙ a.head_old (chain h) ne in
          ((x.found h j).0, omega (arith, (x.found h j).1), ap (walk next' (x.found h j).0) p ∙ walk_old j)

      go : (In h) ⊎ (h ≡ c) → (k : ℕ) × (k < suc bound) × (walk next' k (heads' (chain' h)) ≡ h)
      go (inl j) = at_old j (cases_eq (chain h) b)
      go (inr e) = (0, omega arith, ap (λ (y : ℕ). heads' (chain' y)) e ∙ ap heads' a.chain_new ∙ a.head_new ∙ sym e)

  pub chained_attach : Chained (suc bound) In' limit next' heads' chain'
  chained_attach = record { head_in = head_in'; link_in = link_in'; ends = a.next_end; found = found' }
