-- A question answered at once, or by halves.
use Rattle.std.proofs.Common.{◌≡◌, ℕ, suc, ◌-◌, ◌<◌, ◌≤◌, Bool, true, false, cond, Some, None, sym, refl, subst, ⊎_elim, arith}
use Rattle.std.proofs.lemmas.Bool.{cases_eq, eq-eqb, ne_eqb, cond_both}
use Rattle.diagrams.specs.Diagrams.{Diagram, function_over, Held, Reduced}
use Rattle.diagrams.specs.Forming.{Joined, NoRoom, combination, fixing, Formed}
use Rattle.diagrams.proofs.Wanted.{SameWanted, Splits, ThreeHalved, low_three_held, high_three_held, combination_splits, low_falls, high_falls, fixing_splits, fixing_extends, fixing_chosen, fixing_itself, same_both}
use Rattle.diagrams.proofs.Asked.{combination_within, fixing_within}
use Rattle.diagrams.proofs.Forming.{formed_held}
use Rattle.functions.specs.declared.combination.Combination.{Combination}
use Rattle.node_table.specs.declared.table.NodeTable.{NodeTable}
use Rattle.node_table.specs.Ordering.{InOrder, Grown, diagram_of}
use Rattle.node_answers.specs.declared.question.Question.{Question}
use Rattle.node_answers.specs.declared.question.Question.TheVariants.{Combined, Fixed}
use Rattle.node_answers.specs.declared.remembered.Remembered.{Remembered}
use Rattle.node_answers.specs.Answers.{asked, Given, Right, Sound}
use Rattle.node_answers.proofs.Answers.{given_kept, asked_kept}
use Rattle.node_store.specs.declared.store.NodeStore.{NodeStore}
use Rattle.node_store.specs.Orders.{diagram, Ordered, Forms}
use Rattle.node_store.specs.Questions.{half_of, halved, Simplest, AtOnce, Positive}
use Rattle.node_store.proofs.Simpler.{Covers, covers_self, simpler_covers, simpler_held, formed_plain, looks_at_node}
use Rattle.node_store.proofs.Steps.{forms_some, forms_none, low_stops, high_stops, low_there, high_there, node_stops, node_joined}

module _ (n : ℕ) (s : Diagram) (o : Reduced n s) where
  -- ---- the simplest form
  pub simplest_covers : (q r : Question) → Simplest q r → Covers (asked s r) (asked s q)
  simplest_covers (Combined c) (Combined r) e = simpler_covers n s o c r e
  simplest_covers (Combined c) (Fixed r) e = absurd e
  simplest_covers (Fixed x) r e = subst (λ (z : Question). Covers (asked s z) (asked s (Fixed x))) (sym e) (covers_self (asked s (Fixed x)))

  pub simplest_given : (q r : Question) → Simplest q r → Given s q → Given s r
  simplest_given (Combined c) (Combined r) e g = simpler_held n s o c r e g
  simplest_given (Combined c) (Fixed r) e g = absurd e
  simplest_given (Fixed x) r e g = subst (Given s) (sym e) g

  -- ---- an answer at once
  -- at the qubit's own height one half is taken, and below it the handle itself
  module _ (f m : ℕ) (b : Bool) (some : 0 < m) (hf : Held s f) where
    half_held : s.height f ≡ m → Held s (cond b (s.high f) (s.low f)) × (s.height (cond b (s.high f) (s.low f)) < m)
    half_held e = let p : 0 < s.height f = omega arith in
        cond_both b (s.high f) (s.low f) (λ (h : ℕ). Held s h × (s.height h < m)) (λ t. (o.high_held f p, omega (arith, o.high_later f p))) (λ t. (o.low_held f p, omega (arith, o.low_later f p)))

    at_height : s.height f ≡ m → Formed s s (fixing s f m b) (half_of s f m b)
    at_height e =
        let is : s.height f ≡ suc (m - 1) = omega arith in
        let h = half_held e in
        let same : function_over s (s.height f) (cond b (s.high f) (s.low f)) ≡ (fixing s f m b).over (s.height f) =
        subst (λ (k : ℕ). function_over s k (cond b (s.high f) (s.low f)) ≡ (fixing s f m b).over k) (sym e) (fixing_chosen s f m b some e h.1) in
        rw (eq-eqb (s.height f) (suc (m - 1)) is)
        (formed_held s (fixing s f m b) (cond b (s.high f) (s.low f)) (fixing_extends s f m b) h.0 (omega (arith, h.1)) same)

    below_height : s.height f < m → Formed s s (fixing s f m b) (half_of s f m b)
    below_height l =
        let not : s.height f ≡ suc (m - 1) → ⊥ = λ e. omega arith in
        rw (ne_eqb (s.height f) (suc (m - 1)) not, same_both b f)
        (formed_held s (fixing s f m b) f (fixing_extends s f m b) hf (omega arith) (fixing_itself s f m b l))

    fixed_half : s.height f ≤ m → Formed s s (fixing s f m b) (half_of s f m b)
    fixed_half l = ⊎_elim (λ (e : s.height f ≡ m). at_height e) (λ (e : s.height f ≡ m → ⊥). below_height (omega arith)) (cases_eq (s.height f) m)

  pub formed_at_once : (q : Question) (r : ℕ) → Given s q → Positive q → AtOnce s q (Some r) → Formed s s (asked s q) r
  formed_at_once (Combined c) r g p e = formed_plain n s o c r g e
  formed_at_once (Fixed x) r g p e = rw e.1 (fixed_half x.f x.height x.bit p g e.0)

  -- ---- a question that has none
  some_level : (q r : Question) → Simplest q r → Given s r → AtOnce s r None → 0 < (asked s r).least
  some_level (Combined c) (Combined r) e g x = looks_at_node n s o c r e x g (combination s r.rule r.f r.g r.h).least refl
  some_level (Combined c) (Fixed r) e g x = absurd e
  some_level (Fixed y) r e g x = subst (λ (z : Question). AtOnce s z None → 0 < (asked s z).least) (sym e) (λ l. omega arith) x

  within : (q : Question) → (asked s q).least ≤ n
  within (Combined c) = combination_within n s o c.rule c.f c.g c.h
  within (Fixed x) = fixing_within n s o x.f x.height x.bit

  module _ (m : ℕ) (some : 0 < m) where
    three : (c : Combination) → Given s (Combined c) → m ≡ (combination s c.rule c.f c.g c.h).least → ThreeHalved n s c.f c.g c.h m (half_of s c.f m false) (half_of s c.g m false) (half_of s c.h m false) (half_of s c.f m true) (half_of s c.g m true) (half_of s c.h m true)
    three c g e = record {
      reduced = o;
      f_held = g.0;
      g_held = g.1;
      h_held = g.2;
      highest = sym e;
      some = some;
      f_low = refl;
      g_low = refl;
      h_low = refl;
      f_high = refl;
      g_high = refl;
      h_high = refl;
    }

    halves_split : (q : Question) → Given s q → AtOnce s q None → m ≡ (asked s q).least → Splits (asked s q) (asked s (halved s q m false)) (asked s (halved s q m true)) m
    halves_split (Combined c) g x e = combination_splits n s _ _ _ m _ _ _ _ _ _ (three c g e) c.rule
    halves_split (Fixed x) g l e =
        let is : s.height x.f ≡ suc (m - 1) = omega arith in
        rw (eq-eqb (s.height x.f) (suc (m - 1)) is, e) (fixing_splits n s o x.f x.height x.bit l)

    halves_given : (q : Question) (b : Bool) → Given s q → AtOnce s q None → m ≡ (asked s q).least → Given s (halved s q m b)
    halves_given (Combined c) true g x e = high_three_held n s _ _ _ m _ _ _ _ _ _ (three c g e)
    halves_given (Combined c) false g x e = low_three_held n s _ _ _ m _ _ _ _ _ _ (three c g e)
    halves_given (Fixed x) true g l e =
        let is : s.height x.f ≡ suc (m - 1) = omega arith in
        rw (eq-eqb (s.height x.f) (suc (m - 1)) is) (o.high_held x.f (omega arith))
    halves_given (Fixed x) false g l e =
        let is : s.height x.f ≡ suc (m - 1) = omega arith in
        rw (eq-eqb (s.height x.f) (suc (m - 1)) is) (o.low_held x.f (omega arith))

pub simplest_positive : (q r : Question) → Simplest q r → Positive q → Positive r
simplest_positive (Combined c) (Combined r) e p = tt
simplest_positive (Combined c) (Fixed r) e p = absurd e
simplest_positive (Fixed x) r e p = subst Positive (sym e) p

halved_positive : (s : Diagram) (q : Question) (m : ℕ) (b : Bool) → Positive q → Positive (halved s q m b)
halved_positive s (Combined c) m b p = tt
halved_positive s (Fixed x) m b p = p

-- What is known before the first half is formed: `simple` asks for the same as `given`, and has no answer at once.
pub record Begun (s : NodeStore) (given simple : Question) (m : ℕ) : Type 0 where
  pub order : Ordered s
  pub held : Given (diagram s) given
  pub positive : Positive given
  pub simplest : Simplest given simple
  pub unanswered : AtOnce (diagram s) simple None
  pub highest : m ≡ (asked (diagram s) simple).least

module _ (s : NodeStore) (given simple : Question) (m : ℕ) (b : Begun s given simple m) where
  simple_given : Given (diagram s) simple
  simple_given = simplest_given s.nodes.qubits.number (diagram s) b.order.nodes.reduced given simple b.simplest b.held

  covers : Covers (asked (diagram s) simple) (asked (diagram s) given)
  covers = simplest_covers s.nodes.qubits.number (diagram s) b.order.nodes.reduced given simple b.simplest

  pub some_height : 0 < m
  some_height = omega (arith, b.highest, some_level s.nodes.qubits.number (diagram s) b.order.nodes.reduced given simple b.simplest simple_given b.unanswered)

  module _ (lows highs : Question) (l : lows ≡ halved (diagram s) simple m false) (h : highs ≡ halved (diagram s) simple m true) where
    splits : Splits (asked (diagram s) simple) (asked (diagram s) lows) (asked (diagram s) highs) m
    splits = rw (l, h) (halves_split s.nodes.qubits.number (diagram s) b.order.nodes.reduced m some_height simple simple_given b.unanswered b.highest)

    -- the first call
    pub lows_given : Given (diagram s) lows × Positive lows
    lows_given = rw l (
      halves_given s.nodes.qubits.number (diagram s) b.order.nodes.reduced m some_height simple false simple_given b.unanswered b.highest,
      halved_positive (diagram s) simple m false (simplest_positive given simple b.simplest b.positive),
    )

    pub lows_fall : (t : ℕ) → (asked (diagram s) given).least ≡ t → (asked (diagram s) lows).least < t
    lows_fall t e = omega (arith, b.highest, covers.least, low_falls (asked (diagram s) simple) (asked (diagram s) lows) (asked (diagram s) highs) m splits)

    pub no_lows : (t0 : NodeStore) → Forms s t0 (asked (diagram s) lows) None → Forms s t0 (asked (diagram s) given) None
    no_lows t0 x = forms_none s t0 _ _ covers (low_stops s b.order simple simple_given (asked (diagram s) lows) (asked (diagram s) highs) m splits t0 x)

    highs_given : Given (diagram s) highs × Positive highs
    highs_given = rw h (
      halves_given s.nodes.qubits.number (diagram s) b.order.nodes.reduced m some_height simple true simple_given b.unanswered b.highest,
      halved_positive (diagram s) simple m true (simplest_positive given simple b.simplest b.positive),
    )

    module _ (t0 : NodeStore) (low : ℕ) (x0 : Forms s t0 (asked (diagram s) lows) (Some low)) where
      same_highs : SameWanted (asked (diagram t0) highs) (asked (diagram s) highs)
      same_highs = asked_kept s.nodes.qubits.number (diagram s) (diagram t0) b.order.nodes.reduced x0.grown.keeps highs highs_given.0

      -- the second call
      pub highs_given_then : Given (diagram t0) highs × Positive highs
      highs_given_then = (given_kept (diagram s) (diagram t0) x0.grown.keeps highs highs_given.0, highs_given.1)

      pub highs_fall : (t : ℕ) → (asked (diagram s) given).least ≡ t → (asked (diagram t0) highs).least < t
      highs_fall t e = omega (arith, b.highest, covers.least, same_highs.least, high_falls (asked (diagram s) simple) (asked (diagram s) lows) (asked (diagram s) highs) m splits)

      module _ (t1 : NodeStore) where
        pub no_highs : Forms t0 t1 (asked (diagram t0) highs) None → Forms s t1 (asked (diagram s) given) None
        no_highs x = forms_none s t1 _ _ covers (high_stops s b.order simple simple_given (asked (diagram s) lows) (asked (diagram s) highs) m splits t0 low x0 (asked (diagram t0) highs) same_highs t1 x)

        module _ (high : ℕ) (x1 : Forms t0 t1 (asked (diagram t0) highs) (Some high)) where
          -- the node
          pub low_joins : Held (diagram t1) low × ((diagram t1).height low < m)
          low_joins = low_there s b.order simple simple_given (asked (diagram s) lows) (asked (diagram s) highs) m splits t0 low x0 (asked (diagram t0) highs) same_highs t1 high x1

          pub high_joins : Held (diagram t1) high × ((diagram t1).height high < m)
          high_joins = high_there s b.order simple simple_given (asked (diagram s) lows) (asked (diagram s) highs) m splits t0 low x0 (asked (diagram t0) highs) same_highs t1 high x1

          pub height_joins : (0 < m) × (m ≤ t1.nodes.qubits.number)
          height_joins = (some_height, omega (arith, b.highest, within s.nodes.qubits.number (diagram s) b.order.nodes.reduced simple, x0.grown.qubits, x1.grown.qubits))

          module _ (u : NodeTable) (ou : InOrder u) (gu : Grown t1.nodes u) where
            pub no_node : diagram_of u ≡ diagram t1 → NoRoom (diagram t1) t1.nodes.limit m low high → Forms s (record { nodes = u; remembered = t1.remembered }) (asked (diagram s) given) None
            no_node e x = forms_none s _ _ _ covers (node_stops s b.order simple simple_given (asked (diagram s) lows) (asked (diagram s) highs) m splits t0 low x0 (asked (diagram t0) highs) same_highs t1 high x1 u ou gu e x)

            pub a_node : (r : ℕ) → Joined (diagram t1) (diagram_of u) m low high r → (memory : Remembered) → ((e : Diagram) → Sound e t1.remembered → Right e simple r → Sound e memory) → Forms s (record { nodes = u; remembered = memory }) (asked (diagram s) given) (Some r)
            a_node r j memory more = forms_some s _ _ _ r covers (node_joined s b.order simple simple_given (asked (diagram s) lows) (asked (diagram s) highs) m splits t0 low x0 (asked (diagram t0) highs) same_highs t1 high x1 u ou gu r j memory more)
