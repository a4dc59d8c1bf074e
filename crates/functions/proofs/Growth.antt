-- Plans made one after another.
use Rattle.std.proofs.Common.{◌≡◌, ◌<◌, ◌≤◌, Bool, true, false, ◌||◌, List, [], ◌∷◌, ◌++◌, Ok, Err, Result, sym, refl, ap, ◌∙◌, subst, append_assoc, arith}
use mathlib.Core.Bool.{or_assoc}
use Rattle.std.proofs.lemmas.Bool.{or_left}
use Rattle.functions.specs.declared.faults.StoreFault.{StoreFault}
use Rattle.functions.specs.declared.faults.StoreFault.TheVariants.{NoSpace}
use Rattle.functions.specs.Tables.{Table}
use Rattle.functions.specs.Sets.{among, space, parts_of_all}
use Rattle.functions.specs.Meanings.{Setting, Meaning, Laws, qubits_of, held}
use Rattle.functions.specs.Growth.{Grew, Exceeds, Stopped, Built, with_parts}
use Rattle.functions.proofs.Sets.{among_append, parts_append, space_mono}

pub grew_none : (v : Meaning) → Grew v v []
unfolding parts_of_all among
grew_none v = record { setting = refl; keeps = λ k f h. h; holds = λ g. sym (or_false (among g (held v))) }
  where
    or_false : (b : Bool) → (b || false) ≡ b
    or_false true = refl
    or_false false = refl

-- held after one plan with the parts of another: held before with the parts of both
grew_with : (u v : Meaning) (a b : List Table) → Grew u v a → (g : Table) → among g (with_parts v b) ≡ among g (with_parts u (a ++ b))
unfolding with_parts
grew_with u v a b x g =
    among_append g (held v) (parts_of_all v.setting.parts b)
    ∙ ap (λ (t : Bool). t || among g (parts_of_all v.setting.parts b)) (x.holds g)
    ∙ ap (λ (s : Setting). (among g (held u) || among g (parts_of_all u.setting.parts a)) || among g (parts_of_all s.parts b)) x.setting
    ∙ or_assoc (among g (held u)) (among g (parts_of_all u.setting.parts a)) (among g (parts_of_all u.setting.parts b))
    ∙ ap (λ (t : Bool). among g (held u) || t) (sym (among_append g (parts_of_all u.setting.parts a) (parts_of_all u.setting.parts b)))
    ∙ ap (λ (l : List Table). among g (held u) || among g l) (sym (parts_append u.setting.parts a b))
    ∙ sym (among_append g (held u) (parts_of_all u.setting.parts (a ++ b)))

pub grew_then : {u v w : Meaning} (a b : List Table) → Grew u v a → Grew v w b → Grew u w (a ++ b)
unfolding with_parts
grew_then {u} {v} {w} a b x y = record {
  setting = y.setting ∙ x.setting;
  keeps = λ k f h. y.keeps k f (x.keeps k f h);
  holds = λ g. y.holds g ∙ sym (among_append g (held v) (parts_of_all v.setting.parts b)) ∙ grew_with u v a b x g ∙ among_append g (held u) (parts_of_all u.setting.parts (a ++ b));
}

-- what exceeds the limit after a plan, exceeds it together with the plan
pub exceeds_after : (u v : Meaning) (a b : List Table) → Grew u v a → Exceeds v b → Exceeds u (a ++ b)
unfolding Exceeds
exceeds_after u v a b x e =
    let m : space (qubits_of v) (with_parts v b) ≤ space (qubits_of v) (with_parts u (a ++ b)) = space_mono (qubits_of v) (with_parts v b) (with_parts u (a ++ b)) (λ g h. sym (grew_with u v a b x g) ∙ h) in
    subst (λ (s : Setting). s.limit < space s.qubits (with_parts u (a ++ b))) x.setting (let d : v.setting.limit < space (qubits_of v) (with_parts u (a ++ b)) = omega arith in d)

wider_parts : (v : Meaning) (a b : List Table) (g : Table) → among g (with_parts v a) ≡ true → among g (with_parts v (a ++ b)) ≡ true
unfolding with_parts
wider_parts v a b g h =
    let p = v.setting.parts in
    let r : held v ++ parts_of_all p (a ++ b) ≡ (held v ++ parts_of_all p a) ++ parts_of_all p b = ap (λ (l : List Table). held v ++ l) (parts_append p a b) ∙ sym (append_assoc (held v) (parts_of_all p a) (parts_of_all p b)) in
    ap (among g) r ∙ among_append g (held v ++ parts_of_all p a) (parts_of_all p b) ∙ or_left (among g (held v ++ parts_of_all p a)) (among g (parts_of_all p b)) h

-- a longer plan exceeds the limit too
pub exceeds_more : (v : Meaning) (a b : List Table) → Exceeds v a → Exceeds v (a ++ b)
unfolding Exceeds
exceeds_more v a b e =
    let m : space (qubits_of v) (with_parts v a) ≤ space (qubits_of v) (with_parts v (a ++ b)) = space_mono (qubits_of v) (with_parts v a) (with_parts v (a ++ b)) (wider_parts v a b) in
    omega arith

-- a stop after a plan that was made, and a stop before all of a plan was tried
pub stopped_after : {u v w : Meaning} {e : StoreFault} (a b : List Table) → Grew u v a → Stopped v w b e → Stopped u w (a ++ b) e
stopped_after {u} {v} a b x y = record {
  made = a ++ y.made;
  next = y.next;
  rest = y.rest;
  plan = ap (λ (l : List Table). a ++ l) y.plan ∙ sym (append_assoc a y.made (y.next ∷ y.rest));
  grew = grew_then a y.made x y.grew;
  exceeds = subst (Exceeds u) (sym (append_assoc a y.made (y.next ∷ []))) (exceeds_after u v a (y.made ++ (y.next ∷ [])) x y.exceeds);
  fault = y.fault ∙ ap (λ (s : Setting). NoSpace s.limit) x.setting;
}

pub stopped_before : {v w : Meaning} {e : StoreFault} (a b : List Table) → Stopped v w a e → Stopped v w (a ++ b) e
stopped_before a b y = record {
  made = y.made;
  next = y.next;
  rest = y.rest ++ b;
  plan = ap (λ (l : List Table). l ++ b) y.plan ∙ append_assoc y.made (y.next ∷ y.rest) b;
  grew = y.grew;
  exceeds = y.exceeds;
  fault = y.fault;
}

-- a plan that was stopped exceeds the limit, and one that was made does not
pub stopped_exceeds : {v w : Meaning} {e : StoreFault} (fs : List Table) → Stopped v w fs e → Exceeds v fs
stopped_exceeds {v} fs y =
    subst (Exceeds v) (append_assoc y.made (y.next ∷ []) y.rest ∙ sym y.plan) (exceeds_more v (y.made ++ (y.next ∷ [])) y.rest y.exceeds)

pub grew_fits : {v w : Meaning} (fs : List Table) → Grew v w fs → Laws w → Exceeds v fs → ⊥
unfolding Exceeds with_parts
grew_fits {v} {w} fs x laws e =
    let n = qubits_of v in
    let m : space n (with_parts v fs) ≤ space n (held w) = space_mono n (with_parts v fs) (held w) (λ g h. x.holds g ∙ sym (among_append g (held v) (parts_of_all v.setting.parts fs)) ∙ h) in
    let k : space n (held w) ≤ v.setting.limit = subst (λ (s : Setting). space s.qubits (held w) ≤ s.limit) x.setting laws.within_limit in
    omega arith

-- plans built one after another
module _ {X : Type 0} (P : X → Type 0) where
  pub built_after : (u v w : Meaning) (a b : List Table) (r : Result X StoreFault) → Grew u v a → Built v w b r P → Built u w (a ++ b) r P
  unfolding Built
  built_after u v w a b (Ok x) g h = (grew_then a b g h.0, h.1)
  built_after u v w a b (Err e) g h = stopped_after a b g h

pub built_stopped : {X Y : Type 0} (P : X → Type 0) (Q : Y → Type 0) (v w : Meaning) (a b : List Table) (e : StoreFault) → Built v w a (Err e) P → Built v w (a ++ b) (Err e) Q
unfolding Built
built_stopped P Q v w a b e h = stopped_before a b h
