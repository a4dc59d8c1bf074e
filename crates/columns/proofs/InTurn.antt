-- Four plans, one for each component, made one after another.
use Rattle.std.proofs.Common.{◌≡◌, ℕ, List, [], ◌++◌, append_assoc}
use Rattle.functions.specs.declared.faults.StoreFault.{StoreFault}
use Rattle.functions.specs.Tables.{Table}
use Rattle.functions.specs.Meanings.{Meaning}
use Rattle.functions.specs.Growth.{Grew, Stopped, StandFor}
use Rattle.functions.proofs.Growth.{grew_then, stopped_after, stopped_before}
use Rattle.functions.proofs.Handles.{stand_for_keeps}
use Rattle.slicing.specs.declared.Component.{Component}
use Rattle.slicing.specs.declared.Component.TheVariants.{A, B, C, D}
use Rattle.slicing.specs.Columns.{Columns as Four}
use Rattle.slicing.specs.Operations.{for_each}
use Rattle.columns.specs.declared.four.Columns.{Columns}
use Rattle.columns.specs.Columns.{AllStand}

module _ {v w₁ : Meaning} (plan : Component → List Table) (rest : List Table) where
  pub stopped_in_a : {e : StoreFault} → Stopped v w₁ (plan A) e → Stopped v w₁ (for_each plan rest) e
  stopped_in_a s = stopped_before (plan A) _ s

module _ {v w₁ w₂ : Meaning} (plan : Component → List Table) (rest : List Table) (a : Grew v w₁ (plan A)) where
  pub stopped_in_b : {e : StoreFault} → Stopped w₁ w₂ (plan B) e → Stopped v w₂ (for_each plan rest) e
  stopped_in_b s = stopped_after (plan A) _ a (stopped_before (plan B) _ s)

module _ {v w₁ w₂ w₃ : Meaning} (plan : Component → List Table) (rest : List Table) (a : Grew v w₁ (plan A)) (b : Grew w₁ w₂ (plan B)) where
  pub stopped_in_c : {e : StoreFault} → Stopped w₂ w₃ (plan C) e → Stopped v w₃ (for_each plan rest) e
  stopped_in_c s = stopped_after (plan A) _ a (stopped_after (plan B) _ b (stopped_before (plan C) _ s))

module _ {v w₁ w₂ w₃ w₄ : Meaning} (plan : Component → List Table) (rest : List Table) (a : Grew v w₁ (plan A)) (b : Grew w₁ w₂ (plan B)) (c : Grew w₂ w₃ (plan C)) where
  pub stopped_in_d : {e : StoreFault} → Stopped w₃ w₄ (plan D) e → Stopped v w₄ (for_each plan rest) e
  stopped_in_d s = stopped_after (plan A) _ a (stopped_after (plan B) _ b (stopped_after (plan C) _ c (stopped_before (plan D) rest s)))

pub all_four : {v w₁ w₂ w₃ w₄ w₅ : Meaning} (plan : Component → List Table) (rest : List Table) → Grew v w₁ (plan A) → Grew w₁ w₂ (plan B) → Grew w₂ w₃ (plan C) → Grew w₃ w₄ (plan D) → Grew w₄ w₅ rest → Grew v w₅ (for_each plan rest)
all_four plan rest a b c d r = grew_then (plan A) _ a (grew_then (plan B) _ b (grew_then (plan C) _ c (grew_then (plan D) rest d r)))

-- four plans, and the rest after them
pub for_each_then : (plan : Component → List Table) (rest : List Table) → for_each plan [] ++ rest ≡ for_each plan rest
for_each_then plan rest = simp append_assoc

-- four columns, each made after the other, stand together at the end
pub four_stand : {N : ℕ} (w₁ w₂ w₃ w₄ : Meaning) (pb pc pd : List Table) → Grew w₁ w₂ pb → Grew w₂ w₃ pc → Grew w₃ w₄ pd → (y : Columns N) (x : Four)
    → StandFor w₁ y.a (x A) → StandFor w₂ y.b (x B) → StandFor w₃ y.c (x C) → StandFor w₄ y.d (x D) → AllStand w₄ y x
unfolding AllStand
four_stand w₁ w₂ w₃ w₄ pb pc pd gb gc gd y x ha hb hc hd A =
    stand_for_keeps w₃ w₄ pd gd y.a (x A) (stand_for_keeps w₂ w₃ pc gc y.a (x A) (stand_for_keeps w₁ w₂ pb gb y.a (x A) ha))
four_stand w₁ w₂ w₃ w₄ pb pc pd gb gc gd y x ha hb hc hd B = stand_for_keeps w₃ w₄ pd gd y.b (x B) (stand_for_keeps w₂ w₃ pc gc y.b (x B) hb)
four_stand w₁ w₂ w₃ w₄ pb pc pd gb gc gd y x ha hb hc hd C = stand_for_keeps w₃ w₄ pd gd y.c (x C) hc
four_stand w₁ w₂ w₃ w₄ pb pc pd gb gc gd y x ha hb hc hd D = hd
