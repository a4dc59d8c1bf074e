-- The generations of remembered answers.
use Rattle.std.specs.Prelude.{ℕ, ◌≤◌, List, Option, IfSome, All}
use Rattle.node_answers.specs.declared.answered.Answered.{Answered}

-- no answer is of a later generation
abbrev pub Dated : List (Option Answered) → ℕ → Type 0
Dated es generation = All (λ e. IfSome e (λ x. x.generation ≤ generation)) es
