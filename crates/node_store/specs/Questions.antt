-- Questions in their simplest form, answered at once, or halved.
use Rattle.std.specs.Prelude.{◌≡◌, ℕ, ◌-◌, ◌<◌, ◌≤◌, Bool, cond, Some, None, Option}
use Rattle.diagrams.specs.Diagrams.{Diagram, low_half, high_half}
use Rattle.node_rules.specs.Combinations.{Simplified, Outright}
use Rattle.node_answers.specs.declared.question.Question.{Question}
use Rattle.node_answers.specs.declared.question.Question.TheVariants.{Combined, Fixed}

-- the half of a handle at height m, where its qubit is the bit b
abbrev pub half_of : Diagram → ℕ → ℕ → Bool → ℕ
half_of s h m b = cond b (high_half s (m - 1) h) (low_half s (m - 1) h)

-- the question of the halves of its handles
abbrev pub halved : Diagram → Question → ℕ → Bool → Question
halved s (Combined c) m b = Combined (record { rule = c.rule; f = half_of s c.f m b; g = half_of s c.g m b; h = half_of s c.h m b })
halved s (Fixed x) m b = Fixed (record { f = half_of s x.f m b; height = x.height; bit = x.bit })

-- r asks for the same as q, in the simplest form
abbrev pub Simplest : Question → Question → Type 0
Simplest (Combined c) (Combined r) = Simplified c r
Simplest (Fixed x) r = r ≡ Fixed x
Simplest (Combined c) (Fixed r) = ⊥

-- The answer that a question has before any half is formed, if it has one.
abbrev pub AtOnce : Diagram → Question → Option ℕ → Type 0
AtOnce s (Combined c) r = Outright c r
AtOnce s (Fixed x) (Some r) = (s.height x.f ≤ x.height) × (r ≡ half_of s x.f x.height x.bit)
AtOnce s (Fixed x) None = x.height < s.height x.f

-- a qubit that is set has a height
abbrev pub Positive : Question → Type 0
Positive (Combined c) = Unit {0}
Positive (Fixed x) = 0 < x.height
