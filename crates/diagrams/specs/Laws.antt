-- The laws of reduced ordered decision diagrams.
use Rattle.std.specs.Prelude.{◌≡◌, ℕ, suc, ◌-◌, ◌/◌, ◌%◌, ◌^◌, ◌<◌, ◌≤◌, Bool, true, false, cond, List, [], ◌∷◌, ◌++◌, length, Some, None, Ok, Result, ◌==◌, slice_index}
use Rattle.exact.specs.Indices.{bits}
use Rattle.functions.specs.declared.faults.StoreFault.{StoreFault}
use Rattle.functions.specs.Tables.{Table, value_at, constant, literal, fixed}
use Rattle.functions.specs.Meanings.{Laws, under, Part, constants_only}
use Rattle.functions.specs.Growth.{Exceeds}
use Rattle.functions.specs.Answers.{Made, Kept}
use Rattle.diagrams.specs.Diagrams.{Diagram, low_half, high_half, function_over, Held, Reduced, no_nodes}
use Rattle.diagrams.specs.Forming.{Keeps, Alike, Joined, NoRoom, Wanted, combination, fixing, bit_of, Formed, Short}
use Rattle.diagrams.specs.Meanings.{diagram_setting, diagram_meaning, InLimit}
use Rattle.diagrams.specs.Reaching.{Reaches, Swept}

-- What the handles of a reduced diagram of n qubits stand for.
pub record DiagramLaws : Type 0 where
  pub sized : (s : Diagram) (d h : ℕ) → length (function_over s d h) ≡ 2 ^ d
  -- handles 0 and 1 are the constants
  pub zero : (n : ℕ) (s : Diagram) → Reduced n s → (d : ℕ) → function_over s d 0 ≡ constant d false
  pub one : (n : ℕ) (s : Diagram) → Reduced n s → (d : ℕ) → function_over s d 1 ≡ constant d true
  -- the bit of a node's qubit, worth 2^(height − 1) in an index, chooses the half that has the value
  pub value : (n : ℕ) (s : Diagram) → Reduced n s → (h i : ℕ) → 0 < s.height h → value_at (function_over s n h) (bits n i) ≡ cond (i / 2 ^ (s.height h - 1) % 2 == 1) (value_at (function_over s n (s.high h)) (bits n i)) (value_at (function_over s n (s.low h)) (bits n i))
  -- canonical: held handles that stand for the same function are equal
  pub same_handle : (n : ℕ) (s : Diagram) → Reduced n s → (f g : ℕ) → Held s f → Held s g → function_over s n f ≡ function_over s n g → f ≡ g
  -- the nodes that a handle reaches are the parts of its function
  pub reached_part : (n limit : ℕ) (s : Diagram) → Reduced n s → (h k : ℕ) → Reaches s h k → 0 < s.height k → Part (diagram_setting n limit) (function_over s n k) (function_over s n h)
  pub part_reached : (n limit : ℕ) (s : Diagram) → Reduced n s → (h : ℕ) → Held s h → (g : Table) → Part (diagram_setting n limit) g (function_over s n h) → (k : ℕ) × Reaches s h k × (0 < s.height k) × (g ≡ function_over s n k)

-- What a reduced diagram within its limit means as a store.
pub record MeaningLaws : Type 0 where
  pub held : (n limit : ℕ) (s : Diagram) → Reduced n s → InLimit limit s → (h : ℕ) → Held s h → under (diagram_meaning n limit s) h ≡ Some (function_over s n h)
  pub not_held : (n limit : ℕ) (s : Diagram) (h : ℕ) → (Held s h → ⊥) → under (diagram_meaning n limit s) h ≡ None
  pub same_nodes : (n limit : ℕ) (s t : Diagram) → Reduced n s → Alike s t → diagram_meaning n limit t ≡ diagram_meaning n limit s
  -- it keeps the laws of every store
  pub lawful : (n limit : ℕ) (s : Diagram) → Reduced n s → InLimit limit s → 1 ≤ n → n ≤ 16 → limit ≤ 65536 → Laws (diagram_meaning n limit s)
  -- there is one: without nodes, it means a store that holds only the constants
  pub none_reduced : (n : ℕ) → Reduced n no_nodes
  pub none_means : (n limit : ℕ) → diagram_meaning n limit no_nodes ≡ constants_only (diagram_setting n limit)
  -- swept clean of what no listed handle reaches, it has kept the listed ones
  pub kept : (n limit : ℕ) (s t : Diagram) → Reduced n s → InLimit limit s → (list : List ℕ) → ((i : ℕ) → i < length list → Held s (slice_index list i)) → Swept s t list → Kept (diagram_meaning n limit s) (diagram_meaning n limit t) list (Ok tt)

-- Forming a function by its halves, and what that means for a store.
pub record FormingLaws : Type 0 where
  -- what stays held stands for what it stood for
  pub stays : (n : ℕ) (s t : Diagram) → Reduced n s → Keeps s t → (d h : ℕ) → Held s h → function_over t d h ≡ function_over s d h
  -- the halves of a combination are the combinations of the halves
  pub combination_halves : (s : Diagram) (rule f g h d : ℕ) → (combination s rule f g h).over (suc d) ≡ (combination s rule (low_half s d f) (low_half s d g) (low_half s d h)).over d ++ (combination s rule (high_half s d f) (high_half s d g) (high_half s d h)).over d
  -- over all n qubits, setting the one of height n − q is setting qubit q
  pub fixing_qubit : (s : Diagram) (f n q : ℕ) (b : Bool) → q < n → (fixing s f (n - q) b).over n ≡ fixed n (function_over s n f) q b
  pub bit_of_qubit : (n q : ℕ) → q < n → (bit_of (n - q)).over n ≡ literal n q
  -- the constants joined at height m form the bit of that qubit, and fall short of it where there is no room for them
  pub literal_formed : (n : ℕ) (s t : Diagram) → Reduced n s → Keeps s t → (m r : ℕ) → 0 < m → Joined s t m 0 1 r → Formed s t (bit_of m) r
  pub literal_short : (n : ℕ) (s : Diagram) → Reduced n s → (limit m : ℕ) → 0 < m → NoRoom s limit m 0 1 → Short s s limit (bit_of m)
  -- what was formed was made, in the sense of every store
  pub made : (n limit : ℕ) (s t : Diagram) (f : Wanted) (r : ℕ) (asked : Result Table StoreFault) → Reduced n s → InLimit limit s → Reduced n t → InLimit limit t → Keeps s t → Formed s t f r → f.least ≤ n → asked ≡ Ok (f.over n) → Made (diagram_meaning n limit s) (diagram_meaning n limit t) asked (Ok r)
  -- what fell short would exceed the limit: a refusal is right
  pub exceeds : (n limit : ℕ) (s t : Diagram) (f : Wanted) → Reduced n s → InLimit limit s → Reduced n t → Keeps s t → Short s t limit f → f.least ≤ n → length (f.over n) ≡ 2 ^ n → Exceeds (diagram_meaning n limit s) (f.over n ∷ [])
