-- The chains of a node table: as many as places, and every node stands in the one that its height and halves give.
use Rattle.std.specs.Prelude.{◌≡◌, ℕ, zero, suc, ◌+◌, ◌-◌, ◌*◌, ◌%◌, ◌<◌, ◌≤◌, ◌≢◌, Some, None, Option, cond, nat_le}
use Rattle.node_table.specs.declared.table.NodeTable.{NodeTable}
use Rattle.node_table.specs.Layout.{diagram_of, word, Node, link, head}

-- the chain of a node of height m with these halves: a hash by three primes
unfoldable pub chain_for : ℕ → ℕ → ℕ → ℕ → ℕ
chain_for limit m low high = (low * 12289 + high * 24593 + m * 786433) % limit

abbrev pub chain_of : NodeTable → ℕ → ℕ
chain_of t h = chain_for t.limit ((diagram_of t).height h) ((diagram_of t).low h) ((diagram_of t).high h)

-- the handle in a chain's word; below 2 the chain has ended
unfoldable pub handle_in : ℕ → Option ℕ
handle_in word = cond (nat_le 2 word) (Some word) None

-- k steps along links
unfoldable pub walk : (ℕ → ℕ) → ℕ → ℕ → ℕ
walk next zero h = h
walk next (suc k) h = walk next k (next h)

-- The chains have each handle that is In, fewer than `bound` steps from the head of its own, and no other.
pub record Chained (bound : ℕ) (In : ℕ → Type 0) (limit : ℕ) (next heads chain : ℕ → ℕ) : Type 0 where
  pub head_in : (b : ℕ) → b < limit → 2 ≤ heads b → In (heads b)
  pub link_in : (h : ℕ) → In h → 2 ≤ next h → In (next h)
  pub ends : (h : ℕ) → h < 2 → next h < 2
  pub found : (h : ℕ) → In h → (k : ℕ) × (k < bound) × (walk next k (heads (chain h)) ≡ h)

-- the chains of a table have each node that is In
abbrev pub Chains : NodeTable → ℕ → (ℕ → Type 0) → Type 0
Chains t bound In = Chained bound In t.limit (link t) (head t) (chain_of t)

-- the chains have each node below `top`
pub record ChainedTo (t : NodeTable) (top : ℕ) : Type 0 where
  pub chains : Chains t (top - 2) (λ h. Node t h × (h < top))

-- the tables differ in their chains alone
pub record SameNodes (s t : NodeTable) : Type 0 where
  pub word_0 : (h : ℕ) → 2 ≤ h → word t h 0 % 64 ≡ word s h 0 % 64
  pub word_1 : (h : ℕ) → word t h 1 ≡ word s h 1
  pub word_2 : (h : ℕ) → word t h 2 ≡ word s h 2

-- the node k came to the head of its chain
pub record Attached (s t : NodeTable) (k : ℕ) : Type 0 where
  pub tail : word t k 0 ≡ word s k 0 % 64 + 64 * head s (chain_of s k)
  pub others : (h : ℕ) → 2 ≤ h → (h ≢ k) → word t h 0 ≡ word s h 0
  pub word_1 : (h : ℕ) → word t h 1 ≡ word s h 1
  pub word_2 : (h : ℕ) → word t h 2 ≡ word s h 2
  pub headed : head t (chain_of s k) ≡ k
  pub heads : (b : ℕ) → (b ≢ chain_of s k) → head t b ≡ head s b

-- heads fit into what word 0 leaves for a link
abbrev pub SmallHeads : NodeTable → Type 0
SmallHeads t = (b : ℕ) → b < t.limit → head t b < 131072
