-- Builds that the inputs naming their job see as one, and what is kept to find them.
use Rattle.std.specs.Prelude.{◌≡◌, ◌↔◌, ℕ, ◌+◌, ◌*◌, ◌%◌, ◌<◌, ◌≤◌, List, [], ◌∷◌, length, Bool, false, nat_eq, unwrap_or, slice_index, slice_index_or, filter, IsTrue, All, Any, Contains}
use Rattle.std.specs.HashMap.{HashMap, get}
use Rattle.ccr_choice.specs.Problem.{InputValue, BuildValue}
use Rattle.ccr_index.specs.Rows.{no_build}

-- Whether the pairs in this scope count.
abbrev pub does_count : List Bool → ℕ → Bool
does_count scopes scope = slice_index_or scopes scope false

-- The pairs of a build that count. Two builds are of one kind exactly if these are the same.
abbrev pub counting : List Bool → List (ℕ × ℕ) → List (ℕ × ℕ)
counting scopes pairs = filter (λ q. does_count scopes q.0) pairs

-- Of a build's pairs, those that count are among the pairs of another.
abbrev pub AreAmong : List Bool → List (ℕ × ℕ) → List (ℕ × ℕ) → Type 0
AreAmong scopes pairs others = All (λ q. IsTrue (does_count scopes q.0) → Contains others q) pairs

-- Of each job those scopes count that are the scopes of inputs naming it.
abbrev pub AreCounted : List InputValue → List (List Bool) → Type 0
AreCounted inputs scopes = (j scope : ℕ) → j < length scopes
    → IsTrue (does_count (slice_index_or scopes j []) scope) ↔ Any (λ i. (i.scope ≡ scope) × Contains i.jobs j) inputs

-- ---- prints
-- A number that is made of pairs. Lists that differ seldom have the same.
abbrev pub print_of : ℕ → List (ℕ × ℕ) → ℕ
print_of n [] = n
print_of n (q ∷ qs) = print_of ((n * 1000003 + q.0 * 100001 + q.1) % 4294967296) qs

-- The number that a map has for this print, 0 where it has none.
abbrev pub row_for : {S : Type 0} → HashMap ℕ ℕ S → ℕ → ℕ
row_for m n = unwrap_or (get nat_eq m n) 0

-- Of two builds of one kind their print tells the row of the newer one, or of one that is newer still; and no build with a pair has
-- more pairs that count than the size of that pair.
pub record ArePrinted (scopes : List Bool) (builds : List BuildValue) (last : ℕ → ℕ) (size : ℕ × ℕ → ℕ) : Type 0 where
  pub told : (k q : ℕ) → q < k → k < length builds
      → counting scopes (slice_index_or builds k no_build).pairs ≡ counting scopes (slice_index_or builds q no_build).pairs
      → length builds ≤ q + last (print_of 0 (counting scopes (slice_index_or builds k no_build).pairs))
  pub largest : (pair : ℕ × ℕ) → All (λ b. Contains b.pairs pair → length (counting scopes b.pairs) ≤ size pair) builds

-- One of these pairs counts, and no earlier row has it.
abbrev pub HasFirst : List Bool → List (ℕ × ℕ) → List ℕ → Type 0
HasFirst scopes pairs earlier = (k : ℕ) × (k < length pairs)
    × IsTrue (does_count scopes (slice_index_or pairs k (0, 0)).0) × (slice_index earlier k ≡ 0)

-- One of these pairs counts, and its size is no more than this.
abbrev pub HasSmall : List Bool → List (ℕ × ℕ) → (ℕ × ℕ → ℕ) → ℕ → Type 0
HasSmall scopes pairs size most =
    Any (λ q. IsTrue (does_count scopes q.0) × (size q ≤ most)) pairs
