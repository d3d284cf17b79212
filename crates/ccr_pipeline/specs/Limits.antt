-- The limits that every plan keeps.
use Rattle.std.specs.Prelude.{ℕ, suc, max, ◌*◌, ◌≤◌, List, [], ◌∷◌, ◌++◌, map, IsTrue, ⊤}
use Rattle.std.specs.Coded.{×_prop, Unit-prop, le_prop}
use Rattle.std.specs.List.{AllPass, IsDistinct}
use Rattle.std.specs.Str.{bytes_eq}
use Rattle.ccr_pipeline.specs.declared.check_step.TheConstants.{MOST_ATTEMPTS, MOST_TRIES}
use Rattle.ccr_pipeline.specs.declared.walk.TheConstants.{LEVELS}
use Rattle.ccr_pipeline.specs.Inputs.{inputs, are_few}
use Rattle.ccr_pipeline.specs.Kinds.{is_name}
use Rattle.ccr_pipeline.specs.Tree.{Text, SourceData, config, file, Tree, Trees, get, put, task, in_order, in_parallel, tried, attempts, hook, no_trees, tree, gathered}

-- how many levels of steps are in a step: those of a do, an in_parallel or a try and a hook are a level below the
-- step that has them
abbrev mutual
  pub levels : Tree → ℕ
  levels (get g) = 0
  levels (put p) = 0
  levels (task t) = 0
  levels (in_order ts) = levels_in ts
  levels (in_parallel ts fast) = levels_in ts
  levels (tried t) = suc (levels t)
  levels (attempts n t) = levels t
  levels (hook w t h) = max (levels t) (suc (levels h))

  -- each step of a list is a level below the list's step
  pub levels_in : Trees → ℕ
  levels_in no_trees = 0
  levels_in (tree t ts) = max (suc (levels t)) (levels_in ts)

-- the steps of a plan lie at most 30 levels deep
abbrev pub IsShallow : Tree → Type 0
IsShallow t = levels t ≤ LEVELS

-- the product of a step's own attempts
abbrev pub tries : Tree → ℕ
tries (get g) = 1
tries (put p) = 1
tries (task t) = 1
tries (in_order ts) = 1
tries (in_parallel ts fast) = 1
tries (tried t) = 1
tries (attempts n t) = n * tries t
tries (hook w t h) = tries t

-- below steps whose attempts have this product, each attempts in a step is from 1 to 100, and the product down to it,
-- its own with it, at most 10,000; a hook is below the attempts of its step
abbrev mutual
  pub TriesFit : ℕ → Tree → Type 0
  TriesFit p (get g) = ⊤
  TriesFit p (put u) = ⊤
  TriesFit p (task t) = ⊤
  TriesFit p (in_order ts) = AllTriesFit p ts
  TriesFit p (in_parallel ts fast) = AllTriesFit p ts
  TriesFit p (tried t) = TriesFit p t
  TriesFit p (attempts n t) = ((1 ≤ n) × (n ≤ MOST_ATTEMPTS)) × ((p * n ≤ MOST_TRIES) × TriesFit (p * n) t)
  TriesFit p (hook w t h) = TriesFit p t × TriesFit (p * tries t) h

  -- this holds of each step of a list
  pub AllTriesFit : ℕ → Trees → Type 0
  AllTriesFit p no_trees = ⊤
  AllTriesFit p (tree t ts) = TriesFit p t × AllTriesFit p ts

-- a proof of it says no more than it
mutual
  pub TriesFit-prop : (p : ℕ) (t : Tree) → IsProp (TriesFit p t)
  TriesFit-prop p (get g) = Unit-prop
  TriesFit-prop p (put u) = Unit-prop
  TriesFit-prop p (task t) = Unit-prop
  TriesFit-prop p (in_order ts) = AllTriesFit-prop p ts
  TriesFit-prop p (in_parallel ts fast) = AllTriesFit-prop p ts
  TriesFit-prop p (tried t) = TriesFit-prop p t
  TriesFit-prop p (attempts n t) = ×_prop (×_prop le_prop le_prop) (×_prop le_prop (TriesFit-prop (p * n) t))
  TriesFit-prop p (hook w t h) = ×_prop (TriesFit-prop p t) (TriesFit-prop (p * tries t) h)

  AllTriesFit-prop : (p : ℕ) (ts : Trees) → IsProp (AllTriesFit p ts)
  AllTriesFit-prop p no_trees = Unit-prop
  AllTriesFit-prop p (tree t ts) = ×_prop (TriesFit-prop p t) (AllTriesFit-prop p ts)

-- what a task's config names: its inputs, and then its outputs
abbrev pub artifact_names : SourceData → List Text
artifact_names (config c) = map (λ input. input.0) c.inputs ++ c.outputs
artifact_names (file path) = []

-- what a step that holds no others names: a get or a put itself, a task its inputs and outputs
abbrev pub own_names : Tree → List Text
own_names (get g) = g.name ∷ []
own_names (put p) = p.name ∷ []
own_names (task t) = artifact_names t.source
own_names _ = []

-- what a step names
abbrev pub names : Tree → List Text
names t = gathered own_names t

-- what a plan names has 1 to 128 bytes, none of them below 32, 127 or a slash, and is neither one point nor two
abbrev pub IsWellNamed : Tree → Type 0
IsWellNamed t = AllPass is_name (names t)

-- the names of a plan's inputs
abbrev pub input_names : Tree → List Text
input_names t = map (λ input. input.name) (inputs t)

-- no two inputs of a plan have one name
abbrev pub HasDistinctInputs : Tree → Type 0
HasDistinctInputs t = IsDistinct bytes_eq (input_names t)

-- what every plan keeps: it has few inputs, which name few jobs, no two of one name; it is shallow, has few tries and
-- is well named
pub record IsPlan (t : Tree) : Type 0 where
  pub few : IsTrue (are_few (inputs t))
  pub distinct : HasDistinctInputs t
  pub shallow : IsShallow t
  pub few_tries : TriesFit 1 t
  pub well_named : IsWellNamed t
