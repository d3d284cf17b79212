-- The allowed places of an input ascend, and are few.
use Rattle.std.proofs.Common.{◌≡◌, ℕ, ◌+◌, ◌<◌, ◌≤◌, List, [], ◌∷◌, length, map, Bool, true, false, cond, not, refl, arith}
use Rattle.std.specs.Prelude.{filter, Option, Some, None}
use Rattle.std.specs.List.{AllByRecursion, enumerate_from}
use Rattle.std.specs.Option.{option_map_or}
use Rattle.std.proofs.lemmas.Bool.{and_from, lt-ltb, le-leb}
use Rattle.ccr_history.specs.TextMap.{TextMap}
use Rattle.ccr_history.specs.Scopes.{ScopeData, is_scope}
use Rattle.ccr_history.specs.Tables.{TableData, versions_of, scope_number}
use Rattle.ccr_history.specs.History.{HistoryData, IsTable, IsHistory}
use Rattle.ccr_pipeline.specs.Inputs.{InputData}
use Rattle.ccr_pipeline.specs.JobData.{ResourceData}
use Rattle.ccr_pipeline.specs.Pipelines.{PipelineData}
use Rattle.ccr_choice.specs.Problem.{are_places_after}
use Rattle.ccr_problem.specs.Allowed.{PinsData, meets_all, places_from, allowed_places}
use Rattle.ccr_problem.specs.ProblemOf.{resource_of, scope_of, pins_of, is_disabled_at, input_places}
use Rattle.ccr_problem.proofs.Enabled.{filter_ascends}

-- the places, from the k-th on, of versions that pass a test
abbrev pub passing : (TextMap → Bool) → ℕ → List TextMap → List ℕ
passing ok k vs = map (λ x. x.0) (filter (λ x. ok x.1) (enumerate_from k vs))

rise_by : (b : Bool) (k low : ℕ) (rest : List (ℕ × TextMap)) (v : TextMap) → low < k → k ≤ 100000
    → ((n : ℕ) → n < k + 1 → are_places_after n (map (λ x. x.0) rest) ≡ true) → are_places_after low (map (λ x. x.0) (cond b ((k, v) ∷ rest) rest)) ≡ true
rise_by true k low rest v above few onward = and_from _ _ (lt-ltb _ _ above) (and_from _ _ (le-leb _ _ few) (onward k (omega arith)))
rise_by false k low rest v above few onward = onward low (omega arith)

rise : (ok : TextMap → Bool) (k low : ℕ) (vs : List TextMap) → low < k → k + length vs ≤ 100001 → are_places_after low (passing ok k vs) ≡ true
rise ok k low [] above few = refl
rise ok k low (v ∷ vs) above few =
    rise_by (ok v) k low (filter (λ x. ok x.1) (enumerate_from (k + 1) vs)) v above (omega arith) (λ n less. rise ok (k + 1) n vs less (omega arith))

allowed_rise : (pins : PinsData) (disabled : ℕ → Bool) (vs : List TextMap) → length vs ≤ 100000 → are_places_after 0 (allowed_places pins disabled vs) ≡ true
allowed_rise pins disabled vs few =
    filter_ascends (λ n. not (disabled n)) 0 (places_from 1 pins vs) (rise (meets_all pins) 1 0 vs (omega arith) (omega arith))

few_by : (b : Bool) (t : TableData) (vs : List TextMap) → IsTable t → length vs ≤ 100000 → length (cond b t.versions vs) ≤ 100000
few_by true t vs is few = is.1
few_by false t vs is few = few

-- a scope has few versions
pub few_versions : (s : ScopeData) (ts : List TableData) → AllByRecursion IsTable ts → length (versions_of s ts) ≤ 100000
few_versions s [] each = omega arith
few_versions s (t ∷ ts) each = few_by (is_scope s t.scope) t (versions_of s ts) each.0 (few_versions s ts each.1)

pub few_in_history : (h : HistoryData) (s : ScopeData) → IsHistory h → length (versions_of s h.tables) ≤ 100000
few_in_history h s is = few_versions s h.tables is.0.2

places_by : (h : HistoryData) (i : InputData) → IsHistory h → (r : Option ResourceData)
    → are_places_after 0 (option_map_or (λ r. allowed_places (pins_of r h i) (is_disabled_at h (scope_number (scope_of r) h.tables)) (versions_of (scope_of r) h.tables)) r []) ≡ true
places_by h i is None = refl
places_by h i is (Some r) = allowed_rise (pins_of r h i) (is_disabled_at h (scope_number (scope_of r) h.tables)) (versions_of (scope_of r) h.tables) (few_in_history h (scope_of r) is)

-- the allowed places of an input ascend
pub places_kept : (p : PipelineData) (h : HistoryData) (i : InputData) → IsHistory h → are_places_after 0 (input_places p h i) ≡ true
places_kept p h i is = places_by h i is (resource_of i.resource p.resources)
