-- What a build moved are places of the tables, each once.
use Rattle.std.proofs.Common.{◌≡◌, ◌≢◌, Bool, true, false, cond, IsTrue, List, [], ◌∷◌, ◌++◌, AllPairs, Some, bytes_eq, refl, sym, ap, ◌∙◌, subst, arith}
use Rattle.std.specs.List.{AllByRecursion, list_any}
use Rattle.std.specs.Option.{option_map_or}
use Rattle.std.proofs.lemmas.Bool.{and_from, or_parts}
use Rattle.std.proofs.lemmas.List.Elements.{All-from_recursion}
use Rattle.std.proofs.lemmas.List.Kept.{AllPairs-cons}
use Rattle.std.proofs.lemmas.Slice.Eq.{bytes_eq-Decides}
use Rattle.ccr_history.specs.Text.{Text}
use Rattle.ccr_history.specs.TextMap.{key_text}
use Rattle.ccr_history.specs.Tables.{has_version, versions_of, scope_number, place_in}
use Rattle.ccr_history.specs.Changes.{AreMoved}
use Rattle.ccr_history.specs.History.{HistoryData, has_place}
use Rattle.ccr_pipeline.specs.Inputs.{inputs}
use Rattle.ccr_pipeline.specs.JobData.{ResourceData}
use Rattle.ccr_pipeline.specs.Links.{used_resources}
use Rattle.ccr_pipeline.specs.Pipelines.{PipelineData}
use Rattle.ccr_pipeline.specs.Tree.{Tree}
use Rattle.ccr_steps.specs.Asks.{Chosen, Exchange}
use Rattle.ccr_steps.specs.Gains.{MovedData, GainsData, no_gains, is_same, has_moved, with_moved}
use Rattle.ccr_steps.specs.Means.{Means}
use Rattle.ccr_steps.specs.declared.outcome.Outcome.{Outcome}
use Rattle.ccr_problem.specs.ProblemOf.{resource_of, scope_of, history_number}
use Rattle.ccr_core.specs.Seen.{versions_seen, pair_of, pairs_of}
use Rattle.ccr_core.proofs.Choosing.{IsSeen, all_map}
use Rattle.ccr_core.proofs.Moving.{ArePushed, IsGot, means_keep}
use Rattle.ccr_core.proofs.RunningLists.{all_weaker, all_append, all_both}
use Rattle.ccr_core.proofs.Seeing.{some_there, number_there, has_its_place, number_same, place_same}

-- the pipeline has a resource of this name
abbrev pub IsKnown : PipelineData → Text → Type 0
IsKnown p name = (x : ResourceData) × (resource_of name p.resources ≡ Some x)

-- no two of these are one version of one resource
abbrev pub AreOnce : List MovedData → Type 0
AreOnce [] = Unit {0}
AreOnce (m ∷ ms) = AllByRecursion (λ n. is_same m n.resource (key_text n.version) ≡ false) ms × AreOnce ms

none_any : {X : Type 0} → (test : X → Bool) (xs : List X) → list_any test xs ≡ false → AllByRecursion (λ x. test x ≡ false) xs
none_any test [] e = tt
none_any test (x ∷ xs) e = let (p, q) = or_parts (test x) (list_any test xs) e in (p, none_any test xs q)

once_more : (ms : List MovedData) (m : MovedData) → AllByRecursion (λ x. is_same x m.resource (key_text m.version) ≡ false) ms → AreOnce ms → AreOnce (ms ++ m ∷ [])
once_more [] m new h = (tt, tt)
once_more (x ∷ ms) m new h = (all_append (λ n. is_same x n.resource (key_text n.version) ≡ false) ms m h.0 new.0, once_more ms m new.1 h.1)

-- the resource that is found has the name
resource_named : (name : Text) (rs : List ResourceData) (x : ResourceData) → resource_of name rs ≡ Some x → name ≡ x.name
resource_named name [] x e = absurd (cc (e))
resource_named name (r ∷ rs) x e = by (bytes_eq name r.name) refl (resource_named name rs x) e
  where
    by : (t : Bool) → bytes_eq name r.name ≡ t → (resource_of name rs ≡ Some x → name ≡ x.name) → cond t (Some r) (resource_of name rs) ≡ Some x → name ≡ x.name
    by true is more e = let same : r ≡ x = cc e in (bytes_eq-Decides name r.name).0 is ∙ ap (λ y. y.name) same
    by false is more e = more e

module _ (p : PipelineData) (h : HistoryData) where
  -- what was seen, each once
  abbrev AreSeen : List MovedData → Type 0
  AreSeen ms = AllByRecursion (IsSeen p h) ms × AreOnce ms

  seen_more : (ms : List MovedData) (m : MovedData) → IsSeen p h m → AreSeen ms → AreSeen (with_moved ms m)
  seen_more ms m seen (all, once) = by (has_moved ms m.resource (key_text m.version)) refl
    where
      by : (t : Bool) → has_moved ms m.resource (key_text m.version) ≡ t → AllByRecursion (IsSeen p h) (cond t ms (ms ++ m ∷ [])) × AreOnce (cond t ms (ms ++ m ∷ []))
      by true is = (all, once)
      by false is = (all_append (IsSeen p h) ms m all seen, once_more ms m (none_any (λ x. is_same x m.resource (key_text m.version)) ms is) once)

  -- ---- where they stand
  number_of_seen : (m : MovedData) (x : ResourceData) → resource_of m.resource p.resources ≡ Some x → history_number p h m.resource ≡ scope_number (scope_of x) h.tables
  number_of_seen m x at = ap (λ o. option_map_or (λ r. scope_number (scope_of r) h.tables) o 0) at

  list_of_seen : (m : MovedData) (x : ResourceData) → resource_of m.resource p.resources ≡ Some x → versions_seen p h m.resource ≡ versions_of (scope_of x) h.tables
  list_of_seen m x at = ap (λ o. option_map_or (λ r. versions_of (scope_of r) h.tables) o []) at

  has_pair : (m : MovedData) → IsSeen p h m → IsTrue (has_place h.tables (pair_of p h m).0 (pair_of p h m).1)
  has_pair m (x, at, has) =
      subst (λ n. IsTrue (has_place h.tables n (place_in m.version (versions_seen p h m.resource)))) (sym (number_of_seen m x at))
      (subst (λ vs. IsTrue (has_place h.tables (scope_number (scope_of x) h.tables) (place_in m.version vs))) (sym (list_of_seen m x at))
      (has_its_place (scope_of x) m.version h.tables has))

  pairs_apart : (m n : MovedData) → IsSeen p h m → IsSeen p h n → is_same m n.resource (key_text n.version) ≡ false → pair_of p h m ≢ pair_of p h n
  pairs_apart m n (x, at, has) (y, there, owns) differ e =
      let numbers : scope_number (scope_of x) h.tables ≡ scope_number (scope_of y) h.tables = sym (number_of_seen m x at) ∙ ap (λ q. q.0) e ∙ number_of_seen n y there in
      let low = (number_there (scope_of y) h.tables (some_there n.version (versions_of (scope_of y) h.tables) owns)).0 in
      let one : x.name ≡ y.name = number_same (scope_of x) (scope_of y) m.version h.tables has low numbers in
      let names : m.resource ≡ n.resource = resource_named m.resource p.resources x at ∙ one ∙ sym (resource_named n.resource p.resources y there) in
      let lists : versions_of (scope_of y) h.tables ≡ versions_of (scope_of x) h.tables = sym (list_of_seen n y there) ∙ ap (versions_seen p h) (sym names) ∙ list_of_seen m x at in
      let places : place_in m.version (versions_of (scope_of x) h.tables) ≡ place_in n.version (versions_of (scope_of x) h.tables) = sym (ap (place_in m.version) (list_of_seen m x at)) ∙ ap (λ q. q.1) e ∙ ap (place_in n.version) (list_of_seen n y there ∙ lists) in
      let keys = place_same m.version n.version (versions_of (scope_of x) h.tables) has (subst (λ vs. has_version vs n.version ≡ true) lists owns) places in
      let yes : is_same m n.resource (key_text n.version) ≡ true = and_from _ _ ((bytes_eq-Decides m.resource n.resource).1 names) ((bytes_eq-Decides (key_text m.version) (key_text n.version)).1 keys) in
      absurd (cc (differ, yes))

  pairs_once : (ms : List MovedData) → AllByRecursion (IsSeen p h) ms → AreOnce ms → AllPairs (λ u v. u ≢ v) (pairs_of p h ms)
  pairs_once [] all once = λ i j d before within. absurd (omega (arith, within))
  pairs_once (m ∷ ms) (seen, all) (apart, once) =
      AllPairs-cons (λ u v. u ≢ v) (pair_of p h m) (pairs_of p h ms)
      (All-from_recursion (λ v. pair_of p h m ≢ v) (pairs_of p h ms) (all_map (λ v. pair_of p h m ≢ v) (pair_of p h) ms (all_both (λ n s a. pairs_apart m n seen s a) ms all apart)))
      (pairs_once ms all once)

  -- a history takes what a build moved
  pub moved_fit : (c : Chosen) (t : Tree) (es : List Exchange) (o : Outcome) (g : GainsData) → AllByRecursion (IsGot (IsSeen p h) c) (inputs t) → AllByRecursion (IsKnown p) (used_resources t) → ArePushed (IsKnown p) (IsSeen p h) es → Means c t no_gains es o g → AreMoved h.tables (pairs_of p h g.moved)
  moved_fit c t es o g got known pushes means =
      let (all, once) = means_keep c (IsKnown p) (IsSeen p h) AreSeen seen_more t got known no_gains es o g pushes means (tt, tt) in
      (pairs_once g.moved all once, all_map (λ q. IsTrue (has_place h.tables q.0 q.1)) (pair_of p h) g.moved (all_weaker has_pair g.moved all))
