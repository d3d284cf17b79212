-- What a report of versions does to the problem of inputs.
use Rattle.std.proofs.Common.{◌≡◌, ℕ, suc, ◌+◌, ◌-◌, ◌<◌, ◌≤◌, ◌⊎◌, inl, inr, List, [], ◌∷◌, ◌++◌, length, map, reverse, Bool, true, false, cond, not, ◌==◌, IsTrue, refl, sym, ap, ap₂, ◌∙◌, subst, arith, Option, Some, None}
use Rattle.std.specs.Prelude.{filter, nat_lt, nat_le}
use Rattle.std.specs.List.{AllByRecursion, enumerate_from}
use Rattle.std.specs.Option.{option_map_or}
use Rattle.std.proofs.lemmas.Bool.{and_parts, ltb-true, leb-true, eqb-true, ne_eqb}
use Rattle.std.proofs.lemmas.List.{append-nil, reverse-append}
use Rattle.std.proofs.lemmas.List.Elements.{filter-append}
use Rattle.ccr_history.specs.Text.{Text}
use Rattle.ccr_history.specs.TextMap.{TextMap}
use Rattle.ccr_history.specs.Builds.{BuildData, is_of, is_succeeded, passed_pairs}
use Rattle.ccr_history.specs.Scopes.{ScopeData, is_scope}
use Rattle.ccr_history.specs.Tables.{TableData, with_versions, with_report, reported, versions_of, scope_number}
use Rattle.ccr_history.specs.Changes.{versions, edited}
use Rattle.ccr_history.specs.Edits.{AreNew}
use Rattle.ccr_history.specs.History.{HistoryData, IsBuild, IsHistory, places_at, has_place}
use Rattle.ccr_history.specs.Newest.{newest_used}
use Rattle.ccr_history.specs.Keys.{scope_equiv}
use Rattle.ccr_history.proofs.TableLaws.{versions_of-with_report}
use Rattle.ccr_pipeline.specs.Inputs.{InputData, named_jobs}
use Rattle.ccr_pipeline.specs.JobData.{ResourceData}
use Rattle.ccr_pipeline.specs.Pipelines.{PipelineData}
use Rattle.ccr_choice.specs.Problem.{InputValue, BuildValue, ProblemValue}
use Rattle.ccr_problem.specs.Allowed.{PinsData, meets_all, places_from, allowed_places}
use Rattle.ccr_problem.specs.Follows.{ReportAdds, new_places, with_places}
use Rattle.ccr_problem.specs.Passed.{places_in, build_value, job_value}
use Rattle.ccr_problem.specs.ProblemOf.{resource_of, scope_of, history_number, used_resources, pins_of, is_disabled_at, input_places, takes_every, input_after, input_value}
use Rattle.ccr_problem.proofs.Afters.{newest_none}
use Rattle.ccr_problem.proofs.Enabled.{filter_same, none_disabled_in, behind_enabled, places_of_scope}
use Rattle.ccr_problem.proofs.Builds.{chosen}
use Rattle.ccr_problem.proofs.Ends.{map_same, step_by}
use Rattle.ccr_problem.proofs.Names.{same_text}
use Rattle.ccr_problem.proofs.Pairs.{cut_from}

-- ---- scopes
-- scopes that compare alike are one
same_scope : (a b : ScopeData) → is_scope a b ≡ true → a ≡ b
same_scope a b e =
    let parts = and_parts _ _ e in
    let more = and_parts _ _ parts.1 in
    let resource = same_text a.resource b.resource parts.0 in
    let kind = same_text a.kind b.kind more.0 in
    let source = same_text a.source b.source more.1 in
    ap {B = ScopeData} (λ x. record { resource = x; kind = a.kind; source = a.source }) resource
    ∙ ap {B = ScopeData} (λ x. record { resource = b.resource; kind = x; source = a.source }) kind
    ∙ ap {B = ScopeData} (λ x. record { resource = b.resource; kind = b.kind; source = x }) source

-- a report leaves the versions of each other scope
other_scope : (scope s : ScopeData) (ws : List TextMap) (ts : List TableData) → is_scope scope s ≡ false → versions_of s (with_report scope ws ts) ≡ versions_of s ts
other_scope scope s ws [] other = ap {B = List TextMap} (λ c. cond c (with_versions [] ws) []) (scope_equiv.symm s scope ∙ other)
other_scope scope s ws (t ∷ ts) other = by (is_scope scope t.scope) refl (other_scope scope s ws ts other)
  where
    by : (b : Bool) → is_scope scope t.scope ≡ b → versions_of s (with_report scope ws ts) ≡ versions_of s ts
        → versions_of s (cond b (record { scope = t.scope; versions = with_versions t.versions ws } ∷ ts) (t ∷ with_report scope ws ts)) ≡ versions_of s (t ∷ ts)
    by true e rec =
        let apart : is_scope s t.scope ≡ false = ap (is_scope s) (sym (same_scope scope t.scope e)) ∙ scope_equiv.symm s scope ∙ other in
        ap (λ c. cond c (with_versions t.versions ws) (versions_of s ts)) apart ∙ sym (ap (λ c. cond c t.versions (versions_of s ts)) apart)
    by false e rec = ap (λ vs. cond (is_scope s t.scope) t.versions vs) rec

other_reported : (scope s : ScopeData) (ws : List TextMap) (ts : List TableData) → is_scope scope s ≡ false → versions_of s (reported scope ws ts) ≡ versions_of s ts
other_reported scope s [] ts other = refl
other_reported scope s (w ∷ ws) ts other = other_scope scope s (w ∷ ws) ts other

-- new versions come behind those that the scope has
own_reported : (scope : ScopeData) (ws : List TextMap) (ts : List TableData) → AreNew (versions_of scope ts) ws → versions_of scope (reported scope ws ts) ≡ versions_of scope ts ++ ws
own_reported scope [] ts new = sym (append-nil (versions_of scope ts))
own_reported scope (w ∷ ws) ts new = versions_of-with_report scope (w ∷ ws) ts ∙ new

-- ---- places
-- the places of more versions come behind
places_append : (n : ℕ) (pins : PinsData) (vs ws : List TextMap) → places_from n pins (vs ++ ws) ≡ places_from n pins vs ++ places_from (length vs + n) pins ws
places_append n pins [] ws = let e : n ≡ 0 + n = omega arith in ap (λ k. places_from k pins ws) e
places_append n pins (v ∷ vs) ws =
    let e : length vs + (n + 1) ≡ length (v ∷ vs) + n = omega arith in
    by (meets_all pins v) (places_append (n + 1) pins vs ws ∙ ap (λ k. places_from (n + 1) pins vs ++ places_from k pins ws) e)
  where
    by : (b : Bool) → places_from (n + 1) pins (vs ++ ws) ≡ places_from (n + 1) pins vs ++ places_from (length (v ∷ vs) + n) pins ws
        → map (λ x. x.0) (cond b ((n, v) ∷ filter (λ x. meets_all pins x.1) (enumerate_from (n + 1) (vs ++ ws))) (filter (λ x. meets_all pins x.1) (enumerate_from (n + 1) (vs ++ ws))))
        ≡ map (λ x. x.0) (cond b ((n, v) ∷ filter (λ x. meets_all pins x.1) (enumerate_from (n + 1) vs)) (filter (λ x. meets_all pins x.1) (enumerate_from (n + 1) vs)))
        ++ places_from (length (v ∷ vs) + n) pins ws
    by true rest = ap (λ ns. n ∷ ns) rest
    by false rest = rest

module _ (p : PipelineData) (h : HistoryData) (rules : IsHistory h) (scope : ScopeData) (vs : List TextMap) (new : AreNew (versions_of scope h.tables) vs) where
  abbrev after : HistoryData
  after = edited (versions scope vs) h

  abbrev first : ℕ
  first = length (versions_of scope h.tables) + 1

  -- ---- numbers
  -- the number of a scope stays, or it had none and has the next
  abbrev IsNumbered : ℕ → ℕ → ℕ → Type 0
  IsNumbered many n m = (m ≡ n) ⊎ ((n ≡ 0) × (m ≡ many + 1))

  next_by : (b : Bool) (many n m : ℕ) → IsNumbered many n m
      → IsNumbered (suc many) (cond b 1 (cond (n == 0) 0 (n + 1))) (cond b 1 (cond (m == 0) 0 (m + 1)))
  next_by true many n m is = inl refl
  next_by false many n m (inl same) = inl (ap (λ k. cond (k == 0) 0 (k + 1)) same)
  next_by false many n m (inr (none, next)) =
      let here : cond (n == 0) 0 (n + 1) ≡ 0 = ap (λ k. cond (k == 0) 0 (k + 1)) none in
      let some : (m == 0) ≡ false = ne_eqb m 0 (λ e. absurd (omega (arith, e, next))) in
      let there : cond (m == 0) 0 (m + 1) ≡ m + 1 = ap (λ c. cond c 0 (m + 1)) some in
      inr (here, omega (arith, there, next))

  numbered_with : (s : ScopeData) (ws : List TextMap) (ts : List TableData) → IsNumbered (length ts) (scope_number s ts) (scope_number s (with_report scope ws ts))
  numbered_with s ws [] = by (is_scope s scope)
    where
      by : (b : Bool) → IsNumbered 0 0 (cond b 1 0)
      by true = inr (refl, refl)
      by false = inl refl
  numbered_with s ws (t ∷ ts) = by (is_scope scope t.scope) (numbered_with s ws ts)
    where
      by : (b : Bool) → IsNumbered (length ts) (scope_number s ts) (scope_number s (with_report scope ws ts))
          → IsNumbered (length (t ∷ ts)) (scope_number s (t ∷ ts)) (scope_number s (cond b (record { scope = t.scope; versions = with_versions t.versions ws } ∷ ts) (t ∷ with_report scope ws ts)))
      by true rec = inl refl
      by false rec = next_by (is_scope s t.scope) (length ts) (scope_number s ts) (scope_number s (with_report scope ws ts)) rec

  numbered : (s : ScopeData) (ws : List TextMap) → IsNumbered (length h.tables) (scope_number s h.tables) (scope_number s (reported scope ws h.tables))
  numbered s [] = inl refl
  numbered s (w ∷ ws) = numbered_with s (w ∷ ws) h.tables

  -- there is no place at the number 0, and none past the last
  none_first : (ts : List TableData) → places_at ts 0 ≡ 0
  none_first [] = refl
  none_first (t ∷ ts) = none_first ts

  none_past : (ts : List TableData) → places_at ts (length ts + 1) ≡ 0
  none_past [] = refl
  none_past (t ∷ ts) =
      let past : (length (t ∷ ts) + 1 == 1) ≡ false = ne_eqb (length (t ∷ ts) + 1) 1 (λ e. absurd (omega (arith, e))) in
      let less : (length (t ∷ ts) + 1) - 1 ≡ length ts + 1 = omega arith in
      ap (λ c. cond c (length t.versions) (places_at ts ((length (t ∷ ts) + 1) - 1))) past ∙ ap (places_at ts) less ∙ none_past ts

  -- ---- the inputs grow
  disabled_stays : (n m : ℕ) → IsNumbered (length h.tables) n m → (place : ℕ) → is_disabled_at h m place ≡ is_disabled_at h n place
  disabled_stays n m (inl same) place = ap (λ k. is_disabled_at h k place) same
  disabled_stays n m (inr (none, next)) place =
      let past : places_at h.tables m ≡ 0 = ap (places_at h.tables) next ∙ none_past h.tables in
      let first : places_at h.tables n ≡ 0 = ap (places_at h.tables) none ∙ none_first h.tables in
      none_disabled_in h.tables h.disabled rules.3.1 m place past ∙ sym (none_disabled_in h.tables h.disabled rules.3.1 n place first)

  after_stays : (own input : Text) (n m : ℕ) → IsNumbered (length h.tables) n m → newest_used own input m h.builds ≡ newest_used own input n h.builds
  after_stays own input n m (inl same) = ap (λ k. newest_used own input k h.builds) same
  after_stays own input n m (inr (none, next)) =
      newest_none h.tables own input m h.builds rules.1.2 (ap (places_at h.tables) next ∙ none_past h.tables)
      ∙ sym (newest_none h.tables own input n h.builds rules.1.2 (ap (places_at h.tables) none ∙ none_first h.tables))

  grown_by : (b : Bool) (s : ScopeData) (pins : PinsData) → is_scope scope s ≡ b
      → allowed_places pins (is_disabled_at h (scope_number s h.tables)) (versions_of s (reported scope vs h.tables))
      ≡ allowed_places pins (is_disabled_at h (scope_number s h.tables)) (versions_of s h.tables) ++ cond b (places_from first pins vs) []
  grown_by true s pins e = subst (λ z. allowed_places pins (is_disabled_at h (scope_number z h.tables)) (versions_of z (reported scope vs h.tables))
      ≡ allowed_places pins (is_disabled_at h (scope_number z h.tables)) (versions_of z h.tables) ++ places_from first pins vs) (same_scope scope s e) own
    where
      own : allowed_places pins (is_disabled_at h (scope_number scope h.tables)) (versions_of scope (reported scope vs h.tables))
          ≡ allowed_places pins (is_disabled_at h (scope_number scope h.tables)) (versions_of scope h.tables) ++ places_from first pins vs
      own =
          let test : ℕ → Bool = λ n. not (is_disabled_at h (scope_number scope h.tables) n) in
          let behind : places_at h.tables (scope_number scope h.tables) < first = omega (arith, places_of_scope scope h.tables) in
          ap (allowed_places pins (is_disabled_at h (scope_number scope h.tables))) (own_reported scope vs h.tables new)
          ∙ ap (filter test) (places_append 1 pins (versions_of scope h.tables) vs)
          ∙ filter-append test (places_from 1 pins (versions_of scope h.tables)) (places_from first pins vs)
          ∙ ap (λ ns. filter test (places_from 1 pins (versions_of scope h.tables)) ++ ns) (behind_enabled h.tables h.disabled rules.3.1 (scope_number scope h.tables) first pins vs behind)
  grown_by false s pins e =
      ap (allowed_places pins (is_disabled_at h (scope_number s h.tables))) (other_reported scope s vs h.tables e)
      ∙ sym (append-nil (allowed_places pins (is_disabled_at h (scope_number s h.tables)) (versions_of s h.tables)))

  places_grow : (i : InputData) → input_places p after i ≡ input_places p h i ++ new_places p h scope first vs i
  places_grow i = by (resource_of i.resource p.resources)
    where
      by : (o : Option ResourceData)
          → option_map_or (λ r. allowed_places (pins_of r after i) (is_disabled_at after (scope_number (scope_of r) after.tables)) (versions_of (scope_of r) after.tables)) o []
          ≡ option_map_or (λ r. allowed_places (pins_of r h i) (is_disabled_at h (scope_number (scope_of r) h.tables)) (versions_of (scope_of r) h.tables)) o []
          ++ option_map_or (λ r. cond (is_scope scope (scope_of r)) (places_from first (pins_of r h i) vs) []) o []
      by None = refl
      by (Some r) =
          let s : ScopeData = scope_of r in
          filter_same (λ n. not (is_disabled_at h (scope_number s after.tables) n)) (λ n. not (is_disabled_at h (scope_number s h.tables) n))
          (places_from 1 (pins_of r h i) (versions_of s after.tables))
          (λ n. ap not (disabled_stays (scope_number s h.tables) (scope_number s after.tables) (numbered s vs) n))
          ∙ grown_by (is_scope scope s) s (pins_of r h i) refl

  input_stays : (own : Text) (i : InputData) → input_after p after own i ≡ input_after p h own i
  input_stays own i = ap (λ o. cond (takes_every i.wanted) o None) (by (resource_of i.resource p.resources))
    where
      by : (o : Option ResourceData) → newest_used own i.name (option_map_or (λ r. scope_number (scope_of r) after.tables) o 0) h.builds ≡ newest_used own i.name (option_map_or (λ r. scope_number (scope_of r) h.tables) o 0) h.builds
      by None = refl
      by (Some r) = after_stays own i.name (scope_number (scope_of r) h.tables) (scope_number (scope_of r) after.tables) (numbered (scope_of r) vs)

  inputs_grow : (own : Text) (resources jobs : List Text) (is : List InputData)
      → map (input_value p after own resources jobs) is ≡ with_places (map (input_value p h own resources jobs) is) (map (new_places p h scope first vs) is)
  inputs_grow own resources jobs [] = refl
  inputs_grow own resources jobs (i ∷ is) =
      let x : InputValue = input_value p h own resources jobs i in
      ap₂ {C = List InputValue} (λ (here : List ℕ × Option ℕ) xs. record { scope = x.scope; places = here.0; jobs = x.jobs; after = here.1 } ∷ xs)
      (ap₂ (λ ns o. (ns, o)) (places_grow i) (input_stays own i)) (inputs_grow own resources jobs is)

  -- ---- the builds stay
  abbrev AllPlaced : List (ℕ × ℕ) → Type 0
  AllPlaced pairs = AllByRecursion (λ q. IsTrue (has_place h.tables q.0 q.1)) pairs

  none_in : (n : ℕ) (pairs : List (ℕ × ℕ)) → places_at h.tables n ≡ 0 → AllPlaced pairs → places_in pairs n ≡ []
  none_in n [] none placed = refl
  none_in n (q ∷ pairs) none (here, placed) = by (q.0 == n) refl (none_in n pairs none placed)
    where
      by : (b : Bool) → (q.0 == n) ≡ b → places_in pairs n ≡ [] → map (λ p. p.1) (cond b (q ∷ filter (λ p. p.0 == n) pairs) (filter (λ p. p.0 == n) pairs)) ≡ []
      by true e rec =
          let parts = and_parts (nat_lt 0 q.1) (nat_le q.1 (places_at h.tables q.0)) here in
          let low : 0 < q.1 = ltb-true _ _ parts.0 in
          let high : q.1 ≤ places_at h.tables q.0 = leb-true _ _ parts.1 in
          let at : places_at h.tables q.0 ≡ 0 = ap (places_at h.tables) (eqb-true _ _ e) ∙ none in
          absurd (omega (arith, low, high, at))
      by false e rec = rec

  places_stay : (n m : ℕ) (pairs : List (ℕ × ℕ)) → AllPlaced pairs → IsNumbered (length h.tables) n m → places_in pairs m ≡ places_in pairs n
  places_stay n m pairs placed (inl same) = ap (places_in pairs) same
  places_stay n m pairs placed (inr (none, next)) =
      ap (places_in pairs) next ∙ none_in (length h.tables + 1) pairs (none_past h.tables) placed
      ∙ sym (ap (places_in pairs) none ∙ none_in 0 pairs (none_first h.tables) placed)

  resource_stays : (pairs : List (ℕ × ℕ)) → AllPlaced pairs → (name : Text) → places_in pairs (history_number p after name) ≡ places_in pairs (history_number p h name)
  resource_stays pairs placed name = by (resource_of name p.resources)
    where
      by : (o : Option ResourceData) → places_in pairs (option_map_or (λ r. scope_number (scope_of r) after.tables) o 0) ≡ places_in pairs (option_map_or (λ r. scope_number (scope_of r) h.tables) o 0)
      by None = refl
      by (Some r) = places_stay _ _ pairs placed (numbered (scope_of r) vs)

  cut_stays : (k : ℕ) (pairs : List (ℕ × ℕ)) → AllPlaced pairs → (names : List Text)
      → cut_from k (map (history_number p after) names) pairs ≡ cut_from k (map (history_number p h) names) pairs
  cut_stays k pairs placed [] = refl
  cut_stays k pairs placed (name ∷ names) =
      ap₂ (λ ns rest. map (λ place. (k, place)) ns ++ rest) (resource_stays pairs placed name) (cut_stays (k + 1) pairs placed names)

  passed_placed : (b : Bool) (moved : List (ℕ × ℕ)) → AllPlaced moved → AllPlaced (cond b moved [])
  passed_placed true moved placed = placed
  passed_placed false moved placed = tt

  module _ (names : List Text) where
    abbrev now : BuildData → BuildValue
    now = build_value (map (history_number p after) names)

    abbrev was : BuildData → BuildValue
    was = build_value (map (history_number p h) names)

    value_stays : (b : BuildData) → IsBuild h.tables b → now b ≡ was b
    value_stays b is =
        ap {B = BuildValue} (λ pairs. record { number = b.number; pairs = pairs })
        (cut_stays 0 (passed_pairs b) (passed_placed (is_succeeded b.status) b.moved is.3) names)

    -- each of these has the value that it had
    abbrev AreSame : List BuildData → Type 0
    AreSame bs = AllByRecursion (λ b. now b ≡ was b) bs

    among : (job : Text) (bs : List BuildData) → AllByRecursion (IsBuild h.tables) bs → AreSame (chosen job bs)
    among job [] each = tt
    among job (b ∷ bs) (is, each) = by (is_of job b) (is_succeeded b.status) refl refl (among job bs each)
      where
        by : (m s : Bool) → is_of job b ≡ m → is_succeeded b.status ≡ s → AreSame (chosen job bs) → AreSame (chosen job (b ∷ bs))
        by true true e d rec = subst AreSame (sym (step_by job true true b bs e d)) (value_stays b is, rec)
        by true false e d rec = subst AreSame (sym (step_by job true false b bs e d)) rec
        by false s e d rec = subst AreSame (sym (step_by job false s b bs e d)) rec

    map_push : (f : BuildData → BuildValue) (xs : List BuildData) (x : BuildData) → map f (xs ++ x ∷ []) ≡ map f xs ++ f x ∷ []
    map_push f [] x = refl
    map_push f (y ∷ ys) x = ap (λ zs. f y ∷ zs) (map_push f ys x)

    turned : (cs : List BuildData) → AreSame cs → map now (reverse cs) ≡ map was (reverse cs)
    turned [] same = refl
    turned (c ∷ cs) (here, same) =
        ap (map now) (reverse-append (c ∷ []) cs) ∙ map_push now (reverse cs) c
        ∙ ap₂ (λ xs x. xs ++ x ∷ []) (turned cs same) here
        ∙ sym (ap (map was) (reverse-append (c ∷ []) cs) ∙ map_push was (reverse cs) c)

    chosen_stay : (job : Text) (bs : List BuildData) → AllByRecursion (IsBuild h.tables) bs → map now (reverse (chosen job bs)) ≡ map was (reverse (chosen job bs))
    chosen_stay job bs each = turned (chosen job bs) (among job bs each)

pub report_adds : ReportAdds
report_adds p h own is scope vs rules new =
    let resources = used_resources is in
    let jobs = named_jobs [] is in
    ap₂ {C = ProblemValue} (λ xs js. record { inputs = xs; jobs = js })
    (inputs_grow p h rules scope vs new own resources jobs is)
    (map_same (job_value h.builds (map (history_number p (edited (versions scope vs) h)) resources)) (job_value h.builds (map (history_number p h) resources)) jobs
    (λ name. chosen_stay p h rules scope vs new resources name h.builds rules.1.2))
