-- Versions that were seen have places, and stay.
use Rattle.std.proofs.Common.{◌≡◌, ℕ, ◌+◌, ◌-◌, ◌≤◌, ◌==◌, Bool, true, false, cond, ◌||◌, IsTrue, List, [], ◌∷◌, ◌++◌, length, Option, Some, None, refl, sym, ap, ◌∙◌, arith}
use Rattle.std.specs.List.{list_any}
use Rattle.std.specs.Option.{option_map_or}
use Rattle.std.proofs.lemmas.Bool.{and_from, and_parts, ne_eqb, lt-ltb, le-leb}
use Rattle.std.proofs.lemmas.Slice.Eq.{bytes_eq-Decides}
use Rattle.ccr_history.specs.Text.{Text}
use Rattle.ccr_history.specs.TextMap.{TextMap, key_text, is_version}
use Rattle.ccr_history.specs.Scopes.{ScopeData, is_scope}
use Rattle.ccr_history.specs.Tables.{TableData, has_version, with_version, with_versions, with_report, reported, versions_of, scope_number, place_in}
use Rattle.ccr_history.specs.Changes.{EditData, text, versions, build, ended, pin_set, pin_cleared, disabled, enabled, edited, changed}
use Rattle.ccr_history.specs.History.{HistoryData, places_at, has_place}
use Rattle.ccr_pipeline.specs.JobData.{ResourceData}
use Rattle.ccr_pipeline.specs.Pipelines.{PipelineData}
use Rattle.ccr_steps.specs.Asks.{AskData, AnswerData}
use Rattle.ccr_problem.specs.ProblemOf.{resource_of, scope_of}
use Rattle.ccr_core.specs.Seen.{report, pushed_by, report_by}

-- ---- versions of a list
pub version_itself : (v : TextMap) → is_version v v ≡ true
version_itself v = (bytes_eq-Decides (key_text v) (key_text v)).1 refl

pub any_left : {X : Type 0} (p : X → Bool) (xs ys : List X) → list_any p xs ≡ true → list_any p (xs ++ ys) ≡ true
any_left p [] ys e = absurd (cc (e))
any_left p (x ∷ xs) ys e = by (p x) refl (any_left p xs ys) e
  where
    by : (t : Bool) → p x ≡ t → (list_any p xs ≡ true → list_any p (xs ++ ys) ≡ true) → (t || list_any p xs) ≡ true → list_any p (x ∷ (xs ++ ys)) ≡ true
    by true is more e = ap (λ t. t || list_any p (xs ++ ys)) is
    by false is more e = ap (λ t. t || list_any p (xs ++ ys)) is ∙ more e

any_last : {X : Type 0} (p : X → Bool) (xs : List X) (x : X) → p x ≡ true → list_any p (xs ++ x ∷ []) ≡ true
any_last p [] x e = ap (λ t. t || false) e
any_last p (y ∷ xs) x e = by (p y) refl (any_last p xs x e)
  where
    by : (t : Bool) → p y ≡ t → list_any p (xs ++ x ∷ []) ≡ true → list_any p (y ∷ (xs ++ x ∷ [])) ≡ true
    by true is more = ap (λ t. t || list_any p (xs ++ x ∷ [])) is
    by false is more = ap (λ t. t || list_any p (xs ++ x ∷ [])) is ∙ more

-- a version more leaves those that there were
has_with : (vs : List TextMap) (w v : TextMap) → has_version vs v ≡ true → has_version (with_version vs w) v ≡ true
has_with vs w v h = by (has_version vs w)
  where
    by : (t : Bool) → has_version (cond t vs (vs ++ w ∷ [])) v ≡ true
    by true = h
    by false = any_left (is_version v) vs (w ∷ []) h

has_more : (ws vs : List TextMap) (v : TextMap) → has_version vs v ≡ true → has_version (with_versions vs ws) v ≡ true
has_more [] vs v h = h
has_more (w ∷ ws) vs v h = has_more ws (with_version vs w) v (has_with vs w v h)

-- and it is there
has_new : (vs : List TextMap) (v : TextMap) → has_version (with_version vs v) v ≡ true
has_new vs v = by (has_version vs v) refl
  where
    by : (t : Bool) → has_version vs v ≡ t → has_version (cond t vs (vs ++ v ∷ [])) v ≡ true
    by true is = is
    by false is = any_last (is_version v) vs v (version_itself v)

-- ---- versions of a scope
scope_itself : (s : ScopeData) → is_scope s s ≡ true
scope_itself s = and_from _ _ ((bytes_eq-Decides s.resource s.resource).1 refl) (and_from _ _ ((bytes_eq-Decides s.kind s.kind).1 refl) ((bytes_eq-Decides s.source s.source).1 refl))

-- two scopes that are one scope's are of one resource
scope_resource : (a b t : ScopeData) → is_scope a t ≡ true → is_scope b t ≡ true → a.resource ≡ b.resource
scope_resource a b t e f =
    (bytes_eq-Decides a.resource t.resource).0 (and_parts _ _ e).0 ∙ sym ((bytes_eq-Decides b.resource t.resource).0 (and_parts _ _ f).0)

-- a report leaves the versions that there were
has_after : (s scope : ScopeData) (ws : List TextMap) (v : TextMap) (ts : List TableData) → has_version (versions_of s ts) v ≡ true → has_version (versions_of s (with_report scope ws ts)) v ≡ true
has_after s scope ws v [] h = absurd (cc (h))
has_after s scope ws v (t ∷ ts) h = by (is_scope scope t.scope) (is_scope s t.scope) refl (has_after s scope ws v ts) h
  where
    by : (a b : Bool) → is_scope s t.scope ≡ b → (has_version (versions_of s ts) v ≡ true → has_version (versions_of s (with_report scope ws ts)) v ≡ true) → has_version (cond b t.versions (versions_of s ts)) v ≡ true → has_version (versions_of s (cond a (record { scope = t.scope; versions = with_versions t.versions ws } ∷ ts) (t ∷ with_report scope ws ts))) v ≡ true
    by true true is more h = ap (λ c. has_version (cond c (with_versions t.versions ws) (versions_of s ts)) v) is ∙ has_more ws t.versions v h
    by true false is more h = ap (λ c. has_version (cond c (with_versions t.versions ws) (versions_of s ts)) v) is ∙ h
    by false true is more h = ap (λ c. has_version (cond c t.versions (versions_of s (with_report scope ws ts))) v) is ∙ h
    by false false is more h = ap (λ c. has_version (cond c t.versions (versions_of s (with_report scope ws ts))) v) is ∙ more h

has_reported : (s scope : ScopeData) (ws : List TextMap) (v : TextMap) (ts : List TableData) → has_version (versions_of s ts) v ≡ true → has_version (versions_of s (reported scope ws ts)) v ≡ true
has_reported s scope [] v ts h = h
has_reported s scope (w ∷ ws) v ts h = has_after s scope (w ∷ ws) v ts h

-- a version that is reported is there
pub has_report : (s : ScopeData) (v : TextMap) (ts : List TableData) → has_version (versions_of s (with_report s (v ∷ []) ts)) v ≡ true
has_report s v [] = ap (λ c. has_version (cond c (with_version [] v) []) v) (scope_itself s) ∙ has_new [] v
has_report s v (t ∷ ts) = by (is_scope s t.scope) refl (has_report s v ts)
  where
    by : (a : Bool) → is_scope s t.scope ≡ a → has_version (versions_of s (with_report s (v ∷ []) ts)) v ≡ true → has_version (versions_of s (cond a (record { scope = t.scope; versions = with_version t.versions v } ∷ ts) (t ∷ with_report s (v ∷ []) ts))) v ≡ true
    by true is more = ap (λ c. has_version (cond c (with_version t.versions v) (versions_of s ts)) v) is ∙ has_new t.versions v
    by false is more = ap (λ c. has_version (cond c t.versions (versions_of s (with_report s (v ∷ []) ts))) v) is ∙ more

-- no change takes a version away
has_edited : (s : ScopeData) (v : TextMap) (e : EditData) (h : HistoryData) → has_version (versions_of s h.tables) v ≡ true → has_version (versions_of s (edited e h).tables) v ≡ true
has_edited s v (text t) h e = e
has_edited s v (versions scope vs) h e = has_reported s scope vs v h.tables e
has_edited s v (build job used) h e = e
has_edited s v (ended job number st mv) h e = e
has_edited s v (pin_set resource p) h e = e
has_edited s v (pin_cleared resource) h e = e
has_edited s v (disabled scope place) h e = e
has_edited s v (enabled scope place) h e = e

pub has_changed : (s : ScopeData) (v : TextMap) (es : List EditData) (h : HistoryData) → has_version (versions_of s h.tables) v ≡ true → has_version (versions_of s (changed es h).tables) v ≡ true
has_changed s v [] h e = e
has_changed s v (x ∷ es) h e = has_changed s v es (edited x h) (has_edited s v x h e)

-- ---- places
-- a version of a list has a place in it
place_there : (v : TextMap) (vs : List TextMap) → has_version vs v ≡ true → (1 ≤ place_in v vs) × (place_in v vs ≤ length vs)
place_there v [] h = absurd (cc (h))
place_there v (w ∷ vs) h = by (is_version v w) (place_there v vs) h
  where
    by : (t : Bool) → (has_version vs v ≡ true → (1 ≤ place_in v vs) × (place_in v vs ≤ length vs)) → (t || has_version vs v) ≡ true → (1 ≤ cond t 1 (cond (place_in v vs == 0) 0 (place_in v vs + 1))) × (cond t 1 (cond (place_in v vs == 0) 0 (place_in v vs + 1)) ≤ length (w ∷ vs))
    by true more h = (omega arith, omega arith)
    by false more h =
        let (low, high) = more h in
        let none : (place_in v vs == 0) ≡ false = ne_eqb (place_in v vs) 0 (λ z. omega (arith, low, z)) in
        let is : cond (place_in v vs == 0) 0 (place_in v vs + 1) ≡ place_in v vs + 1 = ap (λ c. cond c 0 (place_in v vs + 1)) none in
        (omega (arith, is), omega (arith, is, high))

-- a list with a version isn't empty
pub some_there : (v : TextMap) (vs : List TextMap) → has_version vs v ≡ true → 1 ≤ length vs
some_there v vs h = let (low, high) = place_there v vs h in omega (arith, low, high)

-- a scope with versions has a number, under which they are
pub number_there : (s : ScopeData) (ts : List TableData) → 1 ≤ length (versions_of s ts) → (1 ≤ scope_number s ts) × (places_at ts (scope_number s ts) ≡ length (versions_of s ts))
number_there s [] h = absurd (omega (arith, h))
number_there s (t ∷ ts) h = by (is_scope s t.scope) (number_there s ts) h
  where
    by : (c : Bool) → (1 ≤ length (versions_of s ts) → (1 ≤ scope_number s ts) × (places_at ts (scope_number s ts) ≡ length (versions_of s ts))) → 1 ≤ length (cond c t.versions (versions_of s ts)) → (1 ≤ cond c 1 (cond (scope_number s ts == 0) 0 (scope_number s ts + 1))) × (places_at (t ∷ ts) (cond c 1 (cond (scope_number s ts == 0) 0 (scope_number s ts + 1))) ≡ length (cond c t.versions (versions_of s ts)))
    by true more h = (omega arith, refl)
    by false more h =
        let (low, same) = more h in
        let m = scope_number s ts in
        let none : (m == 0) ≡ false = ne_eqb m 0 (λ z. omega (arith, low, z)) in
        let is : cond (m == 0) 0 (m + 1) ≡ m + 1 = ap (λ c. cond c 0 (m + 1)) none in
        let other : ((m + 1) == 1) ≡ false = ne_eqb (m + 1) 1 (λ z. omega (arith, low, z)) in
        let back : m + 1 - 1 ≡ m = omega arith in
        (omega (arith, is, low), ap (places_at (t ∷ ts)) is ∙ ap (λ c. cond c (length t.versions) (places_at ts (m + 1 - 1))) other ∙ ap (places_at ts) back ∙ same)

-- each place of a scope is one of the tables
pub place_is : (s : ScopeData) (n : ℕ) (ts : List TableData) → 1 ≤ n → n ≤ length (versions_of s ts) → IsTrue (has_place ts (scope_number s ts) n)
place_is s n ts low high =
    let (one, same) = number_there s ts (omega (arith, low, high)) in
    and_from _ _ (lt-ltb 0 n (omega (arith, low))) (le-leb n (places_at ts (scope_number s ts)) (omega (arith, high, same)))

-- what was seen of a scope has a place of the tables
pub has_its_place : (s : ScopeData) (v : TextMap) (ts : List TableData) → has_version (versions_of s ts) v ≡ true → IsTrue (has_place ts (scope_number s ts) (place_in v (versions_of s ts)))
has_its_place s v ts h =
    let (low, high) = place_there v (versions_of s ts) h in
    place_is s (place_in v (versions_of s ts)) ts low high

-- ---- one place is of one version
-- two scopes of one number are of one resource
pub number_same : (a b : ScopeData) (v : TextMap) (ts : List TableData) → has_version (versions_of a ts) v ≡ true → 1 ≤ scope_number b ts → scope_number a ts ≡ scope_number b ts → a.resource ≡ b.resource
number_same a b v [] h low e = absurd (cc (h))
number_same a b v (t ∷ ts) h low e = by (is_scope a t.scope) (is_scope b t.scope) refl refl (number_same a b v ts) h low e
  where
    by : (x y : Bool) → is_scope a t.scope ≡ x → is_scope b t.scope ≡ y → (has_version (versions_of a ts) v ≡ true → 1 ≤ scope_number b ts → scope_number a ts ≡ scope_number b ts → a.resource ≡ b.resource) → has_version (cond x t.versions (versions_of a ts)) v ≡ true → 1 ≤ cond y 1 (cond (scope_number b ts == 0) 0 (scope_number b ts + 1)) → cond x 1 (cond (scope_number a ts == 0) 0 (scope_number a ts + 1)) ≡ cond y 1 (cond (scope_number b ts == 0) 0 (scope_number b ts + 1)) → a.resource ≡ b.resource
    by true true is ys more h low e = scope_resource a b t.scope is ys
    by true false is ys more h low e = absurd (grows (scope_number b ts) e)
      where
        grows : (n : ℕ) → 1 ≡ cond (n == 0) 0 (n + 1) → ⊥
        grows n e = on (n == 0) refl e
          where
            on : (c : Bool) → (n == 0) ≡ c → 1 ≡ cond c 0 (n + 1) → ⊥
            on true is e = omega (arith, e)
            on false is e = let z : n ≡ 0 = omega (arith, e) in (let both : false ≡ true = sym is ∙ ap (λ m. m == 0) z in absurd (cc (both)))
    by false true is ys more h low e =
        let (one, same) = number_there a ts (some_there v (versions_of a ts) h) in
        let none : (scope_number a ts == 0) ≡ false = ne_eqb (scope_number a ts) 0 (λ z. omega (arith, one, z)) in
        let now : scope_number a ts + 1 ≡ 1 = sym (ap (λ c. cond c 0 (scope_number a ts + 1)) none) ∙ e in
        absurd (omega (arith, now, one))
    by false false is ys more h low e = on (scope_number b ts == 0) refl low e
      where
        on : (c : Bool) → (scope_number b ts == 0) ≡ c → 1 ≤ cond c 0 (scope_number b ts + 1) → cond (scope_number a ts == 0) 0 (scope_number a ts + 1) ≡ cond c 0 (scope_number b ts + 1) → a.resource ≡ b.resource
        on true z low e = absurd (omega (arith, low))
        on false z low e =
            let (one, same) = number_there a ts (some_there v (versions_of a ts) h) in
            let none : (scope_number a ts == 0) ≡ false = ne_eqb (scope_number a ts) 0 (λ z. omega (arith, one, z)) in
            let now : scope_number a ts + 1 ≡ scope_number b ts + 1 = sym (ap (λ c. cond c 0 (scope_number a ts + 1)) none) ∙ e in
            more h (omega (arith, now, one)) (omega (arith, now))

-- two versions of one place are one
pub place_same : (v w : TextMap) (vs : List TextMap) → has_version vs v ≡ true → has_version vs w ≡ true → place_in v vs ≡ place_in w vs → key_text v ≡ key_text w
place_same v w [] h k e = absurd (cc (h))
place_same v w (u ∷ vs) h k e = by (is_version v u) (is_version w u) refl refl (place_same v w vs) h k e
  where
    by : (x y : Bool) → is_version v u ≡ x → is_version w u ≡ y → (has_version vs v ≡ true → has_version vs w ≡ true → place_in v vs ≡ place_in w vs → key_text v ≡ key_text w) → (x || has_version vs v) ≡ true → (y || has_version vs w) ≡ true → cond x 1 (cond (place_in v vs == 0) 0 (place_in v vs + 1)) ≡ cond y 1 (cond (place_in w vs == 0) 0 (place_in w vs + 1)) → key_text v ≡ key_text w
    by true true is ys more h k e = (bytes_eq-Decides (key_text v) (key_text u)).0 is ∙ sym ((bytes_eq-Decides (key_text w) (key_text u)).0 ys)
    by true false is ys more h k e =
        let (low, high) = place_there w vs k in
        let none : (place_in w vs == 0) ≡ false = ne_eqb (place_in w vs) 0 (λ z. omega (arith, low, z)) in
        let now : 1 ≡ place_in w vs + 1 = e ∙ ap (λ c. cond c 0 (place_in w vs + 1)) none in
        absurd (omega (arith, now, low))
    by false true is ys more h k e =
        let (low, high) = place_there v vs h in
        let none : (place_in v vs == 0) ≡ false = ne_eqb (place_in v vs) 0 (λ z. omega (arith, low, z)) in
        let now : place_in v vs + 1 ≡ 1 = sym (ap (λ c. cond c 0 (place_in v vs + 1)) none) ∙ e in
        absurd (omega (arith, now, low))
    by false false is ys more h k e =
        let (low, high) = place_there v vs h in
        let (low', high') = place_there w vs k in
        let none : (place_in v vs == 0) ≡ false = ne_eqb (place_in v vs) 0 (λ z. omega (arith, low, z)) in
        let none' : (place_in w vs == 0) ≡ false = ne_eqb (place_in w vs) 0 (λ z. omega (arith, low', z)) in
        let now : place_in v vs + 1 ≡ place_in w vs + 1 = sym (ap (λ c. cond c 0 (place_in v vs + 1)) none) ∙ e ∙ ap (λ c. cond c 0 (place_in w vs + 1)) none' in
        more h k (omega (arith, now))

-- ---- reports leave the builds
pub report_builds : (p : PipelineData) (r : Text) (vs : List TextMap) (h : HistoryData) → (changed (report p r vs) h).builds ≡ h.builds
report_builds p r vs h = by (resource_of r p.resources)
  where
    by : (o : Option ResourceData) → (changed (option_map_or (λ r. versions (scope_of r) vs ∷ []) o []) h).builds ≡ h.builds
    by None = refl
    by (Some r) = refl

pub pushed_builds : (p : PipelineData) (a : AskData) (x : AnswerData) (h : HistoryData) → (changed (report_by p a x) h).builds ≡ h.builds
pushed_builds p a x h = by (pushed_by a x)
  where
    by : (o : Option (Text × TextMap)) → (changed (option_map_or (λ m. report p m.0 (m.1 ∷ [])) o []) h).builds ≡ h.builds
    by None = refl
    by (Some m) = report_builds p m.0 (m.1 ∷ []) h
