-- The builds of a history, read from its rows.
use Rattle.std.proofs.Common.{◌≡◌, ◌≢◌, ℕ, suc, ◌+◌, ◌-◌, ◌<◌, ◌≤◌, ◌^◌, inr, List, [], ◌∷◌, ◌++◌, length, take, drop, get_or, map, Some, None, Bool, true, false, cond, ◌==◌, IsTrue, Less, slice_get, is_eq, refl, sym, ap, ap₂, ◌∙◌, subst, arith, AllPairs, nat_cmp}
use Rattle.std.proofs.Common.{rules}
use Rattle.std.specs.Prelude.{nat_lt, nat_le, IsUtf8}
use Rattle.std.specs.List.{AllByRecursion}
use Rattle.std.specs.List.Sorted.{IsStrictlySortedBy}
use Rattle.std.specs.Ordering.{match_ordering}
use Rattle.std.specs.Str.{bytes_eq}
use Rattle.std.specs.Cmp.Lexicographic.{slice_cmp}
use Rattle.std.proofs.lemmas.Bool.{cond_both, cond-false, cond-true, and_parts, and_from, eqb-true, eq-eqb, ltb-true, leb-true}
use Rattle.std.proofs.lemmas.Bool.Decides.{nat_tests}
use Rattle.std.proofs.lemmas.List.{take_all, length-take, length-take-le}
use Rattle.std.proofs.lemmas.List.Sums.{count_by-le-length}
use Rattle.std.proofs.lemmas.List.Elements.{recursion_from_All, All-from_recursion}
use Rattle.std.proofs.lemmas.List.Kept.{AllPairs-cons}
use Rattle.std.proofs.lemmas.Map.Text.{is_eq-slice_cmp}
use Rattle.std.proofs.lemmas.Slice.Eq.{bytes_eq-Decides}
use Rattle.sqlite_trees.specs.Tree.{IsAscending}
use Rattle.sqlite_trees.proofs.ListLemmas.{all-append}
use Rattle.ccr_tables.specs.NamedRows.{IsNamedRow}
use Rattle.ccr_store.specs.Listed.{listed_pairs}
use Rattle.sqlite.specs.declared.types.Value.TheVariants.{Text as Words}
use Rattle.sqlite.specs.Order.{Row, column}
use Rattle.ccr_history.specs.declared.table.TheConstants.{MOST_VERSIONS}
use Rattle.ccr_history.specs.declared.builds.TheConstants.{MOST_BUILDS}
use Rattle.ccr_history.specs.declared.build.Status.{Status}
use Rattle.ccr_history.specs.declared.build.Status.TheVariants.{Running, Succeeded, Failed, Errored, Aborted}
use Rattle.ccr_history.specs.Tables.{TableData}
use Rattle.ccr_history.specs.Builds.{UsedData, BuildData, with_used, by_input, is_before, with_moved, by_place, is_of, is_build_of, build_of, count_of, new_build, ended, with_end}
use Rattle.ccr_history.specs.History.{HistoryData, IsTable, IsUsed, IsBuild, AreTables, AreBuilds, AreNumbered, places_at, has_place}
use Rattle.ccr_history.specs.Changes.{build, edited, AreUsed, AreMoved, IsRunning}
use Rattle.ccr_history.specs.Changes as edit
use Rattle.ccr_history.proofs.Links.{all-at}
use Rattle.ccr_history.proofs.Lists.{each_weaker, pairs_none, pairs_head, pairs_tail}
use Rattle.ccr_history.proofs.Positions.{length-positions}
use Rattle.ccr_history.proofs.Numbered.{numbered_none}
use Rattle.ccr_store.specs.Rows.{status_number, build_row, build_rows, used_row, moved_row, disabled_rows}
use Rattle.ccr_store.specs.Texts.{IsTextBuild}
use Rattle.ccr_store.proofs.FrontRows.{rows_length, row_there, next_item}
use Rattle.ccr_store.proofs.ListedRows.{drop_at}
use Rattle.ccr_store.proofs.OneHistory.{from_names}
use Rattle.ccr_store.proofs.ReadRows.{same_words}

-- ---- places are small numbers
places_few : (ts : List TableData) (n : ℕ) → AllByRecursion IsTable ts → 0 < places_at ts n → (n ≤ length ts) × (places_at ts n ≤ MOST_VERSIONS)
places_few [] n rules some = absurd (omega (arith, some))
places_few (t ∷ ts) n rules some =
    cond_both (n == 1) (length t.versions) (places_at ts (n - 1)) (λ m. 0 < m → (n ≤ length (t ∷ ts)) × (m ≤ MOST_VERSIONS)) (λ one _. (omega (arith, eqb-true n 1 one), rules.0.1))
    (λ other more.
    let rest = places_few ts (n - 1) rules.1 more in
    (omega (arith, rest.0), rest.1)) some

few : (ts : List TableData) (scope place : ℕ) → AreTables ts → IsTrue (has_place ts scope place) → (scope < 2 ^ 32) × (place < 2 ^ 32)
few ts scope place rules has =
    let parts = and_parts (nat_lt 0 place) (nat_le place (places_at ts scope)) has in
    let some : 0 < place = ltb-true 0 place parts.0 in
    let within : place ≤ places_at ts scope = leb-true place (places_at ts scope) parts.1 in
    let bound = places_few ts scope rules.2 (omega (arith, some, within)) in
    (omega (arith, bound.0, rules.0), omega (arith, bound.1, within))

used_few : (ts : List TableData) (b : BuildData) → AreTables ts → IsBuild ts b → AllByRecursion (λ u. (u.scope < 2 ^ 32) × (u.place < 2 ^ 32)) b.used
used_few ts b tables rules = each_weaker (IsUsed ts) (λ (u : UsedData). (u.scope < 2 ^ 32) × (u.place < 2 ^ 32)) (λ u it. few ts u.scope u.place tables it.1) b.used rules.1

moved_few : (ts : List TableData) (b : BuildData) → AreTables ts → IsBuild ts b → AllByRecursion (λ p. (p.0 < 2 ^ 32) × (p.1 < 2 ^ 32)) b.moved
moved_few ts b tables rules = each_weaker (λ (p : ℕ × ℕ). IsTrue (has_place ts p.0 p.1)) (λ p. (p.0 < 2 ^ 32) × (p.1 < 2 ^ 32)) (λ p it. few ts p.0 p.1 tables it) b.moved rules.3

-- ---- what is in order stays so
used_first : (u : UsedData) (us : List UsedData) → AllByRecursion (λ k. slice_cmp nat_cmp u.input k ≡ Less) (map (λ v. v.input) us) → with_used u us ≡ u ∷ us
used_first u [] h = refl
used_first u (v ∷ vs) h = ap (λ o. match_ordering o (u ∷ v ∷ vs) (u ∷ v ∷ vs) (v ∷ with_used u vs)) h.0

used_stay : (us : List UsedData) → IsStrictlySortedBy (slice_cmp nat_cmp) (map (λ u. u.input) us) → by_input us ≡ us
unfolding IsStrictlySortedBy
used_stay [] up = refl
used_stay (u ∷ us) up = ap (with_used u) (used_stay us up.1) ∙ used_first u us up.0

abbrev Before : ℕ × ℕ → ℕ × ℕ → Type 0
Before p q = IsTrue (is_before p q)

moved_first : (p : ℕ × ℕ) (ps : List (ℕ × ℕ)) → AllByRecursion (Before p) ps → with_moved p ps ≡ p ∷ ps
moved_first p [] h = refl
moved_first p (q ∷ qs) h = ap (λ b. cond b (p ∷ q ∷ qs) (q ∷ with_moved p qs)) h.0

moved_stay : (ps : List (ℕ × ℕ)) → AllPairs Before ps → by_place ps ≡ ps
moved_stay [] h = refl
moved_stay (p ∷ ps) h = ap (with_moved p) (moved_stay ps (pairs_tail Before p ps h)) ∙ moved_first p ps (recursion_from_All (Before p) ps (pairs_head Before p ps h))

abbrev OtherInput : UsedData → UsedData → Type 0
OtherInput u v = bytes_eq u.input v.input ≡ false

inputs_apart : (us : List UsedData) → IsAscending (λ (u v : UsedData). slice_cmp nat_cmp u.input v.input ≡ Less) us → AllPairs OtherInput us
inputs_apart [] up = pairs_none OtherInput
inputs_apart (u ∷ us) up =
    AllPairs-cons OtherInput u us
    (All-from_recursion (OtherInput u) us (each_weaker (λ (v : UsedData). slice_cmp nat_cmp u.input v.input ≡ Less) (OtherInput u) (λ v less. sym (is_eq-slice_cmp u.input v.input) ∙ ap is_eq less) us up.0)) (inputs_apart us up.1)

not_itself : (p q : ℕ × ℕ) → IsTrue (is_before p q) → p ≡ q → ⊥
not_itself p q before same = by (subst (λ r. IsTrue (is_before p r)) (sym same) before)
  where
    by : IsTrue (is_before p p) → ⊥
    by h = grind (arith, nat_tests)

pub used_given : (ts : List TableData) (b : BuildData) → IsBuild ts b → AreUsed ts b.used
used_given ts b rules = (inputs_apart b.used (from_names (λ (u : UsedData). u.input) b.used rules.0), rules.1)

pub moved_given : (ts : List TableData) (b : BuildData) → IsBuild ts b → AreMoved ts b.moved
moved_given ts b rules = (λ i j d less within same. not_itself (get_or b.moved i d) (get_or b.moved j d) (rules.2 i j d less within) same, rules.3)

-- ---- a build as it begins and ends
abbrev built : List ℕ → ℕ → Status → List UsedData → List (ℕ × ℕ) → BuildData
built job number status used moved = record { job = job; number = number; status = status; used = used; moved = moved }

running_is : (ts : List TableData) (b : BuildData) → IsBuild ts b → b.status ≡ Running → new_build b.job b.number b.used ≡ b
running_is ts b rules runs =
    ap₂ (λ s u. built b.job b.number s u []) (sym runs) (used_stay b.used rules.0) ∙ ap (λ m. built b.job b.number b.status b.used m) (sym (rules.4 runs))

over_is : (ts : List TableData) (b : BuildData) → IsBuild ts b → ended b.status b.moved (new_build b.job b.number b.used) ≡ b
over_is ts b rules = ap₂ (λ u m. built b.job b.number b.status u m) (used_stay b.used rules.0) (moved_stay b.moved rules.2)

pub zero_runs : (s : Status) → status_number s ≡ 0 → s ≡ Running
zero_runs Running e = refl
zero_runs Succeeded e = absurd (omega (arith, e))
zero_runs Failed e = absurd (omega (arith, e))
zero_runs Errored e = absurd (omega (arith, e))
zero_runs Aborted e = absurd (omega (arith, e))

pub unended : (ts : List TableData) (b : BuildData) (before : List BuildData) (h : HistoryData) → IsBuild ts b → b.status ≡ Running → h.builds ≡ before ++ new_build b.job b.number b.used ∷ [] → h ≡ record h { builds = before ++ b ∷ [] }
unended ts b before h rules runs are = ap (λ (l : List BuildData). record h { builds = l }) (are ∙ ap (λ (c : BuildData). before ++ c ∷ []) (running_is ts b rules runs))

-- ---- the last of the builds is the one that ends
none_of : (job : List ℕ) (n : ℕ) (bs : List BuildData) → build_of job n bs ≡ None → AllByRecursion (λ c. is_build_of job n c ≡ false) bs
none_of job n [] none = tt
none_of job n (b ∷ bs) none = by (is_build_of job n b) refl none (λ rest. none_of job n bs rest)
  where
    by : (t : Bool) → is_build_of job n b ≡ t → cond t (Some b) (build_of job n bs) ≡ None → (build_of job n bs ≡ None → AllByRecursion (λ c. is_build_of job n c ≡ false) bs) → (is_build_of job n b ≡ false) × AllByRecursion (λ c. is_build_of job n c ≡ false) bs
    by true e some more = absurd (cc)
    by false e rest more = (e, more rest)

last_built : (job : List ℕ) (n : ℕ) (bs : List BuildData) (b : BuildData) → AllByRecursion (λ c. is_build_of job n c ≡ false) bs → is_build_of job n b ≡ true → build_of job n (bs ++ b ∷ []) ≡ Some b
last_built job n [] b none own = cond-true (is_build_of job n b) (Some b) None own
last_built job n (c ∷ bs) b none own = cond-false (is_build_of job n c) (Some c) (build_of job n (bs ++ b ∷ [])) none.0 ∙ last_built job n bs b none.1 own

last_ended : (job : List ℕ) (n : ℕ) (s : Status) (m : List (ℕ × ℕ)) (bs : List BuildData) (b : BuildData) → AllByRecursion (λ c. is_build_of job n c ≡ false) bs → is_build_of job n b ≡ true → with_end job n s m (bs ++ b ∷ []) ≡ bs ++ ended s m b ∷ []
last_ended job n s m [] b none own = ap (λ t. cond t (ended s m b) b ∷ []) own
last_ended job n s m (c ∷ bs) b none own = ap₂ (λ t l. cond t (ended s m c) c ∷ l) none.0 (last_ended job n s m bs b none.1 own)

own_build : (job : List ℕ) (n : ℕ) (used : List UsedData) → is_build_of job n (new_build job n used) ≡ true
own_build job n used = and_from (bytes_eq job job) (n == n) ((bytes_eq-Decides job job).1 refl) (eq-eqb n n refl)

pub last_runs : (job : List ℕ) (number : ℕ) (b : BuildData) (before bs : List BuildData) → job ≡ b.job → number ≡ b.number → build_of b.job b.number before ≡ None → bs ≡ before ++ new_build b.job b.number b.used ∷ [] → IsRunning job number bs
last_runs job number b before bs j n none are = (
  new_build b.job b.number b.used,
  ap₂ (λ k m. build_of k m bs) j n ∙ ap (build_of b.job b.number) are ∙ last_built b.job b.number before (new_build b.job b.number b.used) (none_of b.job b.number before none) (own_build b.job b.number b.used),
  refl,
)

pub last_over : (ts : List TableData) (b : BuildData) (before : List BuildData) (h new : HistoryData) (job : List ℕ) (number : ℕ) (status : Status) (moved : List (ℕ × ℕ)) → IsBuild ts b → build_of b.job b.number before ≡ None → h.builds ≡ before ++ new_build b.job b.number b.used ∷ []
    → job ≡ b.job → number ≡ b.number → status ≡ b.status → moved ≡ b.moved → new ≡ edited (edit.ended job number status moved) h → new ≡ record h { builds = before ++ b ∷ [] }
last_over ts b before h new job number status moved rules none are j n s m is =
    is ∙ ap₂ (λ k l. edited (edit.ended k l status moved) h) j n ∙ ap₂ (λ t l. edited (edit.ended b.job b.number t l) h) s m
    ∙ ap (λ (l : List BuildData). record h { builds = l })
    (ap (with_end b.job b.number b.status b.moved) are ∙ last_ended b.job b.number b.status b.moved before (new_build b.job b.number b.used) (none_of b.job b.number before none) (own_build b.job b.number b.used)
    ∙ ap (λ (c : BuildData). before ++ c ∷ []) (over_is ts b rules))

-- ---- a build is begun behind the others
pub number_new : (b : BuildData) (bs : List BuildData) → AreNumbered bs → b.number ≡ count_of b.job bs + 1 → build_of b.job b.number bs ≡ None
number_new b bs numbered is = numbered_none b.job bs numbered b.number (inr (omega (arith, is, length-positions (is_of b.job) bs)))

pub begun : (b : BuildData) (h mid : HistoryData) (job : List ℕ) → mid ≡ edited (build job b.used) h → job ≡ b.job → b.number ≡ count_of b.job h.builds + 1 → mid ≡ record h { builds = h.builds ++ new_build b.job b.number b.used ∷ [] }
begun b h mid job is j number =
    is ∙ ap (λ k. edited (build k b.used) h) j ∙ ap (λ n. record h { builds = h.builds ++ new_build b.job n b.used ∷ [] }) (sym number)

-- ---- the build of a row
pub build_read : (ts : List TableData) (bs : List BuildData) (rows : List Row) (i : ℕ) (r : Row) → AreBuilds ts bs → AllByRecursion IsTextBuild bs → rows ≡ build_rows 1 bs → i < length rows → r ≡ get_or rows i r
    → (b : BuildData) × (i + 1 < 2 ^ 32) × IsBuild ts b × IsTextBuild b × (r ≡ build_row (i + 1) b) × (drop i bs ≡ b ∷ drop (i + 1) bs) × (b.number ≡ count_of b.job (take i bs) + 1) × (length (take i bs) < MOST_BUILDS) × (take (i + 1) bs ≡ take i bs ++ b ∷ [])
build_read ts bs rows i r rules texts same within is =
    let it = row_there build_rows build_row (λ k. refl) (λ k x xs. refl) 1 bs rows i r same within is in
    let many = rows_length build_rows build_row (λ k. refl) (λ k x xs. refl) 1 bs in
    let inside : i < length bs = omega (arith, within, ap (λ (l : List Row). length l) same, many) in
    let taken : length (take i bs) ≡ i = length-take-le i bs (omega (arith, inside)) in
    let next : 1 + i ≡ i + 1 = omega arith in (
      it.0,
      omega (arith, inside, rules.0),
      all-at (IsBuild ts) bs i it.0 rules.2 it.1,
      all-at IsTextBuild bs i it.0 texts it.1,
      it.2 ∙ ap (λ n. build_row n it.0) next,
      drop_at bs i it.0 it.1,
      rules.1 i it.0 it.1,
      omega (arith, inside, taken, rules.0),
      next_item bs i it.0 it.1,
    )

pub builds_whole : (bs : List BuildData) (rows : List Row) (i : ℕ) → rows ≡ build_rows 1 bs → length rows ≤ i → take i bs ≡ bs
builds_whole bs rows i same past =
    take_all i bs (omega (arith, ap (λ (l : List Row). length l) same, rows_length build_rows build_row (λ k. refl) (λ k x xs. refl) 1 bs, past))

-- ---- moved pairs have no input, and used places have one
pub moved_empty : (id : ℕ) (ps : List (ℕ × ℕ)) → AllByRecursion (λ r. column r 1 ≡ Words []) (map (moved_row id) ps)
moved_empty id [] = tt
moved_empty id (p ∷ ps) = (refl, moved_empty id ps)

pub used_named : (ts : List TableData) (id : ℕ) (us : List UsedData) → AllByRecursion (IsUsed ts) us → AllByRecursion (λ r. column r 1 ≢ Words []) (map (used_row id) us)
used_named ts id [] rules = tt
used_named ts id (u ∷ us) rules = (λ none. rules.0.0 (same_words u.input [] none), used_named ts id us rules.1)

-- ---- a history's pairs are pairs
used_pairs : (id : ℕ) (us : List UsedData) → id < 2 ^ 32 → AllByRecursion (λ (u : UsedData). IsUtf8 u.input) us → AllByRecursion (λ (u : UsedData). (u.scope < 2 ^ 32) × (u.place < 2 ^ 32)) us → AllByRecursion IsNamedRow (map (used_row id) us)
used_pairs id [] low texts small = tt
used_pairs id (u ∷ us) low texts small = ((id, u.input, u.scope, u.place, low, texts.0, small.0.0, small.0.1, refl), used_pairs id us low texts.1 small.1)

moved_pairs : (id : ℕ) (ps : List (ℕ × ℕ)) → id < 2 ^ 32 → AllByRecursion (λ (p : ℕ × ℕ). (p.0 < 2 ^ 32) × (p.1 < 2 ^ 32)) ps → AllByRecursion IsNamedRow (map (moved_row id) ps)
moved_pairs id [] low small = tt
moved_pairs id (p ∷ ps) low small = ((id, [], p.0, p.1, low, search rules, small.0.0, small.0.1, refl), moved_pairs id ps low small.1)

pub disabled_are : (ts : List TableData) (ps : List (ℕ × ℕ)) → AreTables ts → AllByRecursion (λ (p : ℕ × ℕ). IsTrue (has_place ts p.0 p.1)) ps → AllByRecursion IsNamedRow (disabled_rows ps)
disabled_are ts ps tables places =
    moved_pairs 0 ps (omega arith) (each_weaker (λ (p : ℕ × ℕ). IsTrue (has_place ts p.0 p.1)) (λ p. (p.0 < 2 ^ 32) × (p.1 < 2 ^ 32)) (λ p it. few ts p.0 p.1 tables it) ps places)

pub listed_pairs_are : (ts : List TableData) (id : ℕ) (bs : List BuildData) → id + length bs ≤ 2 ^ 32 → AreTables ts → AllByRecursion (IsBuild ts) bs → AllByRecursion IsTextBuild bs → AllByRecursion IsNamedRow (listed_pairs id bs)
listed_pairs_are ts id [] room tables rules texts = tt
listed_pairs_are ts id (b ∷ bs) room tables rules texts =
    let low : id < 2 ^ 32 = omega (arith, room) in
    let more : id + 1 + length bs ≤ 2 ^ 32 = omega (arith, room) in
    all-append IsNamedRow (map (moved_row id) b.moved ++ map (used_row id) b.used) (listed_pairs (id + 1) bs)
    (all-append IsNamedRow (map (moved_row id) b.moved) (map (used_row id) b.used) (moved_pairs id b.moved low (moved_few ts b tables rules.0)) (used_pairs id b.used low texts.0.1 (used_few ts b tables rules.0)))
    (listed_pairs_are ts (id + 1) bs more tables rules.1 texts.1)

-- ---- a history's rows of builds are builds
status_few : (s : Status) → status_number s < 2 ^ 32
status_few Running = omega arith
status_few Succeeded = omega arith
status_few Failed = omega arith
status_few Errored = omega arith
status_few Aborted = omega arith

each_at : {X : Type 0} (P : X → Type 0) (xs : List X) → ((i : ℕ) (x : X) → slice_get xs i ≡ Some x → P x) → AllByRecursion P xs
each_at P [] h = tt
each_at P (x ∷ xs) h = (h 0 x refl, each_at P xs (λ i y e. h (suc i) y e))

pub numbers_few : (bs : List BuildData) → AreNumbered bs → length bs ≤ MOST_BUILDS → AllByRecursion (λ b. b.number < 2 ^ 32) bs
numbers_few bs numbered few =
    each_at (λ (b : BuildData). b.number < 2 ^ 32) bs
    (λ i b at. omega (arith, numbered i b at, count_by-le-length (is_of b.job) (take i bs), length-take i bs, few))

pub build_rows_are : (id : ℕ) (bs : List BuildData) → id + length bs ≤ 2 ^ 32 → AllByRecursion (λ b. b.number < 2 ^ 32) bs → AllByRecursion IsTextBuild bs → AllByRecursion IsNamedRow (build_rows id bs)
build_rows_are id [] room few texts = tt
build_rows_are id (b ∷ bs) room few texts =
    let low : id < 2 ^ 32 = omega (arith, room) in
    let more : id + 1 + length bs ≤ 2 ^ 32 = omega (arith, room) in
    ((id, b.job, b.number, status_number b.status, low, texts.0.0, few.0, status_few b.status, refl), build_rows_are (id + 1) bs more few.1 texts.1)
