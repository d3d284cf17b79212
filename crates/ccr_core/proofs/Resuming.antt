-- Builds that run in a history that a core begins with.
use Rattle.std.proofs.Common.{◌≡◌, ℕ, zero, suc, ◌+◌, ◌<◌, ◌≤◌, ◌==◌, Bool, true, false, cond, ◌&&◌, List, [], ◌∷◌, ◌++◌, take, drop, slice_get, map, Some, None, bytes_eq, refl, sym, ap, ◌∙◌, subst, arith, append_assoc}
use Rattle.std.specs.List.{AllByRecursion}
use Rattle.std.proofs.lemmas.Slice.Eq.{bytes_eq-Decides}
use Rattle.ccr_history.specs.Text.{Text}
use Rattle.ccr_history.specs.Builds.{BuildData, count_of, build_of, is_running}
use Rattle.ccr_history.specs.Changes.{edited, IsRunning, AdmitsAll}
use Rattle.ccr_history.specs.History.{HistoryData, AreNumbered}
use Rattle.ccr_history.specs.declared.build.Status.{Status}
use Rattle.ccr_history.specs.declared.build.Status.TheVariants as status
use Rattle.ccr_core.specs.Resumed.{cut_name, running_in}
use Rattle.ccr_core.proofs.Counting.{count_cons, count_more}
use Rattle.ccr_core.proofs.Keeping.{all_from_get, found_other}
use Rattle.ccr_core.proofs.RunningLists.{all_weaker, all_both, id_same, id_refl, id_flip}

-- ---- builds that are cut short, one after another
-- none of these names is this one
abbrev pub IsOther : Text × ℕ → Text × ℕ → Type 0
IsOther n m = (bytes_eq n.0 m.0 && n.1 == m.1) ≡ false

-- no two names are one
abbrev pub AreApart : List (Text × ℕ) → Type 0
AreApart [] = Unit {0}
AreApart (n ∷ ns) = AllByRecursion (IsOther n) ns × AreApart ns

names_take : (ns : List (Text × ℕ)) (h : HistoryData) → AreApart ns → AllByRecursion (λ n. IsRunning n.0 n.1 h.builds) ns → AdmitsAll h (map cut_name ns)
names_take [] h apart runs = tt
names_take (n ∷ ns) h (others, apart) (first, rest) = (
  (first, (λ e. absurd (cc (e))), ((λ i j d before within. absurd (omega (arith, within))), tt)),
  names_take ns (edited (cut_name n) h) apart (all_both (λ y r other. (let (c, found, runs) = r in (c, found_other y.0 y.1 n.0 n.1 status.Errored [] (id_flip n.0 y.0 n.1 y.1 other) h.builds ∙ found, runs))) ns rest others),
)

-- ---- numbers
-- each of these builds, which stand behind others, has the next number of its job
abbrev AreNext : List BuildData → List BuildData → Type 0
AreNext before bs = (i : ℕ) (b : BuildData) → slice_get bs i ≡ Some b → b.number ≡ count_of b.job (before ++ take i bs) + 1

next_less : (before : List BuildData) (b : BuildData) (bs : List BuildData) → AreNext before (b ∷ bs) → AreNext (before ++ b ∷ []) bs
next_less before b bs next i c e = next (suc i) c e ∙ ap (λ l. count_of c.job l + 1) (sym (append_assoc before (b ∷ []) (take i bs)))

count_grows : (j : Text) (xs ys : List BuildData) → count_of j xs ≤ count_of j (xs ++ ys)
count_grows j [] ys = omega arith
count_grows j (x ∷ xs) ys =
    let rest = count_grows j xs ys in
    let whole = count_cons j x (xs ++ ys) in
    let part = count_cons j x xs in
    omega (arith, rest, whole, part)

later : (before bs : List BuildData) → AreNext before bs → AllByRecursion (λ c. count_of c.job before < c.number) bs
later before bs next = all_from_get (λ c. count_of c.job before < c.number) bs (λ i c e. (let is = next i c e in let grows = count_grows c.job before (take i bs) in omega (arith, is, grows)))

-- a build that stands behind has another name
other_by : (before : List BuildData) (b c : BuildData) → b.number ≡ count_of b.job before + 1 → count_of c.job (before ++ b ∷ []) < c.number → (t : Bool) → (bytes_eq b.job c.job && b.number == c.number) ≡ t → (bytes_eq b.job c.job && b.number == c.number) ≡ false
other_by before b c first less false is = is
other_by before b c first less true is =
    let (p, q) = id_same b.job c.job b.number c.number is in
    let more : count_of b.job (before ++ b ∷ []) ≡ count_of b.job before + 1 = count_more b.job before b ∙ ap (λ t. count_of b.job before + cond t 1 0) ((bytes_eq-Decides b.job b.job).1 refl) in
    let above : count_of b.job (before ++ b ∷ []) < b.number = subst (λ n. count_of b.job (before ++ b ∷ []) < n) (sym q) (subst (λ j. count_of j (before ++ b ∷ []) < c.number) (sym p) less) in
    absurd (omega (arith, first, more, above))

others : (before : List BuildData) (b : BuildData) (bs : List BuildData) → AreNext before (b ∷ bs) → AllByRecursion (λ c. (bytes_eq b.job c.job && b.number == c.number) ≡ false) bs
others before b bs next =
    let first : b.number ≡ count_of b.job before + 1 = next zero b refl ∙ ap (λ l. count_of b.job l + 1) (nil_end before) in
    all_weaker (λ c less. other_by before b c first less (bytes_eq b.job c.job && b.number == c.number) refl) bs (later (before ++ b ∷ []) bs (next_less before b bs next))
  where
    nil_end : (xs : List BuildData) → xs ++ [] ≡ xs
    nil_end [] = refl
    nil_end (x ∷ xs) = ap (λ l. x ∷ l) (nil_end xs)

-- each build is found by its name
each_found : (before bs : List BuildData) → AreNext before bs → AllByRecursion (λ c. build_of c.job c.number bs ≡ Some c) bs
each_found before [] next = tt
each_found before (b ∷ bs) next = (
  ap (λ t. cond t (Some b) (build_of b.job b.number bs)) (id_refl b.job b.number),
  all_both (λ c found other. ap (λ t. cond t (Some b) (build_of c.job c.number bs)) (id_flip b.job c.job b.number c.number other) ∙ found) bs (each_found (before ++ b ∷ []) bs (next_less before b bs next)) (others before b bs next),
)

-- ---- those that run
all_in : (P : Text × ℕ → Type 0) (bs : List BuildData) → AllByRecursion (λ b. P (b.job, b.number)) bs → AllByRecursion P (running_in bs)
all_in P [] all = tt
all_in P (b ∷ bs) (one, all) = by (is_running b.status) (all_in P bs all)
  where
    by : (t : Bool) → AllByRecursion P (running_in bs) → AllByRecursion P (cond t ((b.job, b.number) ∷ running_in bs) (running_in bs))
    by true rest = (one, rest)
    by false rest = rest

runs_so : (s : Status) → is_running s ≡ true → s ≡ status.Running
runs_so status.Running e = refl
runs_so status.Succeeded e = absurd (cc e)
runs_so status.Failed e = absurd (cc e)
runs_so status.Errored e = absurd (cc e)
runs_so status.Aborted e = absurd (cc e)

each_runs : (all bs : List BuildData) → AllByRecursion (λ c. build_of c.job c.number all ≡ Some c) bs → AllByRecursion (λ n. IsRunning n.0 n.1 all) (running_in bs)
each_runs all [] found = tt
each_runs all (b ∷ bs) (one, found) = by (is_running b.status) refl (each_runs all bs found)
  where
    by : (t : Bool) → is_running b.status ≡ t → AllByRecursion (λ n. IsRunning n.0 n.1 all) (running_in bs) → AllByRecursion (λ n. IsRunning n.0 n.1 all) (cond t ((b.job, b.number) ∷ running_in bs) (running_in bs))
    by true is rest = ((b, one, runs_so b.status is), rest)
    by false is rest = rest

are_apart : (before bs : List BuildData) → AreNext before bs → AreApart (running_in bs)
are_apart before [] next = tt
are_apart before (b ∷ bs) next = by (is_running b.status) (are_apart (before ++ b ∷ []) bs (next_less before b bs next))
  where
    by : (t : Bool) → AreApart (running_in bs) → AreApart (cond t ((b.job, b.number) ∷ running_in bs) (running_in bs))
    by true rest = (all_in (IsOther (b.job, b.number)) bs (others before b bs next), rest)
    by false rest = rest

-- a history takes it that each build that runs in it is cut short
pub all_cut : (h : HistoryData) → AreNumbered h.builds → AdmitsAll h (map cut_name (running_in h.builds))
all_cut h numbered =
    names_take (running_in h.builds) h (are_apart [] h.builds numbered) (each_runs h.builds h.builds (each_found [] h.builds numbered))

-- ---- one after another
-- where a build runs, its name comes next
runs_next : (bs : List BuildData) (i : ℕ) (b : BuildData) → slice_get bs i ≡ Some b → is_running b.status ≡ true → running_in (drop i bs) ≡ (b.job, b.number) ∷ running_in (drop (suc i) bs)
runs_next [] i b at runs = absurd (cc at)
runs_next (x ∷ bs) zero b at runs =
    let same : x ≡ b = cc at in
    ap (λ y. cond (is_running y.status) ((y.job, y.number) ∷ running_in bs) (running_in bs)) same ∙ ap (λ t. cond t ((b.job, b.number) ∷ running_in bs) (running_in bs)) runs
runs_next (x ∷ bs) (suc i) b at runs = runs_next bs i b at runs

-- where it doesn't, none does
passes_on : (bs : List BuildData) (i : ℕ) (b : BuildData) → slice_get bs i ≡ Some b → is_running b.status ≡ false → running_in (drop i bs) ≡ running_in (drop (suc i) bs)
passes_on [] i b at ended = absurd (cc at)
passes_on (x ∷ bs) zero b at ended =
    let same : x ≡ b = cc at in
    ap (λ y. cond (is_running y.status) ((y.job, y.number) ∷ running_in bs) (running_in bs)) same ∙ ap (λ t. cond t ((b.job, b.number) ∷ running_in bs) (running_in bs)) ended
passes_on (x ∷ bs) (suc i) b at ended = passes_on bs i b at ended

pub past_end : (bs : List BuildData) (i : ℕ) → slice_get bs i ≡ None → running_in (drop (i + 1) bs) ≡ running_in (drop i bs)
past_end bs i none = let same : i + 1 ≡ suc i = omega arith in ap (λ k. running_in (drop k bs)) same ∙ by bs i none
  where
    by : (xs : List BuildData) (k : ℕ) → slice_get xs k ≡ None → running_in (drop (suc k) xs) ≡ running_in (drop k xs)
    by [] zero e = refl
    by [] (suc k) e = refl
    by (x ∷ xs) zero e = absurd (cc e)
    by (x ∷ xs) (suc k) e = by xs k e

pub add_one : (names more : List (Text × ℕ)) (bs : List BuildData) (i : ℕ) (b : BuildData) → Some b ≡ slice_get bs i → b.status ≡ status.Running → more ≡ names ++ (b.job, b.number) ∷ [] → more ++ running_in (drop (i + 1) bs) ≡ names ++ running_in (drop i bs)
add_one names more bs i b at runs is =
    let same : i + 1 ≡ suc i = omega arith in
    let next : running_in (drop i bs) ≡ (b.job, b.number) ∷ running_in (drop (suc i) bs) = runs_next bs i b (sym at) (ap is_running runs) in
    ap (λ l. l ++ running_in (drop (i + 1) bs)) is
    ∙ append_assoc names ((b.job, b.number) ∷ []) (running_in (drop (i + 1) bs))
    ∙ ap (λ k. names ++ (b.job, b.number) ∷ running_in (drop k bs)) same
    ∙ ap (λ l. names ++ l) (sym next)

runs_not : (s : Status) → (s ≡ status.Running → ⊥) → is_running s ≡ false
runs_not status.Running other = absurd (other refl)
runs_not status.Succeeded other = refl
runs_not status.Failed other = refl
runs_not status.Errored other = refl
runs_not status.Aborted other = refl

pub add_none : (bs : List BuildData) (i : ℕ) (b : BuildData) → Some b ≡ slice_get bs i → (b.status ≡ status.Running → ⊥) → running_in (drop (i + 1) bs) ≡ running_in (drop i bs)
add_none bs i b at other = let same : i + 1 ≡ suc i = omega arith in ap (λ k. running_in (drop k bs)) same ∙ sym (passes_on bs i b (sym at) (runs_not b.status other))
