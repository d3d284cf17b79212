-- Rows, and what is kept beside them.
use Rattle.std.proofs.Common.{◌≡◌, ℕ, zero, suc, ◌+◌, ◌<◌, ◌≤◌, ◌⊎◌, ◌==◌, List, [], ◌∷◌, ◌++◌, map, length, slice_get, set, Bool, true, false, cond, ◌&&◌, ◌||◌, Option, Some, None, refl, sym, ap, ap₂, ◌∙◌, subst, inl, inr, ⊎_elim, arith, append-nil}
use Rattle.std.specs.List.{AllByRecursion, list_any}
use Rattle.std.specs.Map.{lookup}
use Rattle.std.specs.Option.{option_or}
use Rattle.std.specs.Str.{bytes_eq}
use Rattle.std.proofs.lemmas.Bool.{cases_order, cases_eq, eq-eqb, ne_eqb, eqb-true, false_from_ne_true, false≢true, or_parts, and_left, and_right}
use Rattle.std.proofs.lemmas.List.{length-set, length-append, get_or_append_left, map-set, map_push}
use Rattle.std.proofs.lemmas.List.Folds.{list_any-append}
use Rattle.std.proofs.lemmas.Option.{slice_get_within, get_or_from_slice_get, slice_get-get_or}
use Rattle.std.proofs.lemmas.Slice.Eq.{bytes_eq-Decides}
use Rattle.ccr_history.specs.declared.build.Status.{Status}
use Rattle.ccr_history.specs.declared.build.Status.TheVariants.{Running}
use Rattle.ccr_history.specs.declared.used_row.UsedRow.{UsedRow}
use Rattle.ccr_history.specs.declared.used_row.InputScope.{InputScope}
use Rattle.ccr_history.specs.Text.{Text}
use Rattle.ccr_history.specs.Names.{has_name, name_at, AreApart, HasMore}
use Rattle.ccr_history.specs.Builds.{UsedData, BuildData, is_of, is_build_of, count_of, new_build, with_build, by_input, by_place, ended, with_end, positions, positions_of, is_used, has_used}
use Rattle.ccr_history.specs.Newest.{last_given, place_if_at, place_used, newest_used}
use Rattle.ccr_history.specs.Rows.{RowData, JobData, no_job, used_data, build_data, builds_data, new_row, ended_row, is_same, is_row_of, has_used_row, is_input_scope, row_if_at, row_used, IsNamed, KeepsJob, IsLinked, HasOneMore}
use Rattle.ccr_history.specs.Orderly.{IsOnly}
use Rattle.ccr_history.proofs.Positions.{positions-push, positions-agree, any-agree, same_answers, answers-set, positions-none, any-none}
use Rattle.ccr_history.proofs.Numbered.{slice_get_push, map_only}
use Rattle.ccr_history.proofs.Lists.{each_weaker, each_push}
use Rattle.ccr_history.proofs.Given.{last_given-push, given-agree, given-none}

all-set : {X : Type 0} (P : X → Type 0) (xs : List X) (i : ℕ) (y : X) → P y → AllByRecursion P xs → AllByRecursion P (set xs i y)
all-set P [] i y h all = tt
all-set P (x ∷ xs) zero y h all = (h, all.1)
all-set P (x ∷ xs) (suc i) y h all = (all.0, all-set P xs i y h all.1)

pub all-at : {X : Type 0} (P : X → Type 0) (xs : List X) (i : ℕ) (x : X) → AllByRecursion P xs → slice_get xs i ≡ Some x → P x
all-at P [] i x all e = absurd (cc)
all-at P (y ∷ ys) zero x all e = subst P (let f : y ≡ x = cc in f) all.0
all-at P (y ∷ ys) (suc i) x all e = all-at P ys i x all.1 e

slice_get_set : {X : Type 0} (xs : List X) (i : ℕ) (y : X) (j : ℕ) (x : X) → slice_get (set xs i y) j ≡ Some x → ((j ≡ i) × (y ≡ x)) ⊎ ((j ≡ i → ⊥) × (slice_get xs j ≡ Some x))
slice_get_set [] i y j x e = absurd (cc)
slice_get_set (z ∷ zs) zero y zero x e = inl (refl, cc)
slice_get_set (z ∷ zs) zero y (suc j) x e = inr (λ h. absurd (omega (arith, h)), e)
slice_get_set (z ∷ zs) (suc i) y zero x e = inr (λ h. absurd (omega (arith, h)), e)
slice_get_set (z ∷ zs) (suc i) y (suc j) x e =
    ⊎_elim (λ h. inl (ap (λ n. suc n) h.0, h.1)) (λ h. inr (λ k. h.0 (omega (arith, k)), h.1)) (slice_get_set zs i y j x e)

pub map_same : {X Y : Type 0} (f g : X → Y) (xs : List X) → AllByRecursion (λ x. f x ≡ g x) xs → map f xs ≡ map g xs
map_same f g [] all = refl
map_same f g (x ∷ xs) all = ap (λ y. y ∷ map f xs) all.0 ∙ ap (λ l. g x ∷ l) (map_same f g xs all.1)

map-map : {X Y Z : Type 0} (g : Y → Z) (f : X → Y) (xs : List X) → map g (map f xs) ≡ map (λ x. g (f x)) xs
map-map g f [] = refl
map-map g f (x ∷ xs) = ap (λ l. g (f x) ∷ l) (map-map g f xs)

-- ---- more names
pub length-more : (names more : List Text) → HasMore names more → length names ≤ length more
length-more names more h = omega (arith, ap length h.1, length-append names h.0)

pub name_at-more : (names more : List Text) → HasMore names more → (n : ℕ) → n < length names → name_at more n ≡ name_at names n
name_at-more names more h n lt = ap (λ l. name_at l n) h.1 ∙ get_or_append_left names h.0 [] n lt

pub used_data-more : (names more : List Text) → HasMore names more → (us : List UsedRow) → AllByRecursion (λ u. u.input < length names) us → map (used_data more) us ≡ map (used_data names) us
used_data-more names more h us all =
    map_same (used_data more) (used_data names) us
    (each_weaker (λ u. u.input < length names) (λ u. used_data more u ≡ used_data names u)
    (λ u lt. ap (λ t. let d : UsedData = record { input = t; scope = u.scope; place = u.place } in d) (name_at-more names more h u.input lt)) us all)

pub builds_data-more : (jobs jobs' inputs inputs' : List Text) → HasMore jobs jobs' → HasMore inputs inputs' → (rows : List RowData)
    → AllByRecursion (IsNamed (length jobs) (length inputs)) rows → builds_data jobs' inputs' rows ≡ builds_data jobs inputs rows
builds_data-more jobs jobs' inputs inputs' more_jobs more_inputs rows all =
    map_same (build_data jobs' inputs') (build_data jobs inputs) rows
    (each_weaker (IsNamed (length jobs) (length inputs)) (λ r. build_data jobs' inputs' r ≡ build_data jobs inputs r) each rows all)
  where
    each : (r : RowData) → IsNamed (length jobs) (length inputs) r → build_data jobs' inputs' r ≡ build_data jobs inputs r
    each r named =
        ap (λ t. let b : BuildData = record { job = t; number = r.number; status = r.status; used = map (used_data inputs') r.used; moved = r.moved } in b)
        (name_at-more jobs jobs' more_jobs r.job named.0)
        ∙ ap (λ us. let b : BuildData = record { job = name_at jobs r.job; number = r.number; status = r.status; used = us; moved = r.moved } in b)
        (used_data-more inputs inputs' more_inputs r.used named.1)

pub IsNamed-more : (jobs jobs' inputs inputs' : ℕ) → jobs ≤ jobs' → inputs ≤ inputs' → (r : RowData) → IsNamed jobs inputs r → IsNamed jobs' inputs' r
IsNamed-more jobs jobs' inputs inputs' p q r named =
    (omega (arith, named.0), each_weaker (λ u. u.input < inputs) (λ u. u.input < inputs') (λ u lt. omega (arith, lt)) r.used named.1)

-- a job whose number no row has
KeepsJob-none : (rows : List RowData) (job : ℕ) → AllByRecursion (λ r. r.job < job) rows → KeepsJob rows job no_job
KeepsJob-none rows job all =
    let others = each_weaker (λ r. r.job < job) (λ r. is_row_of job r ≡ false) (λ r lt. ne_eqb job r.job (λ e. omega (arith, lt))) rows all in (
      sym (positions-none (is_row_of job) rows others),
      λ u. sym (any-none (λ r. is_row_of job r && list_any (is_same u) r.used) rows
          (each_weaker (λ r. is_row_of job r ≡ false) (λ r. (is_row_of job r && list_any (is_same u) r.used) ≡ false) (λ r e. and_left _ _ e) rows others)),
      λ s. sym (given-none (row_used job s) rows
          (each_weaker (λ r. is_row_of job r ≡ false) (λ r. row_used job s r ≡ None) (λ r e. ap (λ b. cond b (last_given (row_if_at s) r.used) None) e) rows others)),
    )

pub IsLinked-more : (jobs jobs' inputs inputs' : List Text) (rows : List RowData) (kept kept' : List JobData) → IsLinked jobs inputs rows kept
    → HasMore jobs jobs' → HasMore inputs inputs' → HasOneMore kept kept' → length jobs' ≤ length kept' → IsLinked jobs' inputs' rows kept'
IsLinked-more jobs jobs' inputs inputs' rows kept kept' linked more_jobs more_inputs one enough =
    record {
      named = each_weaker (IsNamed (length jobs) (length inputs)) (IsNamed (length jobs') (length inputs')) (IsNamed-more _ _ _ _ (length-more jobs jobs' more_jobs) (length-more inputs inputs' more_inputs)) rows linked.named;
      enough = enough;
      keeps = λ job d e. by job d e one;
    }
  where
    new : (job : ℕ) (d : JobData) → ((job < length kept) × (slice_get kept job ≡ Some d)) ⊎ ((job ≡ length kept) × (no_job ≡ d)) → KeepsJob rows job d
    new job d (inl h) = linked.keeps job d h.1
    new job d (inr h) =
        subst (KeepsJob rows job) h.1 (KeepsJob-none rows job
        (each_weaker (IsNamed (length jobs) (length inputs)) (λ r. r.job < job) (λ r named. omega (arith, named.0, h.0, linked.enough)) rows linked.named))

    by : (job : ℕ) (d : JobData) → slice_get kept' job ≡ Some d → HasOneMore kept kept' → KeepsJob rows job d
    by job d e (inl same) = linked.keeps job d (ap (λ l. slice_get l job) (sym same) ∙ e)
    by job d e (inr more) = new job d (slice_get_push kept no_job job d (ap (λ l. slice_get l job) (sym more) ∙ e))

-- ---- one more build
KeepsJob-push : (rows : List RowData) (job n : ℕ) (used : List UsedRow) (d d' : JobData) → KeepsJob rows job d → d'.at ≡ d.at ++ length rows ∷ []
    → ((u : UsedRow) → list_any (is_same u) d'.used ≡ (list_any (is_same u) d.used || list_any (is_same u) used))
    → ((s : InputScope) → lookup (is_input_scope s) d'.newest ≡ option_or (last_given (row_if_at s) used) (lookup (is_input_scope s) d.newest)) → KeepsJob (rows ++ new_row job n used ∷ []) job d'
KeepsJob-push rows job n used d d' keeps at more newer =
    let r = new_row job n used in
    let own : is_row_of job r ≡ true = eq-eqb job job refl in (
      at ∙ ap (λ l. l ++ length rows ∷ []) keeps.0
          ∙ ap (λ b. positions (is_row_of job) rows ++ cond b (length rows ∷ []) []) (sym own)
          ∙ sym (positions-push (is_row_of job) rows r),
      λ u. more u ∙ ap (λ b. b || list_any (is_same u) used) (keeps.1 u)
          ∙ ap (λ b. has_used_row job u rows || b) (last (list_any (is_same u) used) ∙ ap (λ b. (b && list_any (is_same u) used) || false) (sym own))
          ∙ sym (list_any-append (λ r. is_row_of job r && list_any (is_same u) r.used) rows (r ∷ [])),
      λ s. newer s ∙ ap (option_or (last_given (row_if_at s) used)) (keeps.2 s)
          ∙ ap (λ b. option_or (cond b (last_given (row_if_at s) used) None) (last_given (row_used job s) rows)) (sym own)
          ∙ sym (last_given-push (row_used job s) rows r),
    )
  where
    last : (b : Bool) → b ≡ ((true && b) || false)
    last true = refl
    last false = refl

KeepsJob-push_other : (rows : List RowData) (job other n : ℕ) (used : List UsedRow) (d : JobData) → (other ≡ job → ⊥) → KeepsJob rows other d → KeepsJob (rows ++ new_row job n used ∷ []) other d
KeepsJob-push_other rows job other n used d apart keeps =
    let r = new_row job n used in
    let not_own : is_row_of other r ≡ false = ne_eqb other job apart in (
      keeps.0 ∙ sym (append-nil (positions (is_row_of other) rows))
          ∙ ap (λ b. positions (is_row_of other) rows ++ cond b (length rows ∷ []) []) (sym not_own)
          ∙ sym (positions-push (is_row_of other) rows r),
      λ u. keeps.1 u ∙ last (has_used_row other u rows)
          ∙ ap (λ b. has_used_row other u rows || ((b && list_any (is_same u) used) || false)) (sym not_own)
          ∙ sym (list_any-append (λ r. is_row_of other r && list_any (is_same u) r.used) rows (r ∷ [])),
      λ s. keeps.2 s
          ∙ ap (λ b. option_or (cond b (last_given (row_if_at s) used) None) (last_given (row_used other s) rows)) (sym not_own)
          ∙ sym (last_given-push (row_used other s) rows r),
    )
  where
    last : (b : Bool) → b ≡ (b || false)
    last true = refl
    last false = refl

pub IsLinked-push : (jobs inputs : List Text) (rows : List RowData) (kept : List JobData) (job n : ℕ) (used : List UsedRow) (d d' : JobData) → IsLinked jobs inputs rows kept
    → job < length jobs → AllByRecursion (λ u. u.input < length inputs) used → slice_get kept job ≡ Some d → d'.at ≡ d.at ++ length rows ∷ []
    → ((u : UsedRow) → list_any (is_same u) d'.used ≡ (list_any (is_same u) d.used || list_any (is_same u) used))
    → ((s : InputScope) → lookup (is_input_scope s) d'.newest ≡ option_or (last_given (row_if_at s) used) (lookup (is_input_scope s) d.newest))
    → IsLinked jobs inputs (rows ++ new_row job n used ∷ []) (set kept job d')
IsLinked-push jobs inputs rows kept job n used d d' linked named inputs_named at positions_more used_more newer =
    record {
      named = each_push (IsNamed (length jobs) (length inputs)) rows (new_row job n used) linked.named (named, inputs_named);
      enough = omega (arith, length-set kept job d', linked.enough);
      keeps = λ j e h. by j e (slice_get_set kept job d' j e h);
    }
  where
    by : (j : ℕ) (e : JobData) → ((j ≡ job) × (d' ≡ e)) ⊎ ((j ≡ job → ⊥) × (slice_get kept j ≡ Some e)) → KeepsJob (rows ++ new_row job n used ∷ []) j e
    by j e (inl h) =
        subst (λ i. KeepsJob (rows ++ new_row job n used ∷ []) i e) (sym h.0)
        (subst (KeepsJob (rows ++ new_row job n used ∷ []) job) h.1 (KeepsJob-push rows job n used d d' (linked.keeps job d at) positions_more used_more newer))
    by j e (inr h) = KeepsJob-push_other rows job j n used e h.0 (linked.keeps j e h.1)

-- the builds with one more
pub builds_data-push : (jobs inputs : List Text) (rows : List RowData) (job n : ℕ) (used : List UsedRow) (name : Text) (given : List UsedData)
    → slice_get jobs job ≡ Some name → map (used_data inputs) used ≡ by_input given → n ≡ count_of name (builds_data jobs inputs rows) + 1
    → builds_data jobs inputs (rows ++ new_row job n used ∷ []) ≡ with_build name given (builds_data jobs inputs rows)
builds_data-push jobs inputs rows job n used name given at same number =
    map_push (build_data jobs inputs) rows (new_row job n used)
    ∙ ap (λ b. builds_data jobs inputs rows ++ b ∷ [])
    (ap (λ t. let b : BuildData = record { job = t; number = n; status = Running; used = map (used_data inputs) used; moved = [] } in b) (get_or_from_slice_get jobs job name [] at)
    ∙ ap (λ us. let b : BuildData = record { job = name; number = n; status = Running; used = us; moved = [] } in b) same
    ∙ ap (λ m. new_build name m given) number)

-- ---- one that ends
pub IsLinked-end : (jobs inputs : List Text) (rows : List RowData) (kept : List JobData) (i : ℕ) (status : Status) (moved : List (ℕ × ℕ)) (r : RowData) → IsLinked jobs inputs rows kept
    → slice_get rows i ≡ Some r → IsLinked jobs inputs (set rows i (ended_row status moved r)) kept
IsLinked-end jobs inputs rows kept i status moved r linked at =
    record {
      named = all-set (IsNamed (length jobs) (length inputs)) rows i (ended_row status moved r) (all-at (IsNamed (length jobs) (length inputs)) rows i r linked.named at) linked.named;
      enough = linked.enough;
      keeps = λ job d e.
          let keeps = linked.keeps job d e in (
            keeps.0 ∙ sym (positions-agree (is_row_of job) (is_row_of job) (set rows i (ended_row status moved r)) rows (answers-set (is_row_of job) rows i r (ended_row status moved r) at refl)),
            λ u. keeps.1 u ∙ sym (any-agree (λ s. is_row_of job s && list_any (is_same u) s.used) (λ s. is_row_of job s && list_any (is_same u) s.used) (set rows i (ended_row status moved r)) rows
                (answers-set (λ s. is_row_of job s && list_any (is_same u) s.used) rows i r (ended_row status moved r) at refl)),
            λ s. keeps.2 s ∙ sym (given-agree (row_used job s) (row_used job s) (set rows i (ended_row status moved r)) rows
                (answers-set (row_used job s) rows i r (ended_row status moved r) at refl)),
          );
    }

-- the builds where one has ended
pub builds_data-end : (jobs inputs : List Text) (rows : List RowData) (i : ℕ) (name : Text) (n : ℕ) (status : Status) (given moved : List (ℕ × ℕ)) (r : RowData)
    → IsOnly (is_build_of name n) (builds_data jobs inputs rows) i → slice_get rows i ≡ Some r → moved ≡ by_place given
    → builds_data jobs inputs (set rows i (ended_row status moved r)) ≡ with_end name n status given (builds_data jobs inputs rows)
builds_data-end jobs inputs rows i name n status given moved r only at sorted =
    let same : only.it ≡ build_data jobs inputs r = cc (only.here, Rattle.std.proofs.lemmas.Option.slice_get-map (build_data jobs inputs) rows i, at) in
    map-set (build_data jobs inputs) rows i (ended_row status moved r)
    ∙ ap (set (builds_data jobs inputs rows) i)
    (ap (λ ps. let b : BuildData = record { job = name_at jobs r.job; number = r.number; status = status; used = map (used_data inputs) r.used; moved = ps } in b) sorted
    ∙ ap (ended status given) (sym same))
    ∙ sym (map_only (is_build_of name n) (builds_data jobs inputs rows) i only (ended status given))

-- ---- what is found by name
-- names that differ have one number each
pub same_number : (names : List Text) → AreApart names → (n : ℕ) (name : Text) → slice_get names n ≡ Some name → (m : ℕ) → m < length names → bytes_eq name (name_at names m) ≡ (n == m)
same_number names apart n name at m lt =
    let here = get_or_from_slice_get names n name [] at in
    ⊎_elim
    (λ e. (bytes_eq-Decides name (name_at names m)).1 (sym here ∙ ap (name_at names) e) ∙ sym (eq-eqb n m e))
    (⊎_elim
    (λ h. ap (λ t. bytes_eq t (name_at names m)) (sym here) ∙ apart n m [] h lt ∙ sym (ne_eqb n m (λ e. omega (arith, h))))
    (λ h.
    let other : bytes_eq (name_at names m) name ≡ false = ap (bytes_eq (name_at names m)) (sym here) ∙ apart m n [] h (slice_get_within names n name at) in
    false_from_ne_true _ (λ t. false≢true (sym other ∙ (bytes_eq-Decides (name_at names m) name).1 (sym ((bytes_eq-Decides name (name_at names m)).0 t))))
    ∙ sym (ne_eqb n m (λ e. omega (arith, h)))))
    (cases_order n m)

no_number : (names : List Text) (name : Text) → has_name names name ≡ false → (m : ℕ) → m < length names → bytes_eq name (name_at names m) ≡ false
no_number [] name none m lt = absurd (omega arith)
no_number (t ∷ ts) name none zero lt = (or_parts _ _ none).0
no_number (t ∷ ts) name none (suc m) lt = no_number ts name (or_parts _ _ none).1 m (omega arith)

module _ (jobs inputs : List Text) (rows : List RowData) (kept : List JobData) (linked : IsLinked jobs inputs rows kept) where
  -- what is asked of builds, as it is asked of rows
  answers : {Y : Type 0} (p : BuildData → Y) (q : RowData → Y) → ((r : RowData) → IsNamed (length jobs) (length inputs) r → p (build_data jobs inputs r) ≡ q r) → map p (builds_data jobs inputs rows) ≡ map q rows
  answers p q same =
      map-map p (build_data jobs inputs) rows
      ∙ same_answers (λ r. p (build_data jobs inputs r)) q rows
      (each_weaker (IsNamed (length jobs) (length inputs)) (λ r. p (build_data jobs inputs r) ≡ q r) same rows linked.named)

  -- a job's builds are those that are kept of it
  pub positions_kept : AreApart jobs → (name : Text) (job : ℕ) (d : JobData) → slice_get jobs job ≡ Some name → slice_get kept job ≡ Some d
      → d.at ≡ positions_of name (builds_data jobs inputs rows)
  positions_kept apart name job d at kept_at =
      (linked.keeps job d kept_at).0
      ∙ sym (positions-agree (is_of name) (is_row_of job) (builds_data jobs inputs rows) rows
      (answers (is_of name) (is_row_of job) (λ r named. same_number jobs apart job name at r.job named.0)))

  -- a job without a name here has none
  pub positions_absent : (name : Text) → has_name jobs name ≡ false → positions_of name (builds_data jobs inputs rows) ≡ []
  positions_absent name none =
      positions-agree (is_of name) (λ _. false) (builds_data jobs inputs rows) rows (answers (is_of name) (λ _. false) (λ r named. no_number jobs name none r.job named.0))
      ∙ positions-none (λ _. false) rows (each_weaker (IsNamed (length jobs) (length inputs)) (λ _. false ≡ false) (λ _ _. refl) rows linked.named)

  -- what a job used is what is kept of it
  pub used_kept : AreApart jobs → AreApart inputs → (name input : Text) (job : ℕ) (u : UsedRow) (d : JobData)
      → slice_get jobs job ≡ Some name → slice_get inputs u.input ≡ Some input → slice_get kept job ≡ Some d
      → list_any (is_same u) d.used ≡ has_used name (record { input = input; scope = u.scope; place = u.place }) (builds_data jobs inputs rows)
  used_kept apart apart_inputs name input job u d at input_at kept_at =
      (linked.keeps job d kept_at).1 u
      ∙ sym (any-agree (λ b. is_of name b && list_any (is_used v) b.used) (λ r. is_row_of job r && list_any (is_same u) r.used) (builds_data jobs inputs rows) rows
      (answers _ _ (λ r named. ap₂ ◌&&◌ (same_number jobs apart job name at r.job named.0) (each r.used named.1))))
    where
      v : UsedData
      v = record { input = input; scope = u.scope; place = u.place }

      each : (us : List UsedRow) → AllByRecursion (λ w. w.input < length inputs) us → list_any (is_used v) (map (used_data inputs) us) ≡ list_any (is_same u) us
      each [] all = refl
      each (w ∷ ws) all =
          ap₂ ◌||◌ (ap (λ b. b && (u.scope == w.scope && u.place == w.place)) (same_number inputs apart_inputs u.input input input_at w.input all.0)) (each ws all.1)

  pub used_absent_job : (name : Text) (u : UsedData) → has_name jobs name ≡ false → has_used name u (builds_data jobs inputs rows) ≡ false
  used_absent_job name u none =
      any-agree (λ b. is_of name b && list_any (is_used u) b.used) (λ _. false) (builds_data jobs inputs rows) rows
      (answers _ (λ _. false) (λ r named. and_left _ _ (no_number jobs name none r.job named.0)))
      ∙ any-none (λ _. false) rows (each_weaker (IsNamed (length jobs) (length inputs)) (λ _. false ≡ false) (λ _ _. refl) rows linked.named)

  pub used_absent_input : (name : Text) (u : UsedData) → has_name inputs u.input ≡ false → has_used name u (builds_data jobs inputs rows) ≡ false
  used_absent_input name u none =
      any-agree (λ b. is_of name b && list_any (is_used u) b.used) (λ _. false) (builds_data jobs inputs rows) rows
      (answers _ (λ _. false) (λ r named. and_right _ _ (each r.used named.1)))
      ∙ any-none (λ _. false) rows (each_weaker (IsNamed (length jobs) (length inputs)) (λ _. false ≡ false) (λ _ _. refl) rows linked.named)
    where
      each : (us : List UsedRow) → AllByRecursion (λ w. w.input < length inputs) us → list_any (is_used u) (map (used_data inputs) us) ≡ false
      each [] all = refl
      each (w ∷ ws) all =
          Rattle.std.proofs.lemmas.Bool.or_from _ _ (and_left _ _ (no_number inputs u.input none w.input all.0)) (each ws all.1)

  -- for an input in a scope, the place that a job's newest build had is the one that is kept
  pub newest_kept : AreApart jobs → AreApart inputs → (name input : Text) (job : ℕ) (s : InputScope) (d : JobData)
      → slice_get jobs job ≡ Some name → slice_get inputs s.input ≡ Some input → slice_get kept job ≡ Some d
      → lookup (is_input_scope s) d.newest ≡ newest_used name input s.scope (builds_data jobs inputs rows)
  newest_kept apart apart_inputs name input job s d at input_at kept_at =
      (linked.keeps job d kept_at).2 s
      ∙ sym (given-agree (place_used name input s.scope) (row_used job s) (builds_data jobs inputs rows) rows
      (answers _ _ (λ r named. ap₂ (λ b o. cond b o None) (same_number jobs apart job name at r.job named.0) (each r.used named.1))))
    where
      each : (us : List UsedRow) → AllByRecursion (λ w. w.input < length inputs) us → last_given (place_if_at input s.scope) (map (used_data inputs) us) ≡ last_given (row_if_at s) us
      each [] all = refl
      each (w ∷ ws) all =
          ap₂ option_or (each ws all.1) (ap (λ b. cond (b && s.scope == w.scope) (Some w.place) None) (same_number inputs apart_inputs s.input input input_at w.input all.0))

  pub newest_absent_job : (name input : Text) (scope : ℕ) → has_name jobs name ≡ false → newest_used name input scope (builds_data jobs inputs rows) ≡ None
  newest_absent_job name input scope none =
      given-agree (place_used name input scope) (λ _. None) (builds_data jobs inputs rows) rows
      (answers _ (λ _. None) (λ r named. ap (λ b. cond b (last_given (place_if_at input scope) (map (used_data inputs) r.used)) None) (no_number jobs name none r.job named.0)))
      ∙ given-none (λ _. None) rows (each_weaker (IsNamed (length jobs) (length inputs)) (λ _. (let o : Option ℕ = None in o) ≡ None) (λ _ _. refl) rows linked.named)

  pub newest_absent_input : (name input : Text) (scope : ℕ) → has_name inputs input ≡ false → newest_used name input scope (builds_data jobs inputs rows) ≡ None
  newest_absent_input name input scope none =
      given-agree (place_used name input scope) (λ _. None) (builds_data jobs inputs rows) rows
      (answers _ (λ _. None) (λ r named. ap (λ o. cond (bytes_eq name (name_at jobs r.job)) o None) (each r.used named.1) ∙ either (bytes_eq name (name_at jobs r.job))))
      ∙ given-none (λ _. None) rows (each_weaker (IsNamed (length jobs) (length inputs)) (λ _. (let o : Option ℕ = None in o) ≡ None) (λ _ _. refl) rows linked.named)
    where
      either : (b : Bool) → cond b (let o : Option ℕ = None in o) None ≡ None
      either true = refl
      either false = refl

      each : (us : List UsedRow) → AllByRecursion (λ w. w.input < length inputs) us → last_given (place_if_at input scope) (map (used_data inputs) us) ≡ None
      each [] all = refl
      each (w ∷ ws) all =
          ap₂ option_or (each ws all.1) (ap (λ b. cond (b && scope == w.scope) (Some w.place) None) (no_number inputs input none w.input all.0))
