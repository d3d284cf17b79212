-- What a SELECT shows.
use Rattle.std.proofs.Common.{◌≡◌, ◌<◌, ◌+◌, ℕ, List, [], ◌∷◌, map, filter, flat_map, Bool, true, false, cond, ◌&&◌, get_or, length, arith, refl, sym, ap, ap₂, subst, ◌∙◌, IsPermutation, IsSorted, IsTrue, Vec, Global, Ok, Err, Result, IfOk, Ordering, is_lt, Option, Some, None}
use Rattle.std.specs.List.{AllByRecursion}
use Rattle.std.proofs.lemmas.List.Concat.{flat_map_single}
use Rattle.std.proofs.lemmas.List.Sorted.{IsPermutation-trans, IsPermutation-map, All-permutation}
use Rattle.std.proofs.lemmas.List.Elements.{All-from_recursion}
use Rattle.sqlite.specs.declared.types.Value.TheVariants.{Null}
use Rattle.sqlite.specs.declared.error.Error.{Error}
use Rattle.sqlite.specs.Order.{Row}
use Rattle.sqlite.specs.Term.{Term}
use Rattle.sqlite.specs.Tree.{Trees}
use Rattle.sqlite.specs.Query.{Query, Output, IsAnswer, output, output_cmp}
use Rattle.sqlite.specs.Program.{overlay}
use Rattle.sqlite.specs.Command.TheVariants.{Select}
use Rattle.sqlite.specs.Listing.{understood, reads_listing}
use Rattle.sqlite.specs.State.{State, Shown, ShowsRows}
use Rattle.sqlite.specs.Clock.{timed}
use Rattle.sqlite_schema.specs.declared.command.Returning.{Returning}
use Rattle.sqlite_sql.specs.Term.{eval_all, holds}
use Rattle.sqlite.proofs.Callers.{IsPlain, command_of, reads_as}
use Rattle.sqlite_keyed.proofs.ListLemmas.{map-map}
use Rattle.sqlite_exec.proofs.RowsLemmas.{IsSorted-map}
use Rattle.ccr_tables.specs.Schema.{our_schema}
use Rattle.ccr_tables.specs.Listing.{columns_cmp, IsListed}
use Rattle.ccr_tables.proofs.Texts.{query}

-- the rows that pass the test, each as the list shows it
pub flat_some : {X Y Z : Type 0} (t : X → Bool) (k : X → Y) (h : Y → Z) (xs : List X) → map h (flat_map (λ x. cond (t x && true) (k x ∷ []) []) xs) ≡ map (λ x. h (k x)) (filter t xs)
flat_some t k h [] = refl
flat_some {X} {Y} {Z} t k h (x ∷ xs) =
    let rest = flat_map (λ y. cond (t y && true) (k y ∷ []) []) xs in
    let more = flat_some t k h xs in
    elim (t x) as (λ b. map h (Rattle.std.proofs.Common.◌++◌ (cond (b && true) (k x ∷ []) []) rest) ≡ map (λ y. h (k y)) (cond b (x ∷ filter t xs) (filter t xs)))
    [ true ↦ ap (λ l. h (k x) ∷ l) more | false ↦ more ]

-- what an unordered query of one table with one test answers
pub answered : (tree : ℕ) (test : Term) (project : List Term) (db : Trees) (params : Row) (rows : List Row) → IsAnswer (query tree (test ∷ []) [] project) db params rows
    → IsPermutation (map (λ r. eval_all project (params ∷ r ∷ [])) (filter (λ r. holds (params ∷ r ∷ []) test) (db tree))) rows
answered tree test project db params rows a =
    let q = query tree (test ∷ []) [] project in
    let kept : map (λ (o : Output). o.1) a.kept ≡ map (λ r. eval_all project (params ∷ r ∷ [])) (filter (λ r. holds (params ∷ r ∷ []) test) (db tree)) =
    ap (map (λ (o : Output). o.1)) (a.distinct ∙ ap (map (output q)) a.grouped)
    ∙ map-map (λ (o : Output). o.1) (output q) _
    ∙ flat_some (λ r. holds (params ∷ r ∷ []) test) (λ r. params ∷ r ∷ []) (λ e. (output q e).1) (db tree) in
    let same = IsPermutation-map (λ (o : Output). o.1) a.kept a.ordered a.same in
    subst (λ l. IsPermutation l rows) kept (subst (IsPermutation (map (λ (o : Output). o.1) a.kept)) (sym a.shown) same)

-- the same with a test that is computed
pub flat_tested : {X Y Z : Type 0} (t : X → Bool) (k : X → Y) (h : Y → Z) (xs : List X) → map h (flat_map (λ x. cond (t x) (k x ∷ []) []) xs) ≡ map (λ x. h (k x)) (filter t xs)
flat_tested t k h [] = refl
flat_tested {X} {Y} {Z} t k h (x ∷ xs) =
    let rest = flat_map (λ y. cond (t y) (k y ∷ []) []) xs in
    let more = flat_tested t k h xs in
    elim (t x) as (λ b. map h (Rattle.std.proofs.Common.◌++◌ (cond b (k x ∷ []) []) rest) ≡ map (λ y. h (k y)) (cond b (x ∷ filter t xs) (filter t xs)))
    [ true ↦ ap (λ l. h (k x) ∷ l) more | false ↦ more ]

-- what an unordered query of one table with four tests answers
pub answered_four : (tree : ℕ) (one two three four : Term) (project : List Term) (db : Trees) (params : Row) (rows : List Row) → IsAnswer (query tree (one ∷ two ∷ three ∷ four ∷ []) [] project) db params rows
    → IsPermutation (map (λ r. eval_all project (params ∷ r ∷ []))
    (filter (λ r. holds (params ∷ r ∷ []) one && (holds (params ∷ r ∷ []) two && (holds (params ∷ r ∷ []) three && (holds (params ∷ r ∷ []) four && true)))) (db tree))) rows
answered_four tree one two three four project db params rows a =
    let q = query tree (one ∷ two ∷ three ∷ four ∷ []) [] project in
    let t : Row → Bool = λ r. holds (params ∷ r ∷ []) one && (holds (params ∷ r ∷ []) two && (holds (params ∷ r ∷ []) three && (holds (params ∷ r ∷ []) four && true))) in
    let kept : map (λ (o : Output). o.1) a.kept ≡ map (λ r. eval_all project (params ∷ r ∷ [])) (filter t (db tree)) =
    ap (map (λ (o : Output). o.1)) (a.distinct ∙ ap (map (output q)) a.grouped)
    ∙ map-map (λ (o : Output). o.1) (output q) _
    ∙ flat_tested t (λ r. params ∷ r ∷ []) (λ e. (output q e).1) (db tree) in
    let same = IsPermutation-map (λ (o : Output). o.1) a.kept a.ordered a.same in
    subst (λ l. IsPermutation l rows) kept (subst (IsPermutation (map (λ (o : Output). o.1) a.kept)) (sym a.shown) same)

module _ (tree : ℕ) (keys project : List Term) (shown : Row → Row) (width : ℕ)
    (shows : (r : Row) → (output (query tree [] keys project) ([] ∷ r ∷ [])).1 ≡ shown r)
    (agree : (a b : Row) → output_cmp (query tree [] keys project) (output (query tree [] keys project) ([] ∷ a ∷ [])) (output (query tree [] keys project) ([] ∷ b ∷ [])) ≡ columns_cmp width (shown a) (shown b)) where
  abbrev q : Query
  q = query tree [] keys project

  abbrev entry : Row → Output
  entry r = output q ([] ∷ r ∷ [])

  -- what one row of the table gives
  abbrev IsEntry : Output → Type 0
  IsEntry o = (r : Row) × (o ≡ entry r)

  listed : (these : List Row) (db : Trees) (rows : List Row) → IsPermutation these (map shown (db tree)) → IsAnswer q db [] rows → IsListed width these rows
  listed these db rows same a =
      let staged : a.staged ≡ map (λ r. [] ∷ r ∷ []) (db tree) = a.grouped ∙ flat_map_single (λ r. [] ∷ r ∷ []) (db tree) in
      let kept : a.kept ≡ map entry (db tree) = a.distinct ∙ ap (map (output q)) staged ∙ map-map (output q) (λ r. [] ∷ r ∷ []) (db tree) in
      let both : IsPermutation (map entry (db tree)) a.ordered = subst (λ k. IsPermutation k a.ordered) kept a.same in
      let firsts : IsPermutation (map shown (db tree)) (map (λ (o : Output). o.1) a.ordered) =
      subst (λ l. IsPermutation l (map (λ (o : Output). o.1) a.ordered)) (map-map (λ (o : Output). o.1) entry (db tree) ∙ Rattle.sqlite_keyed.proofs.ListLemmas.map_same _ shown shows (db tree))
      (IsPermutation-map (λ (o : Output). o.1) _ _ both) in
      let entries = All-permutation IsEntry (map entry (db tree)) a.ordered both (All-from_recursion IsEntry _ (are_entries (db tree))) in
      let by_columns : IsSorted (λ (x y : Output). columns_cmp width x.1 y.1) a.ordered = λ k d low high.
      let x = entries (k + 1) d high in
      let y = entries k d (omega arith) in
      let alike : output_cmp q (get_or a.ordered (k + 1) d) (get_or a.ordered k d) ≡ columns_cmp width (get_or a.ordered (k + 1) d).1 (get_or a.ordered k d).1 =
      ap₂ (output_cmp q) x.1 y.1 ∙ agree x.0 y.0 ∙ ap₂ (columns_cmp width) (sym (ap (λ (o : Output). o.1) x.1 ∙ shows x.0)) (sym (ap (λ (o : Output). o.1) y.1 ∙ shows y.0)) in
      subst (λ (o : Ordering). is_lt o ≡ false) alike (a.sorted k d low high) in
      record {
        same = subst (IsPermutation these) (sym a.shown) (IsPermutation-trans _ _ _ same firsts);
        ordered = subst (IsSorted (columns_cmp width)) (sym a.shown) (IsSorted-map (columns_cmp width) (λ (o : Output). o.1) a.ordered by_columns);
      }
    where
      are_entries : (rows : List Row) → AllByRecursion IsEntry (map entry rows)
      are_entries [] = tt
      are_entries (r ∷ rows) = ((r, refl), are_entries rows)

  module _ (text : List ℕ) (names : List (List ℕ)) (is : command_of (understood our_schema text) ≡ Select (record { lets = []; body = q }) names) (plain : IsPlain (understood our_schema text))
      (unlisted : reads_listing our_schema text ≡ false) (bare : (db : Trees) → overlay db [] tree ≡ db tree) where
    pub lists_rows : (these : List Row) (old new : State) (rows : List Row) → old.now.schema ≡ our_schema → IsPermutation these (map shown (old.now.trees tree)) → Shown text [] old new rows → IsListed width these rows
    lists_rows these old new rows has same h =
        let read = reads_as text [] old new our_schema has (Select (record { lets = []; body = q }) names) is plain unlisted rows h in
        listed these (overlay old.now.trees []) rows (subst (λ l. IsPermutation these (map shown l)) (sym (bare old.now.trees)) same) (read.answer Null)

    pub lists : (these : List Row) (old new : State) (r : Result (Vec Row Global) Error) → old.now.schema ≡ our_schema → IsPermutation these (map shown (old.now.trees tree))
        → IfOk r (λ rows. Shown text [] old new rows.items) → IfOk r (λ rows. IsListed width these rows.items)
    lists these old new (Err e) has same h = tt
    lists these old new (Ok rows) has same h = lists_rows these old new rows.items has same h

-- what is shown is shown by an open connection
pub shown_open : {X : Type 0} (rows_of : X → List Row) (text : List ℕ) (old new : State) (r : Result X Error) → IfOk r (λ x. Shown text [] old new (rows_of x)) → IfOk r (λ _. IsTrue old.is_open)
unfolding Shown
shown_open rows_of text old new (Err e) h = tt
shown_open rows_of text old new (Ok x) h = by h.0.returning h.2
  where
    by : (what : Option Returning) → ShowsRows old new text h.0 (timed [] h.0.formats h.1.now) (rows_of x) what → IsTrue old.is_open
    by None shown = shown.3.0.was_open
    by (Some what) shown = shown.1.shown.was_open
