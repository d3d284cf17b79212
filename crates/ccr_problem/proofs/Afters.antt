-- The place after which an input prefers others: it is a place of the tables, and what a change does to it.
use Rattle.std.proofs.Common.{◌≡◌, ℕ, ◌<◌, ◌≤◌, ◌⊎◌, inl, inr, List, [], ◌∷◌, ◌++◌, Bool, true, false, cond, ◌&&◌, ◌==◌, Option, Some, None, IsTrue, AllPairs, refl, sym, ap, ap₂, ◌∙◌, arith, nat_cmp, Ordering, Less, Equal, Greater}
use Rattle.std.specs.Prelude.{nat_lt, nat_le}
use Rattle.std.specs.List.{AllByRecursion}
use Rattle.std.specs.Option.{option_or}
use Rattle.std.specs.Ordering.{match_ordering}
use Rattle.std.specs.Str.{bytes_eq}
use Rattle.std.specs.Cmp.Lexicographic.{slice_cmp}
use Rattle.std.proofs.lemmas.Bool.{and_parts, and_from, ltb-true, leb-true, eqb-true, le-leb, false≢true}
use Rattle.std.proofs.lemmas.List.Elements.{recursion_from_All}
use Rattle.ccr_history.specs.declared.build.Status.{Status}
use Rattle.ccr_history.specs.Text.{Text}
use Rattle.ccr_history.specs.Tables.{TableData}
use Rattle.ccr_history.specs.Builds.{UsedData, BuildData, with_used, by_input, is_of, is_build_of, new_build, ended, with_end}
use Rattle.ccr_history.specs.Newest.{last_given, place_if_at, place_used, newest_used}
use Rattle.ccr_history.specs.History.{HistoryData, IsTable, IsUsed, IsBuild, IsHistory, places_at, has_place}
use Rattle.ccr_history.proofs.Given.{last_given-push, option_or-none}
use Rattle.ccr_history.proofs.Lists.{pairs_head, pairs_tail}
use Rattle.ccr_pipeline.specs.Inputs.{InputData}
use Rattle.ccr_pipeline.specs.Pipelines.{PipelineData}
use Rattle.ccr_choice.specs.Problem.{is_after}
use Rattle.ccr_problem.specs.Follows.{place_taken}
use Rattle.ccr_problem.specs.ProblemOf.{history_number, takes_every, input_after}
use Rattle.ccr_problem.proofs.Names.{same_text}
use Rattle.ccr_problem.proofs.Pairs.{few_places}

-- ---- what is given of lists
given_by : {Y : Type 0} (a b : Option Y) (Q : Y → Type 0) (y : Y) → (a ≡ Some y → Q y) → (b ≡ Some y → Q y) → option_or a b ≡ Some y → Q y
given_by None b Q y first second is = second is
given_by (Some z) b Q y first second is = first is

given_holds : {X Y : Type 0} (f : X → Option Y) (P : X → Type 0) (Q : Y → Type 0) → ((x : X) → P x → (y : Y) → f x ≡ Some y → Q y)
    → (xs : List X) → AllByRecursion P xs → (y : Y) → last_given f xs ≡ Some y → Q y
given_holds f P Q each [] all y is = absurd (cc)
given_holds f P Q each (x ∷ xs) all y is =
    given_by (last_given f xs) (f x) Q y (λ e. given_holds f P Q each xs all.1 y e) (λ e. each x all.0 y e) is

cond_some : {Y : Type 0} (c : Bool) (o : Option Y) (y : Y) → cond c o None ≡ Some y → o ≡ Some y
cond_some true o y is = is
cond_some false o y is = absurd (cc)

cond_is : {Y : Type 0} (c : Bool) (x y : Y) → cond c (Some x) None ≡ Some y → (c ≡ true) × (x ≡ y)
cond_is true x y is = (refl, cc)
cond_is false x y is = absurd (cc)

-- ---- it is a place of the tables
module _ (ts : List TableData) (own input : Text) (scope : ℕ) where
  used_placed : (v : UsedData) → IsUsed ts v → (u : ℕ) → place_if_at input scope v ≡ Some u → IsTrue (has_place ts scope u)
  used_placed v is u e =
      let it = cond_is (bytes_eq input v.input && scope == v.scope) v.place u e in
      let at : scope ≡ v.scope = eqb-true _ _ (and_parts (bytes_eq input v.input) (scope == v.scope) it.0).1 in
      ap₂ (has_place ts) at (sym it.1) ∙ is.1

  build_placed : (b : BuildData) → IsBuild ts b → (u : ℕ) → place_used own input scope b ≡ Some u → IsTrue (has_place ts scope u)
  build_placed b is u e =
      given_holds (place_if_at input scope) (IsUsed ts) (λ n. IsTrue (has_place ts scope n)) used_placed b.used is.1 u
      (cond_some (is_of own b) (last_given (place_if_at input scope) b.used) u e)

  pub newest_placed : (bs : List BuildData) → AllByRecursion (IsBuild ts) bs → (u : ℕ) → newest_used own input scope bs ≡ Some u → IsTrue (has_place ts scope u)
  newest_placed bs each u e =
      given_holds (place_used own input scope) (IsBuild ts) (λ n. IsTrue (has_place ts scope n)) build_placed bs each u e

  -- a scope without places was used by no build
  pub newest_none : (bs : List BuildData) → AllByRecursion (IsBuild ts) bs → places_at ts scope ≡ 0 → newest_used own input scope bs ≡ None
  newest_none bs each none = by (newest_used own input scope bs) refl
    where
      by : (o : Option ℕ) → newest_used own input scope bs ≡ o → o ≡ None
      by None e = refl
      by (Some u) e =
          let parts = and_parts (nat_lt 0 u) (nat_le u (places_at ts scope)) (newest_placed bs each u e) in
          let low : 0 < u = ltb-true _ _ parts.0 in
          let high : u ≤ places_at ts scope = leb-true _ _ parts.1 in
          absurd (omega (arith, low, high, none))

after_is : (ts : List TableData) (scope : ℕ) → AllByRecursion IsTable ts → (o : Option ℕ) → ((u : ℕ) → o ≡ Some u → IsTrue (has_place ts scope u)) → is_after o ≡ true
after_is ts scope tables None at = refl
after_is ts scope tables (Some u) at =
    let parts = and_parts (nat_lt 0 u) (nat_le u (places_at ts scope)) (at u refl) in
    let high : u ≤ places_at ts scope = leb-true _ _ parts.1 in
    let few = few_places ts scope tables in
    and_from _ _ parts.0 (le-leb u 100000 (omega arith))

-- it keeps the rule of problems
pub after_kept : (p : PipelineData) (h : HistoryData) (own : Text) (i : InputData) → IsHistory h → is_after (input_after p h own i) ≡ true
after_kept p h own i rules = by (takes_every i.wanted)
  where
    by : (t : Bool) → is_after (cond t (newest_used own i.name (history_number p h i.resource) h.builds) None) ≡ true
    by true =
        after_is h.tables (history_number p h i.resource) rules.0.2 (newest_used own i.name (history_number p h i.resource) h.builds)
        (newest_placed h.tables own i.name (history_number p h i.resource) h.builds rules.1.2)
    by false = refl

-- so does the place that a build used
pub taken_kept : (p : PipelineData) (h : HistoryData) (used : List UsedData) (i : InputData) → IsHistory h → AllByRecursion (IsUsed h.tables) used → is_after (place_taken p h used i) ≡ true
taken_kept p h used i rules each = by (takes_every i.wanted)
  where
    by : (t : Bool) → is_after (cond t (last_given (place_if_at i.name (history_number p h i.resource)) used) None) ≡ true
    by true =
        after_is h.tables (history_number p h i.resource) rules.0.2 (last_given (place_if_at i.name (history_number p h i.resource)) used)
        (given_holds (place_if_at i.name (history_number p h i.resource)) (IsUsed h.tables) (λ n. IsTrue (has_place h.tables (history_number p h i.resource) n))
        (used_placed h.tables i.name i.name (history_number p h i.resource)) used each)
    by false = refl

-- ---- a build that ends keeps what it used
pub newest_ended : (own input : Text) (scope : ℕ) (job : Text) (number : ℕ) (status : Status) (moved : List (ℕ × ℕ)) (bs : List BuildData)
    → newest_used own input scope (with_end job number status moved bs) ≡ newest_used own input scope bs
newest_ended own input scope job number status moved [] = refl
newest_ended own input scope job number status moved (b ∷ bs) =
    ap₂ option_or (newest_ended own input scope job number status moved bs) (by (is_build_of job number b))
  where
    by : (c : Bool) → place_used own input scope (cond c (ended status moved b) b) ≡ place_used own input scope b
    by true = refl
    by false = refl

-- ---- a build that is made
module _ (input : Text) (scope : ℕ) where
  abbrev given : UsedData → Option ℕ
  given = place_if_at input scope

  -- of two inputs one at the most is this one
  one_given : (u v : UsedData) → bytes_eq u.input v.input ≡ false → (given u ≡ None) ⊎ (given v ≡ None)
  one_given u v apart = by (bytes_eq input u.input && scope == u.scope) (bytes_eq input v.input && scope == v.scope) refl refl
    where
      by : (c d : Bool) → (bytes_eq input u.input && scope == u.scope) ≡ c → (bytes_eq input v.input && scope == v.scope) ≡ d
          → (cond c (Some u.place) None ≡ None) ⊎ (cond d (Some v.place) None ≡ None)
      by false d e f = inl refl
      by true false e f = inr refl
      by true true e f =
          let here = same_text input u.input (and_parts _ _ e).0 in
          let there = (and_parts _ _ f).0 in
          absurd (false≢true (sym apart ∙ ap (λ t. bytes_eq t v.input) (sym here) ∙ there))

  swap_none : (a y : Option ℕ) → option_or (option_or a None) y ≡ option_or (option_or a y) None
  swap_none None y = sym (option_or-none y)
  swap_none (Some z) y = refl

  swap : (a x y : Option ℕ) → (x ≡ None) ⊎ (y ≡ None) → option_or (option_or a x) y ≡ option_or (option_or a y) x
  swap a x y (inl e) = ap (λ o. option_or (option_or a o) y) e ∙ swap_none a y ∙ ap (option_or (option_or a y)) (sym e)
  swap a x y (inr e) = ap (option_or (option_or a x)) e ∙ sym (swap_none a x) ∙ ap (λ o. option_or (option_or a o) x) (sym e)

  with_used-given : (u : UsedData) (us : List UsedData) → AllByRecursion (λ v. bytes_eq u.input v.input ≡ false) us → last_given given (with_used u us) ≡ last_given given (u ∷ us)
  with_used-given u [] apart = refl
  with_used-given u (v ∷ vs) apart = by (slice_cmp nat_cmp u.input v.input) (with_used-given u vs apart.1)
    where
      by : (o : Ordering) → last_given given (with_used u vs) ≡ last_given given (u ∷ vs)
          → last_given given (match_ordering o (u ∷ v ∷ vs) (u ∷ v ∷ vs) (v ∷ with_used u vs)) ≡ last_given given (u ∷ v ∷ vs)
      by Less rec = refl
      by Equal rec = refl
      by Greater rec =
          ap (λ o. option_or o (given v)) rec ∙ swap (last_given given vs) (given u) (given v) (one_given u v apart.0)

  with_used-each : (P : UsedData → Type 0) (u : UsedData) (us : List UsedData) → P u → AllByRecursion P us → AllByRecursion P (with_used u us)
  with_used-each P u [] one h = (one, tt)
  with_used-each P u (v ∷ vs) one h = by (slice_cmp nat_cmp u.input v.input) (with_used-each P u vs one h.1)
    where
      by : (o : Ordering) → AllByRecursion P (with_used u vs) → AllByRecursion P (match_ordering o (u ∷ v ∷ vs) (u ∷ v ∷ vs) (v ∷ with_used u vs))
      by Less rec = (one, h)
      by Equal rec = (one, h)
      by Greater rec = (h.0, rec)

  by_input-each : (P : UsedData → Type 0) (us : List UsedData) → AllByRecursion P us → AllByRecursion P (by_input us)
  by_input-each P [] h = tt
  by_input-each P (u ∷ us) h = with_used-each P u (by_input us) h.0 (by_input-each P us h.1)

  by_input-given : (us : List UsedData) → AllPairs (λ u v. bytes_eq u.input v.input ≡ false) us → last_given given (by_input us) ≡ last_given given us
  by_input-given [] apart = refl
  by_input-given (u ∷ us) apart =
      let others = recursion_from_All (λ v. bytes_eq u.input v.input ≡ false) us (pairs_head (λ u v. bytes_eq u.input v.input ≡ false) u us apart) in
      with_used-given u (by_input us) (by_input-each (λ v. bytes_eq u.input v.input ≡ false) us others)
      ∙ ap (λ o. option_or o (given u)) (by_input-given us (pairs_tail (λ u v. bytes_eq u.input v.input ≡ false) u us apart))

  -- the place that it used is the newest, if it is one of the job's builds and used one
  pub newest_made : (own job : Text) (n : ℕ) (used : List UsedData) (bs : List BuildData) → AllPairs (λ u v. bytes_eq u.input v.input ≡ false) used
      → newest_used own input scope (bs ++ new_build job n used ∷ []) ≡ option_or (cond (bytes_eq own job) (last_given given used) None) (newest_used own input scope bs)
  newest_made own job n used bs apart =
      last_given-push (place_used own input scope) bs (new_build job n used)
      ∙ ap (λ o. option_or (cond (bytes_eq own job) o None) (newest_used own input scope bs)) (by_input-given used apart)
