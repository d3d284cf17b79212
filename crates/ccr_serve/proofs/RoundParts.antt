-- The parts of a round, and rounds one after another.
use Rattle.std.proofs.Common.{◌≡◌, ◌≤◌, ◌<◌, ◌+◌, ◌++◌, ℕ, zero, suc, List, [], ◌∷◌, length, map, replicate, Bool, true, false, Option, String, string_bytes, unwrap_or, refl, sym, ◌∙◌, ap, subst, arith, append-nil, append_assoc, inl, inr, add-one}
use Rattle.std.specs.declared.alloc.Global.{Global}
use Rattle.ccr_core.specs.Holding.{AreRuns}
use Rattle.ccr_core.specs.State.{RunningData, no_pipeline}
use Rattle.ccr_history.specs.Text.{Text}
use Rattle.ccr_pipeline.specs.Pipelines.{PipelineData}
use Rattle.ccr_task.specs.Places.{PlacesData}
use Rattle.ccr_serve.specs.Items.{World, Item, check, schedule, turn, Done, Each, IsCut, Items, Then}
use Rattle.ccr_serve.specs.Runs.{checks_and_schedules, TurnOfEach, Round, Rounds}
use Rattle.ccr_serve.specs.Serving.{Serves}
use Rattle.ccr_serve.specs.Views.{View, world_of, Called, Calls}
use Rattle.ccr_serve.proofs.Composing.{called_then, called_as, calls_then, calls_as}
use Rattle.ccr_serve.proofs.Loops.{calls_both, calls_cut_before}

-- a job's build and its number
abbrev Name : Type 0
Name = Text × ℕ

-- ---- the items of a round's first part
-- for each name an item, told by the text
pub map_texts : (f : Text → Item) (names : List (String Global)) (ts : List Text) → map string_bytes names ≡ ts
    → map (λ name. f (string_bytes name)) names ≡ map f ts
map_texts f names ts e = all names ∙ ap (map f) e where
  all : (ns : List (String Global)) → map (λ n. f (string_bytes n)) ns ≡ map f (map string_bytes ns)
  all [] = refl
  all (n ∷ ns) = ap (λ is. f (string_bytes n) ∷ is) (all ns)

map_twice : {A : Type 0} (f : Text → Item) (g : A → Text) (xs : List A) → map f (map g xs) ≡ map (λ x. f (g x)) xs
map_twice f g [] = refl
map_twice f g (x ∷ xs) = ap (λ is. f (g x) ∷ is) (map_twice f g xs)

-- for each of these, which have these names, an item
pub map_named : {A : Type 0} (f : Text → Item) (g : A → Text) (names : List (String Global)) (xs : List A)
    → map string_bytes names ≡ map g xs → map (λ name. f (string_bytes name)) names ≡ map (λ x. f (g x)) xs
map_named f g names xs e = map_texts f names (map g xs) e ∙ map_twice f g xs

-- the checks for a pipeline
abbrev pub checks_in : Option PipelineData → List Item
checks_in p = map (λ r. check r.name) (unwrap_or p no_pipeline).resources

-- the schedules for a pipeline
abbrev pub schedules_in : Option PipelineData → List Item
schedules_in p = map (λ j. schedule j.name) (unwrap_or p no_pipeline).jobs

-- a core has a name for each build that runs
pub runs_length : (c : List Name) (rs : _) (bs : List RunningData) → AreRuns c rs bs → length c ≡ length bs
runs_length [] [] [] h = refl
runs_length (n ∷ ns) (r ∷ rs) (b ∷ bs) h = ap (λ k. suc k) (runs_length ns rs bs h.3)
runs_length [] [] (b ∷ bs) h = absurd h
runs_length [] (r ∷ rs) bs h = absurd h
runs_length (n ∷ ns) [] bs h = absurd h
runs_length (n ∷ ns) (r ∷ rs) [] h = absurd h

module _ (places : PlacesData) {v0 : View} where
  -- a round that is cut short before its turns
  pub round_cut : {v1 : View}
      → Calls (Items (Serves places) (checks_in v0.core.pipeline ++ schedules_in v0.core.pipeline)) v0 false v1
      → Calls (Round places) v0 false v1
  round_cut {v1} a = record {
    from = λ s h.
        called_as (Items (Serves places) (checks_and_schedules s)) (Round places) v0 v1 s false (λ ds new d. inl d)
        (subst (λ p. Called (Items (Serves places) (checks_in p ++ schedules_in p)) v0 s false v1) h.1 (a.from s h));
  }

  -- a round that is cut short in its checks
  pub round_cut_in_checks : {v1 : View} (cs : List Item) → cs ≡ checks_in v0.core.pipeline
      → Calls (Items (Serves places) cs) v0 false v1 → Calls (Round places) v0 false v1
  round_cut_in_checks {v1} cs is a =
      round_cut (calls_cut_before (Serves places) (checks_in v0.core.pipeline) (schedules_in v0.core.pipeline)
      (subst (λ js. Calls (Items (Serves places) js) v0 false v1) is a))

  -- the checks, and then the schedules
  pub first_part : {v1 v2 : View} {whole : Bool} (cs ss : List Item)
      → cs ≡ checks_in v0.core.pipeline → ss ≡ schedules_in v0.core.pipeline
      → Calls (Items (Serves places) cs) v0 true v1 → Calls (Items (Serves places) ss) v1 whole v2
      → Calls (Items (Serves places) (checks_in v0.core.pipeline ++ schedules_in v0.core.pipeline)) v0 whole v2
  first_part {v1} {v2} {whole} cs ss c s a b =
      calls_both (Serves places) (checks_in v0.core.pipeline) (schedules_in v0.core.pipeline)
      (subst (λ js. Calls (Items (Serves places) js) v0 true v1) c a)
      (subst (λ js. Calls (Items (Serves places) js) v1 whole v2) s b)

  -- a whole round, or one that is cut short in its turns
  pub round_done : {v2 v3 : View} {whole : Bool} (n : ℕ) → n ≡ length v2.core.names
      → Calls (Items (Serves places) (checks_in v0.core.pipeline ++ schedules_in v0.core.pipeline)) v0 true v2
      → Calls (Items (Serves places) (replicate n turn)) v2 whole v3 → Calls (Round places) v0 whole v3
  round_done {v2} {v3} {whole} n is a b = record {
    from = λ s h.
        let first : Called (Items (Serves places) (checks_and_schedules s)) v0 s true v2 =
        subst (λ p. Called (Items (Serves places) (checks_in p ++ schedules_in p)) v0 s true v2) h.1 (a.from s h) in
        let at = first.stands.1 in
        let second = called_as (Items (Serves places) (replicate n turn)) (TurnOfEach places) v2 v3 first.now.core whole
        (λ ds new d. subst (λ k. Items (Serves places) (replicate k turn) (world_of v2 first.now.core) ds whole new)
        (is ∙ runs_length v2.core.names v2.core.runs first.now.core.running at.3) d)
        (b.from first.now.core at) in
        called_as (Then (Items (Serves places) (checks_and_schedules s)) (TurnOfEach places)) (Round places) v0 v3 s whole
        (λ ds new d. d)
        (called_then (Items (Serves places) (checks_and_schedules s)) (TurnOfEach places) v0 v2 v3 s whole first second);
  }

-- ---- rounds, one after another
module _ (places : PlacesData) where
  none_more : (n : ℕ) (old new : World) (ds : List Done) → Each (Serves places) [] old ds new
      → Rounds places n old ds false new
  none_more zero old new ds e = ([], [], refl, new, e, inl refl)
  none_more (suc n) old new ds e = inl (inl ([], checks_and_schedules old.core, refl, new, e, inl refl))

  -- of no items none was begun
  none_begun : (rest : List Item) (mid new : World) → [] ≡ rest → IsCut (Serves places) rest mid new → new ≡ mid
  none_begun rest mid new is (inl same) = same
  none_begun [] mid new is (inr begun) = absurd begun
  none_begun (i ∷ rest) mid new is (inr begun) = absurd (cc is)

  -- rounds that are cut short are more rounds that are
  longer : (n m : ℕ) → n ≤ m → (old new : World) (ds : List Done) → Rounds places n old ds false new
      → Rounds places m old ds false new
  longer zero m le old new ds ([], rest, is, mid, e, cut) =
      none_more m old new ds
      (subst (λ w. Each (Serves places) [] old ds w) (sym (none_begun rest mid new is cut)) e)
  longer zero m le old new ds (x ∷ xs, rest, is, mid, e, cut) = absurd (cc is)
  longer (suc n) zero le old new ds d = let no : ⊥ = omega arith in absurd no
  longer (suc n) (suc m) le old new ds (inl d) = inl d
  longer (suc n) (suc m) le old new ds (inr b) = let fits : n ≤ m = omega arith in inr (record {
    mid = b.mid;
    front = b.front;
    back = b.back;
    first = b.first;
    second = longer n m fits b.mid new b.back b.second;
    joined = b.joined;
  })

  -- one round more
  one_more : (n : ℕ) (whole : Bool) (old mid new : World) (ds es : List Done) → Rounds places n old ds true mid
      → Round places mid es whole new → Rounds places (suc n) old (ds ++ es) whole new
  one_more zero true old mid new [] es a b = record {
    mid = new;
    front = es;
    back = [];
    first = subst (λ w. Round places w es true new) a b;
    second = refl;
    joined = sym (append-nil es);
  }
  one_more zero false old mid new [] es a b = inl (subst (λ w. Round places w es false new) a b)
  one_more zero whole old mid new (d ∷ ds) es a b = absurd a
  one_more (suc n) true old mid new ds es a b = record {
    mid = a.mid;
    front = a.front;
    back = a.back ++ es;
    first = a.first;
    second = one_more n true a.mid mid new a.back es a.second b;
    joined = ap (λ xs. xs ++ es) a.joined ∙ append_assoc a.front a.back es;
  }
  one_more (suc n) false old mid new ds es a b = inr (record {
    mid = a.mid;
    front = a.front;
    back = a.back ++ es;
    first = a.first;
    second = one_more n false a.mid mid new a.back es a.second b;
    joined = ap (λ xs. xs ++ es) a.joined ∙ append_assoc a.front a.back es;
  })

  then_one : (n : ℕ) (old : World) (ds : List Done) (new : World)
      → Then (Rounds places n) (Round places) old ds true new → Rounds places (n + 1) old ds true new
  then_one n old ds new h = rw add-one
      (subst (λ es. Rounds places (suc n) old es true new) (sym h.joined)
      (one_more n true old h.mid new h.front h.back h.first h.second))

  then_cut : (n m : ℕ) → n < m → (old : World) (ds : List Done) (new : World)
      → Then (Rounds places n) (Round places) old ds false new → Rounds places m old ds false new
  then_cut n m lt old ds new (inl d) = let le : n ≤ m = omega arith in longer n m le old new ds d
  then_cut n m lt old ds new (inr h) = let le : suc n ≤ m = omega arith in
      longer (suc n) m le old new ds
      (subst (λ es. Rounds places (suc n) old es false new) (sym h.joined)
      (one_more n false old h.mid new h.front h.back h.first h.second))

  pub rounds_more : (n : ℕ) {v0 v1 v2 : View} → Calls (Rounds places n) v0 true v1 → Calls (Round places) v1 true v2
      → Calls (Rounds places (n + 1)) v0 true v2
  rounds_more n a b =
      calls_as (Then (Rounds places n) (Round places)) (Rounds places (n + 1)) (then_one n) (calls_then a b)

  pub rounds_stop : (n m : ℕ) {v0 v1 v2 : View} → n < m → Calls (Rounds places n) v0 true v1
      → Calls (Round places) v1 false v2 → Calls (Rounds places m) v0 false v2
  rounds_stop n m lt a b =
      calls_as (Then (Rounds places n) (Round places)) (Rounds places m) (then_cut n m lt) (calls_then a b)
