-- A round's checks and schedules: an item for each name of a list.
use Rattle.std.proofs.Common.{◌≡◌, ◌<◌, ◌+◌, ℕ, zero, suc, List, [], ◌∷◌, length, take, get_or, map, Bool, true, false, cond, Option, Some, IsSome, String, string_bytes, bytes_eq, unwrap_or, refl, sym, subst, arith}
use Rattle.std.proofs.lemmas.Slice.Eq.{bytes_eq-Decides}
use Rattle.std.specs.declared.alloc.Global.{Global}
use Rattle.ccr_core.specs.State.{no_pipeline}
use Rattle.ccr_history.specs.Text.{Text}
use Rattle.ccr_pipeline.specs.JobData.{ResourceData}
use Rattle.ccr_pipeline.specs.Pipelines.{PipelineData}
use Rattle.ccr_problem.specs.ProblemOf.{resource_of}
use Rattle.ccr_task.specs.Places.{PlacesData, places_data}
use Rattle.ccr_task.specs.declared.places.Places.{Places}
use Rattle.ccr_serve.specs.Items.{Item, Done, Serve, Part, Items, Noting}
use Rattle.ccr_serve.specs.Runs.{AreThere}
use Rattle.ccr_serve.specs.Serving.{Serves, ItemsOf}
use Rattle.ccr_serve.specs.Views.{View, Calls}
use Rattle.ccr_serve.proofs.Composing.{calls_as}
use Rattle.ccr_serve.proofs.Loops.{take_whole, calls_more, calls_stop}

-- a part of which something is noted is done
pub unnoted : (P : Part) (Note : List Done → Type 0) {v0 v1 : View} (whole : Bool)
    → Calls (Noting P Note) v0 whole v1 → Calls P v0 whole v1
unnoted P Note true a = calls_as (Noting P Note) P (λ old ds new d. d.0) a
unnoted P Note false a = calls_as (Noting P Note) P (λ old ds new d. d) a

-- the same part, of a server with the same directories
pub moved : (P : PlacesData → Part) {p q : Places} {v0 v1 : View} {whole : Bool} → q ≡ p
    → Calls (P (places_data q)) v0 whole v1 → Calls (P (places_data p)) v0 whole v1
moved P {p} {q} {v0} {v1} {whole} same a = subst (λ x. Calls (P (places_data x)) v0 whole v1) same a

-- ---- an item for each name
-- the items of all names
pub names_done : (S : Serve) (f : Text → Item) (names : List (String Global)) (i : ℕ) {v0 v1 : View}
    → length names ≡ i → Calls (Items S (map (λ n. f (string_bytes n)) (take i names))) v0 true v1
    → Calls (Items S (map (λ n. f (string_bytes n)) names)) v0 true v1
names_done S f names i {v0} {v1} all a =
    subst (λ ns. Calls (Items S (map (λ n. f (string_bytes n)) ns)) v0 true v1) (take_whole names i all) a

module _ {q p : Places} (f : Text → Item) (names : List (String Global)) (i : ℕ) (x : String Global) (t : Text)
    (lt : i < length names) (is : x ≡ get_or names i x) (told : t ≡ string_bytes x) (same : q ≡ p) where
  named : {v1 v2 : View} {whole : Bool} → Calls (Items (Serves (places_data q)) (f t ∷ [])) v1 whole v2
      → Calls (Items (Serves (places_data p)) (f (string_bytes x) ∷ [])) v1 whole v2
  named {v1} {v2} {whole} b =
      subst (λ n. Calls (Items (Serves (places_data p)) (f n ∷ [])) v1 whole v2) told
      (moved (ItemsOf (f t ∷ [])) same b)

  -- the item of one name more
  pub name_more : {v0 v1 v2 : View}
      → Calls (Items (Serves (places_data p)) (map (λ n. f (string_bytes n)) (take i names))) v0 true v1
      → Calls (Items (Serves (places_data q)) (f t ∷ [])) v1 true v2
      → Calls (Items (Serves (places_data p)) (map (λ n. f (string_bytes n)) (take (i + 1) names))) v0 true v2
  name_more a b = calls_more (Serves (places_data p)) (λ n. f (string_bytes n)) names i x lt is a (named b)

  -- the items are cut short by that of a name
  pub name_stop : {v0 v1 v2 : View}
      → Calls (Items (Serves (places_data p)) (map (λ n. f (string_bytes n)) (take i names))) v0 true v1
      → Calls (Items (Serves (places_data q)) (f t ∷ [])) v1 false v2
      → Calls (Items (Serves (places_data p)) (map (λ n. f (string_bytes n)) names)) v0 false v2
  name_stop a b = calls_stop (Serves (places_data p)) (λ n. f (string_bytes n)) names i x lt is a (named b)

-- ---- names of resources
found_too : (t : Bool) (r : ResourceData) (o : Option ResourceData) → IsSome o → IsSome (cond t (Some r) o)
found_too true r o h = refl
found_too false r o h = h

there_too : (r : ResourceData) (rs : List ResourceData) (names : List Text) → AreThere names rs
    → AreThere names (r ∷ rs)
there_too r rs [] h = tt
there_too r rs (n ∷ ns) h = (found_too (bytes_eq n r.name) r (resource_of n rs) h.0, there_too r rs ns h.1)

each_there : (rs : List ResourceData) → AreThere (map (λ r. r.name) rs) rs
each_there [] = tt
each_there (r ∷ rs) = (
  subst (λ t. IsSome (cond t (Some r) (resource_of r.name rs))) (sym ((bytes_eq-Decides r.name r.name).1 refl)) refl,
  there_too r rs (map (λ q. q.name) rs) (each_there rs),
)

-- the names of resources are those of resources
pub names_there : (names : List (String Global)) (rs : List ResourceData)
    → map string_bytes names ≡ map (λ r. r.name) rs → AreThere (map string_bytes names) rs
names_there names rs e = subst (λ ns. AreThere ns rs) (sym e) (each_there rs)

one_there : (rs : List ResourceData) (names : List (String Global)) (i : ℕ) (x d : String Global) → i < length names
    → x ≡ get_or names i d → AreThere (map string_bytes names) rs → IsSome (resource_of (string_bytes x) rs)
one_there rs [] i x d lt is h = let no : ⊥ = omega arith in absurd no
one_there rs (n ∷ ns) zero x d lt is h = subst (λ y. IsSome (resource_of (string_bytes y) rs)) (sym is) h.0
one_there rs (n ∷ ns) (suc i) x d lt is h = let less : i < length ns = omega arith in
    one_there rs ns i x d less is h.1

-- a name of the list is that of a resource, while the pipeline stays
pub name_there : (p q : Option PipelineData) (names : List (String Global)) (i : ℕ) (x : String Global) (t : Text)
    → q ≡ p → i < length names → x ≡ get_or names i x → t ≡ string_bytes x
    → AreThere (map string_bytes names) (unwrap_or p no_pipeline).resources
    → IsSome (resource_of t (unwrap_or q no_pipeline).resources)
name_there p q names i x t stays lt is told h =
    subst (λ o. IsSome (resource_of t (unwrap_or o no_pipeline).resources)) (sym stays)
    (subst (λ n. IsSome (resource_of n (unwrap_or p no_pipeline).resources)) (sym told)
    (one_there (unwrap_or p no_pipeline).resources names i x x lt is h))
