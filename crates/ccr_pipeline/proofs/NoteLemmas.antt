-- What is noted at one visit after another.
use Rattle.std.proofs.Common.{◌≡◌, ℕ, List, [], ◌∷◌, ◌++◌, refl, append_assoc, Option, Some, None, String, Global, length}
use Rattle.std.specs.Option.{option_or}
use Rattle.std.proofs.lemmas.Grind.{flat_map-append}
use Rattle.std.proofs.lemmas.List.{append-nil}
use Rattle.serde_json.specs.declared.value.Value.{Value}
use Rattle.serde_json.specs.Data.{Data}
use Rattle.serde_json.specs.View.{items_view}
use Rattle.ccr_pipeline.specs.declared.fault.Rule.{Rule}
use Rattle.ccr_pipeline.specs.Faults.{Path, Faults, first}
use Rattle.ccr_pipeline.specs.Notes.{told, NotesData, with_step, with_visits}
use Rattle.ccr_pipeline.specs.Places.{Opening, Closing, Spot, spot_of, job_steps}
use Rattle.ccr_pipeline.specs.Tree.{Text}
use Rattle.ccr_pipeline.specs.Unknown.{unknown_spots}

pub first_or : (fs gs : Faults) → first (fs ++ gs) ≡ option_or (first fs) (first gs)
first_or [] gs = refl
first_or (f ∷ fs) gs = refl

or_assoc : {T : Type 0} (a b c : Option T) → option_or (option_or a b) c ≡ option_or a (option_or b c)
or_assoc None b c = refl
or_assoc (Some x) b c = refl

or_none : {T : Type 0} (a : Option T) → option_or a None ≡ a
or_none None = refl
or_none (Some x) = refl

pub told_or : (a b : Option (Rule × String Global)) → told (option_or a b) ≡ option_or (told a) (told b)
told_or None b = refl
told_or (Some f) b = refl

-- what visits name that isn't there, those of one walk after those of another
pub unknown_append : (resources jobs : List Text) (xs ys : List Spot) → unknown_spots resources jobs (xs ++ ys) ≡ unknown_spots resources jobs xs ++ unknown_spots resources jobs ys
unknown_append resources jobs [] ys = refl
unknown_append resources jobs (x ∷ xs) ys = rw (unknown_append resources jobs xs ys, append_assoc) refl

pub noted_append : (n : NotesData) (xs ys : List Spot) → with_visits (with_visits n xs) ys ≡ with_visits n (xs ++ ys)
unfolding with_visits
noted_append n xs ys = rw (unknown_append n.resources n.jobs xs ys, first_or, or_assoc, flat_map-append, append_assoc) refl

pub noted_none : (n : NotesData) → with_visits n [] ≡ n
unfolding with_visits
noted_none n = rw (or_none n.unknown, append-nil) refl

-- the first of the two visits of a step notes it, the second notes nothing
pub noted_opening : (n : NotesData) (p : Path) (l t : ℕ) (d : Data) → with_step n p d ≡ with_visits n (spot_of Opening p l t d ∷ [])
unfolding with_step with_visits
noted_opening n p l t d = rw (append-nil, append-nil) refl

pub noted_closing : (n : NotesData) (p : Path) (l t : ℕ) (d : Data) → with_visits n (spot_of Closing p l t d ∷ []) ≡ n
unfolding with_visits
noted_closing n p l t d = rw (or_none n.unknown, append-nil) refl

pub noted_end : (n : NotesData) (i : ℕ) (xs : List Value) → length xs ≡ 0 → with_visits n (job_steps i (items_view xs)) ≡ n
noted_end n i [] e = noted_none n
noted_end n i (x ∷ xs) e = absurd (cc (e))
