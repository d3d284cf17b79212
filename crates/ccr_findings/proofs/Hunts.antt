-- What is found at one visit after another.
use Rattle.std.proofs.Common.{◌≡◌, ◌∙◌, ℕ, List, [], ◌∷◌, ◌++◌, refl, sym, append_assoc, codes, Result, OnOk}
use Rattle.std.proofs.lemmas.Grind.{flat_map-append}
use Rattle.std.proofs.lemmas.List.{append-nil}
use Rattle.std.proofs.lemmas.Result.{on_ok_weaker}
use Rattle.serde_json.specs.Data.{Data}
use Rattle.ccr_pipeline.specs.Faults.{Path}
use Rattle.ccr_pipeline.specs.Names.{names_at}
use Rattle.ccr_pipeline.specs.Places.{Opening, Closing, Spot, spot_of}
use Rattle.ccr_findings.specs.Hunts.{HuntData, with_found}
use Rattle.ccr_pipeline.specs.StepRules.{opening_faults, closing_faults}
use Rattle.ccr_pipeline.specs.Unknown.{unknown_names}
use Rattle.ccr_pipeline.proofs.NoteLemmas.{unknown_append}
use Rattle.ccr_pipeline.proofs.Visits.{visits-append}

-- one walk after another finds what a walk over both finds
pub found_append : (h : HuntData) (xs ys : List Spot) → with_found (with_found h xs) ys ≡ with_found h (xs ++ ys)
unfolding with_found
found_append h xs ys =
    rw (visits-append h.gets xs ys, unknown_append h.resources h.jobs xs ys, flat_map-append, append_assoc, append_assoc, append_assoc) refl

-- a walk over no step finds nothing
pub found_none : (h : HuntData) → with_found h [] ≡ h
unfolding with_found
found_none h = rw (append-nil h.present, append-nil h.unknown, append-nil h.gets) refl

-- what is found at a step's keys before the steps in it
pub found_opening : (h : HuntData) (p : Path) (l t : ℕ) (d : Data) → with_found h (spot_of Opening p l t d ∷ []) ≡ record {
  present = h.present ++ opening_faults h.gets p l d;
  unknown = h.unknown ++ unknown_names h.resources h.jobs p d;
  gets = h.gets ++ names_at (codes "get") d;
  resources = h.resources;
  jobs = h.jobs;
}
unfolding with_found
found_opening h p l t d = rw (append-nil, append-nil, append-nil) refl

-- what is found at its keys after these
pub found_closing : (h : HuntData) (p : Path) (l t : ℕ) (d : Data) → with_found h (spot_of Closing p l t d ∷ []) ≡ record h {
  present = h.present ++ closing_faults p t d;
}
unfolding with_found
found_closing h p l t d = rw (append-nil, append-nil, append-nil) refl

-- a walk over no step changes nothing
pub found_nothing : (h : HuntData) (xs : List Spot) → xs ≡ [] → h ≡ with_found h xs
found_nothing h xs none = rw none (sym (found_none h))

-- one walk after another is a walk over both
pub found_then : (h i j : HuntData) (xs ys : List Spot) → i ≡ with_found h xs → j ≡ with_found i ys → j ≡ with_found h (xs ++ ys)
found_then h i j xs ys one two = rw (two, one) (found_append h xs ys)

-- the same where the second may run out of memory
pub found_last : {T E : Type 0} (r : Result T E) (h i j : HuntData) (xs ys : List Spot) → i ≡ with_found h xs → OnOk r (j ≡ with_found i ys) → OnOk r (j ≡ with_found h (xs ++ ys))
found_last r h i j xs ys one two = on_ok_weaker r (λ is. found_then h i j xs ys one is) two

-- what is left of a walk over all is a walk from what was reached
pub found_on : (h i j : HuntData) (all xs ys : List Spot) → with_found i (xs ++ ys) ≡ with_found h all → j ≡ with_found i xs → with_found j ys ≡ with_found h all
found_on h i j all xs ys goes one = rw (one, found_append i xs ys) goes

pub found_end : (h i : HuntData) (all : List Spot) → with_found i [] ≡ with_found h all → i ≡ with_found h all
found_end h i all goes = sym (found_none i) ∙ goes

-- the visit of a step's keys before the steps in it
pub opening_found : (h i : HuntData) (p : Path) (l t : ℕ) (d : Data) → i.present ≡ h.present ++ opening_faults h.gets p l d → i.gets ≡ h.gets ++ names_at (codes "get") d → i.unknown ≡ h.unknown ++ unknown_names h.resources h.jobs p d → i.resources ≡ h.resources → i.jobs ≡ h.jobs → i ≡ with_found h (spot_of Opening p l t d ∷ [])
opening_found h i p l t d present gets unknown resources jobs =
    rw (found_opening h p l t d, sym present, sym unknown, sym gets, sym resources, sym jobs) refl

-- that of its keys after these
pub closing_found : (h i : HuntData) (p : Path) (l t : ℕ) (d : Data) → i.present ≡ h.present ++ closing_faults p t d → i.gets ≡ h.gets → i.unknown ≡ h.unknown → i.resources ≡ h.resources → i.jobs ≡ h.jobs → i ≡ with_found h (spot_of Closing p l t d ∷ [])
closing_found h i p l t d present gets unknown resources jobs =
    rw (found_closing h p l t d, sym present, sym unknown, sym gets, sym resources, sym jobs) refl
