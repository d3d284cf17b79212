-- Visits of steps, those of one walk after those of another.
use Rattle.std.proofs.Common.{◌≡◌, ℕ, zero, suc, ◌-◌, arith, List, [], ◌∷◌, ◌++◌, refl, sym, ◌∙◌, append_assoc, Result, Ok, Err}
use Rattle.std.proofs.lemmas.Grind.{flat_map-append}
use Rattle.std.proofs.lemmas.List.{append-nil}
use Rattle.std.specs.List.{flat_map}
use Rattle.std.specs.Result.{IsErrAnd}
use Rattle.serde_json.specs.Data.{Data}
use Rattle.ccr_pipeline.specs.declared.fault.ReadFault.{ReadFault}
use Rattle.ccr_pipeline.specs.Faults.{Path, IsFirst}
use Rattle.ccr_pipeline.specs.Notes.{NotesData, Walked, WalksAs, with_step, with_visits}
use Rattle.ccr_pipeline.specs.Places.{Opening, Closing, Spot, spot_of, gets_at, gets_by, own_steps, hook_steps, steps_from, tries_below}
use Rattle.ccr_pipeline.specs.StepRules.{visits, opening_faults, closing_faults}
use Rattle.ccr_pipeline.specs.Tree.{Text}
use Rattle.ccr_pipeline.proofs.Faulted.{first_append}
use Rattle.ccr_pipeline.proofs.NoteLemmas.{noted_append, noted_none, noted_opening, noted_closing}

pub visits-append : (names : List (List ℕ)) (xs ys : List Spot) → visits names (xs ++ ys) ≡ visits names xs ++ visits (names ++ flat_map gets_at xs) ys
visits-append names [] ys = rw append-nil refl
visits-append names (x ∷ xs) ys = rw (visits-append (names ++ gets_at x) xs ys, append_assoc, append_assoc) refl

-- a walk over no step changes nothing
pub walked_none : (g : List Text) (m : NotesData) (xs : List Spot) → xs ≡ [] → Walked g m xs g m
walked_none g m xs none = rw none (refl, sym (append-nil g), sym (noted_none m))

-- one walk after another is a walk over both
pub walks_then : {T : Type 0} (g h i : List Text) (l m n : NotesData) (xs ys : List Spot) (r : Result T ReadFault) → Walked g l xs h m → WalksAs h m ys r i n → WalksAs g l (xs ++ ys) r i n
walks_then g h i l m n xs ys (Ok t) one two = (
  rw (visits-append g xs ys, one.0, sym one.1) two.0,
  rw (two.1, one.1, flat_map-append, append_assoc) refl,
  rw (two.2, one.2, noted_append) refl,
)
walks_then g h i l m n xs ys (Err e) one two = rw (visits-append g xs ys, one.0, sym one.1) two

-- a fault of a walk is that of each that begins with it
pub walks_fault : {T : Type 0} (g h : List Text) (m n : NotesData) (xs ys : List Spot) (x : Result T ReadFault) (e : ReadFault) → IsErrAnd x (λ f. f ≡ e) → IsFirst (visits g xs) e → WalksAs g m (xs ++ ys) x h n
walks_fault g h m n xs ys (Ok t) e is first = absurd is
walks_fault g h m n xs ys (Err f) e is first = rw (is, visits-append g xs ys) (first_append (visits g xs) _ e first)

-- what is left of a walk over all is a walk from what was reached
abbrev pub Goes : List Text → NotesData → List Spot → List Text → NotesData → List Spot → Type 0
Goes g m all h n rest =
    (visits g all ≡ visits h rest) × (h ++ flat_map gets_at rest ≡ g ++ flat_map gets_at all)
    × (with_visits n rest ≡ with_visits m all)

pub goes_on : (g h i : List Text) (l m n : NotesData) (all xs ys : List Spot) → Goes g l all h m (xs ++ ys) → Walked h m xs i n → Goes g l all i n ys
goes_on g h i l m n all xs ys goes one =
    let faults : visits h (xs ++ ys) ≡ visits i ys = rw (visits-append h xs ys, one.0, one.1) refl in
    let gets : i ++ flat_map gets_at ys ≡ h ++ flat_map gets_at (xs ++ ys) = rw (one.1, append_assoc, flat_map-append) refl in
    let notes : with_visits n ys ≡ with_visits m (xs ++ ys) = rw (one.2, noted_append) refl in
    (goes.0 ∙ faults, gets ∙ goes.1, notes ∙ goes.2)

pub goes_fault : {T : Type 0} (g h i : List Text) (l m n : NotesData) (all xs ys : List Spot) (x : Result T ReadFault) (e : ReadFault) → Goes g l all h m (xs ++ ys) → IsErrAnd x (λ f. f ≡ e) → IsFirst (visits h xs) e → WalksAs g l all x i n
goes_fault g h i l m n all xs ys (Ok t) e goes is first = absurd is
goes_fault g h i l m n all xs ys (Err f) e goes is first =
    rw (is, goes.0, visits-append h xs ys) (first_append (visits h xs) _ e first)

pub goes_end : (g h : List Text) (m n : NotesData) (all : List Spot) → Goes g m all h n [] → Walked g m all h n
goes_end g h m n all goes =
    let gets : h ++ [] ≡ h = append-nil h in
    (goes.0, sym gets ∙ goes.1, sym (noted_none n) ∙ goes.2)

-- the visit of a step's keys before the steps in it
pub walked_opening : (g h : List Text) (m n : NotesData) (p : Path) (l t : ℕ) (d : Data) → opening_faults g p l d ≡ [] → h ≡ g ++ gets_by Opening d → n ≡ with_step m p d → Walked g m (spot_of Opening p l t d ∷ []) h n
walked_opening g h m n p l t d none added noted =
    (rw none refl, rw (added, append-nil) refl, noted ∙ noted_opening m p l t d)

-- that of its keys after these
pub walked_closing : (g : List Text) (m : NotesData) (p : Path) (l t : ℕ) (d : Data) → closing_faults p t d ≡ [] → Walked g m (spot_of Closing p l t d ∷ []) g m
walked_closing g m p l t d none = (rw none refl, rw append-nil refl, sym (noted_closing m p l t d))

-- a step with no level left: the visit of its keys alone
pub steps_none : (n t : ℕ) (p : Path) (d : Data) → n ≡ 0 → steps_from n t p d ≡ spot_of Opening p n t d ∷ []
unfolding steps_from
steps_none zero t p d none = refl
steps_none (suc n) t p d none = absurd (omega arith)

-- a step with a level left: the visit of its keys, and what comes after
pub steps_below : (n t : ℕ) (p : Path) (d : Data) → (n ≡ 0 → ⊥) → steps_from n t p d ≡ (spot_of Opening p n t d ∷ []) ++ (own_steps (steps_from (n - 1)) (tries_below t d) p d ++ (spot_of Closing p n t d ∷ hook_steps (steps_from (n - 1)) (tries_below t d) p d))
unfolding steps_from
steps_below zero t p d some = absurd (some refl)
steps_below (suc n) t p d some = let e : suc n - 1 ≡ n = omega arith in rw e refl

-- a fault of a step's keys is that of the step
pub opening_fault : {T : Type 0} (g h : List Text) (m n : NotesData) (l t : ℕ) (p : Path) (d : Data) (x : Result T ReadFault) (e : ReadFault) → IsErrAnd x (λ f. f ≡ e) → IsFirst (opening_faults g p l d) e → WalksAs g m (steps_from l t p d) x h n
unfolding steps_from
opening_fault g h m n zero t p d x e is first = walks_fault g h m n (spot_of Opening p 0 t d ∷ []) [] x e is (first_append (opening_faults g p 0 d) [] e first)
opening_fault g h m n (suc l) t p d x e is first = walks_fault g h m n (spot_of Opening p (suc l) t d ∷ []) _ x e is (first_append (opening_faults g p (suc l) d) [] e first)
