-- What is said of a problem with places.
use Rattle.std.proofs.Common.{◌≡◌, inr, ℕ, ◌<◌, List, map, length, slice_get, get_or, string_bytes, String, Vec, Global, Some, option_map, Result, Ok, Err, IfOk, MatchResult, IsSome, refl, ap, ◌∙◌, subst}
use Rattle.std.proofs.lemmas.Option.{slice_get-map, slice_get_read}
use Rattle.std.specs.declared.alloc.AllocError.{AllocError}
use Rattle.ccr_history.specs.Text.{Text}
use Rattle.ccr_choice.specs.Problem.{ProblemValue}
use Rattle.ccr_choice.specs.Satisfies.{IsFirstFailure}
use Rattle.ccr_lines.specs.BuildCertificates.{not_together, IsRefused, IsSaidOf}
use Rattle.ccr_lines.specs.Witnesses.{witness, AreWitnesses}

-- what is found of the witnesses of these places: all of them, or the first job that has none
abbrev pub Found : ProblemValue → List ℕ → Result (Vec ℕ Global) ℕ → Type 0
Found q places r =
    MatchResult r (λ builds. AreWitnesses q places builds.items)
    (λ job. IsFirstFailure (length q.jobs) (λ k. IsSome (witness q places k)) job)

pub all_found : (q : ProblemValue) (places ns : List ℕ) (r : Result (Vec ℕ Global) ℕ) (builds : Vec ℕ Global) → ns ≡ places
    → r ≡ Ok builds → Found q ns r → AreWitnesses q places builds.items
all_found q places ns r builds e is h = subst (λ r. Found q places r) is (subst (λ xs. Found q xs r) e h)

pub none_found : (q : ProblemValue) (places ns : List ℕ) (r : Result (Vec ℕ Global) ℕ) (job : ℕ) → ns ≡ places
    → r ≡ Err job → Found q ns r → IsFirstFailure (length q.jobs) (λ k. IsSome (witness q places k)) job
none_found q places ns r job e is h = subst (λ r. Found q places r) is (subst (λ xs. Found q xs r) e h)

-- the job that has no witness is named
pub refused_so : (q : ProblemValue) (places : List ℕ) (names : List (String Global)) (j : ℕ) (name : String Global) (told : Text)
    (r : Result (ℕ × String Global) AllocError) → IsFirstFailure (length q.jobs) (λ k. IsSome (witness q places k)) j
    → j < length names → name ≡ get_or names j name → told ≡ string_bytes name
    → IfOk r (λ x. IsRefused (not_together told) x.0 (string_bytes x.1))
    → IfOk r (λ x. IsSaidOf q (map string_bytes names) places x.0 (string_bytes x.1))
refused_so q places names j name told (Ok x) first within here e h =
    let at : slice_get (map string_bytes names) j ≡ Some (string_bytes name) =
    slice_get-map string_bytes names j ∙ ap (option_map string_bytes) (slice_get_read names (length names) j name refl within here) in
    inr (j, string_bytes name, first, at, subst (λ t. IsRefused (not_together t) x.0 (string_bytes x.1)) e h)
refused_so q places names j name told (Err e) first within here same h = tt
