-- Disabled places stay places of the tables, in their order.
use Rattle.std.proofs.Common.{◌≡◌, ℕ, List, Result, Ok, Err, OnOk, OnErr, IsTrue, sym, subst}
use Rattle.ccr_history.specs.Scopes.{ScopeData}
use Rattle.ccr_history.specs.Tables.{TableData, reported}
use Rattle.ccr_history.specs.TextMap.{TextMap}
use Rattle.ccr_history.specs.History.{has_place, AreDisabled}
use Rattle.ccr_history.specs.Pairs.{with_pair, without_pair}
use Rattle.ccr_history.proofs.Lists.{each_weaker}
use Rattle.ccr_history.proofs.TableLaws.{Keeps, places_kept, place_kept}
use Rattle.ccr_history.proofs.PairSets.{ordered_with, each_with, ordered_without, each_without}

pub disabled_kept : (ts us : List TableData) → Keeps ts us → (ps : List (ℕ × ℕ)) → AreDisabled ts ps → AreDisabled us ps
disabled_kept ts us keeps ps h =
    (h.0, each_weaker (λ p. IsTrue (has_place ts p.0 p.1)) (λ p. IsTrue (has_place us p.0 p.1)) (λ p place. place_kept ts us keeps p.0 p.1 place) ps h.1)

pub disabled_reported : {T E : Type 0} (r : Result T E) (ts us : List TableData) (ps : List (ℕ × ℕ)) (scope : ScopeData) (vs : List TextMap)
    → AreDisabled ts ps → OnOk r (us ≡ reported scope vs ts) → OnErr r (us ≡ ts) → AreDisabled us ps
disabled_reported (Ok x) ts us ps scope vs h ok err =
    subst (λ (l : List TableData). AreDisabled l ps) (sym ok) (disabled_kept ts (reported scope vs ts) (places_kept scope vs ts) ps h)
disabled_reported (Err e) ts us ps scope vs h ok err = subst (λ (l : List TableData). AreDisabled l ps) (sym err) h

pub one_disabled : (ts : List TableData) (scope place : ℕ) (ps : List (ℕ × ℕ)) → AreDisabled ts ps → IsTrue (has_place ts scope place) → AreDisabled ts (with_pair (scope, place) ps)
one_disabled ts scope place ps h there =
    (ordered_with (scope, place) ps h.0, each_with (λ p. IsTrue (has_place ts p.0 p.1)) (scope, place) ps there h.1)

pub one_enabled : (ts : List TableData) (scope place : ℕ) (ps : List (ℕ × ℕ)) → AreDisabled ts ps → AreDisabled ts (without_pair (scope, place) ps)
one_enabled ts scope place ps h =
    (ordered_without (scope, place) ps h.0, each_without (λ p. IsTrue (has_place ts p.0 p.1)) (scope, place) ps h.1)

pub disabled_added : {T E : Type 0} (r : Result T E) (ts : List TableData) (scope place : ℕ) (ps qs : List (ℕ × ℕ))
    → AreDisabled ts ps → IsTrue (has_place ts scope place) → OnOk r (qs ≡ with_pair (scope, place) ps) → OnErr r (qs ≡ ps) → AreDisabled ts qs
disabled_added (Ok x) ts scope place ps qs h there ok err = subst (AreDisabled ts) (sym ok) (one_disabled ts scope place ps h there)
disabled_added (Err e) ts scope place ps qs h there ok err = subst (AreDisabled ts) (sym err) h
