-- Words in a text, place by place.
use Rattle.std.proofs.Common.{◌≡◌, ◌∙◌, ℕ, ◌+◌, ◌-◌, ◌<◌, Bool, true, false, ◌||◌, ◌∷◌, arith, length, length-drop, take, take_all, drop, get_or, sym, ap, subst, drop-cons, add-one}
use Rattle.std.specs.Prelude.{nat_eq}
use Rattle.std.specs.List.{starts_with}
use Rattle.ccr_history.specs.Text.{Text}
use Rattle.ccr_run.specs.Advised.{has_words}

-- a text isn't empty before its end
from_here : (t : Text) (at : ℕ) → at < length t → drop at t ≡ get_or t at 0 ∷ drop (at + 1) t
from_here t at lt = cc (drop-cons t at 0 lt, add-one at)

-- where the words don't stand at a place, they stand behind it or not at all
passes : (w t : Text) (at : ℕ) → at < length t → starts_with nat_eq (drop at t) w ≡ false
    → has_words w (drop at t) ≡ has_words w (drop (at + 1) t)
passes w t at lt elsewhere =
    subst (λ (xs : Text). starts_with nat_eq xs w ≡ false → has_words w xs ≡ has_words w (drop (at + 1) t))
    (sym (from_here t at lt)) (λ none. ap (λ (b : Bool). b || has_words w (drop (at + 1) t)) none) elsewhere

-- what begins at a place, as a slice
rest_is : (t : Text) (at : ℕ) → take (length t - at) (drop at t) ≡ drop at t
rest_is t at = take_all (length t - at) (drop at t) (omega (arith, length-drop at t))

-- so it is of the whole text, where nothing of it before that place has them
pub goes_on : (w v t : Text) (at : ℕ) → at < length t → has_words w t ≡ has_words w (drop at t) → v ≡ w
    → starts_with nat_eq (take (length t - at) (drop at t)) v ≡ false → has_words w t ≡ has_words w (drop (at + 1) t)
goes_on w v t at lt before same elsewhere =
    before
    ∙ passes w t at lt
    (subst (λ (xs : Text). starts_with nat_eq xs w ≡ false) (rest_is t at)
    (subst (λ (x : Text). starts_with nat_eq (take (length t - at) (drop at t)) x ≡ false) same elsewhere))

-- where they stand at a place, they stand in what begins there
pub finds : (w t : Text) (at : ℕ) → at < length t → starts_with nat_eq (drop at t) w ≡ true → has_words w (drop at t) ≡ true
finds w t at lt here =
    subst (λ (xs : Text). starts_with nat_eq xs w ≡ true → has_words w xs ≡ true)
    (sym (from_here t at lt)) (λ one. ap (λ (b : Bool). b || has_words w (drop (at + 1) t)) one) here
