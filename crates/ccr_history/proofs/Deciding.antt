-- The tests of what the caller of a change owes decide it.
use Rattle.std.proofs.Common.{◌≡◌, ◌≢◌, ℕ, List, [], ◌∷◌, Bool, true, false, ◌&&◌, ◌||◌, not, ◌==◌, IsTrue, AllPairs, bytes_eq, refl, sym, ap, ◌∙◌, length, arith}
use Rattle.std.specs.Bool.{Decides}
use Rattle.std.specs.List.{AllByRecursion, list_any, list_all}
use Rattle.std.proofs.lemmas.Bool.Decides.{Decides-and, Decides-at, Decides-like, Decides-not, Decides-eqb}
use Rattle.std.proofs.lemmas.List.Elements.{All-from_recursion, recursion_from_All}
use Rattle.std.proofs.lemmas.List.Kept.{AllPairs-cons}
use Rattle.ccr_history.specs.Tables.{TableData}
use Rattle.ccr_history.specs.Builds.{UsedData}
use Rattle.ccr_history.specs.History.{IsUsed, has_place}
use Rattle.ccr_history.specs.Changes.{AreUsed, AreMoved}
use Rattle.ccr_history.specs.Pairs.{is_same_pair}
use Rattle.ccr_history.specs.Conditions.{are_apart, is_same_input, is_used_in, are_used, are_moved}
use Rattle.ccr_history.proofs.Lists.{pairs_none, pairs_head, pairs_tail}

all_decides : {X : Type 0} (p : X → Bool) (P : X → Type 0) → ((x : X) → Decides (p x) (P x)) → (xs : List X) → Decides (list_all p xs) (AllByRecursion P xs)
all_decides p P each [] = (λ _. tt, λ _. refl)
all_decides p P each (x ∷ xs) = Decides-and (p x) (list_all p xs) (each x) (all_decides p P each xs)

not_or : (a b : Bool) → not (a || b) ≡ (not a && not b)
not_or true b = refl
not_or false b = refl

none_decides : {X : Type 0} (p : X → Bool) (P : X → Type 0) → ((x : X) → Decides (not (p x)) (P x)) → (xs : List X) → Decides (not (list_any p xs)) (AllByRecursion P xs)
none_decides p P each [] = (λ _. tt, λ _. refl)
none_decides p P each (x ∷ xs) =
    Decides-at (not (p x || list_any p xs)) (not (p x) && not (list_any p xs)) (not_or (p x) (list_any p xs))
    (Decides-and (not (p x)) (not (list_any p xs)) (each x) (none_decides p P each xs))

apart_decides : {X : Type 0} (same : X → X → Bool) (R : X → X → Type 0) → ((x y : X) → Decides (not (same x y)) (R x y)) → (xs : List X) → Decides (are_apart same xs) (AllPairs R xs)
apart_decides same R each [] = (λ _. pairs_none R, λ _. refl)
apart_decides same R each (x ∷ xs) =
    let both = Decides-and (not (list_any (same x) xs)) (are_apart same xs) (none_decides (same x) (R x) (each x) xs) (apart_decides same R each xs) in (
      (λ e. let parts = both.0 e in AllPairs-cons R x xs (All-from_recursion (R x) xs parts.0) parts.1),
      (λ h. both.1 (recursion_from_All (R x) xs (pairs_head R x xs h), pairs_tail R x xs h)),
    )

false_decides : (b : Bool) → Decides (not b) (b ≡ false)
false_decides true = (λ e. sym e, λ e. sym e)
false_decides false = (λ _. refl, λ _. refl)

true_decides : (b : Bool) → Decides b (IsTrue b)
true_decides b = (λ e. e, λ e. e)

empty_from_length : (bs : List ℕ) → length bs ≡ 0 → bs ≡ []
empty_from_length [] none = refl
empty_from_length (b ∷ bs) none = absurd (omega arith)

empty_decides : (bs : List ℕ) → Decides (length bs == 0) (bs ≡ [])
empty_decides bs = Decides-like (length bs == 0) (empty_from_length bs) (ap length) (Decides-eqb (length bs) 0)

used_decides : (tables : List TableData) (u : UsedData) → Decides (is_used_in tables u) (IsUsed tables u)
used_decides tables u =
    Decides-and (not (length u.input == 0)) (has_place tables u.scope u.place)
    (Decides-not (length u.input == 0) (empty_decides u.input)) (true_decides (has_place tables u.scope u.place))

used_decided : (tables : List TableData) (used : List UsedData) → Decides (are_used tables used) (AreUsed tables used)
used_decided tables used =
    Decides-and (are_apart is_same_input used) (list_all (is_used_in tables) used)
    (apart_decides is_same_input (λ u v. bytes_eq u.input v.input ≡ false) (λ u v. false_decides (bytes_eq u.input v.input)) used)
    (all_decides (is_used_in tables) (IsUsed tables) (used_decides tables) used)

pair_decides : (p q : ℕ × ℕ) → Decides (is_same_pair p q) (p ≡ q)
pair_decides p q =
    Decides-like (is_same_pair p q) (λ both. ap (λ a. (a, p.1)) both.0 ∙ ap (λ b. (q.0, b)) both.1) (λ e. (ap (λ r. r.0) e, ap (λ r. r.1) e))
    (Decides-and (p.0 == q.0) (p.1 == q.1) (Decides-eqb p.0 q.0) (Decides-eqb p.1 q.1))

moved_decided : (tables : List TableData) (moved : List (ℕ × ℕ)) → Decides (are_moved tables moved) (AreMoved tables moved)
moved_decided tables moved =
    Decides-and (are_apart is_same_pair moved) (list_all (λ p. has_place tables p.0 p.1) moved)
    (apart_decides is_same_pair (λ p q. p ≢ q) (λ p q. Decides-not (is_same_pair p q) (pair_decides p q)) moved)
    (all_decides (λ p. has_place tables p.0 p.1) (λ p. IsTrue (has_place tables p.0 p.1)) (λ p. true_decides (has_place tables p.0 p.1)) moved)

-- the test of used places decides whether a build may use them
pub used_test_decides : (tables : List TableData) (used : List UsedData) (r : Bool) → r ≡ are_used tables used → Decides r (AreUsed tables used)
used_test_decides tables used r e = Decides-at r (are_used tables used) e (used_decided tables used)

-- the test of moved pairs decides whether a build may move them
pub moved_test_decides : (tables : List TableData) (moved : List (ℕ × ℕ)) (r : Bool) → r ≡ are_moved tables moved → Decides r (AreMoved tables moved)
moved_test_decides tables moved r e = Decides-at r (are_moved tables moved) e (moved_decided tables moved)
