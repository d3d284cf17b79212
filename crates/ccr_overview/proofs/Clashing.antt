-- Words behind others, and what follows a start.
use Rattle.std.proofs.Common.{◌≡◌, ◌≢◌, ◌++◌, ℕ, List, Bool, true, false, cond, Option, Some, None, length, take, drop, refl, sym, ap, ◌∙◌, append_assoc, Result, Ok, Err}
use Rattle.std.proofs.Math.Seq.{take-append_seam}
use Rattle.std.proofs.lemmas.List.{take-append-drop}
use Rattle.std.proofs.lemmas.Slice.Eq.{bytes_eq-Decides}
use Rattle.std.specs.Prelude.{MatchOption, option_map, OnOk}
use Rattle.std.specs.Borrow.{Bor}
use Rattle.std.specs.Str.{bytes_eq}
use Rattle.std.specs.Str.Pattern.{FindsTextPrefix, StripsPrefix}

-- what follows a start, if a text begins with it
stripped : List ℕ → List ℕ → Option (List ℕ)
stripped p s = cond (bytes_eq (take (length p) s) p) (Some (drop (length p) s)) None

begun : (p s : List ℕ) → s ≡ p ++ drop (length p) s → take (length p) s ≡ p
begun p s is = ap (take (length p)) is ∙ take-append_seam p (drop (length p) s)

none_by : (p s : List ℕ) (b : Bool) → bytes_eq (take (length p) s) p ≡ b → ((rest : List ℕ) → s ≢ p ++ rest) → None ≡ cond b (Some (drop (length p) s)) None
none_by p s false is lacks = refl
none_by p s true is lacks = absurd (lacks (drop (length p) s) (sym (take-append-drop (length p) s) ∙ ap (λ t. t ++ drop (length p) s) ((bytes_eq-Decides (take (length p) s) p).0 is)))

-- what `strip_prefix` gives is what follows
pub stripped_from : (p s : List ℕ) (r : Option (Bor (List ℕ))) → MatchOption r (FindsTextPrefix p s None) (λ x. StripsPrefix (FindsTextPrefix p) s x.now)
    → option_map (λ d. d.now) r ≡ cond (bytes_eq (take (length p) s) p) (Some (drop (length p) s)) None
stripped_from p s None h = none_by p s (bytes_eq (take (length p) s) p) refl h
stripped_from p s (Some x) h =
    let at : h.0 ≡ length p = h.1.0 in
    let is : s ≡ p ++ drop (length p) s = h.1.1 ∙ ap (λ k. p ++ drop k s) at in
    ap Some (h.2 ∙ ap (λ k. drop k s) at)
    ∙ sym (ap (λ b. cond b (Some (drop (length p) s)) None) ((bytes_eq-Decides (take (length p) s) p).1 (begun p s is)))

-- what is added twice is added at once
pub two_added : {X E : Type 0} (r : Result (Unit {0}) E) (a b c x y all : List X) → b ≡ a ++ x → OnOk r (c ≡ b ++ y) → x ++ y ≡ all
    → OnOk r (c ≡ a ++ all)
two_added (Ok u) a b c x y all first second is =
    second ∙ (ap (λ t. t ++ y) first ∙ (append_assoc a x y ∙ ap (λ t. a ++ t) is))
two_added (Err e) a b c x y all first second is = tt

-- the same of what is added in three parts
pub three_added : {X E : Type 0} (r : Result (Unit {0}) E) (a b c d x y z all : List X) → b ≡ a ++ x → c ≡ b ++ y → OnOk r (d ≡ c ++ z)
    → x ++ (y ++ z) ≡ all → OnOk r (d ≡ a ++ all)
three_added r a b c d x y z all first second third is =
    two_added r a c d (x ++ y) z all (second ∙ (ap (λ t. t ++ y) first ∙ append_assoc a x y)) third (append_assoc x y z ∙ is)
