-- Commits that are counted.
use Rattle.std.proofs.Common.{◌≡◌, ◌+◌, ℕ, List, [], ◌∷◌, ◌++◌, Bool, true, false, sym, ◌∙◌, ap, subst, arith}
use Rattle.ccr_history.specs.Counts.{RoseBy}
use Rattle.ccr_serve.specs.Items.{Done}
use Rattle.ccr_serve.specs.Taken.{taken_of, taken_in}
use Rattle.ccr_serve.specs.Views.{HasAsked}

add_assoc : (a b c : ℕ) → a + b + c ≡ a + (b + c)
add_assoc a b c = omega arith

none_add : (n : ℕ) → n ≡ 0 + n
none_add n = omega arith

pub add_none : (n : ℕ) → n + 0 ≡ n
add_none n = omega arith

pub taken_in-append : (ds es : List Done) → taken_in (ds ++ es) ≡ taken_in ds + taken_in es
taken_in-append [] es = none_add (taken_in es)
taken_in-append (d ∷ ds) es =
    ap (λ n. taken_of d.event + n) (taken_in-append ds es)
    ∙ sym (add_assoc (taken_of d.event) (taken_in ds) (taken_in es))

-- a count that stays rose by none
pub rose_none : (n : ℕ) → RoseBy n 0 n
rose_none n = (0, omega arith)

pub rose_then : (a m b n c : ℕ) → RoseBy a m b → RoseBy b n c → RoseBy a (m + n) c
rose_then a m b n c x y = (x.0 + y.0, omega (arith, x.1, y.1))

-- no commit was asked for
pub asked_none : (n : ℕ) → HasAsked false n 0 n
asked_none n = (0, omega arith, rose_none n)

-- what rose by so many asked for no other
pub asked_these : (a n b : ℕ) → RoseBy a n b → HasAsked false a n b
asked_these a n b x = (0, omega arith, subst (λ k. RoseBy a k b) (sym (add_none n)) x)

pub asked_then : (whole : Bool) (a m b n c : ℕ) → RoseBy a m b → HasAsked whole b n c → HasAsked whole a (m + n) c
asked_then true a m b n c x y = rose_then a m b n c x y
asked_then false a m b n c x y =
    (y.0, y.1, subst (λ k. RoseBy a k c) (sym (add_assoc m n y.0)) (rose_then a m b (n + y.0) c x y.2))

-- one commit was asked for, which failed
pub asked_one : (a b : ℕ) → RoseBy a 1 b → HasAsked false a 0 b
asked_one a b x = (1, omega arith, x)
