-- The newest build that passes a test, one number after another.
use Rattle.std.proofs.Common.{◌≡◌, ℕ, suc, List, Bool, Option, Some, None, sym, ◌∙◌, ap}
use Rattle.std.specs.Option.{option_or}
use Rattle.ccr_history.specs.Text.{Text}
use Rattle.ccr_history.specs.Builds.{BuildData, build_of}
use Rattle.ccr_lines.specs.Newest.{if_so, newest_up_to}

-- one number on, where the build of a number doesn't pass
pub one_on : (test : BuildData → Bool) (job : Text) (builds : List BuildData) (n m : ℕ) (found all : Option BuildData) → n ≡ suc m
    → found ≡ if_so test (build_of job n builds) → found ≡ None → newest_up_to test job builds n ≡ all
    → newest_up_to test job builds m ≡ all
one_on test job builds n m found all next is none before =
    sym (ap (λ k. newest_up_to test job builds k) next
    ∙ ap (λ f. option_or f (newest_up_to test job builds m))
    (sym (ap (λ k. if_so test (build_of job k builds)) next) ∙ (sym is ∙ none)))
    ∙ before

-- the build of a number is the newest that passes
pub one_here : (test : BuildData → Bool) (job : Text) (builds : List BuildData) (n m : ℕ) (found all : Option BuildData) (b : BuildData)
    → n ≡ suc m → found ≡ if_so test (build_of job n builds) → found ≡ Some b → newest_up_to test job builds n ≡ all
    → Some b ≡ all
one_here test job builds n m found all b next is some before =
    sym (ap (λ k. newest_up_to test job builds k) next
    ∙ ap (λ f. option_or f (newest_up_to test job builds m))
    (sym (ap (λ k. if_so test (build_of job k builds)) next) ∙ (sym is ∙ some)))
    ∙ before
