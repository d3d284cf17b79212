-- Plays one after another.
use Rattle.std.proofs.Common.{◌≡◌, ℕ, zero, suc, true, false, refl, ap, ◌∙◌}
use mathlib.Core.Path.{fun_ext}
use Rattle.ccr_steps.specs.declared.outcome.Outcome.{Outcome}
use Rattle.ccr_steps.specs.declared.outcome.Outcome.TheVariants.{Succeeded, Failed, Errored, Aborted}
use Rattle.ccr_steps.specs.Gains.{GainsData}
use Rattle.ccr_steps.specs.Means.{worse}
use Rattle.ccr_steps.specs.Play.{Play, ended, asks, Going, and_then, and_worse_end, and_worse, and_worst, tries}
use Rattle.ccr_steps.specs.Frames.{more_tries, is_aborted}

pub then_then : (p : Play) (f g : Outcome → Going) → and_then (and_then p f) g ≡ and_then p (λ o. λ h. and_then (f o h) g)
then_then (ended o h) f g = refl
then_then (asks a then) f g = ap (λ k. asks a k) (fun_ext (λ x. then_then (then x) f g))

pub then_ended : (p : Play) → and_then p (λ o. λ h. ended o h) ≡ p
then_ended (ended o h) = refl
then_ended (asks a then) = ap (λ k. asks a k) (fun_ext (λ x. then_ended (then x)))

pub then_same : (p : Play) (f g : Outcome → Going) → ((o : Outcome) (h : GainsData) → f o h ≡ g o h) → and_then p f ≡ and_then p g
then_same p f g same = ap (λ k. and_then p k) (fun_ext (λ o. fun_ext (λ h. same o h)))

-- a try, and then the tries that are left
pub tries_then : (k : ℕ) (now : Going) (g : GainsData) → tries k now g ≡ and_then (now g) (more_tries k now)
tries_then zero now g = refl ∙ ap (λ p. p) (then_back (now g))
  where
    then_back : (p : Play) → p ≡ and_then p (more_tries zero now)
    then_back (ended o h) = refl
    then_back (asks a then) = ap (λ k. asks a k) (fun_ext (λ x. then_back (then x)))
tries_then (suc n) now g = refl

worse_worse : (a b c : Outcome) → worse a (worse b c) ≡ worse (worse a b) c
worse_worse Succeeded b c = refl
worse_worse Failed Succeeded c = refl
worse_worse Failed Failed Succeeded = refl
worse_worse Failed Failed Failed = refl
worse_worse Failed Failed Errored = refl
worse_worse Failed Failed Aborted = refl
worse_worse Failed Errored Succeeded = refl
worse_worse Failed Errored Failed = refl
worse_worse Failed Errored Errored = refl
worse_worse Failed Errored Aborted = refl
worse_worse Failed Aborted c = refl
worse_worse Errored Succeeded c = refl
worse_worse Errored Failed Succeeded = refl
worse_worse Errored Failed Failed = refl
worse_worse Errored Failed Errored = refl
worse_worse Errored Failed Aborted = refl
worse_worse Errored Errored Succeeded = refl
worse_worse Errored Errored Failed = refl
worse_worse Errored Errored Errored = refl
worse_worse Errored Errored Aborted = refl
worse_worse Errored Aborted c = refl
worse_worse Aborted b c = refl

worse_then : (rest : Going) (worst o : Outcome) (g : GainsData) → and_then (and_worse rest o g) (and_worse_end worst) ≡ and_then (rest g) (and_worse_end (worse worst o))
worse_then rest worst o g = then_then (rest g) (and_worse_end o) (and_worse_end worst) ∙ then_same (rest g) (λ r. λ h. and_then (and_worse_end o r h) (and_worse_end worst)) (and_worse_end (worse worst o)) (λ r h. ap (λ w. ended w h) (worse_worse worst o r))

-- the worst of all: what came before, a step that wasn't aborted, and the rest
pub worst_then : (rest : Going) (worst o : Outcome) (g : GainsData) → is_aborted o ≡ false → and_worst worst rest o g ≡ and_then (rest g) (and_worse_end (worse worst o))
worst_then rest worst Succeeded g e = worse_then rest worst Succeeded g
worst_then rest worst Failed g e = worse_then rest worst Failed g
worst_then rest worst Errored g e = worse_then rest worst Errored g
worst_then rest worst Aborted g e = absurd (cc (e))

pub worse_aborted : (a : Outcome) → worse a Aborted ≡ Aborted
worse_aborted Succeeded = refl
worse_aborted Failed = refl
worse_aborted Errored = refl
worse_aborted Aborted = refl

-- a step that was aborted is the last
pub worst_last : (rest : Going) (worst o : Outcome) (g : GainsData) → is_aborted o ≡ true → and_worst worst rest o g ≡ ended o g
worst_last rest worst Succeeded g e = absurd (cc (e))
worst_last rest worst Failed g e = absurd (cc (e))
worst_last rest worst Errored g e = absurd (cc (e))
worst_last rest worst Aborted g e = ap (λ o. ended o g) (worse_aborted worst)
