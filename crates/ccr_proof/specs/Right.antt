-- What a right claim is.
use Rattle.ccr_choice.specs.Problem.{ProblemValue}
use Rattle.ccr_choice.specs.Preference.{Preference}
use Rattle.ccr_choice.specs.Optimal.{IsOptimal, HasNoChoice}
use Rattle.ccr_proof.specs.declared.claim.Claim.{Claim}
use Rattle.ccr_proof.specs.declared.claim.Claim.TheVariants.{Best, Nothing}

-- A claim is right: the choice that it names is optimal, or it names none and there is none.
abbrev pub IsRight : Preference → ProblemValue → Claim → Type 0
IsRight prefers p (Best c) = IsOptimal prefers p c.places c.builds
IsRight prefers p Nothing = HasNoChoice p
