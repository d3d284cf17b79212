-- What is said of a problem.
use Rattle.std.specs.Prelude.{ℕ, ◌<◌, ◌≤◌, ◌^◌, List, length}
use Rattle.std.specs.List.{AllByRecursion}
use Rattle.ccr_proof.specs.declared.claim.TheConstants.{MOST_NUMBERS}
use Rattle.ccr_proof.specs.declared.claim.Claim.{Claim}
use Rattle.ccr_proof.specs.declared.claim.Claim.TheVariants.{Best, Nothing}

-- A list that isn't long, of numbers below 2 ^ 32.
abbrev pub IsShort : List ℕ → Type 0
IsShort ns = (length ns ≤ MOST_NUMBERS) × AllByRecursion (λ n. n < 2 ^ 32) ns

-- A claim that has a text: no list is long.
abbrev pub IsClaim : Claim → Type 0
IsClaim Nothing = Unit {0}
IsClaim (Best c) = IsShort c.places × IsShort c.builds
