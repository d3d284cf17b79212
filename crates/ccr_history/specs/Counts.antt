-- What is counted of commits.
use Rattle.std.specs.Prelude.{◌≡◌, ◌+◌, ◌*◌, ◌^◌, ℕ, Option, None, Some, Result, Ok, Err}

-- a count of 64 bits went up by so many, modulo 2 to the 64th
abbrev pub RoseBy : ℕ → ℕ → ℕ → Type 0
RoseBy before n after = (rounds : ℕ) × (after + rounds * 2 ^ 64 ≡ before + n)

-- why a call failed, if it did
abbrev pub fault_in : {A E : Type 0} → Result A E → Option E
fault_in (Ok a) = None
fault_in (Err e) = Some e
