-- The digits of a hash.
use Rattle.std.proofs.Common.{◌≡◌, ◌<◌, ◌≤◌, ℕ, zero, suc, List, [], ◌∷◌, length, get_or, Bool, true, ◌&&◌, nat_le, arith}
use Rattle.std.specs.List.{list_all}
use Rattle.std.proofs.lemmas.Bool.{and_parts, leb-true}
use Rattle.std.proofs.lemmas.Bool.Decides.{nat_tests}
use Rattle.ccr_overview.specs.Shorts.{is_hex, is_hash}

-- a hexadecimal digit is one of ASCII
hex_small : (b : ℕ) → is_hex b ≡ true → b < 128
hex_small b is = grind (arith, nat_tests)

hex_at : (t : List ℕ) (k : ℕ) (d : ℕ) → k < length t → list_all is_hex t ≡ true → get_or t k d < 128
hex_at [] k d within all = absurd (omega (arith, within))
hex_at (b ∷ bs) zero d within all = hex_small b (and_parts (is_hex b) (list_all is_hex bs) all).0
hex_at (b ∷ bs) (suc k) d within all = hex_at bs k d (omega (arith, within)) (and_parts (is_hex b) (list_all is_hex bs) all).1

-- a hash has as many digits at least
pub hash_long : (t : List ℕ) → is_hash t ≡ true → 16 ≤ length t
hash_long t is = leb-true 16 (length t) (and_parts (nat_le 16 (length t)) (list_all is_hex t) is).0

-- each of them is one of ASCII
pub hash_small : (t : List ℕ) (k d : ℕ) → is_hash t ≡ true → k < length t → get_or t k d < 128
hash_small t k d is within = hex_at t k d within (and_parts (nat_le 16 (length t)) (list_all is_hex t) is).1

-- both
pub ruleset digits = (hash_long, hash_small)
