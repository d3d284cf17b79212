-- Numbers as they are typed.
use Rattle.std.specs.Prelude.{ℕ, List, length, Bool, Option, Some, None, option_and_then, ◌&&◌, nat_lt, nat_le, if◌then◌else◌}
use Rattle.std.specs.Str.{all_ascii_digits}
use Rattle.std.specs.Str.Parse.{digits_value, without_leading_plus}

-- the highest number that is taken: of rounds, and as a budget
abbrev pub MOST : ℕ
MOST = 1000000

-- the highest place of a version that is taken
abbrev pub MOST_PLACE : ℕ
MOST_PLACE = 100000

-- the most seconds that are taken: those of a day
abbrev pub MOST_SECONDS : ℕ
MOST_SECONDS = 86400

-- the number, where it is one from 1 to the highest
abbrev pub in_range : ℕ → Option ℕ
in_range n = if nat_le 1 n && nat_le n MOST then Some n else None

-- one decimal digit or more, and nothing else
abbrev pub is_numeral : List ℕ → Bool
is_numeral ds = nat_lt 0 (length ds) && all_ascii_digits ds

-- the number that these digits write, where it is in the range
abbrev pub numeral_of : List ℕ → Option ℕ
numeral_of ds = if is_numeral ds then in_range (digits_value 10 ds) else None

-- THE NUMBER THAT A TEXT WRITES in decimal digits, where a plus may stand first, if it is in the range
abbrev pub number_of : List ℕ → Option ℕ
number_of text = numeral_of (without_leading_plus text)

-- THE PLACE THAT A TEXT WRITES: a number so, if it isn't above the highest place
abbrev pub place_of : List ℕ → Option ℕ
place_of text = option_and_then (λ n. if nat_le n MOST_PLACE then Some n else None) (number_of text)

-- THE SECONDS THAT A TEXT WRITES: a number so, if it isn't above that of a day
abbrev pub seconds_of : List ℕ → Option ℕ
seconds_of text = option_and_then (λ n. if nat_le n MOST_SECONDS then Some n else None) (number_of text)
