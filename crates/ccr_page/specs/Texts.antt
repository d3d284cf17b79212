-- Texts, by their bytes, and how they are cut and escaped.
use Rattle.std.specs.Prelude.{◌≡◌, ℕ, ◌+◌, ◌-◌, ◌*◌, ◌/◌, ◌%◌, List, [], ◌∷◌, ◌++◌, length, flat_map, Bool, true, false, ◌&&◌, ◌||◌, not, ◌==◌, nat_eq, nat_lt, nat_le, if◌then◌else◌, Option, Some, None, unwrap_or, codes}
use Rattle.std.specs.List.{list_all, starts_with}

-- The bytes of a text.
abbrev pub Text : Type 0
Text = List ℕ

-- ---- escaping
-- What stands for a byte that can't stand for itself: an entity for each of the five that mean something in HTML, and U+FFFD.
abbrev pub entity : ℕ → Option Text
entity b =
    if b == 38 then Some (codes "&amp;")
    else (if b == 60 then Some (codes "&lt;")
    else (if b == 62 then Some (codes "&gt;")
    else (if b == 34 then Some (codes "&quot;")
    else (if b == 39 then Some (codes "&#39;")
    else (if nat_lt b 32 || b == 127 then Some (239 ∷ 191 ∷ 189 ∷ []) else None)))))

-- What stands for a byte of a text.
abbrev pub escape : ℕ → Text
escape b = unwrap_or (entity b) (b ∷ [])

-- A TEXT IN ELEMENTS, and in attributes between double quotes.
abbrev pub escaped : Text → Text
escaped t = flat_map escape t

-- ---- links
-- A byte that stands for itself in a link: a letter, a digit, or one of - . _ ~
abbrev pub is_plain : ℕ → Bool
is_plain b =
    (nat_le 65 b && nat_le b 90) || (nat_le 97 b && nat_le b 122) || (nat_le 48 b && nat_le b 57) || b == 45 || b == 46 || b == 95 || b == 126

-- A hexadecimal digit.
abbrev pub hex_digit : ℕ → ℕ
hex_digit n = if nat_lt n 10 then 48 + n else 55 + n

-- A byte by its number.
abbrev pub percent : ℕ → Text
percent b = 37 ∷ hex_digit (b / 16 % 16) ∷ hex_digit (b % 16) ∷ []

-- What stands for a byte in a piece of a link.
abbrev pub link_byte : ℕ → Text
link_byte b = if is_plain b then b ∷ [] else percent b

-- What stands for a byte in a link of several pieces, in which / stays.
abbrev pub way_byte : ℕ → Text
way_byte b = if b == 47 then b ∷ [] else link_byte b

-- A text in a link, as one piece.
abbrev pub link : Text → Text
link t = flat_map link_byte t

-- A directory without the slashes at its end.
abbrev pub trimmed : Text → Text
trimmed [] = []
trimmed (b ∷ bs) = if b == 47 && length (trimmed bs) == 0 then [] else b ∷ trimmed bs

-- A link that begins so, and goes on with a slash, may begin with two, and so lead to another server.
abbrev pub leads_away : Text → Bool
leads_away t = length t == 0 || starts_with nat_eq t (codes "//")

-- What stands before a directory in a link, so that the link begins with no two slashes: /. where it could.
abbrev pub way_start : Text → Text
way_start t = if leads_away t then codes "/." else []

-- A DIRECTORY IN A LINK, which goes on with a slash.
abbrev pub way : Text → Text
way t = way_start (trimmed t) ++ flat_map way_byte (trimmed t)

-- A byte that a link may have: one that stands for itself, / or %. So a link has no scheme, since that ends with a colon.
abbrev pub is_link_byte : ℕ → Bool
is_link_byte b = is_plain b || b == 47 || b == 37

-- A LINK STAYS AT ITS PLACE: it doesn't begin with two slashes, behind which a server's name stands, and has only such bytes.
abbrev pub Stays : Text → Type 0
Stays t = (starts_with nat_eq t (codes "//") ≡ false) × (list_all is_link_byte t ≡ true)

-- ---- cutting
-- A byte that goes on with a letter.
abbrev pub is_later : ℕ → Bool
is_later b = nat_le 128 b && nat_lt b 192

-- How many units wide the letter is that begins with this byte: one below U+0300, else two.
abbrev pub unit : ℕ → ℕ
unit b = if is_later b then 0 else (if nat_lt b 204 then 1 else 2)

-- How many units wide a text is.
abbrev pub units : Text → ℕ
units [] = 0
units (b ∷ bs) = unit b + units bs

-- The beginning of a text, in so many units.
abbrev pub front : ℕ → Text → Text
front n [] = []
front n (b ∷ bs) = if nat_le (unit b) n then b ∷ front (n - unit b) bs else []

-- The end of a text, in so many units: from the first letter on from which it isn't wider.
abbrev pub back : ℕ → Text → Text
back n [] = []
back n (b ∷ bs) = if nat_le (units (b ∷ bs)) n && not (is_later b) then b ∷ bs else back n bs

-- How many units of a cut text stand before the ellipsis.
abbrev pub front_units : ℕ → ℕ
front_units most = (most - 1) * 3 / 5

-- A TEXT IN SO MANY UNITS: the whole, or its beginning and its end with an ellipsis between them.
abbrev pub cut : ℕ → Text → Text
cut most t =
    if nat_le (units t) most then t
    else (front (front_units most) t ++ (226 ∷ 128 ∷ 166 ∷ back (most - 1 - front_units most) t))

-- A text is of ASCII alone.
abbrev pub is_ascii : Text → Bool
is_ascii t = list_all (λ b. nat_lt b 128) t
