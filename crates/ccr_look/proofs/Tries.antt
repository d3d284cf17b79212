-- Tries to read a database: their parts, one after the other.
use Rattle.std.proofs.Common.{◌≡◌, ◌<◌, ◌≤◌, ◌+◌, ◌∙◌, ℕ, suc, List, [], ◌∷◌, ◌++◌, Option, None, Some, Result, Ok, Err, refl, sym, ap, subst, inl, inr, arith, append-nil, append_assoc, string_bytes}
use Rattle.ccr_look.specs.declared.copied.Copied.{Copied}
use Rattle.ccr_look.specs.declared.copied.Names.{Names}
use Rattle.ccr_look.specs.declared.copied.TheConstants.{HEADER, ALL, MOST_TRIES}
use Rattle.ccr_look.specs.declared.fault.CopyFault.{CopyFault}
use Rattle.ccr_look.specs.declared.fault.CopyFault.TheVariants as why
use Rattle.ccr_look.specs.Calls.{CallData}
use Rattle.ccr_look.specs.Parts.{Adds, IsRead, FailsToRead}
use Rattle.ccr_look.specs.Reads.{AreRead, AreVain, CameOf, Copies, Gives, IsCutAt, IsNotThere, IsReadInOrder, IsThere, Place, parts_of, place_named, place_of}

-- these calls and then those
join : (P Q R : List CallData → Type 0) (a b c : List CallData) → ((x y : List CallData) → P x → Q y → R (x ++ y)) → Adds a b P → Adds b c Q
    → Adds a c R
join P Q R a b c both one two =
    (one.0 ++ two.0, two.1 ∙ (ap (λ (l : List CallData). l ++ two.0) one.1 ∙ append_assoc a one.0 two.0), both one.0 two.0 one.2 two.2)

-- ---- the parts

pub none_read : (a : List CallData) → Adds a a (AreRead [] [])
none_read a = ([], sym (append-nil a), refl)

pub one_read : (a b c : List CallData) (part : List ℕ × ℕ) (parts : List (List ℕ × ℕ)) (bytes : List ℕ) (texts : List (List ℕ))
    → Adds a b (IsRead part.0 part.1 bytes) → Adds b c (AreRead parts texts) → Adds a c (AreRead (part ∷ parts) (bytes ∷ texts))
one_read a b c part parts bytes texts =
    join (IsRead part.0 part.1 bytes) (AreRead parts texts) (AreRead (part ∷ parts) (bytes ∷ texts)) a b c (λ x y one rest. (x, y, refl, one, rest))

pub cut_here : (a b : List CallData) (part : List ℕ × ℕ) (parts : List (List ℕ × ℕ)) (fault : CopyFault)
    → Adds a b (FailsToRead part.0 part.1 fault) → Adds a b (IsCutAt (part ∷ parts) fault)
cut_here a b part parts fault it = (it.0, it.1, inl it.2)

pub cut_later : (a b c : List CallData) (part : List ℕ × ℕ) (parts : List (List ℕ × ℕ)) (bytes : List ℕ) (fault : CopyFault)
    → Adds a b (IsRead part.0 part.1 bytes) → Adds b c (IsCutAt parts fault) → Adds a c (IsCutAt (part ∷ parts) fault)
cut_later a b c part parts bytes fault =
    join (IsRead part.0 part.1 bytes) (IsCutAt parts fault) (IsCutAt (part ∷ parts) fault) a b c (λ x y one rest. inr (x, y, bytes, refl, one, rest))

-- the path that was read is that of the names
read_at : (a b : List CallData) (p q : List ℕ) (most : ℕ) (bytes : List ℕ) → p ≡ q → Adds a b (IsRead p most bytes) → Adds a b (IsRead q most bytes)
read_at a b p q most bytes same = subst (λ (path : List ℕ). Adds a b (IsRead path most bytes)) same

fails_at : (a b : List CallData) (p q : List ℕ) (most : ℕ) (fault : CopyFault) → p ≡ q → Adds a b (FailsToRead p most fault)
    → Adds a b (FailsToRead q most fault)
fails_at a b p q most fault same = subst (λ (path : List ℕ). Adds a b (FailsToRead path most fault)) same

abbrev end_part : Names → List (List ℕ × ℕ)
end_part n = (string_bytes n.log, HEADER) ∷ []

abbrev log_parts : Names → List (List ℕ × ℕ)
log_parts n = (string_bytes n.log, ALL) ∷ end_part n

abbrev db_parts : Names → List (List ℕ × ℕ)
db_parts n = (string_bytes n.db, ALL) ∷ log_parts n

module _ (n : Names) (a b c d e : List CallData) (p q r s : List ℕ) (v w x y : List ℕ) (fault : CopyFault) where
  pub cut_first : p ≡ string_bytes n.log → Adds a b (FailsToRead p HEADER fault) → Adds a b (IsCutAt (parts_of (place_named n)) fault)
  cut_first same it = cut_here a b (string_bytes n.log, HEADER) (db_parts n) fault (fails_at a b p (string_bytes n.log) HEADER fault same it)

  pub cut_second : p ≡ string_bytes n.log → q ≡ string_bytes n.db → Adds a b (IsRead p HEADER v) → Adds b c (FailsToRead q ALL fault)
      → Adds a c (IsCutAt (parts_of (place_named n)) fault)
  cut_second same₁ same₂ one it =
      cut_later a b c (string_bytes n.log, HEADER) (db_parts n) v fault (read_at a b p (string_bytes n.log) HEADER v same₁ one)
      (cut_here b c (string_bytes n.db, ALL) (log_parts n) fault (fails_at b c q (string_bytes n.db) ALL fault same₂ it))

  pub cut_third : p ≡ string_bytes n.log → q ≡ string_bytes n.db → r ≡ string_bytes n.log → Adds a b (IsRead p HEADER v)
      → Adds b c (IsRead q ALL w) → Adds c d (FailsToRead r ALL fault) → Adds a d (IsCutAt (parts_of (place_named n)) fault)
  cut_third same₁ same₂ same₃ one two it =
      cut_later a b d (string_bytes n.log, HEADER) (db_parts n) v fault (read_at a b p (string_bytes n.log) HEADER v same₁ one)
      (cut_later b c d (string_bytes n.db, ALL) (log_parts n) w fault (read_at b c q (string_bytes n.db) ALL w same₂ two)
      (cut_here c d (string_bytes n.log, ALL) (end_part n) fault (fails_at c d r (string_bytes n.log) ALL fault same₃ it)))

  pub cut_fourth : p ≡ string_bytes n.log → q ≡ string_bytes n.db → r ≡ string_bytes n.log → s ≡ string_bytes n.log → Adds a b (IsRead p HEADER v)
      → Adds b c (IsRead q ALL w) → Adds c d (IsRead r ALL x) → Adds d e (FailsToRead s HEADER fault)
      → Adds a e (IsCutAt (parts_of (place_named n)) fault)
  cut_fourth same₁ same₂ same₃ same₄ one two three it =
      cut_later a b e (string_bytes n.log, HEADER) (db_parts n) v fault (read_at a b p (string_bytes n.log) HEADER v same₁ one)
      (cut_later b c e (string_bytes n.db, ALL) (log_parts n) w fault (read_at b c q (string_bytes n.db) ALL w same₂ two)
      (cut_later c d e (string_bytes n.log, ALL) (end_part n) x fault (read_at c d r (string_bytes n.log) ALL x same₃ three)
      (cut_here d e (string_bytes n.log, HEADER) [] fault (fails_at d e s (string_bytes n.log) HEADER fault same₄ it))))

  pub four_read : p ≡ string_bytes n.log → q ≡ string_bytes n.db → r ≡ string_bytes n.log → s ≡ string_bytes n.log → Adds a b (IsRead p HEADER v)
      → Adds b c (IsRead q ALL w) → Adds c d (IsRead r ALL x) → Adds d e (IsRead s HEADER y)
      → Adds a e (AreRead (parts_of (place_named n)) (v ∷ w ∷ x ∷ y ∷ []))
  four_read same₁ same₂ same₃ same₄ one two three four =
      one_read a b e (string_bytes n.log, HEADER) (db_parts n) v (w ∷ x ∷ y ∷ []) (read_at a b p (string_bytes n.log) HEADER v same₁ one)
      (one_read b c e (string_bytes n.db, ALL) (log_parts n) w (x ∷ y ∷ []) (read_at b c q (string_bytes n.db) ALL w same₂ two)
      (one_read c d e (string_bytes n.log, ALL) (end_part n) x (y ∷ []) (read_at c d r (string_bytes n.log) ALL x same₃ three)
      (one_read d e e (string_bytes n.log, HEADER) [] y [] (read_at d e s (string_bytes n.log) HEADER y same₄ four) (none_read e))))

-- ---- a try

module _ (p : Place) (a b c : List CallData) where
  pub came_done : (before db log after : List ℕ) (result : Result (Option Copied) CopyFault) → Adds a b (IsThere p)
      → Adds b c (AreRead (parts_of p) (before ∷ db ∷ log ∷ after ∷ [])) → Gives before db log after result → Adds a c (CameOf p result)
  came_done before db log after (Ok copied) there read gives =
      join (IsThere p) (AreRead (parts_of p) (before ∷ db ∷ log ∷ after ∷ [])) (CameOf p (Ok copied)) a b c
      (λ x y t r. (before, db, log, after, (x, y, refl, t, r), gives)) there read
  came_done before db log after (Err fault) there read gives =
      join (IsThere p) (AreRead (parts_of p) (before ∷ db ∷ log ∷ after ∷ [])) (CameOf p (Err fault)) a b c
      (λ x y t r. inl (before, db, log, after, (x, y, refl, t, r), gives)) there read

  pub came_missing : (fault : CopyFault) → Adds a b (IsNotThere p fault) → Adds a b (CameOf p (Err fault))
  came_missing fault it = (it.0, it.1, inr (inl it.2))

  pub came_cut : (fault : CopyFault) → Adds a b (IsThere p) → Adds b c (IsCutAt (parts_of p) fault) → Adds a c (CameOf p (Err fault))
  came_cut fault =
      join (IsThere p) (IsCutAt (parts_of p) fault) (CameOf p (Err fault)) a b c (λ x y t r. inr (inr (x, y, refl, t, r)))

-- ---- tries, one after the other

pub vain_none : (p : Place) (a : List CallData) → Adds a a (AreVain p 0)
vain_none p a = ([], sym (append-nil a), refl)

module _ (p : Place) (a b c : List CallData) (n : ℕ) (vain : Adds a b (AreVain p n)) where
  pub vain_more : Adds b c (CameOf p (Ok None)) → Adds a c (AreVain p (n + 1))
  vain_more last =
      let next : suc n ≡ n + 1 = omega arith in
      subst (λ (k : ℕ). Adds a c (AreVain p k)) next
      (join (AreVain p n) (CameOf p (Ok None)) (AreVain p (suc n)) a b c (λ x y v l. (x, y, refl, v, l)) vain last)

  pub copied_at : (copied : Copied) → n < MOST_TRIES → Adds b c (CameOf p (Ok (Some copied))) → Adds a c (Copies p (Ok copied))
  copied_at copied few last =
      join (AreVain p n) (CameOf p (Ok (Some copied))) (Copies p (Ok copied)) a b c (λ x y v l. (n, x, y, refl, few, v, l)) vain last

  pub failed_at : (fault : CopyFault) → n < MOST_TRIES → Adds b c (CameOf p (Err fault)) → Adds a c (Copies p (Err fault))
  failed_at fault few last =
      join (AreVain p n) (CameOf p (Err fault)) (Copies p (Err fault)) a b c (λ x y v l. inl (n, x, y, refl, few, v, l)) vain last

  pub restless : n ≤ MOST_TRIES → MOST_TRIES ≤ n → Adds a b (Copies p (Err why.Restless))
  restless few many =
      let is : n ≡ MOST_TRIES = omega (arith, few, many) in
      (vain.0, vain.1, inr (inl (subst (λ (k : ℕ). AreVain p k vain.0) is vain.2, refl)))

pub unread : (p : Place) (a : List CallData) (fault : CopyFault) → fault ≡ why.NoMemory → Adds a a (Copies p (Err fault))
unread p a fault told = ([], sym (append-nil a), inr (inr (refl, told)))

-- the names are those of the place
pub at_place : (p q : Place) (a b : List CallData) (result : Result Copied CopyFault) → p ≡ q → Adds a b (Copies p result) → Adds a b (Copies q result)
at_place p q a b result same = subst (λ (place : Place). Adds a b (Copies place result)) same

-- the last try of a reader
pub in_order : (p : Place) (b c : List CallData) (copied : Copied) → p ≡ place_of copied.path.now → copied.calls.list ≡ c
    → Adds b c (CameOf p (Ok (Some copied))) → IsReadInOrder copied
in_order p b c copied same calls last =
    (b, last.0, calls ∙ last.1, subst (λ (place : Place). CameOf place (Ok (Some copied)) last.0) same last.2)
