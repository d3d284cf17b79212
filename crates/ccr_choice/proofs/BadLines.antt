-- The first bad line of a text, as it is seen from outside.
use Rattle.std.proofs.Common.{◌≡◌, ℕ, zero, suc, ◌+◌, ◌-◌, ◌<◌, ◌≤◌, ◌⊎◌, inl, inr, Bool, false, cond, ◌==◌, List, [], ◌∷◌, ◌++◌, length, All, Result, Err, refl, sym, ap, ◌∙◌, subst, arith, append_assoc, length-append}
use Rattle.std.proofs.lemmas.Bool.{cases_Bool, cases_lt, cond-true, cond-false, eqb-true}
use Rattle.std.proofs.lemmas.List.{append-nil}
use Rattle.std.proofs.lemmas.List.Elements.{All-cons, All-nil, All-head, All-tail}
use Rattle.std.proofs.lemmas.List.Splits.{slice_split_at, slice_split_none}
use Rattle.ccr_choice.specs.declared.word.Word.{Word}
use Rattle.ccr_choice.specs.Text.{words_of, lines_of, unended, first_lines, ended_lines}
use Rattle.ccr_choice.specs.Reading.{IsFirstBad}
use Rattle.ccr_choice.proofs.Cuts.{lines_step, lines_none, lines_unended}
use Rattle.ccr_choice.proofs.Forward.{Reader, Reach, took, halted, wants, broke, IsForward, within_err}

-- ---- cutting a text behind its lines
abbrev IsClear : List ℕ → Type 0
IsClear x = All (λ b. (b == 10) ≡ false) x

abbrev one_if : Bool → ℕ
one_if b = cond b 1 0

-- a text whose first line has its line feed
record Ended (bs : List ℕ) : Type 0 where
  x : List ℕ
  ys : List ℕ
  is : bs ≡ x ++ 10 ∷ ys
  clear : IsClear x

ended : (bs : List ℕ) → 1 ≤ ended_lines bs → Ended bs
ended [] some = absurd (omega (arith, some))
ended (b ∷ bs) some =
    elim (cases_Bool (b == 10)) [
      | inl e ↦ record { x = []; ys = bs; is = ap (λ c. c ∷ bs) (eqb-true b 10 e); clear = All-nil (λ c. (c == 10) ≡ false) }
      | inr e ↦ (let none : one_if (b == 10) ≡ 0 = cond-false (b == 10) 1 0 e in
          let r = ended bs (omega (arith, some, none)) in
          record { x = b ∷ r.x; ys = r.ys; is = ap (λ t. b ∷ t) r.is; clear = All-cons (λ c. (c == 10) ≡ false) b r.x e r.clear })
    ]

line_split : (x zs : List ℕ) → IsClear x → lines_of (x ++ 10 ∷ zs) ≡ words_of x ∷ lines_of zs
line_split x zs clear = lines_step (x ++ 10 ∷ zs) x zs (slice_split_at (λ b. b == 10) x 10 zs clear refl)

first_cut : (n : ℕ) (x zs : List ℕ) → IsClear x → first_lines (suc n) (x ++ 10 ∷ zs) ≡ x ++ 10 ∷ first_lines n zs
first_cut n [] zs clear = refl
first_cut n (b ∷ x) zs clear =
    ap (λ t. b ∷ t) (cond-false (b == 10) (first_lines n (x ++ 10 ∷ zs)) (first_lines (suc n) (x ++ 10 ∷ zs)) (All-head (λ c. (c == 10) ≡ false) b x clear)
    ∙ first_cut n x zs (All-tail (λ c. (c == 10) ≡ false) b x clear))

ended_cut : (x zs : List ℕ) → IsClear x → ended_lines (x ++ 10 ∷ zs) ≡ suc (ended_lines zs)
ended_cut [] zs clear = omega arith
ended_cut (b ∷ x) zs clear =
    let none : one_if (b == 10) ≡ 0 = cond-false (b == 10) 1 0 (All-head (λ c. (c == 10) ≡ false) b x clear) in
    let rest = ended_cut x zs (All-tail (λ c. (c == 10) ≡ false) b x clear) in
    omega (arith, none, rest)

-- line m, the first being line 0, has its line feed
record CutAt (m : ℕ) (bs : List ℕ) : Type 0 where
  front : List (List Word)
  l : List Word
  rest : List ℕ
  counted : length front ≡ m
  before : lines_of (first_lines m bs) ≡ front
  whole : first_lines (suc m) bs ++ rest ≡ bs
  each : (more : List ℕ) → lines_of (first_lines (suc m) bs ++ more) ≡ front ++ l ∷ lines_of more

cut_first : (x ys : List ℕ) → IsClear x → CutAt 0 (x ++ 10 ∷ ys)
cut_first x ys clear = record {
  front = [];
  l = words_of x;
  rest = ys;
  counted = refl;
  before = lines_none [] refl;
  whole = ap (λ t. t ++ ys) (first_cut 0 x ys clear) ∙ append_assoc x (10 ∷ []) ys;
  each = λ more. ap (λ t. lines_of (t ++ more)) (first_cut 0 x ys clear) ∙ ap lines_of (append_assoc x (10 ∷ []) more) ∙ line_split x more clear;
}

cut_later : (m : ℕ) (x ys : List ℕ) → IsClear x → CutAt m ys → CutAt (suc m) (x ++ 10 ∷ ys)
cut_later m x ys clear r = record {
  front = words_of x ∷ r.front;
  l = r.l;
  rest = r.rest;
  counted = ap suc r.counted;
  before = ap lines_of (first_cut m x ys clear) ∙ line_split x (first_lines m ys) clear ∙ ap (λ t. words_of x ∷ t) r.before;
  whole = ap (λ t. t ++ r.rest) (first_cut (suc m) x ys clear) ∙ append_assoc x (10 ∷ first_lines (suc m) ys) r.rest ∙ ap (λ t. x ++ 10 ∷ t) r.whole;
  each = λ more. ap (λ t. lines_of (t ++ more)) (first_cut (suc m) x ys clear) ∙ ap lines_of (append_assoc x (10 ∷ first_lines (suc m) ys) more)
      ∙ line_split x (first_lines (suc m) ys ++ more) clear ∙ ap (λ t. words_of x ∷ t) (r.each more);
}

cut_line : (m : ℕ) (bs : List ℕ) → suc m ≤ ended_lines bs → CutAt m bs
cut_line zero bs some = let e = ended bs (omega (arith, some)) in let P : List ℕ → Type 0 = CutAt 0 in subst P (sym e.is) (cut_first e.x e.ys e.clear)
cut_line (suc m) bs some =
    let e = ended bs (omega (arith, some)) in
    let many : ended_lines bs ≡ suc (ended_lines e.ys) = ap ended_lines e.is ∙ ended_cut e.x e.ys e.clear in
    let P : List ℕ → Type 0 = CutAt (suc m) in
    subst P (sym e.is) (cut_later m e.x e.ys e.clear (cut_line m e.ys (omega (arith, some, many))))

-- the lines that have their line feeds, and what is behind them
pub record TailAt (m : ℕ) (bs : List ℕ) : Type 0 where
  pub front : List (List Word)
  pub counted : length front ≡ m
  pub before : lines_of (first_lines m bs) ≡ front
  pub each : (more : List ℕ) → lines_of (first_lines m bs ++ more) ≡ front ++ lines_of more
  pub tail : (lines_of bs ≡ front) ⊎ (lines_of bs ≡ front ++ unended ∷ [])

all_clear : (bs : List ℕ) → ended_lines bs ≡ 0 → IsClear bs
all_clear [] none = All-nil (λ c. (c == 10) ≡ false)
all_clear (b ∷ bs) none =
    elim (cases_Bool (b == 10)) [
      | inl e ↦ (let one : one_if (b == 10) ≡ 1 = cond-true (b == 10) 1 0 e in absurd (omega (arith, none, one)))
      | inr e ↦ All-cons (λ c. (c == 10) ≡ false) b bs e (all_clear bs (omega (arith, none)))
    ]

no_end : (bs : List ℕ) → ended_lines bs ≡ 0 → (lines_of bs ≡ []) ⊎ (lines_of bs ≡ unended ∷ [])
no_end [] none = inl (lines_none [] refl)
no_end (b ∷ bs) none = inr (lines_unended (b ∷ bs) (omega arith) (slice_split_none (λ c. c == 10) (b ∷ bs) (all_clear (b ∷ bs) none)))

tail_later : (m : ℕ) (x ys : List ℕ) → IsClear x → TailAt m ys → TailAt (suc m) (x ++ 10 ∷ ys)
tail_later m x ys clear r = record {
  front = words_of x ∷ r.front;
  counted = ap suc r.counted;
  before = ap lines_of (first_cut m x ys clear) ∙ line_split x (first_lines m ys) clear ∙ ap (λ t. words_of x ∷ t) r.before;
  each = λ more. ap (λ t. lines_of (t ++ more)) (first_cut m x ys clear) ∙ ap lines_of (append_assoc x (10 ∷ first_lines m ys) more)
      ∙ line_split x (first_lines m ys ++ more) clear ∙ ap (λ t. words_of x ∷ t) (r.each more);
  tail = elim r.tail [
    | inl h ↦ inl (line_split x ys clear ∙ ap (λ t. words_of x ∷ t) h)
    | inr h ↦ inr (line_split x ys clear ∙ ap (λ t. words_of x ∷ t) h)
  ];
}

pub tail_lines : (m : ℕ) (bs : List ℕ) → m ≡ ended_lines bs → TailAt m bs
tail_lines zero bs e = record { front = []; counted = refl; before = lines_none [] refl; each = λ more. refl; tail = no_end bs (sym e) }
tail_lines (suc m) bs e =
    let f = ended bs (omega (arith, e)) in
    let many : ended_lines bs ≡ suc (ended_lines f.ys) = ap ended_lines f.is ∙ ended_cut f.x f.ys f.clear in
    let P : List ℕ → Type 0 = TailAt (suc m) in
    subst P (sym f.is) (tail_later m f.x f.ys f.clear (tail_lines m f.ys (omega (arith, e, many))))

first_all : (m : ℕ) (bs : List ℕ) → ended_lines bs < m → first_lines m bs ≡ bs
first_all zero bs few = absurd (omega (arith, few))
first_all (suc m) [] few = refl
first_all (suc m) (b ∷ bs) few =
    elim (cases_Bool (b == 10)) [
      | inl e ↦ (let one : one_if (b == 10) ≡ 1 = cond-true (b == 10) 1 0 e in
          ap (λ t. b ∷ t) (cond-true (b == 10) (first_lines m bs) (first_lines (suc m) bs) e ∙ first_all m bs (omega (arith, few, one))))
      | inr e ↦ (let none : one_if (b == 10) ≡ 0 = cond-false (b == 10) 1 0 e in
          ap (λ t. b ∷ t) (cond-false (b == 10) (first_lines m bs) (first_lines (suc m) bs) e ∙ first_all (suc m) bs (omega (arith, few, none))))
    ]

-- ---- the law, of any reader that goes forward
module _ {A E V R : Type 0} (miss : ℕ → E) (same : (j k : ℕ) → miss j ≡ miss k → j ≡ k) (bad : ℕ → R) (told : ℕ → Result (A × List (List Word)) E → Result V R)
    (says : (n k : ℕ) → told n (Err (miss k)) ≡ Err (bad (n + 1 - k)))
    (only : (n m : ℕ) (r : Result (A × List (List Word)) E) → told n r ≡ Err (bad m) → (k : ℕ) × (r ≡ Err (miss k)) × (n + 1 - k ≡ m))
    (at : Reader A E) (forward : IsForward miss at) where
  abbrev on : List (List Word) → Result V R
  on ls = told (length ls) (at ls)

  abbrev pub read_by : List ℕ → Result V R
  read_by bs = on (lines_of bs)

  on_missing : (ls : List (List Word)) (k n : ℕ) → at ls ≡ Err (miss k) → length ls + 1 - k ≡ n → on ls ≡ Err (bad n)
  on_missing ls k n e counted = ap (told (length ls)) e ∙ says (length ls) k ∙ ap (λ m. Err (bad m)) counted

  -- the line behind the front is the bad one
  module _ (front : List (List Word)) (l : List Word) where
    longer : (xs : List (List Word)) → front ++ l ∷ xs ≡ (front ++ l ∷ []) ++ xs
    longer xs = sym (append_assoc front (l ∷ []) xs)

    breaks : (after : List (List Word)) (k : ℕ) → at (front ++ l ∷ after) ≡ Err (miss k) → k ≡ suc (length after) → Reach miss at (front ++ l ∷ [])
        → (rest : List (List Word)) → at (front ++ l ∷ rest) ≡ Err (miss (suc (length rest)))
    breaks after k e now (took x q le h) = absurd (cc (h after, ap at (longer after), e))
    breaks after k e now (halted d other_than h) = absurd (other_than k (cc (h after, ap at (longer after), e)))
    breaks after k e now (wants w) = absurd (let few = w.behind after k (ap at (sym (longer after)) ∙ e) in omega (arith, few, now))
    breaks after k e now (broke j less h) =
        let two : miss (suc (length after + j)) ≡ miss k = cc (h after, ap at (longer after), e) in
        let none : j ≡ 0 = (let one = same (suc (length after + j)) k two in omega (arith, one, now)) in
        λ rest. ap at (longer rest) ∙ h rest ∙ ap (λ m. Err (miss (suc m))) (let sum : length rest + j ≡ length rest = omega (arith, none) in sum)

    stops : ((rest : List (List Word)) → at (front ++ l ∷ rest) ≡ Err (miss (suc (length rest)))) → Reach miss at front → at front ≡ Err (miss 0)
    stops breaking (took x q le h) = absurd (cc (h (l ∷ []), breaking []))
    stops breaking (halted d other_than h) = absurd (other_than 1 (cc (h (l ∷ []), breaking [])))
    stops breaking (wants w) = w.here
    stops breaking (broke j less h) =
        let two : miss (suc (length (l ∷ []) + j)) ≡ miss 1 = cc (h (l ∷ []), breaking []) in
        absurd (let one = same (suc (length (l ∷ []) + j)) 1 two in omega (arith, one))

    bad_breaks : (after : List (List Word)) → on (front ++ l ∷ after) ≡ Err (bad (length front + 1)) → (rest : List (List Word)) → at (front ++ l ∷ rest) ≡ Err (miss (suc (length rest)))
    bad_breaks after h =
        let o = only (length (front ++ l ∷ after)) (length front + 1) (at (front ++ l ∷ after)) h in
        let many = length-append front (l ∷ after) in
        let number = o.2 in
        breaks after o.0 o.1 (omega (arith, number, many)) (forward (front ++ l ∷ []))

    bad_before : (after : List (List Word)) → on (front ++ l ∷ after) ≡ Err (bad (length front + 1)) → on front ≡ Err (bad (length front + 1))
    bad_before after h = on_missing front 0 (length front + 1) (stops (bad_breaks after h) (forward front)) (omega arith)

    bad_whatever : (after rest : List (List Word)) → on (front ++ l ∷ after) ≡ Err (bad (length front + 1)) → on (front ++ l ∷ rest) ≡ Err (bad (length front + 1))
    bad_whatever after rest h =
        let many = length-append front (l ∷ rest) in
        on_missing (front ++ l ∷ rest) (suc (length rest)) (length front + 1) (bad_breaks after h rest) (omega (arith, many))

  -- what is wanted isn't a line without its line feed
  wants_open : (front : List (List Word)) → at front ≡ Err (miss 0) → Reach miss at front → at (front ++ unended ∷ []) ≡ Err (miss 1)
  wants_open front e (took x q le h) = absurd (cc (h [], ap at (append-nil front), e))
  wants_open front e (halted d other_than h) = absurd (other_than 0 (cc (h [], ap at (append-nil front), e)))
  wants_open front e (wants w) = w.open_line []
  wants_open front e (broke j less h) =
      let two : miss (suc (0 + j)) ≡ miss 0 = cc (h [], ap at (append-nil front), e) in
      absurd (let one = same (suc (0 + j)) 0 two in omega (arith, one))

  bad_open : (front : List (List Word)) → on front ≡ Err (bad (length front + 1)) → on (front ++ unended ∷ []) ≡ Err (bad (length front + 1))
  bad_open front h =
      let o = only (length front) (length front + 1) (at front) h in
      let number = o.2 in
      let none : o.0 ≡ 0 = omega (arith, number) in
      let many = length-append front (unended ∷ []) in
      on_missing (front ++ unended ∷ []) 1 (length front + 1) (wants_open front (o.1 ∙ ap (λ k. Err (miss k)) none) (forward front)) (omega (arith, many))

  -- the number of a bad line isn't 0
  numbered : (ls : List (List Word)) (n : ℕ) → on ls ≡ Err (bad n) → 0 < n
  numbered ls n h =
      let o = only (length ls) n (at ls) h in
      let few = within_err miss at (forward []) ls o.0 o.1 in
      let number = o.2 in
      omega (arith, few, number)

  -- both ways, where line m + 1 has its line feed
  module _ (bs : List ℕ) (m : ℕ) (c : CutAt m bs) where
    line_is : lines_of bs ≡ c.front ++ c.l ∷ lines_of c.rest
    line_is = ap lines_of (sym c.whole) ∙ c.each c.rest

    cut_bad : read_by bs ≡ Err (bad (suc m)) → on (c.front ++ c.l ∷ lines_of c.rest) ≡ Err (bad (length c.front + 1))
    cut_bad h = ap on (sym line_is) ∙ h ∙ ap (λ n. Err (bad n)) (let e = c.counted in let f : suc m ≡ length c.front + 1 = omega (arith, e) in f)

    cut_there : read_by bs ≡ Err (bad (suc m)) → IsFirstBad read_by bad bs (suc m)
    cut_there h =
        let now : length c.front + 1 ≡ suc m = (let e = c.counted in omega (arith, e)) in
        let earlier : suc m - 1 ≡ m = omega arith in
        record {
          before = ap (λ k. read_by (first_lines k bs)) earlier ∙ ap on c.before ∙ bad_before c.front c.l (lines_of c.rest) (cut_bad h) ∙ ap (λ n. Err (bad n)) now;
          whatever = λ le more. ap on (c.each more) ∙ bad_whatever c.front c.l (lines_of c.rest) (lines_of more) (cut_bad h) ∙ ap (λ n. Err (bad n)) now;
        }

  -- and where it hasn't
  module _ (bs : List ℕ) (m : ℕ) (t : TailAt m bs) where
    now : length t.front + 1 ≡ suc m
    now = let e = t.counted in omega (arith, e)

    tail_there : read_by bs ≡ Err (bad (suc m)) → read_by (first_lines m bs) ≡ Err (bad (suc m))
    tail_there h =
        elim t.tail [
          | inl e ↦ ap on (t.before ∙ sym e) ∙ h
          | inr e ↦ ap on t.before ∙ bad_before t.front unended [] (ap on (sym e) ∙ h ∙ ap (λ n. Err (bad n)) (sym now)) ∙ ap (λ n. Err (bad n)) now
        ]

    tail_back : read_by (first_lines m bs) ≡ Err (bad (suc m)) → read_by bs ≡ Err (bad (suc m))
    tail_back h =
        elim t.tail [
          | inl e ↦ ap on (e ∙ sym t.before) ∙ h
          | inr e ↦ ap on e ∙ bad_open t.front (ap on (sym t.before) ∙ h ∙ ap (λ n. Err (bad n)) (sym now)) ∙ ap (λ n. Err (bad n)) now
        ]

  before_there : (bs : List ℕ) (m : ℕ) → ended_lines bs < suc m → read_by bs ≡ Err (bad (suc m)) → read_by (first_lines m bs) ≡ Err (bad (suc m))
  before_there bs m few h =
      elim (cases_lt (ended_lines bs) m) [
        | inl less ↦ ap read_by (first_all m bs less) ∙ h
        | inr reached ↦ tail_there bs m (tail_lines m bs (omega (arith, few, reached))) h
      ]

  before_back : (bs : List ℕ) (m : ℕ) → ended_lines bs < suc m → read_by (first_lines m bs) ≡ Err (bad (suc m)) → read_by bs ≡ Err (bad (suc m))
  before_back bs m few h =
      elim (cases_lt (ended_lines bs) m) [
        | inl less ↦ ap read_by (sym (first_all m bs less)) ∙ h
        | inr reached ↦ tail_back bs m (tail_lines m bs (omega (arith, few, reached))) h
      ]

  pub bad_there : (bs : List ℕ) (n : ℕ) → read_by bs ≡ Err (bad n) → IsFirstBad read_by bad bs n
  bad_there bs zero h = absurd (let some = numbered (lines_of bs) 0 h in omega (arith, some))
  bad_there bs (suc m) h =
      elim (cases_lt m (ended_lines bs)) [
        | inl less ↦ cut_there bs m (cut_line m bs (omega (arith, less))) h
        | inr few ↦ (let earlier : suc m - 1 ≡ m = omega arith in record {
          before = ap (λ k. read_by (first_lines k bs)) earlier ∙ before_there bs m (omega (arith, few)) h;
          whatever = λ le more. absurd (omega (arith, le, few));
        })
      ]

  pub bad_back : (bs : List ℕ) (n : ℕ) → IsFirstBad read_by bad bs n → read_by bs ≡ Err (bad n)
  bad_back bs zero h = absurd (let some = numbered (lines_of []) 0 h.before in omega (arith, some))
  bad_back bs (suc m) h =
      elim (cases_lt m (ended_lines bs)) [
        | inl less ↦ (let c = cut_line m bs (omega (arith, less)) in ap read_by (sym c.whole) ∙ h.whatever (omega (arith, less)) c.rest)
        | inr few ↦ (let earlier : m ≡ suc m - 1 = omega arith in
            before_back bs m (omega (arith, few)) (ap (λ k. read_by (first_lines k bs)) earlier ∙ h.before))
      ]

-- a text is its first lines and a rest
pub first_rest : (n : ℕ) (bs : List ℕ) → n ≤ ended_lines bs → (rest : List ℕ) × (first_lines n bs ++ rest ≡ bs)
first_rest zero bs le = (bs, refl)
first_rest (suc m) bs le = let c = cut_line m bs le in (c.rest, c.whole)
