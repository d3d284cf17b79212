-- One part more is handed out, or one line more is told.
use Rattle.std.proofs.Common.{◌≡◌, List, [], ◌∷◌, ◌++◌, ℕ, Bool, true, false, Option, Some, None, refl, sym, ap, subst, ◌∙◌, append-nil, append_assoc, if◌then◌else◌}
use Rattle.std.specs.Io.KnownBytes.{Appends, Keeps}
use Rattle.ccr_history.specs.Text.{Text}
use Rattle.ccr_lines.specs.Calls.{IsGiven, IsAnswered}
use Rattle.ccr_lines.specs.Printed.{EntryData, shown, told, all_shown, all_told, told_lines, ChannelData, IsWhole, AreWhole, Got}

-- ---- entries
-- a part stands behind those before, and tells nothing
pub shown_more : (es : List EntryData) (bytes : List ℕ) → all_shown (es ++ shown bytes ∷ []) ≡ all_shown es ++ bytes
shown_more [] bytes = append-nil bytes
shown_more (shown b ∷ es) bytes = ap (λ xs. b ++ xs) (shown_more es bytes) ∙ sym (append_assoc b (all_shown es) bytes)
shown_more (told l ∷ es) bytes = shown_more es bytes

pub told_same : (es : List EntryData) (bytes : List ℕ) → all_told (es ++ shown bytes ∷ []) ≡ all_told es
told_same [] bytes = refl
told_same (shown b ∷ es) bytes = told_same es bytes
told_same (told l ∷ es) bytes = ap (λ ls. l ∷ ls) (told_same es bytes)

-- a line stands behind those before, and shows nothing
pub told_more : (es : List EntryData) (line : Text) → all_told (es ++ told line ∷ []) ≡ all_told es ++ line ∷ []
told_more [] line = refl
told_more (shown b ∷ es) line = told_more es line
told_more (told l ∷ es) line = ap (λ ls. l ∷ ls) (told_more es line)

pub shown_same : (es : List EntryData) (line : Text) → all_shown (es ++ told line ∷ []) ≡ all_shown es
shown_same [] line = refl
shown_same (shown b ∷ es) line = ap (λ xs. b ++ xs) (shown_same es line)
shown_same (told l ∷ es) line = shown_same es line

-- the bytes of one line more
pub lines_more : (ls : List Text) (line : Text) → told_lines (ls ++ line ∷ []) ≡ told_lines ls ++ (line ++ 10 ∷ [])
lines_more [] line = append-nil (line ++ 10 ∷ [])
lines_more (l ∷ ls) line =
    ap (λ xs. (l ++ 10 ∷ []) ++ xs) (lines_more ls line) ∙ sym (append_assoc (l ++ 10 ∷ []) (told_lines ls) (line ++ 10 ∷ []))

-- ---- writers
-- what is appended twice
appended_twice : (before mid after : Option (List ℕ)) (first second : List ℕ)
    → Appends before mid first → Appends mid after second → Appends before after (first ++ second)
appended_twice None mid after first second a b = tt
appended_twice (Some xs) (Some ys) (Some zs) first second a b =
    b ∙ (ap (λ v. v ++ second) a ∙ append_assoc xs first second)
appended_twice (Some xs) (Some ys) None first second a b = b
appended_twice (Some xs) None after first second a b = absurd a

-- what is appended, and kept then
pub appended_kept : (before mid after : Option (List ℕ)) (bytes : List ℕ)
    → Appends before mid bytes → Keeps mid after → Appends before after bytes
appended_kept None mid after bytes a k = tt
appended_kept (Some xs) (Some ys) (Some zs) bytes a k = k ∙ a
appended_kept (Some xs) (Some ys) None bytes a k = k
appended_kept (Some xs) None after bytes a k = absurd a

-- nothing is appended
pub appended_none : (before : Option (List ℕ)) → Appends before before []
appended_none None = tt
appended_none (Some xs) = sym (append-nil xs)

-- a writer that had got all gets more
whole_more : (before mid after : Option (List ℕ)) (failed now : Bool) (first second all : List ℕ)
    → IsWhole failed before mid first → (now ≡ false → (failed ≡ false) × Appends mid after second)
    → all ≡ first ++ second → IsWhole now before after all
whole_more before mid after failed now first second all w p joined = λ n.
    rw joined (appended_twice before mid after first second (w (p n).0) (p n).1)

-- ---- what is handed out
-- all that was written is shown now
pub shown_all : (es more : List EntryData) (bytes left lines : List ℕ) → more ≡ es ++ shown bytes ∷ [] → bytes ≡ lines
    → left ≡ [] → all_shown more ++ left ≡ all_shown es ++ lines
shown_all es more bytes left lines m b l =
    ap (λ xs. all_shown more ++ xs) l ∙ (append-nil (all_shown more) ∙ (ap all_shown m ∙ (shown_more es bytes
    ∙ ap (λ xs. all_shown es ++ xs) b)))

-- nothing was told
pub told_still : (es more : List EntryData) (bytes : List ℕ) → more ≡ es ++ shown bytes ∷ [] → all_told more ≡ all_told es
told_still es more bytes m = ap all_told m ∙ told_same es bytes

-- the one writer has got all that was shown, and the other all that was told, still
pub whole_shown : (before since mid after other holds : Option (List ℕ)) (failed now unsaid : Bool)
    (es more : List EntryData) (bytes given : List ℕ) → more ≡ es ++ shown bytes ∷ [] → since ≡ before → given ≡ bytes
    → AreWhole es (IsWhole failed before mid) (IsWhole unsaid other holds)
    → (now ≡ false → (failed ≡ false) × Appends mid after given)
    → AreWhole more (IsWhole now since after) (IsWhole unsaid other holds)
whole_shown before since mid after other holds failed now unsaid es more bytes given m start same w p = (
  whole_more since mid after failed now (all_shown es) given (all_shown more)
      (subst (λ b. IsWhole failed b mid (all_shown es)) (sym start) w.0) p
      (ap all_shown m ∙ (shown_more es bytes ∙ ap (λ xs. all_shown es ++ xs) (sym same))),
  subst (λ ls. IsWhole unsaid other holds (told_lines ls)) (sym (told_still es more bytes m)) w.1,
)

-- ---- what is told
-- one line more was told
pub noted_more : (es more : List EntryData) (line : Text) → more ≡ es ++ told line ∷ []
    → all_told more ≡ all_told es ++ line ∷ []
noted_more es more line m = ap all_told m ∙ told_more es line

pub noted_as : (es more : List EntryData) (line words : Text) (notes : List Text) → more ≡ es ++ told line ∷ []
    → line ≡ words → all_told es ≡ notes → all_told more ≡ notes ++ words ∷ []
noted_as es more line words notes m same were =
    noted_more es more line m ∙ (ap (λ ls. ls ++ line ∷ []) were ∙ ap (λ l. notes ++ l ∷ []) same)

-- nothing was shown
pub shown_still : (es more : List EntryData) (line : Text) → more ≡ es ++ told line ∷ [] → all_shown more ≡ all_shown es
shown_still es more line m = ap all_shown m ∙ shown_same es line

-- the one writer has got all that was shown, still, and the other all that was told
pub whole_told : (before since mid after other holds : Option (List ℕ)) (failed now unshown : Bool)
    (es more : List EntryData) (line bytes : List ℕ) → more ≡ es ++ told line ∷ [] → since ≡ before
    → bytes ≡ line ++ 10 ∷ [] → AreWhole es (IsWhole unshown other holds) (IsWhole failed before mid)
    → (now ≡ false → (failed ≡ false) × Appends mid after bytes)
    → AreWhole more (IsWhole unshown other holds) (IsWhole now since after)
whole_told before since mid after other holds failed now unshown es more line bytes m start b w p = (
  subst (λ xs. IsWhole unshown other holds xs) (sym (shown_still es more line m)) w.0,
  whole_more since mid after failed now (told_lines (all_told es)) bytes (told_lines (all_told more))
      (subst (λ s. IsWhole failed s mid (told_lines (all_told es))) (sym start) w.1) p
      (ap told_lines (noted_more es more line m)
      ∙ (lines_more (all_told es) line ∙ ap (λ xs. told_lines (all_told es) ++ xs) (sym b))),
)

-- a text with what was pushed to it
pub pushed : (done : Bool) (new old more : List ℕ) → new ≡ (if done then old ++ more else old) → done ≡ true
    → new ≡ old ++ more
pushed true new old more e is = e
pushed false new old more e is = absurd (cc is)

-- the writer of what is told got a line
pub got_line : (line bytes : List ℕ) (held old new : ChannelData) → held ≡ old → new.before ≡ held.before
    → bytes ≡ line ++ 10 ∷ [] → (new.failed ≡ false → (held.failed ≡ false) × Appends held.holds new.holds bytes)
    → IsGiven bytes held.calls new.calls → IsAnswered new.failed new.calls → Got (line ++ 10 ∷ []) old new
got_line line bytes held old new same start b p given answered =
    subst (λ o. Got (line ++ 10 ∷ []) o new) same (record {
      before = start;
      bytes_too = λ n. ((p n).0, subst (λ xs. Appends held.holds new.holds xs) b (p n).1);
      calls = subst (λ xs. IsGiven xs held.calls new.calls) b given;
      answered = answered;
    })
