-- The laws of a claim's text: what is read is written so, what is written so is read, and no text begins another.
use Rattle.std.proofs.Common.{◌≡◌, ℕ, ◌^◌, ◌<◌, ◌≤◌, List, [], ◌∷◌, ◌++◌, length, Bool, true, false, cond, Some, None, Result, Ok, Err, IfOk, ap, ◌∙◌, refl, sym, subst, arith}
use Rattle.std.specs.List.{AllByRecursion}
use Rattle.std.proofs.lemmas.Bool.{and_parts, and_from, leb-true, le-leb}
use Rattle.std.proofs.lemmas.List.{append-nil}
use Rattle.ccr_choice.specs.declared.word.Word.{Word}
use Rattle.ccr_choice.specs.declared.word.Word.TheVariants as word
use Rattle.ccr_choice.specs.Text.{IsWord, lines_of}
use Rattle.ccr_choice.specs.Reading.{Refusal, bad_line, trailing, ◌>>=◌, or_broken, whole, number_words, front_numbers, after_numbers}
use Rattle.ccr_choice.proofs.Words.{IsFit}
use Rattle.ccr_choice.proofs.Texts.{IsLine, lines_fit}
use Rattle.ccr_choice.proofs.Keeps.{bind_ok, or_ok}
use Rattle.ccr_choice.proofs.Found.{front-number_words, after-number_words, numbers_are, front-all, after-all, none_left}
use Rattle.ccr_choice.proofs.Formats.{IsFormat, text_found, text_again, text_alone, text_read}
use Rattle.ccr_proof.specs.Claim.{IsClaim}
use Rattle.ccr_proof.specs.ClaimText.{claim_line, claim_lines, claim_text, builds_part, claim_on, next_claim, claim_in, IsRead, IsReadAs, NothingFollows}
use Rattle.ccr_proof.specs.declared.claim.Claim.{Claim}
use Rattle.ccr_proof.specs.declared.claim.Claim.TheVariants.{Best, Nothing}
use Rattle.ccr_proof.specs.declared.fault.ClaimFault.{ClaimFault}
use Rattle.ccr_proof.specs.declared.fault.ClaimFault.TheVariants.{BadLine, Trailing, NoMemory}

-- ---- a line, both ways
guard : {A : Type 0} (b : Bool) (y x : A) → cond b (Some y) None ≡ Some x → (b ≡ true) × (y ≡ x)
guard true y x h = (refl, cc)
guard false y x h = cc

-- the lists of a claim aren't long
abbrev AreFew : Claim → Type 0
AreFew Nothing = Unit {0}
AreFew (Best c) = (length c.places ≤ 32) × (length c.builds ≤ 32)

-- what is behind the places
record IsPart (places : List ℕ) (ws : List Word) (c : Claim) : Type 0 where
  builds : List ℕ
  is : c ≡ Best (record { places = places; builds = builds })
  words : ws ≡ word.Builds ∷ number_words builds
  few : (length places ≤ 32) × (length builds ≤ 32)

part_found : (places : List ℕ) (ws : List Word) (c : Claim) → builds_part places ws ≡ Some c → IsPart places ws c
part_found places (word.Builds ∷ ws) c h =
    let g = guard _ (Best (record { places = places; builds = front_numbers ws })) c h in
    let a = and_parts _ _ g.0 in
    let b = and_parts _ _ a.1 in
    let all : ws ≡ number_words (front_numbers ws) =
    numbers_are ws ∙ ap (λ vs. number_words (front_numbers ws) ++ vs) (none_left _ b.1) ∙ append-nil (number_words (front_numbers ws)) in
    record { builds = front_numbers ws; is = sym g.1; words = ap (λ vs. word.Builds ∷ vs) all; few = (leb-true _ _ a.0, leb-true _ _ b.0) }
part_found places [] c h = cc
part_found places (w ∷ ws) c h = cc

best_found : (ws : List Word) (c : Claim) → IsPart (front_numbers ws) (after_numbers ws) c → (word.Best ∷ ws ≡ claim_line c) × AreFew c
best_found ws c part =
    let P : Claim → Type 0 = λ d. (word.Best ∷ ws ≡ claim_line d) × AreFew d in
    subst P (sym part.is)
    (ap (λ vs. word.Best ∷ vs) (numbers_are ws ∙ ap (λ vs. number_words (front_numbers ws) ++ vs) part.words), part.few)

pub claim_found : (ws : List Word) (c : Claim) → claim_on ws ≡ Some c → (ws ≡ claim_line c) × AreFew c
unfolding claim_on
claim_found (word.Nothing ∷ []) c h = let P : Claim → Type 0 = λ d. (word.Nothing ∷ [] ≡ claim_line d) × AreFew d in let e : Nothing ≡ c = cc in subst P e (refl, tt)
claim_found (word.Best ∷ ws) c h = best_found ws c (part_found (front_numbers ws) (after_numbers ws) c h)
claim_found [] c h = cc
claim_found (w ∷ ws) c h = cc

part_again : (places builds : List ℕ) → length places ≤ 32 → length builds ≤ 32 → builds_part places (word.Builds ∷ number_words builds) ≡ Some (Best (record { places = places; builds = builds }))
part_again places builds few short =
    rw (front-all builds, after-all builds) (ap (λ t. cond t (Some (Best (record { places = places; builds = builds }))) None) (and_from _ _ (le-leb _ _ few) (and_from _ _ (le-leb _ _ short) refl)))

pub claim_again : (c : Claim) → IsClaim c → claim_on (claim_line c) ≡ Some c
unfolding claim_on
claim_again Nothing h = refl
claim_again (Best c) h =
    rw (front-number_words c.places (word.Builds ∷ number_words c.builds) refl, after-number_words c.places (word.Builds ∷ number_words c.builds) refl)
    (part_again c.places c.builds h.0.0 h.1.0)

-- ---- the format
spelled_numbers : (ns : List ℕ) (ws : List Word) → AllByRecursion (λ n. n < 2 ^ 32) ns → AllByRecursion IsWord ws → AllByRecursion IsWord (number_words ns ++ ws)
spelled_numbers [] ws h k = k
spelled_numbers (n ∷ ns) ws h k = (h.0, spelled_numbers ns ws h.1 k)

spelled_last : (ns : List ℕ) → AllByRecursion (λ n. n < 2 ^ 32) ns → AllByRecursion IsWord (number_words ns)
spelled_last [] h = tt
spelled_last (n ∷ ns) h = (h.0, spelled_last ns h.1)

pub claim_spelled : (c : Claim) → IsClaim c → IsLine (claim_line c)
claim_spelled Nothing h = (omega arith, (tt, tt))
claim_spelled (Best c) h = (omega arith, (tt, spelled_numbers c.places _ h.0.1 (tt, spelled_last c.builds h.1.1)))

pub one_found : (ls : List (List Word)) (x : Claim × List (List Word)) → next_claim ls ≡ Ok x → (ls ≡ claim_lines x.0 ++ x.1) × AreFew x.0
unfolding next_claim
one_found [] x h = cc
one_found (l ∷ ls) x h =
    let b = bind_ok (or_broken ls (claim_on l)) (λ y. Ok (y, ls)) x h in
    let e : (b.0, ls) ≡ x = cc in
    let f = claim_found l b.0 (or_ok _ ls b.0 b.1) in
    (ap (λ v. v ∷ ls) f.0 ∙ ap (λ p. claim_line p.0 ∷ p.1) e, let P : Claim × List (List Word) → Type 0 = λ p. AreFew p.0 in subst P e f.1)

pub one_again : (c : Claim) (rest : List (List Word)) → IsClaim c → next_claim (claim_lines c ++ rest) ≡ Ok (c, rest)
unfolding next_claim
one_again c rest h = ap (λ o. or_broken rest o >>= λ y. Ok (y, rest)) (claim_again c h)

-- a claim's line is a format
pub claim_lines_format : IsFormat next_claim claim_lines IsClaim
claim_lines_format =
    record { found = λ ls x h. (one_found ls x h).0; again = one_again; spelled = λ c h. (claim_spelled c h, tt) }

claim_is : (bs : List ℕ) → claim_in bs ≡ whole bad_line trailing (length (lines_of bs)) (next_claim (lines_of bs))
unfolding claim_in
claim_is bs = refl

-- ---- what is read keeps the rules
fit_numbers : (ns : List ℕ) (ws : List Word) → AllByRecursion IsFit (number_words ns ++ ws) → AllByRecursion (λ n. n < 2 ^ 32) ns × AllByRecursion IsFit ws
fit_numbers [] ws h = (tt, h)
fit_numbers (n ∷ ns) ws h = let rest = fit_numbers ns ws h.1 in ((h.0, rest.0), rest.1)

fit_last : (ns : List ℕ) → AllByRecursion IsFit (number_words ns) → AllByRecursion (λ n. n < 2 ^ 32) ns
fit_last [] h = tt
fit_last (n ∷ ns) h = (h.0, fit_last ns h.1)

pub fit_claim : (c : Claim) → AreFew c → AllByRecursion IsFit (claim_line c) → IsClaim c
fit_claim Nothing few h = tt
fit_claim (Best c) few h =
    let front = fit_numbers c.places (word.Builds ∷ number_words c.builds) h.1 in
    ((few.0, front.0), (few.1, fit_last c.builds front.1.1))

pub claim_kept : (bs : List ℕ) (c : Claim) → claim_in bs ≡ Ok c → IsClaim c
claim_kept bs c h =
    let read = text_read bad_line trailing (length (lines_of bs)) (next_claim (lines_of bs)) c (sym (claim_is bs) ∙ h) in
    let f = one_found (lines_of bs) (c, []) read in
    let P : List (List Word) → Type 0 = λ ls. AllByRecursion (λ l. AllByRecursion IsFit l) ls in
    let fits = subst P f.0 (lines_fit bs) in
    fit_claim c f.1 fits.0

-- ---- what read_claim and write_claim promise
pub kept_of : (result : Result Claim ClaimFault) (bs : List ℕ) → IsRead result (claim_in bs) → IfOk result IsClaim
kept_of (Ok c) bs read = claim_kept bs c read
kept_of (Err e) bs read = tt

pub claim_text_found : (bs : List ℕ) (c : Claim) → claim_in bs ≡ Ok c → bs ≡ claim_text c
claim_text_found bs c h = text_found claim_lines_format bad_line trailing bs c (claim_kept bs c h) (sym (claim_is bs) ∙ h)

pub found_of : (result : Result Claim ClaimFault) (bs : List ℕ) → IsRead result (claim_in bs) → IfOk result (λ c. bs ≡ claim_text c)
found_of (Ok c) bs read = claim_text_found bs c read
found_of (Err e) bs read = tt

pub claim_text_again : (c : Claim) → IsClaim c → claim_in (claim_text c) ≡ Ok c
claim_text_again c h = claim_is (claim_text c) ∙ text_again claim_lines_format bad_line trailing c h

pub alone_of : (result : Result Claim ClaimFault) (bs : List ℕ) → IsRead result (claim_in bs) → IfOk result (λ _. NothingFollows bs)
alone_of (Ok c) bs read = λ d more h f. text_alone claim_lines_format bs c d more (claim_kept bs c read) h (claim_text_found bs c read) f
alone_of (Err e) bs read = tt

pub read_as : (result : Result Claim ClaimFault) (bs : List ℕ) (c : Claim) → IsRead result (claim_in bs) → IsClaim c → bs ≡ claim_text c → IsReadAs result c
read_as result bs c h rules e = answered result (claim_in bs) (ap claim_in e ∙ claim_text_again c rules) h
  where
    answered : (result : Result Claim ClaimFault) (read : Result Claim Refusal) → read ≡ Ok c → IsRead result read → IsReadAs result c
    answered (Ok d) read e h = cc
    answered (Err NoMemory) read e h = refl
    answered (Err (BadLine n)) read e h = cc
    answered (Err Trailing) read e h = cc
