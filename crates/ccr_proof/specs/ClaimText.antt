-- The text of a claim: how it is written, and how it is read.
use Rattle.std.specs.Prelude.{◌≡◌, ℕ, List, [], ◌∷◌, ◌++◌, length, ◌&&◌, ◌==◌, nat_le, Option, Some, None, Result, Ok, Err, if◌then◌else◌}
use Rattle.ccr_choice.specs.declared.word.Word.{Word}
use Rattle.ccr_choice.specs.declared.word.Word.TheVariants as word
use Rattle.ccr_choice.specs.Text.{text_of, lines_of}
use Rattle.ccr_choice.specs.Reading.{Refusal, bad_line, trailing, Read, one_line, whole, number_words, front_numbers, after_numbers}
use Rattle.ccr_proof.specs.Claim.{IsClaim}
use Rattle.ccr_proof.specs.declared.claim.TheConstants.{MOST_NUMBERS}
use Rattle.ccr_proof.specs.declared.claim.Claim.{Claim}
use Rattle.ccr_proof.specs.declared.claim.Claim.TheVariants.{Best, Nothing}
use Rattle.ccr_proof.specs.declared.fault.ClaimFault.{ClaimFault}
use Rattle.ccr_proof.specs.declared.fault.ClaimFault.TheVariants.{BadLine, Trailing, NoMemory}

-- ---- writing
-- `none`, or `best P.. builds B..`
abbrev pub claim_line : Claim → List Word
claim_line Nothing = word.Nothing ∷ []
claim_line (Best c) = word.Best ∷ (number_words c.places ++ word.Builds ∷ number_words c.builds)

-- a claim's text is one line
abbrev pub claim_lines : Claim → List (List Word)
claim_lines c = claim_line c ∷ []

-- The one text of a claim.
abbrev pub claim_text : Claim → List ℕ
claim_text c = text_of (claim_lines c)

-- ---- reading
abbrev pub builds_part : List ℕ → List Word → Option Claim
builds_part places (word.Builds ∷ ws) =
    if nat_le (length places) MOST_NUMBERS
    && (nat_le (length (front_numbers ws)) MOST_NUMBERS && length (after_numbers ws) == 0)
    then Some (Best (record { places = places; builds = front_numbers ws })) else None
builds_part places ws = None

-- What a claim's line says.
unfoldable pub claim_on : List Word → Option Claim
claim_on (word.Nothing ∷ []) = Some Nothing
claim_on (word.Best ∷ ws) = builds_part (front_numbers ws) (after_numbers ws)
claim_on ws = None

-- the claim on the next line
unfoldable pub next_claim : List (List Word) → Read Claim
next_claim = one_line claim_on

-- The claim that a text stands for, or why it stands for none.
unfoldable pub claim_in : List ℕ → Result Claim Refusal
claim_in bytes = whole bad_line trailing (length (lines_of bytes)) (next_claim (lines_of bytes))

-- ---- what is said of a reader's answer
-- The fault says why reading refuses, unless memory ran out.
abbrev pub IsClaimFault : {Y : Type 0} → ClaimFault → Result Y Refusal → Type 0
IsClaimFault NoMemory read = Unit {0}
IsClaimFault (BadLine n) read = read ≡ Err (bad_line n)
IsClaimFault Trailing read = read ≡ Err trailing

-- The answer is what reading gives, unless memory ran out.
abbrev pub IsRead : Result Claim ClaimFault → Result Claim Refusal → Type 0
IsRead (Ok c) read = read ≡ Ok c
IsRead (Err e) read = IsClaimFault e read

-- The answer is this claim, unless memory ran out.
abbrev pub IsReadAs : Result Claim ClaimFault → Claim → Type 0
IsReadAs (Ok d) c = d ≡ c
IsReadAs (Err e) c = e ≡ NoMemory

-- No claim's text goes on where this one ends.
abbrev pub NothingFollows : List ℕ → Type 0
NothingFollows bytes = (c : Claim) (more : List ℕ) → IsClaim c → claim_text c ≡ bytes ++ more → more ≡ []
