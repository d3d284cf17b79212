-- The reader tells the first of all faults.
use Rattle.std.proofs.Common.{◌≡◌, ◌∙◌, ℕ, List, [], ◌∷◌, refl, sym, inl, inr, Some, arith}
use Rattle.std.specs.Prelude.{⊤}
use Rattle.serde_json.specs.Data.{Data}
use Rattle.ccr_pipeline.specs.declared.fault.Rule.{Rule}
use Rattle.ccr_pipeline.specs.Faults.{Path, Faults, StartsWith, first}
use Rattle.ccr_pipeline.specs.Reading.{IsTextOf, IsUnread, Refuses, IsReading}
use Rattle.ccr_findings.specs.Present.{AreFaults}

-- no bytes are unread and the text of a value
unread_no_text : (p : Path) (bytes : List ℕ) (f : Rule × Path) (d : Data) → IsUnread p bytes f → IsTextOf bytes d → ⊥
unread_no_text p bytes f d (inl long) text = omega (arith, long.0, text.0)
unread_no_text p bytes f d (inr none) text = absurd (cc (none.1 text.1, text.2))

-- bytes are unread for one reason
one_reason : (p : Path) (bytes : List ℕ) (f g : Rule × Path) → IsUnread p bytes f → IsUnread p bytes g → f ≡ g
one_reason p bytes f g (inl one) (inl two) = one.1 ∙ sym two.1
one_reason p bytes f g (inl one) (inr two) = absurd (omega (arith, one.0, two.0))
one_reason p bytes f g (inr one) (inl two) = absurd (omega (arith, one.0, two.0))
one_reason p bytes f g (inr one) (inr two) = one.2 ∙ sym two.2

-- bytes are the text of one value
one_value : (bytes : List ℕ) (d e : Data) → IsTextOf bytes d → IsTextOf bytes e → d ≡ e
one_value bytes d e one two = cc (one.2, two.2)

is_first : (fs : Faults) (f : Rule × Path) → StartsWith fs (Some f) → first fs ≡ Some f
is_first [] f h = absurd h
is_first (g ∷ gs) f h = rw h refl

starts : (fs : Faults) (f : Rule × Path) → first fs ≡ Some f → StartsWith fs (Some f)
starts [] f h = absurd (cc (h))
starts (g ∷ gs) f h = cc (h)

pub refused_first : (p : Path) (faults : Data → Faults) (bytes : List ℕ) (fs : Faults) (f : Rule × Path) → AreFaults p faults bytes fs → Refuses p faults bytes (Some f) → first fs ≡ Some f
refused_first p faults bytes fs f (inl (g, unread, is)) (inl other) = rw (is, one_reason p bytes g f unread other) refl
refused_first p faults bytes fs f (inl (g, unread, is)) (inr (d, text, other)) = absurd (unread_no_text p bytes g d unread text)
refused_first p faults bytes fs f (inr (d, text, is)) (inl other) = absurd (unread_no_text p bytes f d other text)
refused_first p faults bytes fs f (inr (d, text, is)) (inr (e, also, other)) =
    rw (is, one_value bytes d e text also) (is_first (faults e) f other)

pub first_refused : (p : Path) (faults : Data → Faults) (bytes : List ℕ) (fs : Faults) (f : Rule × Path) → AreFaults p faults bytes fs → first fs ≡ Some f → Refuses p faults bytes (Some f)
first_refused p faults bytes fs f (inl (g, unread, is)) told =
    let same : g ≡ f = cc (is, told) in
    inl (rw (sym same) unread)
first_refused p faults bytes fs f (inr (d, text, is)) told = inr (d, text, starts (faults d) f (rw is at told))

pub read_none : (p : Path) (faults : Data → Faults) (bytes : List ℕ) (fs : Faults) → AreFaults p faults bytes fs → IsReading faults bytes (λ d. ⊤) → fs ≡ []
read_none p faults bytes fs (inl (g, unread, is)) (d, text, none, any) = absurd (unread_no_text p bytes g d unread text)
read_none p faults bytes fs (inr (d, text, is)) (e, also, none, any) = is ∙ (rw (one_value bytes d e text also) none)

pub none_read : (p : Path) (faults : Data → Faults) (bytes : List ℕ) (fs : Faults) → AreFaults p faults bytes fs → fs ≡ [] → IsReading faults bytes (λ d. ⊤)
none_read p faults bytes fs (inl (g, unread, is)) none = absurd (cc (is, none))
none_read p faults bytes fs (inr (d, text, is)) none = (d, text, sym is ∙ none, tt)
