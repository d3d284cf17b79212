-- What is kept of what a writer is given.
use Rattle.std.specs.Prelude.{◌≡◌, Bool, false, not, ◌==◌, ◌&&◌, ◌||◌, length}
use Rattle.ccr_history.specs.Text.{Text}
use Rattle.ccr_run.specs.Advised.{has_words}
use Rattle.ccr_run.specs.Kept.{KeptData, KeepsIf, nothing_kept}
use Rattle.ccr_run.specs.declared.heard.Heard.{Heard}

-- words of what has to be given before, or with it, and of what is kept; whether that was given, and anything was; and what is kept
pub record HeardData : Type 0 where
  pub cause : Text
  pub words : Text
  pub is_due : Bool
  pub is_used : Bool
  pub kept : KeptData

-- what a value of the program's type stands for
abbrev pub heard_data : Heard → HeardData
heard_data h =
    record { cause = h.cause.now; words = h.words.now; is_due = h.is_due; is_used = h.is_used; kept = h.kept }

-- nothing was given yet
abbrev pub unheard : Text → Text → HeardData
unheard cause words = record { cause = cause; words = words; is_due = false; is_used = false; kept = nothing_kept }

-- what has to be given before was, at the latest by these bytes
abbrev pub is_due : Text → HeardData → Bool
is_due bytes h = h.is_due || has_words h.cause bytes

-- THESE BYTES ARE GIVEN by one call: they are kept, if they have the words, and what has to be given before was
abbrev pub Hears : Text → HeardData → HeardData → Type 0
Hears bytes old new =
    KeepsIf (is_due bytes old && has_words old.words bytes) bytes old.kept new.kept
    × (new ≡ record old {
      is_due = is_due bytes old;
      is_used = old.is_used || not (length bytes == 0);
      kept = new.kept;
    })
