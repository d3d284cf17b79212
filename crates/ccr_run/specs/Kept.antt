-- Texts that are kept.
use Rattle.std.specs.Prelude.{◌≡◌, ◌⊎◌, List, [], ◌∷◌, ◌++◌, Bool, true, false}
use Rattle.std.specs.List.{list_any}
use Rattle.std.specs.Str.{bytes_eq}
use Rattle.ccr_history.specs.Text.{Text}

-- texts, in order; and whether memory ran out for one, which isn't among them
pub record KeptData : Type 0 where
  pub texts : List Text
  pub is_lost : Bool

-- none yet
abbrev pub nothing_kept : KeptData
nothing_kept = record { texts = []; is_lost = false }

-- this text is among them
abbrev pub has_text : Text → List Text → Bool
has_text text texts = list_any (λ t. bytes_eq t text) texts

-- ONE MORE IS KEPT behind the others, or memory ran out for it
abbrev pub Keeps : Text → KeptData → KeptData → Type 0
Keeps text old new = (new ≡ record old { texts = old.texts ++ text ∷ [] }) ⊎ (new ≡ record old { is_lost = true })

-- it is kept, if so
abbrev pub KeepsIf : Bool → Text → KeptData → KeptData → Type 0
KeepsIf true text old new = Keeps text old new
KeepsIf false text old new = new ≡ old
