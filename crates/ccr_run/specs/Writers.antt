-- What a writer gets.
use Rattle.std.specs.Prelude.{◌≡◌, ℕ, List, [], ◌∷◌, ◌++◌, flat_map, Bool, false, Option}
use Rattle.std.specs.Io.KnownBytes.{Appends}
use Rattle.ccr_history.specs.Text.{Text}

-- the bytes that a writer has got, where those are known, and whether a write to it has failed
pub record WriterData : Type 0 where
  pub got : Option (List ℕ)
  pub failed : Bool

-- unless a write has failed by now, none had failed before, and the writer has got these bytes more, and nothing else
abbrev pub HasGot : List ℕ → WriterData → WriterData → Type 0
HasGot bytes old new = new.failed ≡ false → (old.failed ≡ false) × Appends old.got new.got bytes

-- these lines in order, each with its line end
abbrev pub bytes_of : List Text → List ℕ
bytes_of lines = flat_map (λ line. line ++ 10 ∷ []) lines

-- LINES ARE WRITTEN, each once and with its line end, and nothing else is
abbrev pub GetsLines : List Text → WriterData → WriterData → Type 0
GetsLines lines old new = HasGot (bytes_of lines) old new
