-- What is found at a path, by what the system answers.
use Rattle.std.specs.Prelude.{◌≡◌, ◌≢◌}
use Rattle.std.specs.Fs.{IsFile, file_type, metadata_len}
use Rattle.std.specs.declared.fs.attrs.Metadata.{Metadata}
use Rattle.std.specs.declared.io.ErrorKind.{ErrorKind}
use Rattle.std.specs.declared.io.ErrorKind.TheVariants as kind
use Rattle.ccr_look.specs.declared.calls.Found.{Found}
use Rattle.ccr_look.specs.declared.calls.Found.TheVariants.{File, NoFile, Nothing, Unseen}
use Rattle.ccr_look.specs.Answers.{IsTroubleOf}

-- what is found is what the system saw: a file, so long, or something else
abbrev pub IsSeenAs : Metadata → Found → Type 0
IsSeenAs seen (File size) = IsFile (file_type seen) × (size ≡ metadata_len seen)
IsSeenAs seen NoFile = ¬ IsFile (file_type seen)
IsSeenAs seen Nothing = ⊥
IsSeenAs seen (Unseen trouble) = ⊥

-- what is found where the system answers by an error: nothing, or a trouble
abbrev pub IsMissedAs : ErrorKind → Found → Type 0
IsMissedAs k (File size) = ⊥
IsMissedAs k NoFile = ⊥
IsMissedAs k Nothing = k ≡ kind.NotFound
IsMissedAs k (Unseen trouble) = (k ≢ kind.NotFound) × IsTroubleOf k trouble
