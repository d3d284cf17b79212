-- The place that a job's newest build had, for an input in a scope.
use Rattle.std.specs.Prelude.{ℕ, List, [], ◌∷◌, ◌&&◌, ◌==◌, Option, Some, None, if◌then◌else◌}
use Rattle.std.specs.Option.{option_or}
use Rattle.std.specs.Str.{bytes_eq}
use Rattle.ccr_history.specs.Text.{Text}
use Rattle.ccr_history.specs.Builds.{UsedData, BuildData, is_of}

-- what f gives of the last element of which it gives something
abbrev pub last_given : {X Y : Type 0} → (X → Option Y) → List X → Option Y
last_given f [] = None
last_given f (x ∷ xs) = option_or (last_given f xs) (f x)

-- the place of a used place, if it is one of this input in this scope
abbrev pub place_if_at : Text → ℕ → UsedData → Option ℕ
place_if_at input scope u = if bytes_eq input u.input && scope == u.scope then Some u.place else None

-- the place that a build used for this input in this scope, if it is a build of the job and used one
abbrev pub place_used : Text → Text → ℕ → BuildData → Option ℕ
place_used job input scope b = if is_of job b then last_given (place_if_at input scope) b.used else None

-- the place that the newest build of the job which used this input in this scope had, if there is such a build
abbrev pub newest_used : Text → Text → ℕ → List BuildData → Option ℕ
newest_used job input scope builds = last_given (place_used job input scope) builds
