-- What is noted of what was done.
use Rattle.std.specs.Prelude.{◌+◌, ℕ, List, [], ◌∷◌, Bool, false, Option, None, Some, Ok, Err, is_ok}
use Rattle.std.specs.List.{list_all}
use Rattle.std.specs.Option.{option_map_or}
use Rattle.ccr_core.specs.Events.{EventData}
use Rattle.ccr_core.specs.Replies.{Replied}
use Rattle.ccr_serve.specs.Items.{Done}

-- the core took the event of what was done
abbrev pub is_taken : Done → Bool
is_taken d = option_map_or (λ made. is_ok made.1) d.event false

-- the core took the event of each
abbrev pub all_taken : List Done → Bool
all_taken ds = list_all is_taken ds

-- how many commits an event is: one where the core took it
abbrev pub commits_for : Replied → ℕ
commits_for (Ok reply) = 1
commits_for (Err fault) = 0

-- how many of these events the core took
abbrev pub taken_of : Option (EventData × Replied) → ℕ
taken_of None = 0
taken_of (Some made) = commits_for made.1

-- of how many of what was done the core took the event
abbrev pub taken_in : List Done → ℕ
taken_in [] = 0
taken_in (d ∷ ds) = taken_of d.event + taken_in ds
