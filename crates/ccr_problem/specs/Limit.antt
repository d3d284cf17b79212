-- How many builds of a job may run.
use Rattle.std.specs.Prelude.{ℕ, ◌==◌, Bool, true, false, ◌||◌, Option, Some, None, nat_le, if◌then◌else◌}
use Rattle.std.specs.List.{list_any}
use Rattle.std.specs.Option.{option_map_or}
use Rattle.ccr_pipeline.specs.JobData.{JobData}

-- the job is in a serial group
abbrev pub is_grouped : JobData → Bool
is_grouped j = list_any (λ group. true) j.serial_groups

-- how many builds of a job may run: one, if it is serial or in a serial group; else as many as it says, 0 being no
-- limit
abbrev pub limit_of : JobData → Option ℕ
limit_of j =
    if j.serial || is_grouped j then Some 1 else (if j.max_in_flight == 0 then None else Some j.max_in_flight)

-- so many reach the limit, if there is one
abbrev pub has_reached : Option ℕ → ℕ → Bool
has_reached limit n = option_map_or (λ most. nat_le most n) limit false
