-- What has to be there for a command.
use Rattle.ccr_core.specs.Commands.{CommandData, set_pipeline, check_resource, pin_resource, unpin_resource, disable_version, enable_version, trigger_job, run, shows}
use Rattle.ccr_lines.specs.Needs.{Need, no_need, a_pipeline, a_resource, a_job}
use Rattle.ccr_lines.specs.Shown.{needs}

-- what has to be there for a command
abbrev pub need_of : CommandData → Need
need_of (set_pipeline file) = no_need
need_of (check_resource resource) = a_resource resource
need_of (pin_resource resource pin) = a_resource resource
need_of (unpin_resource resource) = a_resource resource
need_of (disable_version resource place) = a_resource resource
need_of (enable_version resource place) = a_resource resource
need_of (trigger_job job) = a_job job
need_of (run rounds) = a_pipeline
need_of (shows what) = needs what
