use Rattle.ccr_pipeline.proofs.PlansKept.{kept_resource}
use Rattle.ccr_pipeline.proofs.lists.read_resource.Goals as goal

pub resource-requires : goal.resource-requires
resource-requires c = kept_resource _ _ _ c.in_ok-check_object.ensures.checked
