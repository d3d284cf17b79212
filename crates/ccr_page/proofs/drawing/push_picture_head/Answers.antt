use Rattle.std.proofs.Common.{◌≡◌, List, flat_map, ap, ◌∙◌, subst}
use Rattle.ccr_page.specs.declared.data.Job.{Job}
use Rattle.ccr_page.specs.declared.data.Resource.{Resource}
use Rattle.ccr_page.specs.Drawings.{job_count, resource_count}
use Rattle.ccr_page.specs.Pieces.{Adds}
use Rattle.ccr_page.proofs.Adding.{then_adds}
use Rattle.ccr_page.proofs.drawing.push_picture_head.Goals as goal

pub returns : goal.returns
returns c =
    let J : List Job → Type 0 = λ js. Adds c.push_size.new.out.items c.push_job_count.new.out.items (job_count js) in
    let R : List Resource → Type 0 = λ rs. Adds c.push_job_count.new.out.items c.push_resource_count.new.out.items (resource_count rs) in
    then_adds (then_adds c.in_ok-push_size.ensures (subst J c.deref.ensures.value c.in_ok-push_job_count.ensures))
    (subst R c.deref-2.ensures.value c.in_ok-push_resource_count.ensures)
