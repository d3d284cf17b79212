use Rattle.std.proofs.Common.{List, ◌++◌, subst}
use Rattle.ccr_page.specs.declared.data.Job.{Job}
use Rattle.ccr_page.specs.declared.data.Resource.{Resource}
use Rattle.ccr_page.specs.declared.data.Urgency.TheVariants.{Going}
use Rattle.ccr_page.specs.Lists.{positions, still_positions, still_section, going_section}
use Rattle.ccr_page.specs.Jobs.{jobs_section}
use Rattle.ccr_page.specs.Resources.{resources_section}
use Rattle.ccr_page.specs.Pieces.{Adds}
use Rattle.ccr_page.proofs.Adding.{then_adds}
use Rattle.ccr_page.proofs.page.push_sections.Goals as goal

pub returns : goal.returns
returns c =
    let L : List Job → Type 0 = λ js. Adds c.push_picture_section.new.out.items c.push_lists.new.out.items (still_section js (still_positions js) ++ going_section js (positions Going 0 js)) in
    let J : List Job → Type 0 = λ js. Adds c.push_lists.new.out.items c.push_jobs.new.out.items (jobs_section js) in
    let R : List Resource → Type 0 = λ rs. Adds c.push_jobs.new.out.items c.push_resources.new.out.items (resources_section rs) in
    then_adds (then_adds (then_adds (then_adds c.in_ok-push_picture_section.ensures (subst L c.deref.ensures.value c.in_ok-push_lists.ensures)) (subst J c.deref-2.ensures.value c.in_ok-push_jobs.ensures)) (subst R c.deref-3.ensures.value c.in_ok-push_resources.ensures)) c.in_ok-push_builds.ensures
