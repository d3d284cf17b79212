use Rattle.std.proofs.Common.{List, subst}
use Rattle.ccr_page.specs.declared.data.Job.{Job}
use Rattle.ccr_page.specs.Each.{each_from}
use Rattle.ccr_page.specs.Builds.{builds_pieces}
use Rattle.ccr_page.specs.Pieces.{Adds}
use Rattle.ccr_page.proofs.Adding.{then_adds}
use Rattle.ccr_page.proofs.build.push_tables.Goals as goal

pub returns : goal.returns
returns c =
    let E : List Job → Type 0 = λ js. Adds c.push.new.out.items c.push_each.new.out.items (each_from (builds_pieces c.args.page.now) 0 js) in
    then_adds (then_adds c.in_ok-push.ensures (subst E c.deref.ensures.value c.in_ok-push_each.ensures)) c.in_ok-push-2.ensures
