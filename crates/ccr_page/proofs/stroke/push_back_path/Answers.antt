use Rattle.ccr_page.proofs.Adding.{then_adds}
use Rattle.ccr_page.proofs.stroke.push_back_path.Goals as goal

pub returns : goal.returns
returns c = then_adds (then_adds (then_adds c.in_ok-push_path_open.ensures c.in_ok-push_detour.ensures) c.in_ok-push_stub.ensures) c.in_ok-push.ensures
