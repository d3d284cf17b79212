use Rattle.std.proofs.Common.{arith}
use Rattle.std.proofs.lemmas.Bool.Decides.{nat_tests}
use Rattle.serde_json.proofs.Views.{items_len-items_view}
use Rattle.ccr_pipeline.proofs.lists.are_few.Goals as goal

pub returns : goal.returns
returns c = grind (arith, nat_tests, items_len-items_view c.args.list.now.items)
