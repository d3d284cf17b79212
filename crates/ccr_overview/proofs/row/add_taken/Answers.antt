use Rattle.std.proofs.Common.{map, string_bytes}
use Rattle.ccr_pipeline.specs.Names.{with_names}
use Rattle.ccr_overview.proofs.Going.{names_on}
use Rattle.ccr_overview.proofs.row.add_taken.Goals as goal

pub loop-k-preserved : goal.loop-k-preserved
loop-k-preserved c =
    names_on c.args.build.now.used c.loop-k.k _ (map string_bytes c.loop-k.names.items) (map string_bytes c.add_name.new.names.items)
    (with_names (map string_bytes c.args.names.now.items) (map (λ u. u.input) c.args.build.now.used)) c.used_at.ensures
    c.in_ok-add_name.ensures c.loop-k.invariant
