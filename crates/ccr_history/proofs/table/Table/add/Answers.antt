use Rattle.std.proofs.Common.{◌≡◌, ◌∙◌, ap, sym, arith}
use Rattle.ccr_history.specs.Tables.{with_version}
use Rattle.ccr_history.proofs.VersionLists.{are_more}
use Rattle.ccr_history.proofs.table.Table.add.Goals as goal

pub invariant_of-self-2 : goal.invariant_of-self-2
invariant_of-self-2 c =
    let vs = c.self.inside.versions.keys in
    let same : c.in_ok-clone.field-0 ≡ c.args.version.now = c.in_ok-clone.ensures.cases.0 in
    are_more vs c.insert.new.self.keys c.args.version.now c.self.invariant (sym c.contains.ensures ∙ c.if-contains.false) (omega arith) c.in_ok-clone.ensures.cases.1
    (c.in_ok-insert.ensures.keys ∙ ap (with_version vs) same) c.in_ok-insert.ensures.unique
