use Rattle.std.proofs.Common.{◌∙◌, ap, sym, length, lt-ltb}
use Rattle.std.specs.Prelude.{nat_le}
use Rattle.ccr_history.proofs.Numbers.{places_at-versions}
use Rattle.ccr_history.proofs.tables.Tables.has_place.Goals as goal

pub returns-then-place-gt0 : goal.returns-then-place-gt0
returns-then-place-gt0 c =
    rw (lt-ltb 0 c.args.place c.if-place-gt0.true) (ap (nat_le c.args.place) (ap length c.versions_at.ensures ∙ sym (places_at-versions c.args.number c.args.self.now)))
