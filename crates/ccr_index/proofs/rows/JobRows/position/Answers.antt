use Rattle.std.proofs.Common.{◌≡◌, ◌<◌, ◌-◌, List, length, get_or, nat_lt, ap, ◌∙◌, sym, subst, arith, rules, true, false, None}
use Rattle.std.specs.List.Sorted.{IsPartitionedBy, IsPartitionPoint}
use Rattle.std.proofs.lemmas.List.{get_or_default}
use Rattle.std.proofs.lemmas.List.Sorted.{IsPartitionPoint-from_clause}
use Rattle.ccr_choice.specs.Table.{build_of}
use Rattle.ccr_index.specs.declared.rows.Row.{Row}
use Rattle.ccr_index.specs.Rows.{JobRowsValue, builds_of, AreDescending, numbered}
use Rattle.ccr_index.proofs.RowLaws.{parted_rows, row_numbered, no_row}
use Rattle.ccr_index.proofs.rows.JobRows.position.Goals as goal

pub returns-in-Some : goal.returns-in-Some
returns-in-Some c =
    let pool = c.self.inside.pairs.items in
    let rows = c.self.inside.rows.items in
    let n = c.args.number in
    let at = c.partition_point-at.result in
    let r : Row = c.in-Some.row.now in
    let Falls : JobRowsValue → Type 0 = λ v. AreDescending v.builds in
    let falls : AreDescending (builds_of pool rows) = subst Falls (sym c.self.view_is) c.requires in
    let within : at < length rows = omega (arith, c.in-Some.ensures.lookup.3.0, ap length c.deref-2.ensures.value) in
    let is : r ≡ get_or rows at r = c.in-Some.ensures.lookup.1 ∙ ap (λ rs. get_or rs at r) c.deref-2.ensures.value in
    let long : c.len.result ≡ length rows = search rules in
    let V : JobRowsValue → Type 0 = λ v. build_of v.builds (c.len.result - at) ≡ numbered v.builds n in
    subst V c.self.view_is (ap (λ m. build_of (builds_of pool rows) (m - at)) long ∙ row_numbered pool rows at n r falls within is c.if-row-number.true)

pub returns-in_default : goal.returns-in_default
returns-in_default c =
    let pool = c.self.inside.pairs.items in
    let rows = c.self.inside.rows.items in
    let n = c.args.number in
    let at = c.partition_point-at.result in
    let r : Row = c.in-Some.row.now in
    let Falls : JobRowsValue → Type 0 = λ v. AreDescending v.builds in
    let falls : AreDescending (builds_of pool rows) = subst Falls (sym c.self.view_is) c.requires in
    let Parted : List Row → Type 0 = λ rs. IsPartitionedBy (λ r. nat_lt r.number n) rs in
    let Point : List Row → Type 0 = λ rs. IsPartitionPoint (λ r. nat_lt r.number n ≡ true) (λ r. nat_lt r.number n ≡ false) rs at in
    let point : Point rows = subst Point c.deref.ensures.value
    (IsPartitionPoint-from_clause (λ r. nat_lt r.number n) c.deref.result.now _ c.partition_point-at.ensures.partitioned (subst Parted (sym c.deref.ensures.value) (parted_rows pool rows n falls)) (λ a r q k. search rules)) in
    let is : r ≡ get_or rows at r = c.in-Some.ensures.lookup.1 ∙ ap (λ rs. get_or rs at r) c.deref-2.ensures.value in
    let V : JobRowsValue → Type 0 = λ v. None ≡ numbered v.builds n in
    subst V c.self.view_is (no_row pool rows at n falls point (λ d within e. c.if-row-number.false (ap (λ x. x.number) (is ∙ get_or_default rows at r d within) ∙ e)))

pub returns-in_default-2 : goal.returns-in_default-2
returns-in_default-2 c =
    let pool = c.self.inside.pairs.items in
    let rows = c.self.inside.rows.items in
    let n = c.args.number in
    let at = c.partition_point-at.result in
    let Falls : JobRowsValue → Type 0 = λ v. AreDescending v.builds in
    let falls : AreDescending (builds_of pool rows) = subst Falls (sym c.self.view_is) c.requires in
    let Parted : List Row → Type 0 = λ rs. IsPartitionedBy (λ r. nat_lt r.number n) rs in
    let Point : List Row → Type 0 = λ rs. IsPartitionPoint (λ r. nat_lt r.number n ≡ true) (λ r. nat_lt r.number n ≡ false) rs at in
    let point : Point rows = subst Point c.deref.ensures.value
    (IsPartitionPoint-from_clause (λ r. nat_lt r.number n) c.deref.result.now _ c.partition_point-at.ensures.partitioned (subst Parted (sym c.deref.ensures.value) (parted_rows pool rows n falls)) (λ a r q k. search rules)) in
    let lookup = rw c.in_default.is at c.get.ensures.lookup in
    let V : JobRowsValue → Type 0 = λ v. None ≡ numbered v.builds n in
    subst V c.self.view_is (no_row pool rows at n falls point (λ d within e. omega (arith, within, lookup.3, ap length c.deref-2.ensures.value)))
