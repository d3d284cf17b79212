use Rattle.std.proofs.Common.{◌<◌, length, ap, arith}
use Rattle.std.proofs.lemmas.Bool.{leb-true, le-leb, ltb-true}
use Rattle.ccr_choice.specs.Problem.{input_at}
use Rattle.ccr_index.specs.Rows.{last_after}
use Rattle.ccr_index.proofs.RuleLaws.{version_kept, version_asks}
use Rattle.ccr_index.proofs.index.Index.can_add_version.Goals as goal

pub returns-then-last-place : goal.returns-then-last-place
returns-then-last-place c = (
  λ most.
      let p = c.args.self.now.problem in
      let within : c.args.input < length p.inputs = omega (arith, c.if-input-input_count.false, c.input_count.ensures.value) in
      let less : last_after 0 (input_at p c.args.input).places < c.args.place =
      omega (arith, c.if-last-place.true, c.last_place-last.ensures, ap (last_after 0) c.places.ensures, ap (λ x. last_after 0 x.places) c.input.ensures.value) in
      (within, version_kept p c.args.input c.args.place c.input_count.ensures.kept within less (leb-true _ _ most)),
  λ kept.
      le-leb _ _ (version_asks c.args.self.now.problem c.args.input c.args.place kept.0 kept.1).1,
)

pub returns-else-last-place : goal.returns-else-last-place
returns-else-last-place c = (
  λ no. absurd (omega (arith, ltb-true _ _ no, c.if-last-place.false)),
  λ kept.
      let p = c.args.self.now.problem in
      let less = (version_asks p c.args.input c.args.place kept.0 kept.1).0 in
      absurd (omega (
        arith,
        less,
        c.if-last-place.false,
        c.last_place-last.ensures,
        ap (last_after 0) c.places.ensures,
        ap (λ x. last_after 0 x.places) c.input.ensures.value,
      )),
)
