use Rattle.std.proofs.Common.{◌≡◌, ◌<◌, ◌≤◌, true, length, slice_index_or, ap, ◌∙◌, sym, arith}
use Rattle.ccr_choice.specs.Problem.{builds_at, scopes_after, are_pairs_after}
use Rattle.ccr_index.specs.Rows.{no_build}
use Rattle.ccr_index.proofs.RuleLaws.{build_kept, build_asks}
use Rattle.ccr_index.proofs.index.Index.can_add_build.Goals.{then-number-newest_number-via-then-number-newest_number, then-number-newest_number-via-else-number-newest_number+then-number-gt-MOST_BUILDS}
use Rattle.ccr_index.proofs.index.Index.can_add_build.Goals as goal

pub returns : goal.returns
returns c = (
  λ h.
      let p = c.args.self.now.problem in
      let j = c.args.job in
      let within : j < length p.jobs = omega (arith, c.if-job-job_count.false, c.job_count.ensures.value) in
      let newer : (slice_index_or (builds_at p j) 0 no_build).number < c.args.number =
      omega (arith, c.if-number-newest_number.false, c.newest_number.ensures, ap (λ bs. (slice_index_or bs 0 no_build).number) c.rows-rows.ensures.value) in
      let most : c.args.number ≤ 1000000 = omega (arith, c.if-number-gt-MOST_BUILDS.false) in
      let room : length (builds_at p j) < 1000000 = omega (arith, c.if-len.false, c.len.ensures, ap length c.rows-rows.ensures.value) in
      let pairs : are_pairs_after (scopes_after 0 p.inputs) 0 0 c.args.pairs.now ≡ true =
      ap (λ n. are_pairs_after n 0 0 c.args.pairs.now) (sym c.scope_count.ensures) ∙ sym c.are_pairs.ensures ∙ h in
      (within, build_kept p j (record { number = c.args.number; pairs = c.args.pairs.now }) c.job_count.ensures.kept within newer most room pairs),
  λ kept.
      let p = c.args.self.now.problem in
      let asked = build_asks p c.args.job (record { number = c.args.number; pairs = c.args.pairs.now }) kept.0 kept.1 in
      c.are_pairs.ensures ∙ ap (λ n. are_pairs_after n 0 0 c.args.pairs.now) c.scope_count.ensures ∙ asked.pairs,
)

pub returns-then-number-newest_number : goal.returns-then-number-newest_number
returns-then-number-newest_number c = (
  λ no. absurd (cc (no)),
  λ kept.
      let p = c.args.self.now.problem in
      let asked = build_asks p c.args.job (record { number = c.args.number; pairs = c.args.pairs.now }) kept.0 kept.1 in
      let head = ap (λ bs. (slice_index_or bs 0 no_build).number) c.rows-rows.ensures.value in
      elim c.then-number-newest_number.branch [
        | then-number-newest_number-via-then-number-newest_number w ↦ absurd (omega (arith, asked.newer, w.if-number-newest_number.true, c.newest_number.ensures, head))
        | then-number-newest_number-via-else-number-newest_number+then-number-gt-MOST_BUILDS w ↦ absurd (omega (arith, asked.most, w.if-number-gt-MOST_BUILDS.true))
      ],
)

pub returns-then-len : goal.returns-then-len
returns-then-len c = (
  λ no. absurd (cc (no)),
  λ kept.
      let p = c.args.self.now.problem in
      let asked = build_asks p c.args.job (record { number = c.args.number; pairs = c.args.pairs.now }) kept.0 kept.1 in
      absurd (omega (arith, asked.room, c.if-len.true, c.len.ensures, ap length c.rows-rows.ensures.value)),
)
