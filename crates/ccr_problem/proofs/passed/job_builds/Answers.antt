use Rattle.std.proofs.Common.{◌≡◌, ◌∷◌, [], ◌++◌, ◌+◌, ◌-◌, ◌<◌, ◌≤◌, List, length, map, ap, sym, ◌∙◌, arith, is_some, Some}
use Rattle.std.specs.Prelude.{filter}
use Rattle.ccr_choice.specs.Problem.{BuildValue}
use Rattle.ccr_history.specs.Builds.{BuildData, is_of, is_succeeded}
use Rattle.ccr_problem.specs.Passed.{build_value}
use Rattle.ccr_problem.proofs.Positions.{at_position, length-positions, backwards_more, backwards_none}
use Rattle.ccr_problem.proofs.passed.job_builds.Goals as goal

pub loop-k-init : goal.loop-k-init
loop-k-init c =
    let of_job = is_of c.args.job.now in
    let bs = c.args.history.now.builds in
    let positions = c.builds_of-positions.result.now in
    let past : length (filter of_job bs) ≤ length positions = omega (arith, length-positions of_job bs, ap length c.builds_of-positions.ensures) in
    c.new-builds.ensures.items
    ∙ sym (backwards_none (λ (b : BuildData). is_succeeded b.status) (build_value c.args.scopes.now) (filter of_job bs) (length positions) past)

pub unwrap-build-requires : goal.unwrap-build-requires
unwrap-build-requires c =
    let found = at_position (is_of c.args.job.now) c.args.history.now.builds c.builds_of-positions.result.now (c.loop-k.k - 1) c.builds_of-positions.ensures (omega arith) in
    ap is_some (c.build_at.ensures ∙ found.1)

pub loop-k-preserved : goal.loop-k-preserved
loop-k-preserved c =
    let of_job = is_of c.args.job.now in
    let bs = c.args.history.now.builds in
    let positions = c.builds_of-positions.result.now in
    let k = c.loop-k.k - 1 in
    let build = c.unwrap-build.result in
    let found = at_position of_job bs positions k c.builds_of-positions.ensures (omega arith) in
    let same : Some found.0 ≡ Some build = sym found.1 ∙ sym c.build_at.ensures ∙ c.unwrap-build.ensures in
    let within : k < length (filter of_job bs) = omega (arith, length-positions of_job bs, ap length c.builds_of-positions.ensures) in
    let next : c.loop-k.k ≡ k + 1 = omega arith in
    let more = backwards_more (λ (b : BuildData). is_succeeded b.status) (build_value c.args.scopes.now) (filter of_job bs) k c.loop-k.k build within next (found.2 ∙ same) in
    let last : List BuildValue = map (build_value c.args.scopes.now) (filter (λ b. is_succeeded b.status) (build ∷ [])) in
    c.in_ok-push_build.ensures ∙ ap (λ vs. vs ++ last) c.loop-k.invariant ∙ sym more
