use Rattle.std.proofs.Common.{◌≢◌, ◌<◌, ◌+◌, ℕ, List, [], length, get_or, slice_index, slice_set, sym, subst, arith}
use Rattle.std.specs.Prelude.{All}
use Rattle.std.proofs.lemmas.List.Elements.{All-get_or}
use Rattle.std.proofs.lemmas.Option.{slice_get-get_or}
use Rattle.ccr_choice.specs.Problem.{builds_at}
use Rattle.ccr_choice.specs.Table.{assigned}
use Rattle.ccr_choice.proofs.TableLaws.{table_set}
use Rattle.ccr_resolve.specs.declared.dive.Step.{Step}
use Rattle.ccr_resolve.specs.Search.{free_jobs}
use Rattle.ccr_resolve.proofs.Counting.{free_set}
use Rattle.ccr_resolve.proofs.FullLaws.{full_satisfies}
use Rattle.ccr_resolve.proofs.Steps.{child_known}
use Rattle.ccr_resolve.proofs.dive.+dive.Goals as goal

pub returns-in_default-first_free : goal.returns-in_default-first_free
returns-in_default-first_free t c =
    let p = c.args.index.now.problem in
    let table = c.args.fixed.now in
    let all : (j : ℕ) → j < length p.jobs → slice_index table j ≢ 0 = λ j within. c.in_default-first_free.ensures j (omega (arith, within, c.job_count.ensures.value)) in
    full_satisfies p c.first_empty.ensures.rules table c.requires.known all (c.in_default.ensures.found (assigned p table) c.requires.upper) c.in_ok-full_choice.field-0 c.in_ok-full_choice.ensures

pub dive-requires : goal.dive-requires
dive-requires t c =
    let p = c.args.index.now.problem in
    let table = c.args.fixed.now in
    let j = c.in-Some-first_free.j in
    let builds = builds_at p j in
    let steps = c.deref-step-items.result.now in
    let P : Step → Type 0 = λ s. s.build < length builds in
    let Q : List Step → Type 0 = λ xs. All P xs in
    let step : Step = get_or steps c.loop-step.step-index (record { build = 0; upper = [] }) in
    let k = step.build in
    let within : k < length builds = All-get_or P steps c.loop-step.step-index (record { build = 0; upper = [] }) (omega (arith, c.loop-step-test.true)) (subst Q (sym c.deref-step-items.ensures.value) c.in_ok-steps.ensures) in
    let wide : j < length table = omega (arith, c.in-Some-first_free.ensures.0, c.job_count.ensures.few, c.told-fixed) in
    let build = get_or builds k (record { number = 0; pairs = [] }) in
    let less : free_jobs (slice_set table j (k + 1)) < free_jobs table = free_set table j (k + 1) (λ z. absurd (omega arith)) c.in-Some-first_free.ensures.1 wide in (
      subst (λ x. free_jobs (slice_set table j (k + 1)) < x) c.decreases less,
      (
        child_known p table j k c.requires.known wide within,
        (
          c.lowered-places.ensures (assigned p table) build c.requires.upper (table_set p table j k build wide (slice_get-get_or builds k (record { number = 0; pairs = [] }) within)),
          c.loop-step.invariant,
        ),
      ),
    )
