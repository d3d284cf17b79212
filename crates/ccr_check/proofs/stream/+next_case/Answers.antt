use Rattle.std.proofs.Common.{◌≡◌, ◌+◌, ◌-◌, ◌<◌, ◌≤◌, ◌++◌, length, get_or, slice_get, refl, sym, ap, ◌∙◌, subst, arith, Some, option_copied}
use Rattle.std.proofs.lemmas.List.{set-set}
use Rattle.std.proofs.lemmas.Option.{slice_get-get_or, get_or_from_slice_get}
use Rattle.ccr_choice.specs.Problem.{builds_at}
use Rattle.ccr_choice.specs.Assignment.{Assignment}
use Rattle.ccr_choice.specs.Table.{assigned}
use Rattle.ccr_choice.specs.Text.{line_text}
use Rattle.ccr_choice.proofs.TableLaws.{table_set}
use Rattle.ccr_check.specs.Streamed.{words_on, IsCase}
use Rattle.ccr_check.proofs.Streams.{case_empty, case_bounded, case_job, cases_end, cases_step}
use Rattle.ccr_check.proofs.Walk.{no_build}
use Rattle.ccr_check.proofs.stream.+next_case.Goals as goal

pub loop-k-preserved : goal.loop-k-preserved
loop-k-preserved t c =
    let p = c.args.problem.now in
    let j = c.in-Job.job in
    let k = c.loop-k.k in
    let a = assigned p c.args.fixed.now in
    let bs = builds_at p j in
    let in_bs : k < length bs = omega (arith, c.loop-k-test.true, ap length c.builds-k-end.ensures.value) in
    let b = get_or bs k no_build in
    let at : slice_get bs k ≡ Some b = slice_get-get_or bs k no_build in_bs in
    let b_at : b ≡ get_or bs k b = sym (get_or_from_slice_get bs k b b at) in
    let set = ap (assigned p) (c.loop-k.invariant.table (k + 1)) ∙ table_set p c.args.fixed.now j k b (omega (arith, c.told-fixed, (c.if-not-is_open.ensures.few refl))) at in
    let P : Assignment → Type 0 = λ x. IsCase p (option_copied c.args.bound) x (c.args.levels - 1) c.loop-k.read c.in-Some-next_case.next.0 c.loop-k.behind.now c.in-Some-next_case.next.1.now in
    let case = subst P set c.in-Some-next_case.ensures in
    record {
      so_far = λ next rest h. c.loop-k.invariant.so_far next rest
          (cases_step p (option_copied c.args.bound) a (c.args.levels - 1) j k c.loop-k.read c.in-Some-next_case.next.0 next b bs c.loop-k.behind.now c.in-Some-next_case.next.1.now rest in_bs b_at case h);
      few = c.in-Some-next_case.ensures.few;
      table = λ v. set-set c.loop-k.inner j (k + 1) v ∙ c.loop-k.invariant.table v;
    }

pub returns-then-has_no_place : goal.returns-then-has_no_place
returns-then-has_no_place t c =
    case_empty c.args.problem.now (option_copied c.args.bound) (assigned c.args.problem.now c.args.fixed.now) c.args.levels c.args.nodes c.in-Empty.input c.args.text.now c.in-Some.rest.now
    (c.in-Some.ensures ∙ ap (λ l. line_text (words_on l) ++ c.in-Some.rest.now) c.in-Empty.is)
    (omega (arith, c.if-input-inputs.true, c.inputs.ensures.few)) (omega (arith, c.if-nodes-ge-MOST_NODES.false)) (c.has_no_place.ensures.0 (cc (c.if-has_no_place.true)))

pub returns-then-is_under : goal.returns-then-is_under
returns-then-is_under t c =
    case_bounded c.args.problem.now (option_copied c.args.bound) (assigned c.args.problem.now c.args.fixed.now) c.args.levels c.args.nodes c.args.text.now c.in-Some.rest.now
    (c.in-Some.ensures ∙ ap (λ l. line_text (words_on l) ++ c.in-Some.rest.now) c.in-Bounded.is)
    (omega (arith, c.if-nodes-ge-MOST_NODES.false)) (c.is_under.ensures.0 (cc (c.if-is_under.true)))

pub returns-after-loop-k : goal.returns-after-loop-k
returns-after-loop-k t c =
    let p = c.args.problem.now in
    let j = c.in-Job.job in
    let a = assigned p c.args.fixed.now in
    let done : length (builds_at p j) ≤ c.loop-k.k = omega (arith, c.loop-k-test.false, ap length c.builds-k-end.ensures.value) in
    case_job p (option_copied c.args.bound) a c.args.levels c.args.nodes c.loop-k.read j c.in-Job.children c.args.text.now c.in-Some.rest.now c.loop-k.behind.now
    (c.in-Some.ensures ∙ ap (λ l. line_text (words_on l) ++ c.in-Some.rest.now) c.in-Job.is)
    (c.if-not-is_open.ensures.counted refl) (omega (arith, c.if-levels-eq0.false)) (omega (arith, (c.if-not-is_open.ensures.few refl))) (c.if-not-is_open.ensures.within refl) (c.if-not-is_open.ensures.free refl) c.loop-k.invariant.few
    (c.loop-k.invariant.so_far c.loop-k.read c.loop-k.behind.now (cases_end p (option_copied c.args.bound) a (c.args.levels - 1) j c.loop-k.k c.loop-k.read (builds_at p j) c.loop-k.behind.now done))
