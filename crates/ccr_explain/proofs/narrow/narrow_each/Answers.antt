use Rattle.std.proofs.Common.{◌∙◌, ◌<◌, [], ℕ, List, Vec, Global, length, subst, sym, ap, arith}
use Rattle.std.specs.Prelude.{All}
use Rattle.std.proofs.lemmas.List.{length-set}
use Rattle.std.proofs.lemmas.List.Elements.{All-nil, All-cons, All-append, All-weaker}
use Rattle.ccr_choice.specs.Problem.{InputValue}
use Rattle.ccr_explain.specs.Cut.{IsNarrowed, IsEnough}
use Rattle.ccr_explain.proofs.NarrowLaws.{narrowed_first, narrowed_twice, rises_too, enough_first, enough_narrowed}
use Rattle.ccr_explain.proofs.narrow.narrow_each.Goals.{in-Some+in_ok-useful+in_ok-push, in_default}
use Rattle.ccr_explain.proofs.narrow.narrow_each.Goals as goal

pub loop-init : goal.loop-init
loop-init c =
    let P : List (ℕ × Vec ℕ Global) → Type 0 = λ ss. All (λ s. IsEnough c.args.problem.now c.args.order.now c.args.inputs.now.items s.0 s.1.items) ss in
    let W : List (ℕ × Vec ℕ Global) → Type 0 = λ ss. All (λ s. s.0 < length c.args.order.now) ss in
    record {
      narrowed = narrowed_first c.args.problem.now c.args.order.now c.args.inputs.now.items;
      enough = subst P (sym c.new-looked.ensures.items) (All-nil _);
      within = subst W (sym c.new-looked.ensures.items) (All-nil _);
      done = omega (arith, c.in_ok-is_done.ensures.len);
    }

pub narrow_by-requires-clause-rising : goal.narrow_by-requires-clause-rising
narrow_by-requires-clause-rising c =
    rises_too c.args.problem.now c.args.order.now c.args.inputs.now.items c.loop.inputs.items c.loop.invariant.narrowed c.requires.rising

pub loop-preserved : goal.loop-preserved
loop-preserved c =
    let p = c.args.problem.now in
    let order = c.args.order.now in
    let first = c.args.inputs.now.items in
    let now = c.loop.inputs.items in
    let E : List InputValue → ℕ × Vec ℕ Global → Type 0 = λ zs s. IsEnough p order zs s.0 s.1.items in
    let P : List InputValue → Type 0 = λ zs. IsNarrowed p order first zs in
    let Q : List (ℕ × Vec ℕ Global) → Type 0 = λ ss. All (E c.match-next_job.inputs.items) ss in
    let In : ℕ × Vec ℕ Global → Type 0 = λ s. s.0 < length order in
    let W : List (ℕ × Vec ℕ Global) → Type 0 = λ ss. All In ss in
    elim c.match-next_job.branch [
      | in-Some+in_ok-useful+in_ok-push w ↦ (let next = w.narrow_by.new.inputs.items in
          let R : List InputValue → Type 0 = λ zs. All (E zs) w.push.new.self.items in
          let S : List (ℕ × Vec ℕ Global) → Type 0 = λ ss. All (E next) ss in
          let narrowed = w.in_ok-useful.ensures.narrowed in
          let before = All-weaker (E now) (E next) (λ s h. enough_narrowed p order now next s.0 s.1.items narrowed h) c.loop.looked.items c.loop.invariant.enough in
          let one : E next (w.in-Some.job, w.in_ok-useful.useful) = enough_narrowed p order now next w.in-Some.job w.in_ok-useful.useful.items narrowed
          (enough_first p order now w.in-Some.job w.in_ok-useful.useful.items w.in_ok-useful.ensures.useful) in
          record {
            narrowed = subst P (sym (ap (λ v. v.items) w.inputs-is)) (narrowed_twice p order first now next c.loop.invariant.narrowed narrowed);
            enough = subst Q (sym (ap (λ v. v.items) w.looked-is)) (subst R (sym (ap (λ v. v.items) w.inputs-is)) (subst S (sym w.in_ok-push.ensures.items)
                (All-append (E next) c.loop.looked.items _ before (All-cons (E next) _ [] one (All-nil (E next))))));
            within = subst W (sym (ap (λ v. v.items) w.looked-is)) (subst W (sym w.in_ok-push.ensures.items)
                (All-append In c.loop.looked.items _ c.loop.invariant.within (All-cons In _ [] (omega (arith, w.in-Some.ensures, c.loop.invariant.done)) (All-nil In))));
            done = ap (λ v. length v.items) w.is_done-is ∙ length-set c.loop.is_done.items w.in-Some.job _ ∙ c.loop.invariant.done;
          })
      | in_default w ↦ (let R : List InputValue → Type 0 = λ zs. All (E zs) c.loop.looked.items in
          record {
            narrowed = subst P (sym (ap (λ v. v.items) w.inputs-is)) c.loop.invariant.narrowed;
            enough = subst Q (sym (ap (λ v. v.items) w.looked-is)) (subst R (sym (ap (λ v. v.items) w.inputs-is)) c.loop.invariant.enough);
            within = subst W (sym (ap (λ v. v.items) w.looked-is)) c.loop.invariant.within;
            done = ap (λ v. length v.items) w.is_done-is ∙ c.loop.invariant.done;
          })
    ]
