use Rattle.std.proofs.Common.{◌≡◌, ◌∙◌, ap, sym, refl, arith, length, Some}
use Rattle.std.proofs.lemmas.Option.{slice_get_within}
use Rattle.std.proofs.lemmas.List.{length-map}
use Rattle.ccr_history.specs.Builds.{BuildData, build_of}
use Rattle.ccr_history.specs.Rows.{build_data}
use Rattle.ccr_history.proofs.Added.{found_status, runs, runs_not}
use Rattle.ccr_history.proofs.builds.Builds.running_at.Goals as goal

found_running : (c : goal.Then-is_running) → (b : BuildData) × (build_of c.args.job.now c.args.number c.args.self.now ≡ Some b) × (b.status ≡ c.status.result)
found_running c =
    let s = c.self.inside in
    let r = c.status.ensures in
    let f = found_status s.jobs s.inputs s.made.rows c.args.self.now c.in-Some.position c.args.job.now c.args.number r.0 c.self.view_is c.in-Some.ensures.only r.1 in
    (f.0, f.1, f.2 ∙ r.2)

found_ended : (c : goal.Else-is_running) → (b : BuildData) × (build_of c.args.job.now c.args.number c.args.self.now ≡ Some b) × (b.status ≡ c.status.result)
found_ended c =
    let s = c.self.inside in
    let r = c.status.ensures in
    let f = found_status s.jobs s.inputs s.made.rows c.args.self.now c.in-Some.position c.args.job.now c.args.number r.0 c.self.view_is c.in-Some.ensures.only r.1 in
    (f.0, f.1, f.2 ∙ r.2)

pub returns-then-is_running-clause-no_build : goal.returns-then-is_running-clause-no_build
returns-then-is_running-clause-no_build c = let f = found_running c in (λ e. absurd (cc), λ e. absurd (cc (f.1, e)))

pub returns-then-is_running-clause-already : goal.returns-then-is_running-clause-already
returns-then-is_running-clause-already c =
    let f = found_running c in
    let running = f.2 ∙ runs c.status.result (sym c.is_running.ensures ∙ c.if-is_running.true) in
    (λ e. absurd (cc), λ h. absurd (h.2 (let same : h.0 ≡ f.0 = cc (f.1, h.1) in ap (λ b. b.status) same ∙ running)))

pub returns-then-is_running-clause-running : goal.returns-then-is_running-clause-running
returns-then-is_running-clause-running c =
    let f = found_running c in
    let running = f.2 ∙ runs c.status.result (sym c.is_running.ensures ∙ c.if-is_running.true) in
    (λ _. (f.0, f.1, running), λ _. refl)

pub returns-else-is_running-clause-no_build : goal.returns-else-is_running-clause-no_build
returns-else-is_running-clause-no_build c = let f = found_ended c in (λ e. absurd (cc), λ e. absurd (cc (f.1, e)))

pub returns-else-is_running-clause-already : goal.returns-else-is_running-clause-already
returns-else-is_running-clause-already c =
    let f = found_ended c in
    let over = runs_not c.status.result (sym c.is_running.ensures ∙ c.if-is_running.false) in
    (λ _. (f.0, f.1, λ e. over (sym f.2 ∙ e)), λ _. refl)

pub returns-else-is_running-clause-running : goal.returns-else-is_running-clause-running
returns-else-is_running-clause-running c =
    let f = found_ended c in
    let over = runs_not c.status.result (sym c.is_running.ensures ∙ c.if-is_running.false) in
    (λ e. absurd (cc), λ h. absurd (over (sym f.2 ∙ (let same : f.0 ≡ h.0 = cc (f.1, h.1) in ap (λ b. b.status) same ∙ h.2))))

pub status-requires : goal.status-requires
status-requires c =
    let s = c.self.inside in
    let only = c.in-Some.ensures.only in
    omega (arith, slice_get_within c.args.self.now c.in-Some.position only.it only.here, ap length c.self.view_is, length-map s.made.rows (build_data s.jobs s.inputs))
