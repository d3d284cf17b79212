use Rattle.std.proofs.Common.{◌∙◌, sym, ap}
use Rattle.std.proofs.lemmas.List.Folds.{flat_map-map}
use Rattle.ccr_lines.specs.Standing.{next_data, job_state}
use Rattle.ccr_lines.proofs.standing.jobs_lines.Goals as goal

pub returns : goal.returns
returns c =
    ap (λ v. v.items) c.into_bytes.ensures.value
    ∙ (c.in_ok-text.ensures
    ∙ sym (flat_map-map (λ n. job_state c.args.history.now n.job n.outlook) next_data c.args.next.now))
