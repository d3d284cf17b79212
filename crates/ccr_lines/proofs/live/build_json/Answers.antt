use Rattle.std.proofs.Common.{◌∙◌, map}
use Rattle.ccr_lines.specs.ReleaseJson.{took_json}
use Rattle.ccr_lines.proofs.JsonTexts.{array_of_each}
use Rattle.ccr_lines.proofs.live.build_json.Goals as goal

pub returns : goal.returns
returns c =
    let h = c.args.history.now in
    let b = c.args.build.now in
    c.in_ok-text.ensures (map (λ u. took_json h.tables u) b.used)
    (array_of_each (λ u. took_json h.tables u) b.used c.deref.result.now (c.deref.ensures.value ∙ c.in_ok-inputs.ensures))
