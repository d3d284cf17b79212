use Rattle.std.proofs.Common.{◌∙◌, sym, ap}
use Rattle.std.proofs.lemmas.List.Folds.{flat_map-map}
use Rattle.ccr_lines.specs.Listed.{listed_data, version_line}
use Rattle.ccr_lines.proofs.versions.versions_text.Goals as goal

pub returns : goal.returns
returns c =
    ap (λ v. v.items) c.into_bytes.ensures.value
    ∙ (c.in_ok-text.ensures ∙ sym (flat_map-map (λ l. version_line l) listed_data c.args.listed.now))
