use Rattle.std.proofs.Common.{◌++◌, ◌∷◌, [], ◌∙◌, ap, map}
use Rattle.ccr_lines.specs.Json.{array_of}
use Rattle.ccr_lines.specs.Listed.{listed_data, listed_json, versions_json}
use Rattle.ccr_lines.proofs.JsonTexts.{array_of_each_seen, line_is}
use Rattle.ccr_lines.proofs.versions.versions_json.Goals as goal

pub returns : goal.returns
returns c =
    line_is (versions_json (map listed_data c.args.listed.now)) c.in_ok-items.items.items c.in_ok-text.text.items
    (array_of_each_seen (λ l. listed_json l) listed_data c.args.listed.now c.in_ok-items.items.items c.in_ok-items.ensures)
    (c.in_ok-text.ensures ∙ ap (λ t. array_of t ++ 10 ∷ []) c.deref.ensures.value)
