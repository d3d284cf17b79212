use Rattle.std.proofs.Common.{◌∷◌, [], refl, option_copied}
use Rattle.serde_json.specs.Data.{number, unsigned, string}
use Rattle.ccr_lines.specs.Json.{list, fields_json}
use Rattle.ccr_lines.proofs.JsonTexts.{and, last}
use Rattle.ccr_lines.proofs.explain_json.push_taken_of.Goals as goal

pub returns : goal.returns
returns c = λ ns ps newer passed.
    c.push_item.ensures.object
    (string c.args.name.now ∷ list ns ∷ list ps ∷ number (unsigned c.args.place) ∷ string c.args.resource.now
    ∷ fields_json (option_copied c.args.version) ∷ [])
    (and refl (and newer (and passed (and refl (and refl (last refl))))))
