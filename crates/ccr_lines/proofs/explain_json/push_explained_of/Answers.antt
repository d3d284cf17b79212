use Rattle.std.proofs.Common.{◌∷◌, [], refl}
use Rattle.serde_json.specs.Data.{boolean, string}
use Rattle.ccr_lines.specs.Json.{list}
use Rattle.ccr_lines.proofs.JsonTexts.{and, last}
use Rattle.ccr_lines.proofs.explain_json.push_explained_of.Goals as goal

pub returns : goal.returns
returns c = λ is l n w inputs before next why.
    c.push_object.ensures.object (boolean c.args.due ∷ list is ∷ string c.args.name.now ∷ l ∷ n ∷ w ∷ [])
    (and refl (and inputs (and refl (and before (and next (last why))))))
