use Rattle.std.proofs.Common.{◌++◌, ◌∷◌, [], ◌∙◌, ap}
use Rattle.ccr_lines.specs.Json.{array_of}
use Rattle.ccr_lines.specs.TraceJson.{went_json, trace_json}
use Rattle.ccr_lines.proofs.JsonTexts.{array_of_each, line_is}
use Rattle.ccr_lines.proofs.trace_json.trace_json.Goals as goal

pub returns : goal.returns
returns c =
    line_is (trace_json c.args.trace.now) c.in_ok-items.items.items c.in_ok-text.text.items
    (array_of_each (λ w. went_json w) c.args.trace.now c.in_ok-items.items.items c.in_ok-items.ensures)
    (c.in_ok-text.ensures ∙ ap (λ t. array_of t ++ 10 ∷ []) c.deref.ensures.value)
