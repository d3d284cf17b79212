use Rattle.std.proofs.Common.{◌∙◌, List, String, Global, ap, map, flat_map, string_bytes}
use Rattle.serde_json.specs.Data.{string}
use Rattle.ccr_lines.specs.Json.{after_comma}
use Rattle.ccr_lines.proofs.JsonTexts.{array_of_each_seen}
use Rattle.ccr_lines.proofs.jobs_json.push_input.Goals as goal

pub returns : goal.returns
returns c =
    c.in_ok-push_input_of.ensures
    (array_of_each_seen (λ name. string name) string_bytes c.args.input.now.passed.items c.deref-2.result.now
    (c.deref-2.ensures.value ∙ (c.in_ok-passed.ensures
    ∙ ap (λ (names : List (String Global)). flat_map (λ name. after_comma (string (string_bytes name))) names)
    c.deref.ensures.value)))
