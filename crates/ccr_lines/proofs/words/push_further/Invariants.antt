use Rattle.std.proofs.Common.{◌≡◌, ◌++◌, drop, map, string_bytes}
use Rattle.ccr_pipeline.specs.Inputs.{input_data}
use Rattle.ccr_lines.specs.ClashWords.{question_of, further_words}
use Rattle.ccr_lines.proofs.words.push_further.Given as goal

abbrev pub invariant-loop-demand : goal.invariant-loop-demand
invariant-loop-demand l =
    string_bytes l.text
    ++ further_words (question_of l.fn.asked) (map input_data l.inputs) (map string_bytes l.jobs)
    (drop l.demand-index l.demands)
    ≡ string_bytes l.fn.text
    ++ further_words (question_of l.fn.asked) (map input_data l.inputs) (map string_bytes l.jobs) l.demands
