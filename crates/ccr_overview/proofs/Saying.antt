-- Where a version stopped is what `explain` says.
use Rattle.std.proofs.Common.{◌≡◌, Bool, true, false, cond, Option, Some, None, refl, sym, ap, ◌∙◌}
use Rattle.std.specs.Prelude.{option_and_then}
use Rattle.std.specs.Str.{bytes_eq}
use Rattle.std.proofs.lemmas.Slice.Eq.{bytes_eq-Decides}
use Rattle.ccr_history.specs.Text.{Text}
use Rattle.ccr_lines.specs.ExplainedData.{RefusalData, TakenData}
use Rattle.ccr_lines.specs.Stops.{StopData, stop_words}
use Rattle.ccr_overview.specs.Scenes.{SceneData}
use Rattle.ccr_overview.specs.Stopping.{if_said, stop_before}

-- a stop that is told has these words
told_if : (words : Text) (found stop : StopData) (b : Bool) → bytes_eq (stop_words found) words ≡ b
    → cond b (Some found) None ≡ Some stop → stop_words stop ≡ words
told_if words found stop true is told =
    let same : found ≡ stop = cc (told) in
    ap (λ s. stop_words s) (sym same) ∙ (bytes_eq-Decides (stop_words found) words).0 is
told_if words found stop false is told = absurd (cc (told))

told_by : (words : Text) (o : Option StopData) (stop : StopData) → option_and_then (if_said words) o ≡ Some stop → stop_words stop ≡ words
told_by words (Some found) stop told = told_if words found stop (bytes_eq (stop_words found) words) refl told
told_by words None stop told = absurd (cc (told))

-- a stop that is told has the words of `explain`
pub stop_told : (s : SceneData) (t : TakenData) (r : RefusalData) (stop : StopData)
    → option_and_then (if_said r.words) (stop_before s t r.place) ≡ Some stop → stop_words stop ≡ r.words
stop_told s t r stop told = told_by r.words (stop_before s t r.place) stop told
