-- What a sentence says of an input is what `explain` says of it.
use Rattle.std.specs.Prelude.{◌≡◌, Some}
use Rattle.ccr_lines.specs.ExplainedData.{RefusalData, TakenData}
use Rattle.ccr_lines.specs.Stops.{StopData, stop_words}
use Rattle.ccr_overview.specs.Scenes.{SceneData}
use Rattle.ccr_overview.specs.Stopping.{stop_said}

-- WHERE A SENTENCE SAYS THAT A VERSION STOPPED, in a build or before a job, `explain` says that it stopped there, word for word
abbrev pub AreExplained : Type 0
AreExplained =
    (s : SceneData) (t : TakenData) (r : RefusalData) (stop : StopData)
    → stop_said s t r ≡ Some stop → stop_words stop ≡ r.words
