-- What holds an input of a job at an older version than there is, by what `explain` says.
use Rattle.std.specs.Prelude.{ℕ, List, [], ◌∷◌, ◌++◌, length, map, flat_map, filter, Bool, true, false, ◌&&◌, ◌||◌, not, nat_lt, Option, Some, None, option_map, if◌then◌else◌, codes, decimal}
use Rattle.std.specs.List.{list_any}
use Rattle.std.specs.Option.{option_map_or}
use Rattle.std.specs.Str.{bytes_eq}
use Rattle.ccr_history.specs.Text.{Text}
use Rattle.ccr_history.specs.Builds.{is_running}
use Rattle.ccr_history.specs.declared.build.Status.{Status}
use Rattle.ccr_history.specs.declared.build.Status.TheVariants.{Running, Succeeded, Failed, Errored, Aborted}
use Rattle.ccr_history.specs.TextMap.{TextMap}
use Rattle.ccr_lines.specs.ExplainedData.{RefusalData, TakenData, ExplainedData}
use Rattle.ccr_lines.specs.JobsJson.{is_due}
use Rattle.ccr_lines.specs.Reasons.{pinned_words}
use Rattle.ccr_lines.specs.Releases.{is_pair}
use Rattle.ccr_lines.specs.Stops.{StopData, stop_data}
use Rattle.ccr_lines.specs.declared.reason.PinnedBy.TheVariants as pinned
use Rattle.ccr_page.specs.Statuses.{is_as_urgent}
use Rattle.ccr_page.specs.declared.data.Urgency.{Urgency}
use Rattle.ccr_page.specs.declared.data.Urgency.TheVariants.{Stopped, Held, Going}
use Rattle.ccr_overview.specs.declared.hold.Hold.{Hold}
use Rattle.ccr_overview.specs.PageData.{WordData, Plain, Cut, Named, Versioned}
use Rattle.ccr_overview.specs.Clashes.{behind_clash}
use Rattle.ccr_overview.specs.Linked.{job_word, build_word}
use Rattle.ccr_overview.specs.Sayings.{version_word}
use Rattle.ccr_overview.specs.Scenes.{ToldData, SceneData}
use Rattle.ccr_overview.specs.Stopping.{pair_of, stop_said}

-- ---- where it stopped
-- how a build stands that has a version, between the two
abbrev pub stands_said : Status → Text
stands_said Running = codes " is running with "
stands_said Succeeded = codes " succeeded without "
stands_said Failed = codes " failed on "
stands_said Errored = codes " errored on "
stands_said Aborted = codes " aborted on "

-- an input takes this pair of scope and place
abbrev pub takes_pair : SceneData → ℕ × ℕ → TakenData → Bool
takes_pair s q t = is_pair q (pair_of s t t.place)

-- it is newer than what an input takes, which says why it doesn't take it
abbrev pub refuses_pair : SceneData → ℕ × ℕ → TakenData → Bool
refuses_pair s q t = list_any (λ r. is_pair q (pair_of s t r.place)) t.newer

-- a job is due with the pair
abbrev pub takes_due : SceneData → ℕ × ℕ → ToldData → Bool
takes_due s q t = is_due t.explained.outlook && list_any (takes_pair s q) t.explained.inputs

-- one of these is the job of this name, and due with the pair
abbrev pub has_due : SceneData → Text → ℕ × ℕ → List ToldData → Bool
has_due s named q told = list_any (λ t. bytes_eq named t.job.name && takes_due s q t) told

-- one of these is the job of this name, and has an input that says why it doesn't take the pair
abbrev pub has_refused : SceneData → Text → ℕ × ℕ → List ToldData → Bool
has_refused s named q told =
    list_any (λ t. bytes_eq named t.job.name && list_any (refuses_pair s q) t.explained.inputs) told

-- how a job of this name stands to a version that no build of it has, between the two
abbrev pub unbuilt_said : SceneData → Text → ℕ × ℕ → Text
unbuilt_said s named q =
    if has_due s named q s.told then codes " is due with "
    else (if has_refused s named q s.told then codes " doesn't take " else codes " hasn't built ")

-- where a version stopped, up to the version: the build, which leads to its row; or the job, which leads to what is said of it
abbrev pub stop_words : SceneData → ℕ × ℕ → Text → Option (ℕ × Status) → List WordData
stop_words s q named (Some b) = build_word s named b.0 ∷ Plain (stands_said b.1) ∷ []
stop_words s q named None = job_word s named ∷ Plain (unbuilt_said s named q) ∷ []

-- ---- the reason
-- the version that an input doesn't take
abbrev pub refused : RefusalData → WordData
refused r = version_word r.version r.place

-- the words say that a pin leaves out a version
abbrev pub is_pinned_words : Text → Bool
is_pinned_words words =
    bytes_eq words (pinned_words pinned.Command) || bytes_eq words (pinned_words pinned.Resource)
    || bytes_eq words (pinned_words pinned.Get)

-- a version that can't be taken, with the demands that exclude each other; or with other words
abbrev pub unmet_words : WordData → Text → Option Text → List WordData
unmet_words v words None = v ∷ Plain (codes ": ") ∷ Cut words 200 ∷ []
unmet_words v words (Some demands) =
    v ∷ Plain (codes " can't be taken, since these can't all hold: ") ∷ Cut demands 200 ∷ []

-- a version that an input doesn't take, by these words of `explain`
abbrev pub other_words : WordData → Text → List WordData
other_words v words =
    if bytes_eq words (codes "disabled") then v ∷ Plain (codes " is disabled") ∷ []
    else (if bytes_eq words (codes "others come first") then v ∷ Plain (codes " has its turn later") ∷ []
    else (if is_pinned_words words then Plain (codes "a pin leaves out ") ∷ v ∷ [] else unmet_words v words (behind_clash words)))

-- WHY AN INPUT DOESN'T TAKE A PLACE: where it stopped, if `explain` says where; or else what `explain` says
abbrev pub reason_words : SceneData → TakenData → RefusalData → Option StopData → List WordData
reason_words s t r (Some stop) = stop_words s (pair_of s t r.place) stop.job stop.build ++ (refused r ∷ [])
reason_words s t r None = other_words (refused r) r.words

-- ---- how urgent it is
-- the words say that a pin or the like leaves out a version
abbrev pub is_held_words : Text → Bool
is_held_words words =
    bytes_eq words (codes "disabled") || bytes_eq words (codes "others come first") || is_pinned_words words

-- the job of this name is due
abbrev pub is_due_job : List ToldData → Text → Bool
is_due_job told named = list_any (λ t. bytes_eq named t.job.name && is_due t.explained.outlook) told

-- a version that stopped goes on by itself: the build that has it runs; or the job that has no build of it is due
abbrev pub goes_on : List ToldData → Text → Option (ℕ × Status) → Bool
goes_on told named (Some b) = is_running b.1
goes_on told named None = is_due_job told named

-- how urgent it is that a version stopped; or that these words say why an input doesn't take it
abbrev pub reason_urgency : List ToldData → Text → Option StopData → Urgency
reason_urgency told words (Some stop) = if goes_on told stop.job stop.build then Going else Stopped
reason_urgency told words None = if is_held_words words then Held else Stopped

-- ---- one input
-- what holds an input: what it takes, a newer place that it doesn't take, where that stopped, and how urgent it is
pub record HoldData : Type 0 where
  pub taken : TakenData
  pub refusal : RefusalData
  pub stop : Option StopData
  pub urgency : Urgency

-- what a value of the program's type stands for
abbrev pub hold_data : Hold → HoldData
hold_data h = record {
  taken = h.taken.now;
  refusal = h.refusal.now;
  stop = option_map stop_data h.stop;
  urgency = h.urgency;
}

-- what holds an input that doesn't take a newer place
abbrev pub hold_of : SceneData → TakenData → RefusalData → HoldData
hold_of s t r = record {
  taken = t;
  refusal = r;
  stop = stop_said s t r;
  urgency = reason_urgency s.told r.words (stop_said s t r);
}

-- the same of the newest of these places; nothing where there is none
abbrev pub hold_in : SceneData → TakenData → List RefusalData → List HoldData
hold_in s t [] = []
hold_in s t (r ∷ rs) = hold_of s t r ∷ []

-- WHAT HOLDS THE INPUTS of a job
abbrev pub holds : SceneData → List TakenData → List HoldData
holds s ts = flat_map (λ t. hold_in s t t.newer) ts

-- ---- in words
-- the resource's name, where the job has several inputs
abbrev pub resource_words : Bool → Text → List WordData
resource_words false named = []
resource_words true named = Named named 40 ∷ Plain (codes " ") ∷ []

-- what an input takes, and why nothing newer
abbrev pub hold_words : SceneData → Bool → HoldData → List WordData
hold_words s several h =
    resource_words several h.taken.resource
    ++ (version_word h.taken.version h.taken.place ∷ Plain (codes ": ") ∷ reason_words s h.taken h.refusal h.stop)

-- ---- together
-- one of these is so urgent
abbrev pub has_urgency : Urgency → List HoldData → Bool
has_urgency u hs = list_any (λ h. is_as_urgent u h.urgency) hs

-- the most urgent of these
abbrev pub worst : List HoldData → Urgency
worst hs = if has_urgency Stopped hs then Stopped else (if has_urgency Held hs then Held else Going)

-- those of these that are so urgent
abbrev pub urgent_ones : Urgency → List HoldData → List HoldData
urgent_ones u hs = filter (λ h. is_as_urgent u h.urgency) hs

-- WHAT IS TOLD of these: the most urgent ones
abbrev pub told_holds : List HoldData → List HoldData
told_holds hs = urgent_ones (worst hs) hs
