-- Which of the faults of a pipeline's text are told, and how their lines read.
use Rattle.std.specs.Prelude.{◌≡◌, ◌⊎◌, ℕ, ◌<◌, ◌≤◌, List, [], ◌∷◌, ◌++◌, length, map, Bool, false, Option, Some, None, option_and_then, codes, IsUtf8, if◌then◌else◌}
use Rattle.serde_json.specs.Data.{Data, null, boolean, number, string, array, object}
use Rattle.serde_json.specs.Find.{as_str, is_float}
use Rattle.serde_json.specs.Read.{read as json}
use Rattle.serde_json.specs.Written.{compact_text}
use Rattle.ccr_pipeline.specs.declared.fault.Rule.{Rule}
use Rattle.ccr_pipeline.specs.declared.fault.Rule.TheVariants as rule
use Rattle.ccr_pipeline.specs.declared.reader.TheConstants.{MOST_BYTES}
use Rattle.ccr_pipeline.specs.declared.schema.Kind.{Kind}
use Rattle.ccr_pipeline.specs.declared.schema.Kind.TheVariants as kind
use Rattle.ccr_pipeline.specs.Faults.{Path}
use Rattle.ccr_pipeline.specs.JobRules.{list_names}
use Rattle.ccr_pipeline.specs.Keys.{or_else}
use Rattle.ccr_pipeline.specs.Reading.{IsTextOf, pipeline_faults}
use Rattle.ccr_pipeline.specs.Tree.{Text}
use Rattle.ccr_findings.specs.declared.told.More.{More}
use Rattle.ccr_findings.specs.declared.told.More.TheVariants.{Nothing, Wanted, Stands, Both}
use Rattle.ccr_findings.specs.Breaks.{break_lines}
use Rattle.ccr_findings.specs.Floats.{float_in}
use Rattle.ccr_findings.specs.Near.{nearest}
use Rattle.ccr_findings.specs.Stands.{is_within, StandData, stand_on}
use Rattle.ccr_findings.specs.Undone.{last_key, undone_words}

-- what a refusal says: the rule that is broken, and where; nothing of memory
abbrev pub Told : Type 0
Told = Option (Rule × Path)

-- where a fault is
abbrev pub path_in : Told → Path
path_in None = []
path_in (Some f) = f.1

-- where a value is of the wrong kind, if a fault tells of one
abbrev pub kind_path : Told → Option Path
kind_path None = None
kind_path (Some (rule.Kind, p)) = Some p
kind_path (Some (r, p)) = None

-- a fault only follows from another one: the other is that a value is of the wrong kind, and this one is told of the same
-- value or of a place in it
abbrev pub follows : Told → Told → Bool
follows f g = or_else (kind_path f) false (λ p. is_within p (path_in g))

-- the faults after one that is told, but those that only follow from the last one told
abbrev pub told_after : Told → List Told → List Told
told_after f [] = []
told_after f (g ∷ gs) = if follows f g then told_after f gs else g ∷ told_after g gs

-- all faults, but those that only follow from the last one told
abbrev pub told_of : List Told → List Told
told_of [] = []
told_of (f ∷ fs) = f ∷ told_after f fs

-- the words of a rule that is broken
abbrev pub words_of : Rule → Text
words_of rule.Length = codes "too long"
words_of rule.Json = codes "not JSON"
words_of rule.Presence = codes "missing"
words_of rule.Kind = codes "wrong kind"
words_of rule.Name = codes "bad name"
words_of rule.Once = codes "repeated"
words_of rule.OneStep = codes "no step"
words_of rule.OnlyOneStep = codes "two steps"
words_of rule.KnownResource = codes "unknown resource"
words_of rule.KnownJob = codes "unknown job"
words_of rule.Attempts = codes "bad attempts"
words_of rule.Depth = codes "too deep"
words_of rule.Number = codes "too many"
words_of rule.Supported = codes "unsupported"
words_of rule.Whole = codes "number not whole"

-- the words of a fault
abbrev pub words_at : Told → Text
words_at None = codes "out of memory"
words_at (Some f) = words_of f.0

-- what the line of a fault tells beside its path: nothing, what is wanted there, what stands there, or both
abbrev pub more_by : Rule → More
more_by rule.Length = Nothing
more_by rule.Json = Nothing
more_by rule.Presence = Wanted
more_by rule.Kind = Both
more_by rule.Name = Stands
more_by rule.Once = Stands
more_by rule.OneStep = Nothing
more_by rule.OnlyOneStep = Nothing
more_by rule.KnownResource = Stands
more_by rule.KnownJob = Stands
more_by rule.Attempts = Stands
more_by rule.Depth = Nothing
more_by rule.Number = Nothing
more_by rule.Supported = Stands
more_by rule.Whole = Nothing

-- what that of a fault tells
abbrev pub more_at : Told → More
more_at None = Nothing
more_at (Some f) = more_by f.0

-- what is said where a rule is broken of what keeps it; nothing where that is said of the place
abbrev pub rule_words : Rule → Text
rule_words rule.Length = []
rule_words rule.Json = []
rule_words rule.Presence = []
rule_words rule.Kind = []
rule_words rule.Name = codes "; a name has 1 to 128 bytes, no / and no control character, and isn't . or .."
rule_words rule.Once = []
rule_words rule.OneStep = codes ": a step has one of get, put, task, do, in_parallel and try"
rule_words rule.OnlyOneStep = codes ": a step has only one of get, put, task, do, in_parallel and try"
rule_words rule.KnownResource = []
rule_words rule.KnownJob = []
rule_words rule.Attempts = codes "; attempts are from 1 to 100, and multiplied with those around them at most 10000"
rule_words rule.Depth = codes ": steps nest at most 30 deep"
rule_words rule.Number = codes ": at most 200 resources and 200 jobs; in a job at most 32 inputs, and 32 jobs in passed"
rule_words rule.Supported = []
rule_words rule.Whole = codes ": write it as a text, in quotes; a number is whole here, and has 64 bits at most"

-- the same of a fault; where something isn't supported, what to do in its place
abbrev pub rule_words_at : Told → Text
rule_words_at None = []
rule_words_at (Some (rule.Supported, p)) = undone_words (last_key p p)
rule_words_at (Some (r, p)) = rule_words r

-- what is wanted, in words
abbrev pub wanted_words : Kind → Text
wanted_words kind.Text = codes "a text"
wanted_words kind.Name = codes "a name"
wanted_words kind.OwnName = codes "a text"
wanted_words kind.Texts = codes "a list of texts"
wanted_words kind.Truth = codes "true or false"
wanted_words kind.Whole = codes "a whole number from 0 on"
wanted_words kind.Params = codes "an object"
wanted_words kind.Fields = codes "an object of texts"
wanted_words kind.Nothing = codes "an object"
wanted_words kind.Wanted = codes "\"latest\", \"every\" or an object of texts"
wanted_words (kind.Object s) = codes "an object"
wanted_words (kind.Objects s) = codes "a list of objects"
wanted_words kind.Steps = codes "a list of steps"
wanted_words kind.Parallel = codes "a list of steps or an object"
wanted_words kind.Step = codes "an object"
wanted_words kind.Attempts = codes "a whole number from 1 to 100"
wanted_words kind.Any = codes "any value"
wanted_words kind.Undone = codes "no value"

-- a truth as JSON writes it
abbrev pub truth_word : Bool → Text
truth_word b = if b then codes "true" else codes "false"

-- a value as a line shows it: a word, a number or a text as JSON writes it, and of the others what they are
abbrev pub shown : Data → Text
shown null = codes "null"
shown (boolean b) = truth_word b
shown (number n) = if is_float n then codes "a number that isn't whole" else compact_text (number n)
shown (string s) = compact_text (string s)
shown (array ds) = codes "a list"
shown (object ms) = codes "an object"

-- what stands at a place
abbrev pub shown_at : StandData → Text
shown_at s = or_else s.value (codes "nothing") shown

-- what a line tells beside a path, of the place
abbrev pub more_words : More → StandData → Text
more_words Nothing s = []
more_words Wanted s = codes ": " ++ wanted_words s.kind
more_words Stands s = codes ": " ++ shown_at s
more_words Both s = codes ": " ++ (shown_at s ++ (codes ", not " ++ wanted_words s.kind))

-- the text at a place, or none
abbrev pub name_at : Option StandData → Text
name_at o = or_else (option_and_then as_str (option_and_then (λ s. s.value) o)) [] (λ name. name)

-- a name that is meant, if there is one that is near
abbrev pub meant : Option Text → Text
meant None = []
meant (Some name) = codes ": " ++ (name ++ codes "?")

-- the line of a name that isn't there, with the nearest of those that are
abbrev pub named_line : Text → Text → List Text → Path → Text
named_line word name names p =
    codes "unknown " ++ (word ++ (codes " " ++ (compact_text (string name) ++ (codes " at "
    ++ (p ++ meant (nearest names name))))))

-- what a name is of that isn't there, and the key of the list in which it isn't, if a fault tells of one
abbrev pub unknown_in : Told → Option (Text × Text)
unknown_in None = None
unknown_in (Some (rule.KnownResource, p)) = Some (codes "resource", codes "resources")
unknown_in (Some (rule.KnownJob, p)) = Some (codes "job", codes "jobs")
unknown_in (Some (r, p)) = None

-- what a line tells of a fault's place behind its path
abbrev pub place_words : Told → Option StandData → Text
place_words f o = or_else o [] (more_words (more_at f))

-- what stands at a place, if anything does
abbrev pub value_at : Option StandData → Option Data
value_at o = option_and_then (λ s. s.value) o

-- where a number stands that isn't whole, if a fault tells of one
abbrev pub float_at : Told → Option StandData → Option Path
float_at None o = None
float_at (Some (rule.Whole, p)) o = option_and_then (float_in p) (value_at o)
float_at (Some (r, p)) o = None

-- the line of a fault at this path, and of this place
abbrev pub line_at : Told → Path → Option StandData → Text
line_at f p o = words_at f ++ (codes " at " ++ (p ++ (place_words f o ++ rule_words_at f)))

-- the line of a fault that tells of no name, at this place; of a number that isn't whole it has the number's own path
abbrev pub plain_line : Told → Option StandData → Text
plain_line f o = line_at f (or_else (float_at f o) (path_in f) (λ p. p)) o

-- the line of a fault at this place, which may tell of a name
abbrev pub line_by : Data → Told → Option (Text × Text) → Option StandData → Text
line_by d f None o = plain_line f o
line_by d f (Some u) o = named_line u.0 (name_at o) (list_names u.1 d) (path_in f)

-- THE LINE OF A FAULT IN THIS VALUE
abbrev pub fault_line : Data → Told → Text
fault_line d f = line_by d f (unknown_in f) (stand_on d (path_in f))

-- THE LINES OF ALL FAULTS IN A VALUE, in the order in which they count
abbrev pub value_lines : Data → List Told → List Text
value_lines d fs = map (fault_line d) (told_of fs)

-- THE LINES OF ALL THAT IS WRONG WITH THE BYTES OF A PIPELINE: they are too many; or they are no JSON value, and the lines
-- show where they stop being one; or each fault that is present in their value has its line, but for what only follows from
-- what was told. There are none of a pipeline without a fault
abbrev pub AreLines : List ℕ → List Text → Type 0
AreLines bytes lines =
    ((MOST_BYTES < length bytes) × (lines ≡ codes "too long at pipeline" ∷ []))
    ⊎ (((length bytes ≤ MOST_BYTES) × (IsUtf8 bytes → json bytes ≡ None)
    × ((at : ℕ) × (at ≤ length bytes) × (lines ≡ break_lines bytes at)))
    ⊎ ((d : Data) × IsTextOf bytes d × (lines ≡ value_lines d (map (λ f. Some f) (pipeline_faults d)))))
