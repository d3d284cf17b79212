-- What is found in a pipeline's file.
use Rattle.std.specs.Prelude.{◌≡◌, ℕ, List, [], ◌∷◌, ◌++◌, flat_map, Bool, true, false, Option, Some, None, IsSome, Result, Ok, Err, codes, is_some, slice_get, string_bytes, if◌then◌else◌}
use Rattle.std.specs.Str.{bytes_eq}
use Rattle.serde_json.specs.Data.{Data}
use Rattle.ccr_history.specs.Text.{Text}
use Rattle.ccr_pipeline.specs.declared.fault.ReadFault.{ReadFault}
use Rattle.ccr_pipeline.specs.Faults.{fault_of}
use Rattle.ccr_pipeline.specs.Pipelines.{PipelineData}
use Rattle.ccr_pipeline.specs.Reading.{pipeline_faults, IsTextOf, Refuses}
use Rattle.ccr_task.specs.Calls.{CallData}
use Rattle.ccr_task.specs.declared.fault.ShelfFault.{ShelfFault}
use Rattle.ccr_task.specs.declared.fault.ShelfFault.TheVariants as shelf_fault
use Rattle.ccr_findings.specs.All.{found_in_pipeline, AreFindings}
use Rattle.ccr_findings.specs.Cycles.{AddsCycle}
use Rattle.ccr_findings.specs.Findings.{FindingData, findings_data, is_faultless, is_wrong, kinds}
use Rattle.ccr_findings.specs.Told.{AreLines}
use Rattle.ccr_findings.specs.declared.finding.Finding.{Finding}
use Rattle.ccr_serve.specs.Commanding.{ArePipeline, IsRead}
use Rattle.ccr_serve.specs.declared.fault.ServeFault.{ServeFault}
use Rattle.ccr_serve.specs.declared.fault.ServeFault.TheVariants.{Read, File, NoMemory}
use Rattle.ccr_run.specs.Hints.{HintData, about}
use Rattle.ccr_run.specs.Refusals.{RefusalData, of_server}
use Rattle.ccr_run.specs.Typed.{is_option}
use Rattle.ccr_run.specs.declared.found.Validation.{Validation}

-- ---- what is found
-- THE FINDINGS OF A TEXT: it is that of a pipeline, and they are all that the definitions find in this and in the text's value, in this
-- order, and behind that what is told of jobs that wait for each other
abbrev pub AreFound : Text → List Finding → Type 0
AreFound text findings =
    (d : Data) × IsTextOf text d × ((p : PipelineData) × ArePipeline text p
    × AddsCycle p.jobs (found_in_pipeline p.jobs d) (findings_data findings))

-- WHAT COMES OF A SEARCH in a text: its findings; or it is refused, for the first of its faults; of memory nothing is said
abbrev pub Finds : Text → Result (List Finding) ReadFault → Type 0
Finds text (Ok findings) = AreFound text findings
Finds text (Err fault) = Refuses (codes "pipeline") pipeline_faults text (fault_of fault)

-- ---- what is printed of it
-- a line, with its end
abbrev pub line_text : Text → Text
line_text line = line ++ 10 ∷ []

-- these lines
abbrev pub lines_text : List Text → Text
lines_text lines = flat_map line_text lines

-- the line of what was found
abbrev pub finding_line : Finding → Text
finding_line f = line_text (string_bytes f.line)

-- these lines
abbrev pub findings_text : List Finding → Text
findings_text findings = flat_map finding_line findings

-- the line of what is wrong; of anything else there is none
abbrev pub wrong_line : FindingData → Text
wrong_line f = if is_wrong f.kind then line_text f.line else []

-- these lines
abbrev pub wrong_text : List FindingData → Text
wrong_text findings = flat_map wrong_line findings

-- THE LINES OF A TEXT THAT IS REFUSED: those of all that is wrong with it, in the order in which it counts, the first one too; and
-- those of its keys and texts that don't do what they seem to say
abbrev pub IsRefusedText : Text → Text → Type 0
IsRefusedText text shown =
    (faults : List Text) × AreLines text faults × ((found : List FindingData) × AreFindings text found
    × (shown ≡ lines_text faults ++ wrong_text found))

-- these lines are printed, with what was printed before and after
abbrev pub PrintsRefused : Text → Text → Text → Type 0
PrintsRefused text old new = (shown : Text) × IsRefusedText text shown × (new ≡ old ++ shown)

-- ---- validations
-- a file that is to be validated, and whether that is to be strict
pub record ValidationData : Type 0 where
  pub path : Text
  pub is_strict : Bool

-- what a value of the program's type stands for
abbrev pub validation_data : Validation → ValidationData
validation_data v = record { path = v.path.now; is_strict = v.is_strict }

-- the word is that of the command
abbrev pub is_validate : Option Text → Bool
is_validate None = false
is_validate (Some word) = bytes_eq word (codes "validate-pipeline")

-- the words are those of the command
abbrev pub is_validation : List Text → Bool
is_validation words = is_validate (slice_get words 1)

-- what two words behind the command's order, or one: a file, and `--strict` before it or behind it
abbrev pub validation_with : Text → Option Text → Option ValidationData
validation_with first None = if is_option first then None else Some (record { path = first; is_strict = false })
validation_with first (Some second) =
    if bytes_eq second (codes "--strict") then Some (record { path = first; is_strict = true })
    else if bytes_eq first (codes "--strict") then Some (record { path = second; is_strict = true })
    else None

-- what the words behind the command's order: at least one, and at most two
abbrev pub validation_by : Option Text → Option Text → Option Text → Option ValidationData
validation_by None second third = None
validation_by (Some first) second third = if is_some third then None else validation_with first second

-- WHAT WORDS ORDER to be validated
abbrev pub validation_in : List Text → Option ValidationData
validation_in words = validation_by (slice_get words 2) (slice_get words 3) (slice_get words 4)

-- what came of a text's validation: the lines of what was found are printed, and whether nothing of it is a reason to refuse the
-- pipeline; or the text is refused for its first fault, and the lines of all are printed; or it was out of memory, and nothing is
abbrev pub ValidatesText : Bool → Text → Result Bool ServeFault → Text → Text → Type 0
ValidatesText strict text (Ok good) old new =
    (findings : List Finding) × AreFound text findings
    × ((good ≡ is_faultless strict (kinds findings)) × (new ≡ old ++ findings_text findings))
ValidatesText strict text (Err (Read f)) old new = IsSome (fault_of f) × (Finds text (Err f) × PrintsRefused text old new)
ValidatesText strict text (Err NoMemory) old new = new ≡ old
ValidatesText strict text (Err fault) old new = ⊥

-- a file that can't be read is told as that, and out of memory as such
abbrev pub unread : ShelfFault → ServeFault
unread shelf_fault.NoMemory = NoMemory
unread fault = File

-- what came of a file's validation: what came of its text's; or it can't be read, and nothing is printed
abbrev pub ValidatesFile : Bool → Result Text ShelfFault → Result Bool ServeFault → Text → Text → Type 0
ValidatesFile strict (Ok text) end old new = ValidatesText strict text end old new
ValidatesFile strict (Err fault) end old new = (end ≡ Err (unread fault)) × (new ≡ old)

-- WHAT CAME OF A VALIDATION, with a shelf's calls and with what was printed before and after: the file was read, which was the one
-- call, and this came of it
abbrev pub Validates : ValidationData → Result Bool ServeFault → List CallData → List CallData → Text → Text → Type 0
Validates v end before after old new =
    (file : Result Text ShelfFault) × IsRead v.path file before after × ValidatesFile v.is_strict file end old new

-- THE STATUS OF A VALIDATION: 0 where nothing is a reason, else 1, and 4 where not all lines went out; or that of the refusal
abbrev pub validated_status : Result Bool ServeFault → Bool → ℕ
validated_status (Err fault) is_printed = (of_server fault).status
validated_status (Ok good) false = 4
validated_status (Ok true) true = 0
validated_status (Ok false) true = 1

-- what a validation tells: its refusal
abbrev pub refusal_in : Result Bool ServeFault → Option RefusalData
refusal_in (Ok good) = None
refusal_in (Err fault) = Some (of_server fault)

-- what to do about a validation of the file at a path: of one that can't be read, where to look
abbrev pub hint_in : Text → Result Bool ServeFault → Option HintData
hint_in path (Err File) = Some (about path (codes "is it there, is it a file of at most 1 MiB, and may you read it?"))
hint_in path end = None
