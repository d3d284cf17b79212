-- What the program tells on standard error as it ends.
use Rattle.std.specs.Prelude.{◌≡◌, ℕ, List, [], ◌∷◌, ◌++◌, flat_map, codes, decimal, Bool, true, false, not, ◌==◌, ◌&&◌, Option, None, Some, option_map, Result, Ok, Err, string_bytes, if◌then◌else◌}
use Rattle.std.specs.List.{list_any}
use Rattle.ccr_history.specs.Text.{Text}
use Rattle.ccr_findings.specs.declared.finding.Finding.{Finding}
use Rattle.ccr_findings.specs.declared.finding.Kind.{Kind}
use Rattle.ccr_findings.specs.declared.finding.Kind.TheVariants.{Unused, Vars}
use Rattle.ccr_findings.specs.Findings.{is_wrong, kinds}
use Rattle.ccr_core.specs.declared.command.Command.{Command}
use Rattle.ccr_core.specs.declared.command.Command.TheVariants.{SetPipeline, Show}
use Rattle.ccr_core.specs.declared.shown.Shown.{Shown}
use Rattle.ccr_core.specs.declared.shown.Shown.TheVariants.{Proof, Certificate}
use Rattle.ccr_pipeline.specs.declared.fault.ReadFault.{ReadFault}
use Rattle.ccr_run.specs.declared.failure.Failure.{Failure}
use Rattle.ccr_run.specs.declared.order.Order.{Order}
use Rattle.ccr_run.specs.declared.run.Outcome.{Outcome}
use Rattle.ccr_run.specs.declared.telling.Telling.{Telling}
use Rattle.ccr_run.specs.declared.telling.ToldRefusal.{ToldRefusal}
use Rattle.ccr_run.specs.Found.{Finds}
use Rattle.ccr_run.specs.Hints.{HintData, about, hint_data, hint_of, hint_text, unset}
use Rattle.ccr_run.specs.Refusals.{RefusalData, refusal_of, refusal_text}
use Rattle.ccr_run.specs.Writers.{WriterData, GetsLines}

-- ---- what is told
-- the lines of what was found in a pipeline that was set, with what to do about it, or that none is set; the budget that a search would
-- go over, a refusal, what to do about it, and that not all lines went out
pub record ToldData : Type 0 where
  pub gates : Option (List Text)
  pub budget : Option ℕ
  pub refusal : Option RefusalData
  pub hint : Option HintData
  pub is_unprinted : Bool

-- nothing of it
abbrev pub nothing_told : ToldData
nothing_told = record { gates = None; budget = None; refusal = None; hint = None; is_unprinted = false }

-- the line of a finding of this kind, but of a key of Concourse without effect
abbrev pub told_line : Kind → Text → List Text
told_line Unused line = []
told_line kind line = line ∷ []

-- a finding is of a text that a variable was to replace
abbrev pub is_vars : Kind → Bool
is_vars Vars = true
is_vars kind = false

-- the lines of these findings, but of keys of Concourse without effect
abbrev pub told_lines : List Finding → List Text
told_lines findings = flat_map (λ f. told_line f.kind (string_bytes f.line)) findings

-- a finding is of a key of Concourse without effect
abbrev pub is_unused : Kind → Bool
is_unused Unused = true
is_unused kind = false

-- a finding is of what has to be corrected: of a text that a variable was to replace it is told by itself what to do
abbrev pub is_corrected : Kind → Bool
is_corrected kind = is_wrong kind && not (is_vars kind)

-- of a variable it is told what it means
abbrev pub vars_line : Text
vars_line = codes "hint: vars: no variable is put in, and a text with ((..)) stays as it stands: write its value in its place, and set it again, unless it is arithmetic of a shell"

-- of a key of Concourse without effect it is told what replaces it
abbrev pub unused_line : Text
unused_line = codes "hint: unused: these keys of Concourse have no effect; ccr_run validate-pipeline FILE says of each what to do instead"

-- of a pipeline that doesn't do what it seems to say it is told that it is set
abbrev pub set_line : Text
set_line = codes "hint: it is set all the same; correct what is named above, and set it again"

-- the line of variables, if there are any among these
abbrev pub vars_lines : List Kind → List Text
vars_lines kinds = if list_any is_vars kinds then vars_line ∷ [] else []

-- the line of keys without effect, if there are any among these
abbrev pub unused_lines : List Kind → List Text
unused_lines kinds = if list_any is_unused kinds then unused_line ∷ [] else []

-- the line that it is set, if a kind among these has to be corrected
abbrev pub set_lines : List Kind → List Text
set_lines kinds = if list_any is_corrected kinds then set_line ∷ [] else []

-- the lines of these findings, but of keys of Concourse without effect, and what to do about them
abbrev pub found_lines : List Finding → List Text
found_lines findings =
    told_lines findings
    ++ (unused_lines (kinds findings) ++ (vars_lines (kinds findings) ++ set_lines (kinds findings)))

-- about a database in which no pipeline is set
abbrev pub unset_line : Text → Text
unset_line path = hint_text (about path unset)

-- what is told before a command's end: what was found, or of the database at this path that no pipeline is set in it
abbrev pub beside : Option (List Text) → Option Text → Option (List Text)
beside None None = None
beside None (Some path) = Some (unset_line path ∷ [])
beside (Some lines) path = Some lines

-- a refusal that was told
abbrev pub refusal_told : ToldRefusal → RefusalData
refusal_told t =
    record { words = t.words.now; path = option_map (λ path. string_bytes path.value) t.path; status = t.status }

-- what a value of the program's type has told
abbrev pub told_data : {E : Type 0} → Telling E → ToldData
told_data t = record {
  gates = beside (option_map (λ found. found_lines found.value.items) t.gates) (option_map (λ path. path.now) t.unset);
  budget = t.budget;
  refusal = option_map refusal_told t.refusal;
  hint = option_map hint_data t.hint;
  is_unprinted = t.is_unprinted;
}

-- ---- the lines of what is told
-- these lines, if there are any
abbrev pub gate_lines : Option (List Text) → List Text
gate_lines None = []
gate_lines (Some lines) = lines

-- how it is written that a search would go over a budget
abbrev pub budget_line : ℕ → Text
budget_line budget = codes "over budget " ++ decimal budget

-- the line of a budget, if there is one
abbrev pub budget_lines : Option ℕ → List Text
budget_lines None = []
budget_lines (Some budget) = budget_line budget ∷ []

-- the line of a refusal, if there is one
abbrev pub refusal_lines : Option RefusalData → List Text
refusal_lines None = []
refusal_lines (Some refusal) = refusal_text refusal ∷ []

-- the line of what to do, if there is one
abbrev pub hint_lines : Option HintData → List Text
hint_lines None = []
hint_lines (Some hint) = hint_text hint ∷ []

-- how it is written that not all lines went out
abbrev pub unprinted_line : Text
unprinted_line = codes "refused: standard output: cannot write"

-- the line that not all lines went out, if so
abbrev pub unprinted_lines : Bool → List Text
unprinted_lines false = []
unprinted_lines true = unprinted_line ∷ []

-- the lines of how it ended: the budget's, the refusal's, what to do, and that not all lines went out
abbrev pub end_lines : ToldData → List Text
end_lines told =
    budget_lines told.budget ++ (refusal_lines told.refusal ++ (hint_lines told.hint ++ unprinted_lines told.is_unprinted))

-- THE LINES OF WHAT IS TOLD, in their order: what was found, and how it ended
abbrev pub lines_of : ToldData → List Text
lines_of told = gate_lines told.gates ++ end_lines told

-- WHAT IS TOLD IS WHAT IS WRITTEN: each of its lines once, with its line end, in order, and nothing else, unless a write fails
abbrev pub TellsLines : ToldData → WriterData → WriterData → Type 0
TellsLines told old new = GetsLines (lines_of told) old new

-- ---- what is to be told
-- what is shown is a proof
abbrev pub is_proof : Shown → Bool
is_proof (Proof job) = true
is_proof (Certificate job) = true
is_proof what = false

-- the command is to show a proof
abbrev pub shows_proof : Command → Bool
shows_proof (Show what) = is_proof what
shows_proof command = false

-- the command is to show a proof, and its search would go over the budget
abbrev pub is_over_budget : Command → Result ℕ Failure → Bool
is_over_budget command (Ok status) = (status == 3) && shows_proof command
is_over_budget command (Err failure) = false

-- the budget of a command that is to show a proof, and goes over it
abbrev pub budget_over : Order → Result ℕ Failure → Option ℕ
budget_over order end = if is_over_budget order.command end then Some order.options.budget else None

-- the refusal of a command that has no status
abbrev pub refusal_in : Result ℕ Failure → Option RefusalData
refusal_in (Ok status) = None
refusal_in (Err failure) = Some (refusal_of failure)

-- WHAT A COMMAND TELLS with this outcome: why it has no proof to show, or is refused; what to do about it; and that not all
-- lines went out
abbrev pub explained : Order → Outcome → ToldData
explained order outcome = record {
  gates = None;
  budget = budget_over order outcome.end;
  refusal = refusal_in outcome.end;
  hint = hint_of order.options.database.now outcome.end;
  is_unprinted = not outcome.is_printed;
}

-- ---- beside a pipeline that was set
-- the command has set a pipeline
abbrev pub has_set : Command → Result ℕ Failure → Bool
has_set (SetPipeline file) (Ok status) = status == 0
has_set command end = false

-- the command has shown something
abbrev pub has_shown : Command → Result ℕ Failure → Bool
has_shown (Show what) (Ok status) = status == 0
has_shown command end = false

-- what is found in this text of a pipeline is told, if one was set; nothing is out of memory. Where there is no text, and something was
-- shown, it is told of the database at this path
abbrev pub AreGates : Bool → Bool → Text → Option Text → Option (List Text) → Type 0
AreGates true shows path (Some text) (Some lines) = (findings : List Finding) × Finds text (Ok findings) × (lines ≡ found_lines findings)
AreGates true shows path (Some text) None = (fault : ReadFault) × Finds text (Err fault)
AreGates sets true path None told = told ≡ Some (unset_line path ∷ [])
AreGates sets shows path text told = told ≡ None

-- WHAT A COMMAND TELLS with this outcome, and with the text of the pipeline since: what is found in a pipeline that it has set, or that
-- none is set; and what it tells of its end
abbrev pub IsToldOf : Order → Outcome → Option Text → ToldData → Type 0
IsToldOf order outcome text told =
    (gates : Option (List Text))
    × AreGates (has_set order.command outcome.end) (has_shown order.command outcome.end) order.options.database.now text gates
    × (told ≡ record (explained order outcome) { gates = gates })
