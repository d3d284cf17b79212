-- What findings are, and which are a reason to refuse a pipeline.
use Rattle.std.specs.Prelude.{ℕ, List, [], ◌∷◌, map, string_bytes, Bool, true, false, not, ◌&&◌, ◌||◌}
use Rattle.ccr_findings.specs.declared.finding.Finding.{Finding}
use Rattle.ccr_findings.specs.declared.finding.Kind.{Kind}
use Rattle.ccr_findings.specs.declared.finding.Kind.TheVariants.{Gate, Misspelt, Misplaced, Never, Empty, Absent, Cycle, Vars}

-- what a finding says
pub record FindingData : Type 0 where
  pub kind : Kind
  pub line : List ℕ

-- a finding of a kind, with its line
abbrev pub finding : Kind → List ℕ → FindingData
finding k line = record { kind = k; line = line }

-- findings, without where their lines lie in memory
abbrev pub findings_data : List Finding → List FindingData
findings_data findings = map (λ f. finding f.kind (string_bytes f.line)) findings

-- the kinds of findings
abbrev pub kinds : List Finding → List Kind
kinds findings = map (λ f. f.kind) findings

-- a pipeline with such a finding doesn't do what it seems to say
abbrev pub is_wrong : Kind → Bool
is_wrong Misspelt = true
is_wrong Misplaced = true
is_wrong Never = true
is_wrong Empty = true
is_wrong Absent = true
is_wrong Cycle = true
is_wrong Vars = true
is_wrong k = false

-- such a finding is a reason; to be strict, each but a gate is
abbrev pub is_reason : Bool → Kind → Bool
is_reason strict Gate = false
is_reason strict k = strict || is_wrong k

-- NOTHING THAT WAS FOUND IS A REASON
abbrev pub is_faultless : Bool → List Kind → Bool
is_faultless strict [] = true
is_faultless strict (k ∷ ks) = not (is_reason strict k) && is_faultless strict ks
