-- What a resource's program answers on its standard output.
use Rattle.std.specs.Prelude.{◌≡◌, ◌⊎◌, ℕ, List, [], ◌∷◌, Option, Some, None, Result, Ok, Err, MatchResult, IsUtf8, codes}
use Rattle.serde_json.specs.Data.{Data, null, boolean, number, string, array, object, Items, no_items, item}
use Rattle.serde_json.specs.Find.{get_member}
use Rattle.serde_json.specs.Read.{read as json}
use Rattle.ccr_history.specs.TextMap.{TextMap, texts_of}
use Rattle.ccr_protocol.specs.declared.fault.ReplyFault.{ReplyFault}
use Rattle.ccr_protocol.specs.declared.fault.ReplyFault.TheVariants.{NotJson, WrongKind, VersionNotText, MissingVersion, NoMemory}

-- a reading: a value, or its first fault
abbrev pub Reading : Type 0 → Type 0
Reading T = Result T ReplyFault

-- the fields, or the fault that one of them is no text
abbrev pub texts_or_fault : Option TextMap → Reading TextMap
texts_or_fault None = Err VersionNotText
texts_or_fault (Some fields) = Ok fields

-- a version is an object whose fields are all texts
abbrev pub version_reading : Data → Reading TextMap
version_reading null = Err WrongKind
version_reading (boolean b) = Err WrongKind
version_reading (number n) = Err WrongKind
version_reading (string s) = Err WrongKind
version_reading (array ds) = Err WrongKind
version_reading (object ms) = texts_or_fault (texts_of ms)

-- a version before others: its own fault comes first
abbrev pub before : Reading TextMap → Reading (List TextMap) → Reading (List TextMap)
before (Err f) rest = Err f
before (Ok v) (Err f) = Err f
before (Ok v) (Ok vs) = Ok (v ∷ vs)

-- a list's members, each a version, in order: the first member that has a fault gives it
abbrev pub versions_reading : Items → Reading (List TextMap)
versions_reading no_items = Ok []
versions_reading (item d ds) = before (version_reading d) (versions_reading ds)

-- check's reply: a list of versions, and null is the empty list (Concourse: implementing a resource type, check)
abbrev pub check_reply : Data → Reading (List TextMap)
check_reply null = Ok []
check_reply (boolean b) = Err WrongKind
check_reply (number n) = Err WrongKind
check_reply (string s) = Err WrongKind
check_reply (array ds) = versions_reading ds
check_reply (object ms) = Err WrongKind

-- the version at a key, which is missing also where it is null
abbrev pub version_or_missing : Option Data → Reading TextMap
version_or_missing None = Err MissingVersion
version_or_missing (Some null) = Err MissingVersion
version_or_missing (Some d) = version_reading d

-- the reply of in and out: an object with a version; its other keys are passed over
-- (Concourse: implementing a resource type, in and out)
abbrev pub step_reply : Data → Reading TextMap
step_reply null = Err WrongKind
step_reply (boolean b) = Err WrongKind
step_reply (number n) = Err WrongKind
step_reply (string s) = Err WrongKind
step_reply (array ds) = Err WrongKind
step_reply (object ms) = version_or_missing (get_member (codes "version") ms)

-- the bytes are a text of this JSON value
abbrev pub IsTextOf : List ℕ → Data → Type 0
IsTextOf bytes d = IsUtf8 bytes × (json bytes ≡ Some d)

-- what a reply's bytes are by a rule for values: what the rule says of their value, or no JSON
abbrev pub IsReply : {T : Type 0} → (Data → Reading T) → List ℕ → Reading T → Type 0
IsReply rule bytes reading =
    ((d : Data) × IsTextOf bytes d × (rule d ≡ reading))
    ⊎ ((IsUtf8 bytes → json bytes ≡ None) × (reading ≡ Err NotJson))

-- an answer about a value is what its reading is, memory aside
abbrev pub IsReadAs : {T U : Type 0} → Reading U → (T → U) → Result T ReplyFault → Type 0
IsReadAs reading see result =
    MatchResult result (λ t. reading ≡ Ok (see t)) (λ fault. (fault ≡ NoMemory) ⊎ (reading ≡ Err fault))

-- an answer about bytes is what the reply is, memory aside
abbrev pub ReadsReply : {T U : Type 0} → (Data → Reading U) → (T → U) → List ℕ → Result T ReplyFault → Type 0
ReadsReply rule see bytes result =
    MatchResult result (λ t. IsReply rule bytes (Ok (see t)))
    (λ fault. (fault ≡ NoMemory) ⊎ IsReply rule bytes (Err fault))
