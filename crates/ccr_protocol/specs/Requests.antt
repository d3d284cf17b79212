-- What a resource's program is sent on its standard input.
use Rattle.std.specs.Prelude.{◌≡◌, ℕ, ◌<◌, ◌≤◌, List, Option, Some, None, option_map, Result, Ok, Err, codes, length, Vec, ⊤}
use Rattle.std.specs.Borrow.{Bor}
use Rattle.std.specs.declared.alloc.Global.{Global}
use Rattle.serde_json.specs.Data.{Data, object, Members, no_members, member}
use Rattle.serde_json.specs.Written.{compact_text}
use Rattle.ccr_history.specs.declared.object.Object.{Object}
use Rattle.ccr_history.specs.ObjectData.{object_data}
use Rattle.ccr_history.specs.Sources.{source_or_empty}
use Rattle.ccr_history.specs.TextMap.{TextMap, members_of}
use Rattle.ccr_protocol.specs.declared.request.TheConstants.{MOST_REQUEST}
use Rattle.ccr_protocol.specs.declared.fault.RequestFault.{RequestFault}
use Rattle.ccr_protocol.specs.declared.fault.RequestFault.TheVariants.{TooLong, NoMemory}

-- what an object holds, if there is one
abbrev pub data_of : Option (Bor Object) → Option Data
data_of found = option_map (λ o. object_data o.now) found

-- what is absent has no member
abbrev pub member_if : List ℕ → Option Data → Members → Members
member_if key None ms = ms
member_if key (Some d) ms = member key d ms

-- a version is the object of its fields
abbrev pub version_data : TextMap → Data
version_data fields = object (members_of fields)

-- a request: an object of the step's params, the resource's source and the version, keys ascending
abbrev pub request_data : Option Data → Option Data → Option TextMap → Data
request_data params source version =
    object (member_if (codes "params") params
    (member (codes "source") (source_or_empty source)
    (member_if (codes "version") (option_map version_data version) no_members)))

-- its bytes: compact JSON without a line end
unfoldable pub request_text : Option Data → Option Data → Option TextMap → List ℕ
request_text params source version = compact_text (request_data params source version)

-- a text is sent as it is, and refused exactly where it has more bytes than a request may have; of memory it says
-- nothing
abbrev pub Sends : List ℕ → Result (Vec ℕ Global) RequestFault → Type 0
Sends text (Ok bytes) = (bytes.items ≡ text) × (length text ≤ MOST_REQUEST)
Sends text (Err TooLong) = MOST_REQUEST < length text
Sends text (Err NoMemory) = ⊤
