-- The text of a request, piece by piece.
use Rattle.std.proofs.Common.{◌≡◌, ℕ, List, [], ◌++◌, refl, append_assoc, Option, Some, None, codes}
use Rattle.std.specs.Option.{option_map_or}
use Rattle.serde_json.proofs.OnLiterals.{serde_json_on_literals}
use Rattle.serde_json.specs.Data.{Data}
use Rattle.serde_json.specs.Written.{compact_text}
use Rattle.ccr_history.specs.Sources.{source_or_empty}
use Rattle.ccr_history.specs.TextMap.{TextMap, key_text}
use Rattle.ccr_protocol.specs.Requests.{request_text}

abbrev pub params_piece : Option Data → List ℕ
params_piece params = option_map_or (λ d. codes "\"params\":" ++ compact_text d ++ codes ",") params []

abbrev pub version_piece : Option TextMap → List ℕ
version_piece version = option_map_or (λ fields. codes ",\"version\":" ++ key_text fields) version []

-- what follows the params
rest_of : Option Data → Option TextMap → List ℕ
rest_of source version = codes "\"source\":" ++ (compact_text (source_or_empty source) ++ (version_piece version ++ codes "}"))

pub request_pieces : (params source : Option Data) (version : Option TextMap) → request_text params source version ≡ codes "{" ++ (params_piece params ++ (codes "\"source\":" ++ (compact_text (source_or_empty source) ++ (version_piece version ++ codes "}"))))
unfolding request_text serde_json_on_literals rest_of
request_pieces None source None = refl
request_pieces None source (Some fields) = refl
request_pieces (Some d) source None = rw (append_assoc (compact_text d) (codes ",") (rest_of source None)) refl
request_pieces (Some d) source (Some fields) = rw (append_assoc (compact_text d) (codes ",") (rest_of source (Some fields))) refl
