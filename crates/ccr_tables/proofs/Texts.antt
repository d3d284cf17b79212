-- What the statement texts mean, over the six tables.
use Rattle.std.proofs.Common.{◌≡◌, ℕ, List, codes, refl, [], ◌∷◌, None, Some, false, pos, negsuc, map}
use Rattle.sqlite_tied.specs.Compute.{everything}
use Rattle.sqlite.specs.Listing.{understood, reads_listing}
use Rattle.sqlite.specs.declared.types.Value.TheVariants.{Null, Int}
use Rattle.sqlite.specs.Term.{Term, lit, col, op2}
use Rattle.sqlite_sql.specs.Term.{op1}
use Rattle.sqlite_sql.specs.declared.ops.UnaryOp.TheVariants.{ToNumeric}
use Rattle.sqlite.specs.Query.{Query, inner, end}
use Rattle.sqlite.specs.Collation.TheVariants.{Binary}
use Rattle.sqlite_value.specs.Keys.{ascending}
use Rattle.sqlite_sql.specs.declared.ops.BinaryOp.TheVariants.{Compare}
use Rattle.sqlite_sql.specs.declared.ops.CompareOp.TheVariants.{Eq}
use Rattle.sqlite_schema.specs.declared.command.Conflict.TheVariants.{Abort}
use Rattle.sqlite.specs.Source.TheVariants.{Values}
use Rattle.sqlite.specs.Command.TheVariants.{Insert, InsertOr, Select, Update, Delete}
use Rattle.sqlite.proofs.Callers.{IsPlain, command_of}
use Rattle.ccr_tables.specs.Schema.{our_schema}
use Rattle.ccr_tables.specs.Tables.{listing_text}
use Rattle.ccr_tables.specs.declared.table.Table.TheVariants.{Meta, Scopes, Versions, Builds, Pairs, Pins}
pub use Rattle.ccr_tables.specs.Answered.{put_meta_text, scope_text, version_text, build_text, set_status_text, pair_text, remove_pair_text, put_pin_text, remove_pin_text}

-- the statements that read the tables
abbrev pub meta_text : List ℕ
meta_text = listing_text Meta

abbrev pub scopes_text : List ℕ
scopes_text = listing_text Scopes

abbrev pub versions_text : List ℕ
versions_text = listing_text Versions

abbrev pub builds_text : List ℕ
builds_text = listing_text Builds

abbrev pub pairs_text : List ℕ
pairs_text = listing_text Pairs

abbrev pub pins_text : List ℕ
pins_text = listing_text Pins

-- SELECT project FROM the table in this tree WHERE tests ORDER BY keys
abbrev pub query : ℕ → List Term → List Term → List Term → Query
query tree tests keys project = record {
  from = inner tree end;
  filter = tests;
  group = None;
  project = project;
  distinct = false;
  collations = [];
  order = map (λ t. (t, ascending Binary)) keys;
  limit = lit (Int (negsuc 0));
  offset = lit (Int (pos 0));
}

-- the rows where the two terms are equal
abbrev pub where_equal : ℕ → Term → Term → List Term → Query
where_equal tree a b project = query tree (op2 (Compare Eq Binary) a b ∷ []) [] project

abbrev pub columns : List ℕ → List Term
columns places = map (λ at. col 1 at) places

pub scope_command : command_of (understood our_schema scope_text) ≡ Insert 1 (Values (col 0 0 ∷ lit Null ∷ col 0 1 ∷ col 0 2 ∷ col 0 3 ∷ []) 5)
unfolding understood everything
scope_command = refl

pub scope_plain : IsPlain (understood our_schema scope_text)
unfolding understood everything
scope_plain = (refl, refl)

pub version_command : command_of (understood our_schema version_text) ≡ Insert 2 (Values (lit Null ∷ col 0 0 ∷ col 0 1 ∷ col 0 2 ∷ []) 4)
unfolding understood everything
version_command = refl

pub version_plain : IsPlain (understood our_schema version_text)
unfolding understood everything
version_plain = (refl, refl)

pub build_command : command_of (understood our_schema build_text) ≡ Insert 3 (Values (col 0 0 ∷ lit Null ∷ col 0 1 ∷ col 0 2 ∷ col 0 3 ∷ []) 5)
unfolding understood everything
build_command = refl

pub build_plain : IsPlain (understood our_schema build_text)
unfolding understood everything
build_plain = (refl, refl)

pub pair_command : command_of (understood our_schema pair_text) ≡ Insert 4 (Values (lit Null ∷ col 0 0 ∷ col 0 1 ∷ col 0 2 ∷ col 0 3 ∷ []) 5)
unfolding understood everything
pair_command = refl

pub pair_plain : IsPlain (understood our_schema pair_text)
unfolding understood everything
pair_plain = (refl, refl)

abbrev pub meta_names : List (List ℕ)
meta_names = codes "k" ∷ codes "v" ∷ []

pub meta_command : command_of (understood our_schema meta_text) ≡ Select (record { lets = []; body = query 0 [] (col 1 0 ∷ []) (col 1 0 ∷ col 1 2 ∷ []) }) meta_names
unfolding understood everything
meta_command = refl

pub meta_unlisted : reads_listing our_schema meta_text ≡ false
unfolding understood everything
meta_unlisted = refl

pub meta_plain : IsPlain (understood our_schema meta_text)
unfolding understood everything
meta_plain = (refl, refl)

abbrev pub scopes_names : List (List ℕ)
scopes_names = codes "id" ∷ codes "resource" ∷ codes "kind" ∷ codes "source" ∷ []

pub scopes_command : command_of (understood our_schema scopes_text) ≡ Select (record { lets = []; body = query 1 [] (col 1 0 ∷ []) (col 1 0 ∷ col 1 2 ∷ col 1 3 ∷ col 1 4 ∷ []) }) scopes_names
unfolding understood everything
scopes_command = refl

pub scopes_unlisted : reads_listing our_schema scopes_text ≡ false
unfolding understood everything
scopes_unlisted = refl

pub scopes_plain : IsPlain (understood our_schema scopes_text)
unfolding understood everything
scopes_plain = (refl, refl)

abbrev pub versions_names : List (List ℕ)
versions_names = codes "scope" ∷ codes "place" ∷ codes "body" ∷ []

pub versions_command : command_of (understood our_schema versions_text) ≡ Select (record { lets = []; body = query 3 [] (col 1 1 ∷ col 1 2 ∷ []) (col 1 1 ∷ col 1 2 ∷ col 1 3 ∷ []) }) versions_names
unfolding understood everything
versions_command = refl

pub versions_unlisted : reads_listing our_schema versions_text ≡ false
unfolding understood everything
versions_unlisted = refl

pub versions_plain : IsPlain (understood our_schema versions_text)
unfolding understood everything
versions_plain = (refl, refl)

abbrev pub builds_names : List (List ℕ)
builds_names = codes "id" ∷ codes "job" ∷ codes "number" ∷ codes "status" ∷ []

pub builds_command : command_of (understood our_schema builds_text) ≡ Select (record { lets = []; body = query 6 [] (col 1 0 ∷ []) (col 1 0 ∷ col 1 2 ∷ col 1 3 ∷ col 1 4 ∷ []) }) builds_names
unfolding understood everything
builds_command = refl

pub builds_unlisted : reads_listing our_schema builds_text ≡ false
unfolding understood everything
builds_unlisted = refl

pub builds_plain : IsPlain (understood our_schema builds_text)
unfolding understood everything
builds_plain = (refl, refl)

abbrev pub pairs_names : List (List ℕ)
pairs_names = codes "build" ∷ codes "input" ∷ codes "scope" ∷ codes "place" ∷ []

pub pairs_command : command_of (understood our_schema pairs_text) ≡ Select (record { lets = []; body = query 8 [] (col 1 1 ∷ col 1 2 ∷ col 1 3 ∷ col 1 4 ∷ []) (col 1 1 ∷ col 1 2 ∷ col 1 3 ∷ col 1 4 ∷ []) }) pairs_names
unfolding understood everything
pairs_command = refl

pub pairs_unlisted : reads_listing our_schema pairs_text ≡ false
unfolding understood everything
pairs_unlisted = refl

pub pairs_plain : IsPlain (understood our_schema pairs_text)
unfolding understood everything
pairs_plain = (refl, refl)

abbrev pub pins_names : List (List ℕ)
pins_names = codes "resource" ∷ codes "body" ∷ []

pub pins_command : command_of (understood our_schema pins_text) ≡ Select (record { lets = []; body = query 10 [] (col 1 1 ∷ []) (col 1 1 ∷ col 1 2 ∷ []) }) pins_names
unfolding understood everything
pins_command = refl

pub pins_unlisted : reads_listing our_schema pins_text ≡ false
unfolding understood everything
pins_unlisted = refl

pub pins_plain : IsPlain (understood our_schema pins_text)
unfolding understood everything
pins_plain = (refl, refl)

-- where meta has the row already, its new value
abbrev pub meta_over : Query
meta_over = where_equal 0 (col 1 0) (col 0 2) (col 1 0 ∷ col 1 0 ∷ lit Null ∷ col 0 5 ∷ [])

pub put_meta_command : command_of (understood our_schema put_meta_text) ≡ InsertOr 0 Abort (Values (col 0 0 ∷ lit Null ∷ col 0 1 ∷ []) 3) ((record { target = Some (0 ∷ []); update = Some (record { lets = []; body = meta_over }) }) ∷ [])
unfolding understood everything
put_meta_command = refl

pub put_meta_plain : IsPlain (understood our_schema put_meta_text)
unfolding understood everything
put_meta_plain = (refl, refl)

-- where the resource has a pin already, its new body
abbrev pub pin_over : Query
pin_over = where_equal 10 (col 1 0) (col 0 2) (col 1 0 ∷ col 1 0 ∷ col 1 1 ∷ col 0 5 ∷ [])

pub put_pin_command : command_of (understood our_schema put_pin_text) ≡ InsertOr 5 Abort (Values (lit Null ∷ col 0 0 ∷ col 0 1 ∷ []) 3) ((record { target = Some (1 ∷ []); update = Some (record { lets = []; body = pin_over }) }) ∷ [])
unfolding understood everything
put_pin_command = refl

pub put_pin_plain : IsPlain (understood our_schema put_pin_text)
unfolding understood everything
put_pin_plain = (refl, refl)

-- the build with its new status
abbrev pub status_set : Query
status_set = where_equal 6 (col 1 0) (col 0 0) (col 1 0 ∷ col 1 0 ∷ lit Null ∷ col 1 2 ∷ col 1 3 ∷ col 0 1 ∷ [])

pub set_status_command : command_of (understood our_schema set_status_text) ≡ Update 3 (record { lets = []; body = status_set })
unfolding understood everything
set_status_command = refl

pub set_status_plain : IsPlain (understood our_schema set_status_text)
unfolding understood everything
set_status_plain = (refl, refl)

-- the numbers of the pins of the resource
abbrev pub pin_gone : Query
pin_gone = where_equal 10 (col 1 1) (col 0 0) (col 1 0 ∷ [])

pub remove_pin_command : command_of (understood our_schema remove_pin_text) ≡ Delete 5 (record { lets = []; body = pin_gone })
unfolding understood everything
remove_pin_command = refl

pub remove_pin_plain : IsPlain (understood our_schema remove_pin_text)
unfolding understood everything
remove_pin_plain = (refl, refl)

-- the column of a row is this parameter; a column of numbers is compared with what is a number
abbrev pub is_number : ℕ → ℕ → Term
is_number column param = op2 (Compare Eq Binary) (col 1 column) (op1 ToNumeric (col 0 param))

abbrev pub is_text : ℕ → ℕ → Term
is_text column param = op2 (Compare Eq Binary) (col 1 column) (col 0 param)

-- the numbers of the pairs of these four columns
abbrev pub pair_gone : Query
pair_gone = query 8 (is_number 1 0 ∷ is_text 2 1 ∷ is_number 3 2 ∷ is_number 4 3 ∷ []) [] (col 1 0 ∷ [])

pub remove_pair_command : command_of (understood our_schema remove_pair_text) ≡ Delete 4 (record { lets = []; body = pair_gone })
unfolding understood everything
remove_pair_command = refl

pub remove_pair_plain : IsPlain (understood our_schema remove_pair_text)
unfolding understood everything
remove_pair_plain = (refl, refl)
