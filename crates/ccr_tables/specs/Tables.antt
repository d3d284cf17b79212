-- The six tables: the statements that make and read them, and their rows.
use Rattle.std.specs.Prelude.{◌≡◌, ℕ, List, [], ◌∷◌, codes, ⊤}
use Rattle.sqlite.specs.Order.{Row}
use Rattle.sqlite.specs.Schema.{Schema}
use Rattle.ccr_tables.specs.Contents.{Contents}
use Rattle.ccr_tables.specs.Schema.{no_schema, meta_schema, scopes_schema, versions_schema, builds_schema, pairs_schema, our_schema}
use Rattle.ccr_tables.specs.declared.table.Table.{Table}
use Rattle.ccr_tables.specs.declared.table.Table.TheVariants.{Meta, Scopes, Versions, Builds, Pairs, Pins}

-- the statement that makes a table
abbrev pub creation_text : Table → List ℕ
creation_text Meta = codes "CREATE TABLE meta(k INTEGER PRIMARY KEY, v BLOB NOT NULL)"
creation_text Scopes = codes "CREATE TABLE scopes(id INTEGER PRIMARY KEY, resource TEXT NOT NULL,\n  kind TEXT NOT NULL, source TEXT NOT NULL, UNIQUE(resource, kind, source))"
creation_text Versions = codes "CREATE TABLE versions(scope INTEGER NOT NULL, place INTEGER NOT NULL,\n  body TEXT NOT NULL, PRIMARY KEY(scope, place), UNIQUE(scope, body))"
creation_text Builds = codes "CREATE TABLE builds(id INTEGER PRIMARY KEY, job TEXT NOT NULL,\n  number INTEGER NOT NULL, status INTEGER NOT NULL, UNIQUE(job, number))"
creation_text Pairs = codes "CREATE TABLE pairs(build INTEGER NOT NULL, input TEXT NOT NULL,\n  scope INTEGER NOT NULL, place INTEGER NOT NULL,\n  PRIMARY KEY(build, input, scope, place))"
creation_text Pins = codes "CREATE TABLE pins(resource TEXT PRIMARY KEY, body TEXT NOT NULL)"

-- the tables that are made before a table
abbrev pub schema_before : Table → Schema
schema_before Meta = no_schema
schema_before Scopes = meta_schema
schema_before Versions = scopes_schema
schema_before Builds = versions_schema
schema_before Pairs = builds_schema
schema_before Pins = pairs_schema

-- the same, and the table
abbrev pub schema_with : Table → Schema
schema_with Meta = meta_schema
schema_with Scopes = scopes_schema
schema_with Versions = versions_schema
schema_with Builds = builds_schema
schema_with Pairs = pairs_schema
schema_with Pins = our_schema

-- each of these tables is the next behind those that are made
abbrev pub AreNext : Schema → List Table → Type 0
AreNext made [] = ⊤
AreNext made (t ∷ ts) = (schema_before t ≡ made) × AreNext (schema_with t) ts

-- the tables that are made, and these
abbrev pub schema_of_all : Schema → List Table → Schema
schema_of_all made [] = made
schema_of_all made (t ∷ ts) = schema_of_all (schema_with t) ts

-- the statement that reads a table
abbrev pub listing_text : Table → List ℕ
listing_text Meta = codes "SELECT k, v FROM meta ORDER BY k"
listing_text Scopes = codes "SELECT id, resource, kind, source FROM scopes ORDER BY id"
listing_text Versions = codes "SELECT scope, place, body FROM versions ORDER BY scope, place"
listing_text Builds = codes "SELECT id, job, number, status FROM builds ORDER BY id"
listing_text Pairs = codes "SELECT build, input, scope, place FROM pairs ORDER BY build, input, scope, place"
listing_text Pins = codes "SELECT resource, body FROM pins ORDER BY resource"

-- how many of a table's columns are its key
abbrev pub key_width : Table → ℕ
key_width Meta = 1
key_width Scopes = 1
key_width Versions = 2
key_width Builds = 1
key_width Pairs = 4
key_width Pins = 1

-- the rows of a table
abbrev pub rows_of : Table → Contents → List Row
rows_of Meta these = these.meta
rows_of Scopes these = these.scopes
rows_of Versions these = these.versions
rows_of Builds these = these.builds
rows_of Pairs these = these.pairs
rows_of Pins these = these.pins
