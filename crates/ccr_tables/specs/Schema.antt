-- The six tables.
use Rattle.std.specs.Prelude.{true, false, [], ◌∷◌, Some, None, codes, List, ℕ}
use Rattle.sqlite.specs.Collation.TheVariants.{Binary}
use Rattle.sqlite.specs.declared.types.Value.TheVariants.{Null}
use Rattle.sqlite.specs.Table.{Table}
use Rattle.sqlite.specs.Schema.{Schema}
use Rattle.sqlite.specs.Kind.TheVariants.{Integer, Text, Any}
use Rattle.sqlite_schema.specs.declared.schema.Column.{Column}
use Rattle.sqlite_value.specs.Keys.{plain}
use Rattle.sqlite_catalog.specs.Change.{created}

abbrev pub number_column : List ℕ → Column
number_column name = record { name = name; kind = Integer; is_strict = false; not_null = true; default = Null; collation = Binary }

abbrev pub text_column : List ℕ → Column
text_column name = record { name = name; kind = Text; is_strict = false; not_null = true; default = Null; collation = Binary }

abbrev pub plain_table : List ℕ → List Column → Table
plain_table name columns = record {
  name = name;
  tree = 0;
  columns = columns;
  key = None;
  primary = [];
  uniques = [];
  orders = [];
  checks = [];
  references = [];
  computed = [];
  stamps = record { places = []; terms = []; formats = [] };
  is_counted = false;
}

abbrev pub id_column : List ℕ → Column
id_column name = record { name = name; kind = Integer; is_strict = false; not_null = false; default = Null; collation = Binary }

abbrev pub meta : Table
meta = record (plain_table (codes "meta") (id_column (codes "k") ∷ (record { name = codes "v"; kind = Any; is_strict = false; not_null = true; default = Null; collation = Binary }) ∷ [])) { key = Some 0; primary = 0 ∷ [] }

abbrev pub scopes : Table
scopes = record (plain_table (codes "scopes") (id_column (codes "id") ∷ text_column (codes "resource") ∷ text_column (codes "kind") ∷ text_column (codes "source") ∷ [])) {
  key = Some 0;
  primary = 0 ∷ [];
  uniques = (2 ∷ 3 ∷ 4 ∷ []) ∷ [];
  orders = plain ∷ [];
}

abbrev pub versions : Table
versions = record (plain_table (codes "versions") (number_column (codes "scope") ∷ number_column (codes "place") ∷ text_column (codes "body") ∷ [])) {
  primary = 1 ∷ 2 ∷ [];
  uniques = (1 ∷ 2 ∷ []) ∷ (1 ∷ 3 ∷ []) ∷ [];
  orders = plain ∷ plain ∷ [];
}

abbrev pub builds : Table
builds = record (plain_table (codes "builds") (id_column (codes "id") ∷ text_column (codes "job") ∷ number_column (codes "number") ∷ number_column (codes "status") ∷ [])) {
  key = Some 0;
  primary = 0 ∷ [];
  uniques = (2 ∷ 3 ∷ []) ∷ [];
  orders = plain ∷ [];
}

abbrev pub pairs : Table
pairs = record (plain_table (codes "pairs") (number_column (codes "build") ∷ text_column (codes "input") ∷ number_column (codes "scope") ∷ number_column (codes "place") ∷ [])) {
  primary = 1 ∷ 2 ∷ 3 ∷ 4 ∷ [];
  uniques = (1 ∷ 2 ∷ 3 ∷ 4 ∷ []) ∷ [];
  orders = plain ∷ [];
}

abbrev pub pins : Table
pins = record (plain_table (codes "pins") ((record (text_column (codes "resource")) { not_null = false }) ∷ text_column (codes "body") ∷ [])) {
  primary = 1 ∷ [];
  uniques = (1 ∷ []) ∷ [];
  orders = plain ∷ [];
}

-- a new database
abbrev pub no_schema : Schema
no_schema = record { tables = []; indexes = []; views = [] }

-- the tables as they are made, one after the other
abbrev pub meta_schema : Schema
meta_schema = created no_schema meta

abbrev pub scopes_schema : Schema
scopes_schema = created meta_schema scopes

abbrev pub versions_schema : Schema
versions_schema = created scopes_schema versions

abbrev pub builds_schema : Schema
builds_schema = created versions_schema builds

abbrev pub pairs_schema : Schema
pairs_schema = created builds_schema pairs

-- all six tables, and nothing else
abbrev pub our_schema : Schema
our_schema = created pairs_schema pins
