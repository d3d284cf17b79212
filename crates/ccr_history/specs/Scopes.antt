-- Scopes, to which version tables belong.
use Rattle.std.specs.Prelude.{Bool, ◌&&◌}
use Rattle.std.specs.Str.{bytes_eq}
use Rattle.ccr_history.specs.Text.{Text}

-- a scope: a resource's name, its type, and its source as compact JSON text; a changed source is another scope
pub record ScopeData : Type 0 where
  pub resource : Text
  pub kind : Text
  pub source : Text

-- the two scopes are one: same resource, type and source
abbrev pub is_scope : ScopeData → ScopeData → Bool
is_scope a b = bytes_eq a.resource b.resource && (bytes_eq a.kind b.kind && bytes_eq a.source b.source)
