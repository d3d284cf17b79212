-- Scopes and versions as keys of hash tables: their tests are equivalences, and equal ones are hashed alike.
use Rattle.std.specs.Prelude.{◌≡◌, ◌++◌, true}
use Rattle.std.specs.Cmp.{IsEquivalence, and_equiv, on_equiv}
use Rattle.std.specs.Cmp.Lexicographic.{bytes_decides, nat_list_eq_equiv}
use Rattle.std.specs.Hash.{HashWrites, and-Alike, on_Alike, same_Alike}
use Rattle.std.specs.Hash as fed
use Rattle.ccr_history.specs.TextMap.{TextMap, key_text, is_version}
use Rattle.ccr_history.specs.Scopes.{ScopeData, is_scope}

pub scope_equiv : IsEquivalence is_scope
scope_equiv =
    and_equiv (on_equiv (λ s. s.resource) nat_list_eq_equiv) (
    and_equiv (on_equiv (λ s. s.kind) nat_list_eq_equiv) (on_equiv (λ s. s.source) nat_list_eq_equiv)
    )

-- the three texts of a scope, one after the other
abbrev pub scope_writes : ScopeData → HashWrites
scope_writes s = fed.str s.resource ++ (fed.str s.kind ++ fed.str s.source)

pub scopes_alike : (s t : ScopeData) → is_scope s t ≡ true → scope_writes s ≡ scope_writes t
scopes_alike =
    let text = same_Alike fed.str bytes_decides in
    let resources = on_Alike (λ (s : ScopeData). s.resource) text in
    let kinds = on_Alike (λ (s : ScopeData). s.kind) text in
    let sources = on_Alike (λ (s : ScopeData). s.source) text in
    (and-Alike resources (and-Alike kinds sources)).fed

pub version_equiv : IsEquivalence is_version
version_equiv = on_equiv key_text nat_list_eq_equiv

-- the key of a version
abbrev pub version_writes : TextMap → HashWrites
version_writes v = fed.str (key_text v)

pub versions_alike : (v w : TextMap) → is_version v w ≡ true → version_writes v ≡ version_writes w
versions_alike = (on_Alike key_text (same_Alike fed.str bytes_decides)).fed
