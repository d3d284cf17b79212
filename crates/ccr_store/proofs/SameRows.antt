-- Writes keep what contents have in common but for the order of rows.
use Rattle.std.proofs.Common.{◌≡◌, pos, List, [], ◌∷◌, ◌++◌, map, not, cond, refl, sym, ap, ◌∙◌, IsPermutation}
use Rattle.std.proofs.lemmas.List.{append_assoc}
use Rattle.std.proofs.lemmas.List.Sorted.{IsPermutation-refl, IsPermutation-trans, IsPermutation-cons, IsPermutation-map, IsPermutation-append_left, IsPermutation-append_comm}
use Rattle.sqlite.specs.declared.types.Value.{Value}
use Rattle.sqlite.specs.declared.types.Value.TheVariants.{Int, Text as Words}
use Rattle.sqlite.specs.Order.{Row}
use Rattle.sqlite_keyed.proofs.ListLemmas.{IsPermutation-same, IsPermutation-filter}
use Rattle.sqlite.specs.Tree.{Trees}
use Rattle.ccr_tables.specs.Contents.{Contents, Keeps, meta_row, scope_row, version_row, build_row, pair_row, pin_row}
use Rattle.ccr_tables.specs.Written.{begins_with, without, restated, is_row, written, all_written}
use Rattle.ccr_tables.specs.declared.write.Write.{Write}
use Rattle.ccr_tables.specs.declared.write.Write.TheVariants as stored
use Rattle.ccr_store.specs.Reordered.{HasSameRows}
use Rattle.ccr_store.specs.WriteData.{WriteData, write_data, made, all_made}
use Rattle.ccr_store.specs.WriteData as write

-- the first two of three lists change places
pub swapped : {X : Type 0} (xs ys zs : List X) → IsPermutation (xs ++ (ys ++ zs)) (ys ++ (xs ++ zs))
swapped xs ys zs =
    IsPermutation-trans (xs ++ (ys ++ zs)) (xs ++ ys ++ zs) (ys ++ (xs ++ zs))
    (IsPermutation-same (xs ++ (ys ++ zs)) (xs ++ ys ++ zs) (sym (append_assoc xs ys zs)))
    (IsPermutation-trans (xs ++ ys ++ zs) (ys ++ xs ++ zs) (ys ++ (xs ++ zs))
    (IsPermutation-append_left zs (xs ++ ys) (ys ++ xs) (IsPermutation-append_comm xs ys))
    (IsPermutation-same (ys ++ xs ++ zs) (ys ++ (xs ++ zs)) (append_assoc ys xs zs)))

-- ---- the relation
pub same_rows : (c : Contents) → HasSameRows c c
same_rows c = record {
  meta = IsPermutation-refl c.meta;
  scopes = IsPermutation-refl c.scopes;
  versions = IsPermutation-refl c.versions;
  builds = IsPermutation-refl c.builds;
  pairs = IsPermutation-refl c.pairs;
  pins = IsPermutation-refl c.pins;
}

pub then_rows : (a b c : Contents) → HasSameRows a b → HasSameRows b c → HasSameRows a c
then_rows a b c h k = record {
  meta = IsPermutation-trans a.meta b.meta c.meta h.meta k.meta;
  scopes = IsPermutation-trans a.scopes b.scopes c.scopes h.scopes k.scopes;
  versions = IsPermutation-trans a.versions b.versions c.versions h.versions k.versions;
  builds = IsPermutation-trans a.builds b.builds c.builds h.builds k.builds;
  pairs = IsPermutation-trans a.pairs b.pairs c.pairs h.pairs k.pairs;
  pins = IsPermutation-trans a.pins b.pins c.pins h.pins k.pins;
}

-- ---- one write, and many
-- rows without a key, and another in front
replaced : (key : Value) (row : Row) (xs ys : List Row) → IsPermutation xs ys
    → IsPermutation (row ∷ without key xs) (row ∷ without key ys)
replaced key row xs ys h = IsPermutation-cons row _ _ (IsPermutation-filter (λ r. not (begins_with key r)) xs ys h)

made_alike : (w : WriteData) (a b : Contents) → HasSameRows a b → HasSameRows (made w a) (made w b)
made_alike write.format a b h = record { meta = replaced (Int (pos 1)) _ a.meta b.meta h.meta; scopes = h.scopes; versions = h.versions; builds = h.builds; pairs = h.pairs; pins = h.pins }
made_alike (write.text bytes) a b h = record { meta = replaced (Int (pos 2)) _ a.meta b.meta h.meta; scopes = h.scopes; versions = h.versions; builds = h.builds; pairs = h.pairs; pins = h.pins }
made_alike (write.scope id resource kind source) a b h = record { meta = h.meta; scopes = IsPermutation-cons _ a.scopes b.scopes h.scopes; versions = h.versions; builds = h.builds; pairs = h.pairs; pins = h.pins }
made_alike (write.version of place body) a b h = record { meta = h.meta; scopes = h.scopes; versions = IsPermutation-cons _ a.versions b.versions h.versions; builds = h.builds; pairs = h.pairs; pins = h.pins }
made_alike (write.build id job number how) a b h = record { meta = h.meta; scopes = h.scopes; versions = h.versions; builds = IsPermutation-cons _ a.builds b.builds h.builds; pairs = h.pairs; pins = h.pins }
made_alike (write.status id how) a b h = record { meta = h.meta; scopes = h.scopes; versions = h.versions; builds = IsPermutation-map (λ r. cond (begins_with (Int (pos id)) r) (restated how r) r) a.builds b.builds h.builds; pairs = h.pairs; pins = h.pins }
made_alike (write.pair id input of place) a b h = record { meta = h.meta; scopes = h.scopes; versions = h.versions; builds = h.builds; pairs = IsPermutation-cons _ a.pairs b.pairs h.pairs; pins = h.pins }
made_alike (write.no_pair id input of place) a b h = record { meta = h.meta; scopes = h.scopes; versions = h.versions; builds = h.builds; pairs = IsPermutation-filter (λ r. not (is_row (Int (pos id)) (Words input) (Int (pos of)) (Int (pos place)) r)) a.pairs b.pairs h.pairs; pins = h.pins }
made_alike (write.pin resource body) a b h = record { meta = h.meta; scopes = h.scopes; versions = h.versions; builds = h.builds; pairs = h.pairs; pins = replaced (Words resource) _ a.pins b.pins h.pins }
made_alike (write.no_pin resource) a b h = record { meta = h.meta; scopes = h.scopes; versions = h.versions; builds = h.builds; pairs = h.pairs; pins = IsPermutation-filter (λ r. not (begins_with (Words resource) r)) a.pins b.pins h.pins }

pub all_made-alike : (ws : List WriteData) (a b : Contents) → HasSameRows a b → HasSameRows (all_made ws a) (all_made ws b)
all_made-alike [] a b h = h
all_made-alike (w ∷ ws) a b h = all_made-alike ws (made w a) (made w b) (made_alike w a b h)

pub all_made-append : (ws vs : List WriteData) (c : Contents) → all_made (ws ++ vs) c ≡ all_made vs (all_made ws c)
all_made-append [] vs c = refl
all_made-append (w ∷ ws) vs c = all_made-append ws vs (made w c)

-- ---- what a write holds
one_written : (w : Write) (c : Contents) → written w c ≡ made (write_data w) c
one_written stored.Format c = refl
one_written (stored.PipelineText bytes) c = refl
one_written (stored.Scope id resource kind source) c = refl
one_written (stored.Version of place body) c = refl
one_written (stored.Build id job number how) c = refl
one_written (stored.Status id how) c = refl
one_written (stored.Pair id input of place) c = refl
one_written (stored.NoPair id input of place) c = refl
one_written (stored.Pin resource body) c = refl
one_written (stored.NoPin resource) c = refl

pub all_written-made : (ws : List Write) (c : Contents) → all_written ws c ≡ all_made (map write_data ws) c
all_written-made [] c = refl
all_written-made (w ∷ ws) c = all_written-made ws (written w c) ∙ ap (all_made (map write_data ws)) (one_written w c)

-- ---- what tables hold
pub keeps_same : (a b : Contents) (trees : Trees) → HasSameRows a b → Keeps b trees → Keeps a trees
keeps_same a b trees h k = record {
  meta = IsPermutation-trans a.meta b.meta (map meta_row (trees 0)) h.meta k.meta;
  scopes = IsPermutation-trans a.scopes b.scopes (map scope_row (trees 1)) h.scopes k.scopes;
  versions = IsPermutation-trans a.versions b.versions (map version_row (trees 3)) h.versions k.versions;
  builds = IsPermutation-trans a.builds b.builds (map build_row (trees 6)) h.builds k.builds;
  pairs = IsPermutation-trans a.pairs b.pairs (map pair_row (trees 8)) h.pairs k.pairs;
  pins = IsPermutation-trans a.pins b.pins (map pin_row (trees 10)) h.pins k.pins;
  numbered_meta = k.numbered_meta;
  numbered_builds = k.numbered_builds;
  numbered_pairs = k.numbered_pairs;
  numbered_pins = k.numbered_pins;
  typed_builds = k.typed_builds;
}
