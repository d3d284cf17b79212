-- Lists of versions, read member by member.
use Rattle.std.proofs.Common.{◌≡◌, ℕ, ◌+◌, ◌<◌, ◌≤◌, List, [], ◌∷◌, ◌++◌, refl, sym, map, drop, get_or, length, drop-cons, add-one, append_assoc, arith, Ok, Err, append-nil}
use Rattle.std.proofs.lemmas.Grind.{common_steps}
use Rattle.serde_json.specs.declared.value.Value.{Value}
use Rattle.serde_json.specs.Data.{Items, no_items, item}
use Rattle.serde_json.specs.View.{view, items_of}
use Rattle.ccr_history.specs.TextMap.{TextMap}
use Rattle.ccr_protocol.specs.declared.fault.ReplyFault.{ReplyFault}
use Rattle.ccr_protocol.specs.Replies.{Reading, version_reading, before, versions_reading}

-- the members that are left, seen as data
abbrev pub left : ℕ → List Value → Items
left i xs = items_of (map view (drop i xs))

-- a reading of the members that are left, with the versions before them
abbrev pub after : List TextMap → Reading (List TextMap) → Reading (List TextMap)
after vs (Err f) = Err f
after vs (Ok ws) = Ok (vs ++ ws)

left-cons : (xs : List Value) (i : ℕ) (x : Value) → i < length xs → x ≡ get_or xs i x → left i xs ≡ item (view x) (left (i + 1) xs)
left-cons xs i x h e = rw (drop-cons xs i x h, sym e, add-one) refl

left-end : (xs : List Value) (i : ℕ) → length xs ≤ i → left i xs ≡ no_items
left-end xs i h = let none : drop i xs ≡ [] = grind (arith, common_steps) in rw none refl

after_before : (vs : List TextMap) (v : TextMap) (rest : Reading (List TextMap)) → after vs (before (Ok v) rest) ≡ after (vs ++ v ∷ []) rest
after_before vs v (Err f) = refl
after_before vs v (Ok ws) = rw (append_assoc vs (v ∷ []) ws) refl

after_none : (vs : List TextMap) → after vs (Ok []) ≡ Ok vs
after_none vs = rw append-nil refl

pub read_next : (xs : List Value) (i : ℕ) (x : Value) (vs : List TextMap) (v : TextMap) (all : Reading (List TextMap)) → all ≡ after vs (versions_reading (left i xs)) → i < length xs → x ≡ get_or xs i x → version_reading (view x) ≡ Ok v → all ≡ after (vs ++ v ∷ []) (versions_reading (left (i + 1) xs))
read_next xs i x vs v all e h is read = rw (e, left-cons xs i x h is, read) (after_before vs v (versions_reading (left (i + 1) xs)))

pub read_fault : (xs : List Value) (i : ℕ) (x : Value) (vs : List TextMap) (f : ReplyFault) (all : Reading (List TextMap)) → all ≡ after vs (versions_reading (left i xs)) → i < length xs → x ≡ get_or xs i x → version_reading (view x) ≡ Err f → all ≡ Err f
read_fault xs i x vs f all e h is read = rw (e, left-cons xs i x h is, read) refl

pub read_end : (xs : List Value) (i : ℕ) (vs : List TextMap) (all : Reading (List TextMap)) → all ≡ after vs (versions_reading (left i xs)) → length xs ≤ i → all ≡ Ok vs
read_end xs i vs all e h = rw (e, left-end xs i h) (after_none vs)
