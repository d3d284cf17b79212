-- Of an object without its unused keys, no key of its own but its timeout, if that stays, and none of the objects that
-- it holds is unused.
use Rattle.std.proofs.Common.{◌≡◌, ℕ, zero, suc, ◌+◌, List, [], ◌∷◌, ◌++◌, ◌&&◌, ◌||◌, Bool, true, false, Option, Some, None, refl, sym, subst, ap, ◌∙◌, option_and_then, option_map, is_some, codes, if◌then◌else◌, Ordering, Less, Equal, Greater, nat_cmp}
use Rattle.std.proofs.lemmas.Cmp.{nat_list_cmp_total, tied_itself}
use Rattle.std.proofs.lemmas.List.{append-nil}
use Rattle.std.proofs.lemmas.List.Folds.{list_any-append}
use Rattle.std.proofs.lemmas.Map.Lookups.{exact_bytes}
use Rattle.std.proofs.lemmas.Slice.Eq.{bytes_eq-Decides}
use Rattle.std.specs.Cmp.Lexicographic.{slice_cmp}
use Rattle.std.specs.Option.{IfSome}
use Rattle.std.specs.Ordering.{match_ordering}
use Rattle.std.specs.Str.{bytes_eq}
use Rattle.serde_json.specs.Data.{Data, array, object, Items, no_items, item, Members, no_members, member}
use Rattle.serde_json.specs.Find.{as_null, get, get_member}
use Rattle.ccr_pipeline.specs.declared.schema.Kind.{Kind}
use Rattle.ccr_pipeline.specs.declared.schema.Kind.TheVariants as kind
use Rattle.ccr_pipeline.specs.declared.schema.Schema.{Schema}
use Rattle.ccr_pipeline.specs.declared.schema.Schema.TheVariants as schema
use Rattle.ccr_pipeline.specs.Faults.{Path}
use Rattle.ccr_pipeline.specs.Keys.{at_key, or_else, unless_null, path_below, path_at}
use Rattle.ccr_pipeline.specs.Schema.{Row, opening, closing, has_row, has_key}
use Rattle.ccr_pipeline.specs.Timeouts.{starts}
use Rattle.ccr_pipeline.specs.Unused.{unused_members, unused_own, unused_items, unused_value, unused_rows, unused_object}
use Rattle.ccr_pipeline.specs.Used.{kept, kind_in, kind_at, used, used_members, used_items}
use Rattle.ccr_pipeline.proofs.Ascending.{Above, Ascends, AllAscend, AscendMembers, at_ascends}
use Rattle.ccr_pipeline.proofs.Joined.{and_first, and_last, both_nil}
use Rattle.ccr_pipeline.proofs.UsedKeys.{used_like, at_used}
use Rattle.ccr_pipeline.proofs.UsedValues.{Fits, fits_opening}

in_case : (b : Bool) (found : Kind) (o : Option Kind) → is_some (if b then Some found else o) ≡ (b || is_some o)
in_case true found o = refl
in_case false found o = refl

in_rows : (rs : List Row) (k : List ℕ) → is_some (kind_in rs k) ≡ has_row rs k
in_rows [] k = refl
in_rows (r ∷ rs) k = in_case (bytes_eq r.2 k) r.1 (kind_in rs k) ∙ ap (λ b. bytes_eq r.2 k || b) (in_rows rs k)

-- a key that stands is one of the schema or one that stays
last_of : (a b c : Bool) → (a || b) ≡ false → (a || (b || c)) ≡ true → c ≡ true
last_of true b c e f = absurd (cc (e))
last_of false true c e f = absurd (cc (e))
last_of false false c e f = f

abbrev is_none : List Row → Bool
is_none [] = true
is_none (r ∷ rs) = false

abbrev IsNull : Data → Type 0
IsNull d = is_some (as_null d) ≡ true

-- the key is another than that of the timeout
abbrev pub IsOther : List ℕ → Type 0
IsOther k = bytes_eq (codes "timeout") k ≡ false

not_below : (k : List ℕ) (ms : Members) → Above k ms → get_member k ms ≡ None
not_below k no_members h = refl
not_below k (member l d ms) h = rw h.0 (not_below k ms h.1)

later : (k l : List ℕ) (d : Data) (ms : Members) (o : Ordering) → slice_cmp nat_cmp k l ≡ o → Above l ms → IfSome (match_ordering o (get_member k ms) (Some d) (get_member k ms)) IsNull → IfSome (get_member k ms) IsNull
later k l d ms Less e h g = g
later k l d ms Greater e h g = g
later k l d ms Equal e h g = rw (exact_bytes k l e, not_below l ms h) tt

null_case : (b : Bool) (d : Data) → (if b then None else Some d) ≡ None → b ≡ true
null_case true d e = refl
null_case false d e = absurd (cc (e))

null_at : (o : Option Data) → option_and_then unless_null o ≡ None → IfSome o IsNull
null_at None e = tt
null_at (Some d) e = null_case (is_some (as_null d)) d e

first : (k : List ℕ) (d : Data) (ms : Members) → IfSome (get_member k (member k d ms)) IsNull → IsNull d
first k d ms h = rw (tied_itself nat_list_cmp_total k) at h

own_case : (s : Schema) (p : Path) (k : List ℕ) (null has : Bool) (rest told : List Path) → (has ≡ false → null ≡ true) → rest ≡ told → (if null || has then [] else path_below p k ∷ []) ++ rest ≡ told
own_case s p k true has rest told h e = e
own_case s p k false true rest told h e = e
own_case s p k false false rest told h e = absurd (cc (h refl))

-- the path of what stands at the timeout, where it is told
abbrev told : Bool → Path → Option Data → List Path
told b p o = if b then or_else (option_and_then unless_null o) [] (λ found. path_below p (codes "timeout") ∷ []) else []

none_told : (b : Bool) (p : Path) → told b p None ≡ []
none_told true p = refl
none_told false p = refl

told_case : (null : Bool) (d : Data) (q : Path) → (if null || false then [] else q ∷ []) ++ [] ≡ or_else (if null then None else Some d) [] (λ found. q ∷ [])
told_case true d q = refl
told_case false d q = refl

other_case : (k : List ℕ) (b : Bool) → bytes_eq (codes "timeout") k ≡ b → (slice_cmp nat_cmp (codes "timeout") k ≡ Equal → ⊥) → b ≡ false
other_case k true e apart =
    absurd (apart (subst (λ l. slice_cmp nat_cmp (codes "timeout") l ≡ Equal) ((bytes_eq-Decides (codes "timeout") k).0 e) refl))
other_case k false e apart = refl

is_other : (k : List ℕ) → (slice_cmp nat_cmp (codes "timeout") k ≡ Equal → ⊥) → IsOther k
is_other k apart = other_case k (bytes_eq (codes "timeout") k) refl apart

none_stays : (s : Schema) (d : Data) (rs : List Row) → is_none rs ≡ true → (k : List ℕ) → IsOther k → has_row rs k ≡ true → has_key s k ≡ false → at_key k d ≡ None
none_stays s d [] e k other there lacks = absurd (cc (there))
none_stays s d (r ∷ rs) e k other there lacks = absurd (cc (e))

no_object : (n : ℕ) (p : Path) (ds : Items) → unused_object n schema.Parallel p (array ds) ≡ []
unfolding unused_object
no_object zero p ds = refl
no_object (suc n) p ds = refl

-- where timeouts stay, that of an object that starts programs does, though it can't have it
abbrev keeps : Bool → Schema → Bool
keeps timed s = timed && starts s

-- what is left of the timeout of an object
abbrev pub left_below : Bool → Schema → Path → Data → List Path
left_below timed s p d = told (keeps timed s) p (get (codes "timeout") d)

record IsKept (timed : Bool) (s : Schema) : Type 0 where
  stays : kind_at timed s (codes "timeout") ≡ Some kind.Any
  lacks : has_key s (codes "timeout") ≡ false

is_kept : (timed : Bool) (s : Schema) → keeps timed s ≡ true → IsKept timed s
unfolding kind_at
is_kept false s e = absurd (cc (e))
is_kept true schema.Pipeline e = absurd (cc (e))
is_kept true schema.Resource e = absurd (cc (e))
is_kept true schema.Job e = absurd (cc (e))
is_kept true schema.Undone e = absurd (cc (e))
is_kept true schema.Get e = record { stays = refl; lacks = refl }
is_kept true schema.Put e = record { stays = refl; lacks = refl }
is_kept true schema.Task e = record { stays = refl; lacks = refl }
is_kept true schema.FileTask e = record { stays = refl; lacks = refl }
is_kept true schema.Holder e = absurd (cc (e))
is_kept true schema.Parallel e = absurd (cc (e))
is_kept true schema.Config e = absurd (cc (e))
is_kept true schema.Run e = absurd (cc (e))
is_kept true schema.Input e = absurd (cc (e))
is_kept true schema.Output e = absurd (cc (e))

-- another doesn't
not_kept : (timed : Bool) (s : Schema) → keeps timed s ≡ false → kind_at timed s (codes "timeout") ≡ None
unfolding kind_at
not_kept timed schema.Pipeline e = refl
not_kept timed schema.Resource e = refl
not_kept timed schema.Job e = refl
not_kept timed schema.Undone e = refl
not_kept true schema.Get e = absurd (cc (e))
not_kept false schema.Get e = refl
not_kept true schema.Put e = absurd (cc (e))
not_kept false schema.Put e = refl
not_kept true schema.Task e = absurd (cc (e))
not_kept false schema.Task e = refl
not_kept true schema.FileTask e = absurd (cc (e))
not_kept false schema.FileTask e = refl
not_kept timed schema.Holder e = refl
not_kept timed schema.Parallel e = refl
not_kept timed schema.Config e = refl
not_kept timed schema.Run e = refl
not_kept timed schema.Input e = refl
not_kept timed schema.Output e = refl

keeps_none : (timed : Bool) (s : Schema) → is_none (kept timed s) ≡ true → keeps timed s ≡ false
keeps_none false s e = refl
keeps_none true schema.Get e = absurd (cc (e))
keeps_none true schema.Put e = absurd (cc (e))
keeps_none true schema.Task e = absurd (cc (e))
keeps_none true schema.FileTask e = absurd (cc (e))
keeps_none true _ e = refl

module _ (timed : Bool) where
  in_schema : (s : Schema) (k : List ℕ) → is_some (kind_at timed s k) ≡ (has_row (opening s) k || (has_row (closing s) k || has_row (kept timed s) k))
  unfolding kind_at
  in_schema s k =
      in_rows (opening s ++ (closing s ++ kept timed s)) k ∙ list_any-append (λ r. bytes_eq r.2 k) (opening s) (closing s ++ kept timed s)
      ∙ ap (λ b. has_row (opening s) k || b) (list_any-append (λ r. bytes_eq r.2 k) (closing s) (kept timed s))

  -- at each key but the timeout's that stays though objects of the schema can't have it, nothing stands but null
  abbrev Lacks : Schema → Members → Type 0
  Lacks s ms = (k : List ℕ) → IsOther k → has_row (kept timed s) k ≡ true → has_key s k ≡ false → IfSome (get_member k ms) IsNull

  -- nothing stands at the keys but the timeout's that stay though objects of the schema can't have them
  abbrev pub OthersLack : Schema → Data → Type 0
  OthersLack s d = (k : List ℕ) → IsOther k → has_row (kept timed s) k ≡ true → has_key s k ≡ false → at_key k d ≡ None

  module _ (s : Schema) (p : Path) where
    -- the unused keys of an object with one more member
    abbrev With : List ℕ → Data → Members → List Path
    With k d ms = unused_members s p (or_else (kind_at timed s k) (used_members timed s ms) (λ j. member k (used timed j d) (used_members timed s ms)))

    by_member : (k : List ℕ) (d : Data) (ms : Members) (q : Option Kind) → kind_at timed s k ≡ q → (is_some q ≡ true → has_key s k ≡ false → IsNull d) → (rest : List Path) → unused_members s p (used_members timed s ms) ≡ rest → unused_members s p (or_else q (used_members timed s ms) (λ j. member k (used timed j d) (used_members timed s ms))) ≡ rest
    by_member k d ms None is h rest e = e
    by_member k d ms (Some j) is h rest e =
        own_case s p k (is_some (as_null (used timed j d))) (has_key s k) _ rest (λ no. (used_like timed j d).is_null ∙ h refl no) e

    -- one member is the timeout, and none behind it
    at_start : (b : Bool) → keeps timed s ≡ b → (d : Data) (ms : Members) → unused_members s p (used_members timed s ms) ≡ [] → With (codes "timeout") d ms ≡ told b p (Some d)
    at_start true is d ms e =
        let it = is_kept timed s is in
        rw (it.stays, it.lacks, e) (told_case (is_some (as_null d)) d (path_below p (codes "timeout")))
    at_start false is d ms e = rw (not_kept timed s is) e

    at_timeout : (k : List ℕ) → codes "timeout" ≡ k → (d : Data) (ms : Members) → Above k ms → unused_members s p (used_members timed s ms) ≡ told (keeps timed s) p (get_member (codes "timeout") ms) → With k d ms ≡ told (keeps timed s) p (Some d)
    at_timeout k is d ms a e =
        let behind : get_member (codes "timeout") ms ≡ None = not_below (codes "timeout") ms (subst (λ l. Above l ms) (sym is) a) in
        let none : unused_members s p (used_members timed s ms) ≡ [] = e ∙ (ap (told (keeps timed s) p) behind ∙ none_told (keeps timed s) p) in
        subst (λ l. With l d ms ≡ told (keeps timed s) p (Some d)) is (at_start (keeps timed s) refl d ms none)

    by_order : (k : List ℕ) (d : Data) (ms : Members) → Above k ms → (IsOther k → is_some (kind_at timed s k) ≡ true → has_key s k ≡ false → IsNull d) → unused_members s p (used_members timed s ms) ≡ told (keeps timed s) p (get_member (codes "timeout") ms) → (o : Ordering) → slice_cmp nat_cmp (codes "timeout") k ≡ o → With k d ms ≡ told (keeps timed s) p (match_ordering o (get_member (codes "timeout") ms) (Some d) (get_member (codes "timeout") ms))
    by_order k d ms a h e Less is = by_member k d ms (kind_at timed s k) refl (h (is_other k (λ same. absurd (cc (is, same))))) _ e
    by_order k d ms a h e Equal is = at_timeout k (exact_bytes (codes "timeout") k is) d ms a e
    by_order k d ms a h e Greater is = by_member k d ms (kind_at timed s k) refl (h (is_other k (λ same. absurd (cc (is, same))))) _ e

    members_told : (ms : Members) → AscendMembers ms → Lacks s ms → unused_members s p (used_members timed s ms) ≡ told (keeps timed s) p (get_member (codes "timeout") ms)
    members_told no_members a h = sym (none_told (keeps timed s) p)
    members_told (member k d ms) a h =
        by_order k d ms a.0
        (λ other there no. first k d ms (h k other (last_of (has_row (opening s) k) (has_row (closing s) k) (has_row (kept timed s) k) no (sym (in_schema s k) ∙ there)) no))
        (members_told ms a.2 (λ l other stays no. later l k d ms (slice_cmp nat_cmp l k) refl a.0 (h l other stays no)))
        (slice_cmp nat_cmp (codes "timeout") k) refl

    -- no key of an object of the schema but the timeout is unused then
    own_told : (d : Data) → Ascends d → OthersLack s d → unused_own s p (used timed (kind.Object s) d) ≡ left_below timed s p d
    own_told (object ms) a h = members_told ms a (λ k other stays no. null_at (get_member k ms) (h k other stays no))
    own_told _ a h = sym (none_told (keeps timed s) p)

  -- no keys stay that objects of the schema can't have, where a value of the kind holds such
  abbrev is_unkept : Kind → Bool
  is_unkept (kind.Object s) = is_none (kept timed s)
  is_unkept (kind.Objects s) = is_none (kept timed s)
  is_unkept _ = true

  abbrev are_unkept : List Row → Bool
  are_unkept [] = true
  are_unkept (r ∷ rs) = is_unkept r.1 && are_unkept rs

  unkept_opening : (s : Schema) → are_unkept (opening s) ≡ true
  unkept_opening schema.Pipeline = refl
  unkept_opening schema.Resource = refl
  unkept_opening schema.Job = refl
  unkept_opening schema.Undone = refl
  unkept_opening schema.Get = refl
  unkept_opening schema.Put = refl
  unkept_opening schema.Task = refl
  unkept_opening schema.FileTask = refl
  unkept_opening schema.Holder = refl
  unkept_opening schema.Parallel = refl
  unkept_opening schema.Config = refl
  unkept_opening schema.Run = refl
  unkept_opening schema.Input = refl
  unkept_opening schema.Output = refl

  -- where no keys stay that an object can't have, none of its own is unused
  own_none : (s : Schema) → is_none (kept timed s) ≡ true → (p : Path) (d : Data) → Ascends d → unused_own s p (used timed (kind.Object s) d) ≡ []
  own_none s e p d a =
      own_told s p d a (none_stays s d (kept timed s) e)
      ∙ ap (λ b. told b p (get (codes "timeout") d)) (keeps_none timed s e)

  -- none is unused in objects of a schema whose keys are all its own, so many levels down
  abbrev Below : ℕ → Type 0
  Below n = (s : Schema) → is_none (kept timed s) ≡ true → (p : Path) (d : Data) → Ascends d → unused_object n s p (used timed (kind.Object s) d) ≡ []

  module _ (n : ℕ) (below : Below n) where
    each_none : (s : Schema) → is_none (kept timed s) ≡ true → (p : Path) (i : ℕ) (ds : Items) → AllAscend ds → unused_items (unused_object n s) p i (used_items timed (kind.Object s) ds) ≡ []
    each_none s e p i no_items a = refl
    each_none s e p i (item d ds) a = both_nil _ _ (below s e (path_at p i) d a.0) (each_none s e p (i + 1) ds a.1)

    value_none : (k : Kind) → is_unkept k ≡ true → (p : Path) (d : Data) → Ascends d → unused_value (unused_object n) k p (used timed k d) ≡ []
    value_none (kind.Object s) e p d a = below s e p d a
    value_none (kind.Objects s) e p (array ds) a = each_none s e p 0 ds a
    value_none (kind.Objects s) e p _ a = refl
    value_none kind.Parallel e p (array ds) a = no_object n p (used_items timed kind.Step ds)
    value_none kind.Parallel e p (object ms) a = below schema.Parallel refl p (object ms) a
    value_none kind.Parallel e p d a = below schema.Parallel refl p d a
    value_none _ e p d a = refl

    found_none : (k : Kind) → is_unkept k ≡ true → (p : Path) (o : Option Data) → IfSome o Ascends → or_else (option_map (used timed k) o) [] (unused_value (unused_object n) k p) ≡ []
    found_none k e p None a = refl
    found_none k e p (Some d) a = value_none k e p d a

    rows_none : (s : Schema) (rs : List Row) → Fits timed s rs → are_unkept rs ≡ true → (p : Path) (d : Data) → Ascends d → unused_rows (unused_object n) rs p (used timed (kind.Object s) d) ≡ []
    rows_none s [] f e p d a = refl
    rows_none s (r ∷ rs) f e p d a =
        both_nil _ _ (rw (at_used timed s r.2 r.1 f.0 d) (found_none r.1 (and_first _ _ e) (path_below p r.2) (at_key r.2 d) (at_ascends r.2 d a)))
        (rows_none s rs f.2 (and_last (is_unkept r.1) _ e) p d a)

  below_none : (n : ℕ) → Below n
  unfolding unused_object
  below_none zero s e p d a = refl
  below_none (suc n) s e p d a =
      both_nil _ _ (own_none s e p d a)
      (rows_none n (below_none n) s (opening s) (fits_opening timed s) (unkept_opening s) p d a)

  -- none but its timeout is unused in an object whose other keys are its own, and in what it holds
  pub object_told : (n : ℕ) (s : Schema) (p : Path) (d : Data) → Ascends d → OthersLack s d → unused_object (suc n) s p (used timed (kind.Object s) d) ≡ left_below timed s p d
  unfolding unused_object
  object_told n s p d a own =
      rw (own_told s p d a own, rows_none n (below_none n) s (opening s) (fits_opening timed s) (unkept_opening s) p d a)
      (append-nil (left_below timed s p d))
