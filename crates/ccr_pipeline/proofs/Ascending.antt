-- In the value that a text spells, the keys of each object ascend.
use Rattle.std.proofs.Common.{◌≡◌, ℕ, List, Option, Some, None, subst, ap, ◌∙◌, refl, option_and_then, option_map, is_some, Bool, true, false, Ordering, Less, Equal, Greater, nat_cmp, if◌then◌else◌}
use Rattle.std.proofs.lemmas.Cmp.{nat_list_cmp_total}
use Rattle.std.specs.Cmp.Lexicographic.{slice_cmp}
use Rattle.std.specs.Option.{IfSome}
use Rattle.std.specs.Ordering.{match_ordering, ordering_reverse}
use Rattle.json.specs.Json as json
use Rattle.json.specs.Lex.{tokens}
use Rattle.serde_json.specs.Data.{Num, Data, number, array, object, Items, no_items, item, Members, no_members, member, put}
use Rattle.serde_json.specs.Find.{as_null, get_member}
use Rattle.serde_json.specs.Read.{max_depth, number_of, of_json, of_items, of_members, read as json_read}
use Rattle.ccr_pipeline.specs.Keys.{at_key, or_else, items_in, list_at, unless_null}

-- the key is before those of the members
abbrev pub Above : List ℕ → Members → Type 0
Above k no_members = Unit {0}
Above k (member l d ms) = (slice_cmp nat_cmp k l ≡ Less) × Above k ms

-- the keys of each object in a value ascend
abbrev mutual
  pub Ascends : Data → Type 0
  Ascends (array ds) = AllAscend ds
  Ascends (object ms) = AscendMembers ms
  Ascends _ = Unit {0}

  pub AllAscend : Items → Type 0
  AllAscend no_items = Unit {0}
  AllAscend (item d ds) = Ascends d × AllAscend ds

  pub AscendMembers : Members → Type 0
  AscendMembers no_members = Unit {0}
  AscendMembers (member k d ms) = Above k ms × Ascends d × AscendMembers ms

above_case : (l k m : List ℕ) (d x : Data) (ms rest : Members) (o : Ordering) → slice_cmp nat_cmp l k ≡ Less → slice_cmp nat_cmp l m ≡ Less → Above l ms → Above l rest → Above l (match_ordering o (member k d (member m x ms)) (member m d ms) (member m x rest))
above_case l k m d x ms rest Less e f h g = (e, (f, h))
above_case l k m d x ms rest Equal e f h g = (f, h)
above_case l k m d x ms rest Greater e f h g = (f, g)

above_put : (l k : List ℕ) (d : Data) (ms : Members) → slice_cmp nat_cmp l k ≡ Less → Above l ms → Above l (put k d ms)
above_put l k d no_members e h = (e, tt)
above_put l k d (member m x ms) e h =
    above_case l k m d x ms (put k d ms) (slice_cmp nat_cmp k m) e h.0 h.1 (above_put l k d ms e h.1)

above_all : (k l : List ℕ) (ms : Members) → slice_cmp nat_cmp k l ≡ Less → Above l ms → Above k ms
above_all k l no_members e h = tt
above_all k l (member m x ms) e h = (nat_list_cmp_total.trans k l m e h.0, above_all k l ms e h.1)

put_case : (k m : List ℕ) (d x : Data) (ms rest : Members) (o : Ordering) → slice_cmp nat_cmp k m ≡ o → Ascends d → AscendMembers (member m x ms) → (slice_cmp nat_cmp m k ≡ Less → Above m rest) → AscendMembers rest → AscendMembers (match_ordering o (member k d (member m x ms)) (member m d ms) (member m x rest))
put_case k m d x ms rest Less e h g above r = ((e, above_all k m ms e g.0), h, g)
put_case k m d x ms rest Equal e h g above r = (g.0, h, g.2)
put_case k m d x ms rest Greater e h g above r =
    (above (nat_list_cmp_total.antisymm m k ∙ ap ordering_reverse e), g.1, r)

ascend_put : (k : List ℕ) (d : Data) (ms : Members) → Ascends d → AscendMembers ms → AscendMembers (put k d ms)
ascend_put k d no_members h g = (tt, h, tt)
ascend_put k d (member m x ms) h g =
    put_case k m d x ms (put k d ms) (slice_cmp nat_cmp k m) refl h g (λ e. above_put m k d ms e g.0) (ascend_put k d ms h g.2)

number_ascends : (o : Option Num) → IfSome (option_map number o) Ascends
number_ascends None = tt
number_ascends (Some n) = tt

array_ascends : (o : Option Items) → IfSome o AllAscend → IfSome (option_map array o) Ascends
array_ascends None h = tt
array_ascends (Some ds) h = h

object_ascends : (o : Option Members) → IfSome o AscendMembers → IfSome (option_map object o) Ascends
object_ascends None h = tt
object_ascends (Some ms) h = h

item_ascends : (o : Option Data) (q : Option Items) → IfSome o Ascends → IfSome q AllAscend → IfSome (option_and_then (λ d. option_map (item d) q) o) AllAscend
item_ascends None q h g = tt
item_ascends (Some d) None h g = tt
item_ascends (Some d) (Some ds) h g = (h, g)

member_ascends : (o : Option Data) (f : Data → Option Members) → IfSome o Ascends → ((d : Data) → Ascends d → IfSome (f d) AscendMembers) → IfSome (option_and_then f o) AscendMembers
member_ascends None f h g = tt
member_ascends (Some d) f h g = g d h

mutual
  value_ascends : (j : json.Json) → IfSome (of_json j) Ascends
  value_ascends json.null = tt
  value_ascends (json.boolean b) = tt
  value_ascends (json.number s) = number_ascends (number_of s)
  value_ascends (json.string s) = tt
  value_ascends (json.array js) = array_ascends (of_items js) (items_ascend js)
  value_ascends (json.object ms) = object_ascends (of_members ms no_members) (members_ascend ms no_members tt)

  items_ascend : (js : json.Items) → IfSome (of_items js) AllAscend
  items_ascend json.no_items = tt
  items_ascend (json.item j js) = item_ascends (of_json j) (of_items js) (value_ascends j) (items_ascend js)

  members_ascend : (ms : json.Members) (found : Members) → AscendMembers found → IfSome (of_members ms found) AscendMembers
  members_ascend json.no_members found h = h
  members_ascend (json.member k j ms) found h =
      member_ascends (of_json j) (λ d. of_members ms (put k d found)) (value_ascends j)
      (λ d g. members_ascend ms (put k d found) (ascend_put k d found g h))

any_ascends : (o : Option json.Json) → IfSome (option_and_then of_json o) Ascends
any_ascends None = tt
any_ascends (Some j) = value_ascends j

pub read_ascends : (bytes : List ℕ) (d : Data) → json_read bytes ≡ Some d → Ascends d
read_ascends bytes d e = subst (λ o. IfSome o Ascends) e (any_ascends (option_and_then (λ p. json.if_last p.0 p.1) (json.value max_depth (tokens bytes))))

in_case : (o : Ordering) (d : Data) (q : Option Data) → Ascends d → IfSome q Ascends → IfSome (match_ordering o q (Some d) q) Ascends
in_case Less d q h g = g
in_case Equal d q h g = h
in_case Greater d q h g = g

in_members : (k : List ℕ) (ms : Members) → AscendMembers ms → IfSome (get_member k ms) Ascends
in_members k no_members h = tt
in_members k (member l d ms) h = in_case (slice_cmp nat_cmp k l) d (get_member k ms) h.1 (in_members k ms h.2)

no_null : (b : Bool) (d : Data) → Ascends d → IfSome (if b then None else Some d) Ascends
no_null true d h = tt
no_null false d h = h

not_null : (o : Option Data) → IfSome o Ascends → IfSome (option_and_then unless_null o) Ascends
not_null None h = tt
not_null (Some d) h = no_null (is_some (as_null d)) d h

pub at_ascends : (k : List ℕ) (d : Data) → Ascends d → IfSome (at_key k d) Ascends
at_ascends k (object ms) h = not_null (get_member k ms) (in_members k ms h)
at_ascends k _ h = tt

items_in_ascend : (d : Data) → Ascends d → AllAscend (items_in d)
items_in_ascend (array ds) h = h
items_in_ascend _ h = tt

found_ascend : (o : Option Data) → IfSome o Ascends → AllAscend (or_else o no_items items_in)
found_ascend None h = tt
found_ascend (Some d) h = items_in_ascend d h

pub list_ascends : (k : List ℕ) (d : Data) → Ascends d → AllAscend (list_at k d)
list_ascends k d h = found_ascend (at_key k d) (at_ascends k d h)
