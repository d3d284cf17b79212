use Rattle.std.proofs.Common.{◌≡◌, [], map}
use Rattle.ccr_overview.specs.Shorts.{field_data, texts_onto}
use Rattle.serde_json.specs.View.{members_view}
use Rattle.ccr_overview.proofs.short.members_of.Given as goal

abbrev pub invariant-loop-key : goal.invariant-loop-key
invariant-loop-key l =
    texts_onto (map field_data l.all.items) (members_view l.key-iterator) ≡ texts_onto [] (members_view l.members.entries)
