use Rattle.std.proofs.Common.{◌≡◌, rules, refl, ap, sym, ◌∙◌, IsSome, Some, None, true, false, string_bytes}
use Rattle.std.specs.List.{list_all}
use Rattle.std.specs.Map.{values_of}
use Rattle.serde_json.specs.View.{view}
use Rattle.serde_json.specs.Find.{as_object}
use Rattle.ccr_history.specs.Members.{is_text}
use Rattle.ccr_history.specs.TextMap.{text_map_of, key_text, fields_in}
use Rattle.ccr_history.proofs.TextMaps.{text_map_of-none, text_map_of-some, texts_of-some, ascending, key_is, fields_again, is_key, memory_alone}
use Rattle.ccr_history.proofs.key_text.key_of.Goals as goal

pub returns-then-not-all_texts-clause-not_text : goal.returns-then-not-all_texts-clause-not_text
returns-then-not-all_texts-clause-not_text c =
    let no : list_all (λ member. is_text (view member)) (values_of c.in-Some.members.now.entries) ≡ false = search rules in
    let object : IsSome (as_object (view c.args.value.now)) = search rules in
    (λ _. (object, text_map_of-none _ _ c.in-Some.ensures no), λ _. refl)

pub returns-in_err-key-clause-not_text : goal.returns-in_err-key-clause-not_text
returns-in_err-key-clause-not_text c =
    let all : list_all (λ member. is_text (view member)) (values_of c.in-Some.members.now.entries) ≡ true = search rules in
    let fields = texts_of-some c.in-Some.members.now.entries all in
    let is : text_map_of (view c.args.value.now) ≡ Some fields.0 = text_map_of-some _ _ _ c.in-Some.ensures fields.1 in
    (λ e. absurd (memory_alone _ c.from_residual.ensures.1 e), λ h. let none : text_map_of (view c.args.value.now) ≡ None = h.1 in absurd cc)

pub returns-clause-ok : goal.returns-clause-ok
returns-clause-ok c =
    let all : list_all (λ member. is_text (view member)) (values_of c.in-Some.members.now.entries) ≡ true = search rules in
    let fields = texts_of-some c.in-Some.members.now.entries all in
    let is : text_map_of (view c.args.value.now) ≡ Some fields.0 = text_map_of-some _ _ _ c.in-Some.ensures fields.1 in
    let bytes : string_bytes c.shrink_to_fit.new.self ≡ string_bytes c.in_ok-key.key = c.shrink_to_fit.ensures.bytes in
    let text : string_bytes c.shrink_to_fit.new.self ≡ key_text fields.0 = bytes ∙ key_is _ _ _ is c.in_ok-key.ensures.text in
    let again : fields_in (string_bytes c.shrink_to_fit.new.self) ≡ fields.0 = ap fields_in bytes ∙ fields_again _ _ _ is c.in_ok-key.ensures.reads_back in
    (is_key _ _ text again (ascending _ _ c.all_texts.ensures.ordered fields.1), is ∙ ap Some (sym again))

pub returns-clause-not_text : goal.returns-clause-not_text
returns-clause-not_text c =
    let all : list_all (λ member. is_text (view member)) (values_of c.in-Some.members.now.entries) ≡ true = search rules in
    let fields = texts_of-some c.in-Some.members.now.entries all in
    let is : text_map_of (view c.args.value.now) ≡ Some fields.0 = text_map_of-some _ _ _ c.in-Some.ensures fields.1 in
    (λ e. cc, λ h. let none : text_map_of (view c.args.value.now) ≡ None = h.1 in absurd cc)
