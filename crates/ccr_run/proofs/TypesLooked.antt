-- Directories of types that are looked for one after the other.
use Rattle.std.proofs.Common.{◌≡◌, ◌∙◌, ℕ, ◌+◌, ◌<◌, List, [], ◌∷◌, ◌++◌, length, map, drop, get_or, sym, ap, subst, suc, add-one, append_assoc, drop-cons, Result, Ok, Err}
use Rattle.std.proofs.KnownBytes.{Appends-nil}
use Rattle.std.proofs.lemmas.List.{append-nil, drop-map}
use Rattle.std.specs.Prelude.{Bool, OnOk}
use Rattle.std.specs.declared.alloc.AllocError.{AllocError}
use Rattle.ccr_history.specs.Text.{Text}
use Rattle.ccr_pipeline.specs.JobData.{ResourceData, resource_data}
use Rattle.ccr_pipeline.specs.declared.resource.Resource.{Resource}
use Rattle.ccr_task.specs.Calls.{CallData, has}
use Rattle.ccr_task.specs.declared.fault.ShelfFault.{ShelfFault}
use Rattle.ccr_run.specs.Lacking.{TellsLacking, TellsType, looks, type_folder}
use Rattle.ccr_run.specs.Writers.{WriterData, GetsLines}
use Rattle.ccr_run.proofs.Writing.{got_more}

-- nothing is looked for, and nothing is told: no resource is left, or memory ran out
pub none_looked : (types : Text) (at : ℕ) (rs : List ResourceData) (end : Result Unit AllocError)
    (before after : List CallData) (old new : WriterData) → after ≡ before → new ≡ old
    → OnOk end (0 ≡ length rs) → TellsLacking types at rs end before after old new
none_looked types at rs end before after old new same quiet whole = record {
  answers = [];
  asked = same ∙ sym (append-nil before);
  told = subst (λ (w : WriterData). GetsLines [] old w) (sym quiet) (λ n. (n, Appends-nil old.got));
  whole = whole;
}

-- two lists of one length, each with one more at its head
both_longer : (end : Result Unit AllocError) (a : Result Bool ShelfFault) (answers : List (Result Bool ShelfFault))
    (r : ResourceData) (rs : List ResourceData)
    → OnOk end (length answers ≡ length rs) → OnOk end (length (a ∷ answers) ≡ length (r ∷ rs))
both_longer (Ok done) a answers r rs e = ap (λ n. suc n) e
both_longer (Err fault) a answers r rs e = e

-- one is looked for, and then the others
pub one_more : (types : Text) (at : ℕ) (r : ResourceData) (rs : List ResourceData) (end : Result Unit AllocError)
    (c0 c1 c2 : List CallData) (w0 w1 w2 : WriterData) → TellsType types at r c0 c1 w0 w1
    → TellsLacking types (at + 1) rs end c1 c2 w1 w2 → TellsLacking types at (r ∷ rs) end c0 c2 w0 w2
one_more types at r rs end c0 c1 c2 w0 w1 w2 one others = record {
  answers = one.answer ∷ others.answers;
  asked = others.asked ∙ (ap (λ (cs : List CallData). cs ++ looks types others.answers rs) one.asked
      ∙ append_assoc c0 (has (type_folder types r) one.answer ∷ []) (looks types others.answers rs));
  told = got_more _ _ _ _ _ one.told others.told;
  whole = both_longer end one.answer others.answers r rs others.whole;
}

-- what is left from a position on: the resource there, and what is left behind it
left_at : (xs : List Resource) (at : ℕ) (x : Resource) → at < length xs → x ≡ get_or xs at x
    → drop at (map resource_data xs) ≡ resource_data x ∷ drop (at + 1) (map resource_data xs)
left_at xs at x h e =
    drop-map resource_data at xs
    ∙ (ap (λ (l : List Resource). map resource_data l) (drop-cons xs at x h)
    ∙ (ap (λ (y : Resource). resource_data y ∷ map resource_data (drop (suc at) xs)) (sym e)
    ∙ ap (λ (l : List ResourceData). resource_data x ∷ l)
    (sym (drop-map resource_data (suc at) xs) ∙ ap (λ n. drop n (map resource_data xs)) (sym (add-one at)))))

-- the one at a position is looked for, and then those behind it
pub from_here : (types : Text) (xs : List Resource) (at : ℕ) (x : Resource) (end : Result Unit AllocError)
    (c0 c1 c2 : List CallData) (w0 w1 w2 : WriterData) → at < length xs → x ≡ get_or xs at x
    → TellsType types at (resource_data x) c0 c1 w0 w1
    → TellsLacking types (at + 1) (drop (at + 1) (map resource_data xs)) end c1 c2 w1 w2
    → TellsLacking types at (drop at (map resource_data xs)) end c0 c2 w0 w2
from_here types xs at x end c0 c1 c2 w0 w1 w2 h e one others =
    subst (λ (l : List ResourceData). TellsLacking types at l end c0 c2 w0 w2) (sym (left_at xs at x h e))
    (one_more types at (resource_data x) (drop (at + 1) (map resource_data xs)) end c0 c1 c2 w0 w1 w2 one others)
