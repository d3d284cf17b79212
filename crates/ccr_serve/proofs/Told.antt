-- Commands of one event: pins, and pipelines.
use Rattle.std.proofs.Common.{◌≡◌, ◌++◌, ℕ, List, [], ◌∷◌, Bool, true, Option, Result, None, Some, IsSome, unwrap_or, codes, Ok, Err, refl, sym, ◌∙◌, ap, subst, arith, inl, inr}
use Rattle.std.specs.Option.{option_map_or}
use Rattle.ccr_history.specs.Text.{Text}
use Rattle.ccr_history.specs.TextMap.{TextMap}
use Rattle.ccr_pipeline.specs.JobData.{ResourceData}
use Rattle.ccr_pipeline.specs.Pipelines.{PipelineData}
use Rattle.ccr_problem.specs.ProblemOf.{resource_of}
use Rattle.ccr_task.specs.Places.{PlacesData}
use Rattle.ccr_core.specs.declared.fault.CoreFault.{CoreFault}
use Rattle.ccr_core.specs.declared.fault.CoreFault.TheVariants as core_fault
use Rattle.ccr_core.specs.declared.reply.Reply.{Reply}
use Rattle.ccr_core.specs.declared.reply.Reply.TheVariants.{Set, Pinned, Unpinned}
use Rattle.ccr_core.specs.Events.{EventData}
use Rattle.ccr_core.specs.Events as event
use Rattle.ccr_core.specs.Faults.{IsFirstFault}
use Rattle.ccr_core.specs.Holding.{CoreData, Stands}
use Rattle.ccr_core.specs.Replies.{Replied}
use Rattle.ccr_core.specs.State.{State, no_pipeline, resources_of}
use Rattle.ccr_core.specs.Steps.{Step}
use Rattle.ccr_lines.specs.Lines.{line, lines_of, pipeline_lines}
use Rattle.ccr_task.specs.Calls.{CallData}
use Rattle.ccr_task.specs.Calls as shelf
use Rattle.ccr_task.specs.declared.fault.ShelfFault.{ShelfFault}
use Rattle.ccr_lines.specs.Needs.{pin_in}
use Rattle.ccr_serve.specs.Commanding.{HasResource, called, Commanded, ArePipeline, IsRead, IsRefused, CameOf}
use Rattle.ccr_core.specs.Commands.{set_pipeline, pin_resource, unpin_resource}
use Rattle.ccr_serve.specs.Items.{no_loss, World, tell, Done, Part, Items}
use Rattle.ccr_serve.specs.Reads.{KeepsFromReading}
use Rattle.ccr_serve.specs.Serving.{Tells, Serves}
use Rattle.ccr_serve.specs.Views.{View, with_calls, resources_held, IsReady, Calls, Made}
use Rattle.ccr_serve.specs.declared.fault.ServeFault.{ServeFault}
use Rattle.ccr_serve.specs.declared.fault.ServeFault.TheVariants as fault
use Rattle.ccr_serve.proofs.Refusing.{some_if, refused_at_once, refused_after, refused_by_core}
use Rattle.ccr_serve.proofs.Steps.{after, printed, begun_at, MayBegin, MayStop, MayTell, tell_unmade, cut_by_memory, none_added, calls_made, resources_at}

-- ---- an event that the core took
same_reply : (e : EventData) (o : Option (EventData × Replied)) (q r : Replied) → o ≡ Some (e, q) → o ≡ Some (e, r)
    → q ≡ r
same_reply e o q r is also = ap (λ p. option_map_or (λ made. made.1) p q) (sym is ∙ also)

pub taken : {places : PlacesData} (e : EventData) (r : Replied) (w u : World) (d : Done) → Tells places e w d u → d.event ≡ Some (e, r)
    → Step w.core e r u.core
taken {places} e r w u d tells made =
    subst (λ q. Step w.core e q u.core) (same_reply e d.event tells.makes.reply r tells.makes.event made)
    tells.makes.step

-- the lines are those of the event in each state after it
pub told_lines : {old l m : Text} (e : EventData) (r : Replied) (a : State) (words : Text) → l ≡ old → m ≡ l ++ words
    → words ≡ lines_of e r a.history → m ≡ old ++ lines_of e r a.history
told_lines {old} {l} {m} e r a words same told are =
    told ∙ (ap (λ ls. ls ++ words) same ∙ ap (λ ls. old ++ ls) are)

-- an event is another's equal, and so is its reply
pub made_so : {d e : EventData} {q r : Replied} {n : View} (v : View) → d ≡ e → q ≡ r → Made d q (printed v []) n
    → Made e r (printed v []) n
made_so {d} {e} {q} {r} {n} v same is made =
    subst (λ x. Made x r (printed v []) n) same (subst (λ y. Made d y (printed v []) n) is made)

-- ---- resources that are there
pub has_resource : (c : CoreData) (s : State) (name : Text) (r : ResourceData) → Stands c s
    → resource_of name (resources_held c) ≡ Some r → HasResource s name
has_resource c s name r is there =
    subst (λ o. IsSome o) (sym (ap (λ rs. resource_of name rs) (sym (resources_at c s is)) ∙ there)) refl

-- ---- pins
pub pin_stop : (places : PlacesData) (name text : Text) → MayStop (Commanded places (pin_resource name text) 0)
pin_stop places name text w = inl refl

pub pin_unmade : (places : PlacesData) (name text : Text) (p : TextMap) → pin_in text ≡ Some p
    → MayTell (Commanded places (pin_resource name text) 0) (event.pin name p)
pin_unmade places name text p is w = inr (p, is, tell_unmade places (event.pin name p) w)

-- a pin of the resource by another name for it
pub pin_named : (a b : Text) (p : TextMap) → a ≡ b → event.pin a p ≡ event.pin b p
pin_named a b p same = ap (λ t. event.pin t p) same

-- the text spells no pin
pub bad_pin : {r : ResourceData} (places : PlacesData) (name text : Text) (v : View) → IsReady v
    → resource_of name (resources_held v.core) ≡ Some r → None ≡ pin_in text
    → CameOf places (pin_resource name text) (Err fault.BadPin) v v
bad_pin {r} places name text v ready there is =
    refused_at_once ready (λ s h. (has_resource v.core s name r h there, sym is, refl))

pin_lines : (name : Text) (p : TextMap) (r : Reply) (s a : State) → Step s (event.pin name p) (Ok r) a
    → line (codes "pinned " ∷ name ∷ []) ≡ lines_of (event.pin name p) (Ok r) a.history
pin_lines name p Pinned s a step = refl
pin_lines name p r s a step = absurd step.1

pin_told : (places : PlacesData) (name text : Text) (p : TextMap) (r : Reply) → pin_in text ≡ Some p
    → (w u : World) (d : Done) → Tells places (event.pin name p) w d u → d.event ≡ Some (event.pin name p, Ok r)
    → Commanded places (pin_resource name text) 0 w (d ∷ []) true u
pin_told places name text p r is w u d tells made = (
  ((p, is, (u, (tells, (r, made)), refl)), refl),
  (
    some_if (resource_of name (resources_of w.core))
        ((taken (event.pin name p) (Ok r) w u d tells made).0 core_fault.NoResource),
    subst (λ o. IsSome o) (sym is) refl,
  ),
)

pub pin_made : {name named : Text} {p : TextMap} {replied : Replied} {r : Reply} {n : View} {l m : Text}
    (places : PlacesData) (text : Text) (v : View) → named ≡ name → Some p ≡ pin_in text → replied ≡ Ok r → l ≡ v.lines
    → Made (event.pin named p) replied (printed v []) n → m ≡ l ++ line (codes "pinned " ∷ name ∷ [])
    → CameOf places (pin_resource name text) (Ok 0) v (printed n m)
pin_made {name} {named} {p} {replied} {r} places text v copied is took lines made told =
    calls_made places (made_so v (ap (λ t. event.pin t p) copied) took made)
    (λ s a step h. told_lines (event.pin name p) (Ok r) a (line (codes "pinned " ∷ name ∷ [])) lines told
    (pin_lines name p r s a step)) (λ h same. same) (pin_told places name text p r (sym is))

pin_refused_so : (name text : Text) (p : TextMap) (f : CoreFault) (s : State) (before after : List CallData)
    → after ≡ before → IsFirstFault s (event.pin name p) f
    → IsRefused (pin_resource name text) (fault.Core f) s before after
pin_refused_so name text p core_fault.NoPipeline s before after same first = (first.0, same)
pin_refused_so name text p core_fault.NoResource s before after same first =
    ((some_if s.pipeline (first.1 core_fault.NoPipeline (omega arith)), first.0), same)
pin_refused_so name text p f s before after same first = absurd first.0

pub pin_refused : {name named : Text} {p : TextMap} {replied : Replied} {f : CoreFault} {n : View} {l : Text}
    (places : PlacesData) (text : Text) (v : View) → named ≡ name → replied ≡ Err f → l ≡ v.lines
    → Made (event.pin named p) replied (printed v []) n
    → CameOf places (pin_resource name text) (Err (fault.Core f)) v (printed n l)
pin_refused {name} {named} {p} {replied} {f} {n} places text v copied is lines made =
    refused_by_core places (pin_resource name text) v lines (made_so v (ap (λ t. event.pin t p) copied) is made)
    (λ s first. pin_refused_so name text p f s v.calls n.calls made.rest.calls first)

-- ---- pins that are taken away
pub unpin_stop : (places : PlacesData) (name : Text) → MayStop (Commanded places (unpin_resource name) 0)
unpin_stop places name w = ([], _, refl, w, refl, inl refl)

pub unpin_unmade : (places : PlacesData) (name : Text) → MayTell (Commanded places (unpin_resource name) 0) (event.unpin name)
unpin_unmade places name w = tell_unmade places (event.unpin name) w

unpin_lines : (name : Text) (r : Reply) (s a : State) → Step s (event.unpin name) (Ok r) a
    → line (codes "unpinned " ∷ name ∷ []) ≡ lines_of (event.unpin name) (Ok r) a.history
unpin_lines name Unpinned s a step = refl
unpin_lines name r s a step = absurd step.1

unpin_told : (places : PlacesData) (name : Text) (r : Reply) (w u : World) (d : Done)
    → Tells places (event.unpin name) w d u → d.event ≡ Some (event.unpin name, Ok r)
    → Commanded places (unpin_resource name) 0 w (d ∷ []) true u
unpin_told places name r w u d tells made = (
  ((u, (tells, (r, made)), refl), refl),
  some_if (resource_of name (resources_of w.core))
      ((taken (event.unpin name) (Ok r) w u d tells made).0 core_fault.NoResource),
)

pub unpin_made : {name named : Text} {replied : Replied} {r : Reply} {n : View} {l m : Text} (places : PlacesData) (v : View)
    → named ≡ name → replied ≡ Ok r → l ≡ v.lines → Made (event.unpin named) replied (printed v []) n
    → m ≡ l ++ line (codes "unpinned " ∷ name ∷ [])
    → CameOf places (unpin_resource name) (Ok 0) v (printed n m)
unpin_made {name} {named} {replied} {r} places v copied took lines made told =
    calls_made places (made_so v (ap (λ t. event.unpin t) copied) took made)
    (λ s a step h. told_lines (event.unpin name) (Ok r) a (line (codes "unpinned " ∷ name ∷ [])) lines told
    (unpin_lines name r s a step)) (λ h same. same) (unpin_told places name r)

unpin_refused_so : (name : Text) (f : CoreFault) (s : State) (before after : List CallData) → after ≡ before
    → IsFirstFault s (event.unpin name) f → IsRefused (unpin_resource name) (fault.Core f) s before after
unpin_refused_so name core_fault.NoPipeline s before after same first = (first.0, same)
unpin_refused_so name core_fault.NoResource s before after same first =
    ((some_if s.pipeline (first.1 core_fault.NoPipeline (omega arith)), first.0), same)
unpin_refused_so name f s before after same first = absurd first.0

pub unpin_refused : {name named : Text} {replied : Replied} {f : CoreFault} {n : View} {l : Text} (places : PlacesData)
    (v : View) → named ≡ name → replied ≡ Err f → l ≡ v.lines → Made (event.unpin named) replied (printed v []) n
    → CameOf places (unpin_resource name) (Err (fault.Core f)) v (printed n l)
unpin_refused {name} {named} {replied} {f} {n} places v copied is lines made =
    refused_by_core places (unpin_resource name) v lines (made_so v (ap (λ t. event.unpin t) copied) is made)
    (λ s first. unpin_refused_so name f s v.calls n.calls made.rest.calls first)

-- ---- pipelines
-- the file was read, and nothing else was done
pub set_begun : (places : PlacesData) (path : Text) (v : View) (k : List CallData)
    (file : Result (List ℕ) ShelfFault) → IsRead path file v.calls k
    → MayBegin (Commanded places (set_pipeline path) 0) v k no_loss
set_begun places path v k file is s h =
    (file, begun_at v s k no_loss, ap (λ cs. begun_at v s cs no_loss) is, inl refl)

-- the event of the pipeline in the file that was read wasn't made
pub set_unmade : (places : PlacesData) (path : Text) (v : View) (k : List CallData) (bytes : List ℕ) (p : PipelineData)
    → IsRead path (Ok bytes) v.calls k → ArePipeline bytes p
    → MayBegin (Commanded places (set_pipeline path) 0) v k (record { pair = None; event = Some (event.set_pipeline p) })
set_unmade places path v k bytes p is are s h = (
  Ok bytes,
  begun_at v s k no_loss,
  ap (λ cs. begun_at v s cs no_loss) is,
  inr (bytes, p, refl, are, refl),
)

-- the file gives no pipeline
pub not_read : (places : PlacesData) (path : Text) (f : ServeFault) (v : View) (k : List CallData) → IsReady v
    → KeepsFromReading path f v.calls k
    → CameOf places (set_pipeline path) (Err f) v (after v k v.pairs v.lines)
not_read places path (fault.Read g) v k ready keeps =
    refused_after {f = fault.Read g} ready refl (λ s is. keeps)
not_read places path fault.File v k ready keeps =
    refused_after ready refl (λ s is. keeps)
not_read places path fault.NoMemory v k ready keeps =
    cut_by_memory v no_loss (set_begun places path v k keeps.0 keeps.1) ready (none_added v.pairs) refl
not_read places path f v k ready keeps = absurd keeps

-- a call of the shelf, and then a part, is a part
pub called_before : {P : Part} {v new : View} {k : List CallData} {whole : Bool} (call : CallData) (Q : Part)
    → k ≡ v.calls ++ call ∷ []
    → ((old : World) (ds : List Done) (now : World) → Q (called call old) ds whole now → P old ds whole now)
    → Calls Q (with_calls k v) whole new → Calls P v whole new
called_before {P} {v} {new} {k} {whole} call Q is so calls = record {
  from = λ s h. let c = calls.from s h in record {
    dones = c.dones;
    now = c.now;
    does = so (record { core = s; last = v.last; calls = v.calls; lost = no_loss }) c.dones c.now
        (subst (λ cs. Q (record { core = s; last = v.last; calls = cs; lost = no_loss }) c.dones whole c.now) is c.does);
    pairs = c.pairs;
    few = c.few;
    calls = c.calls;
    commits = c.commits;
    lines = c.lines;
    holds = c.holds;
    crash = c.crash;
    stands = c.stands;
  };
}

pipeline_after : (p : PipelineData) (r : Reply) (s a : State) → Step s (event.set_pipeline p) (Ok r) a
    → a.pipeline ≡ Some p
pipeline_after p Set s a step = ap (λ t. t.pipeline) step.1
pipeline_after p r s a step = absurd step.1

set_lines : (p : PipelineData) (r : Reply) (s a : State) (c : CoreData) → Step s (event.set_pipeline p) (Ok r) a
    → Stands c a
    → pipeline_lines (unwrap_or c.pipeline no_pipeline) ≡ lines_of (event.set_pipeline p) (Ok r) a.history
set_lines p Set s a c step is =
    ap (λ o. pipeline_lines (unwrap_or o no_pipeline)) (is.1 ∙ pipeline_after p Set s a step)
set_lines p r s a c step is = absurd step.1

-- a pipeline's event is told
abbrev Telling : PlacesData → PipelineData → Part
Telling places p = Items (Serves places) (tell (event.set_pipeline p) ∷ [])

set_told : (places : PlacesData) (p : PipelineData) (r : Reply) (w u : World) (d : Done)
    → Tells places (event.set_pipeline p) w d u → d.event ≡ Some (event.set_pipeline p, Ok r)
    → Telling places p w (d ∷ []) true u
set_told places p r w u d tells made = (u, (tells, (r, made)), refl)

pub set_made : {p : PipelineData} {replied : Replied} {r : Reply} {n : View} {k : List CallData} {l m : Text}
    (places : PlacesData) (path : Text) (v : View)
    → (bytes : List ℕ) × IsRead path (Ok bytes) v.calls k × ArePipeline bytes p
    → replied ≡ Ok r → l ≡ v.lines → Made (event.set_pipeline p) replied (after v k v.pairs []) n
    → m ≡ l ++ pipeline_lines (unwrap_or n.core.pipeline no_pipeline)
    → CameOf places (set_pipeline path) (Ok 0) v (printed n m)
set_made {p} {replied} {r} {n} {k} places path v was is lines made told =
    called_before (shelf.read path (Ok was.0)) (Telling places p) was.1
    (λ old ds now d. (((was.0, p, was.2, d), refl), tt))
    (calls_made {v = with_calls k v} places (subst (λ q. Made (event.set_pipeline p) q (after v k v.pairs []) n) is made)
    (λ s a step h. told_lines (event.set_pipeline p) (Ok r) a (pipeline_lines (unwrap_or n.core.pipeline no_pipeline))
    lines told (set_lines p r s a n.core step h)) (λ h same. same) (set_told places p r))

set_refused_so : (path : Text) (p : PipelineData) (f : CoreFault) (s : State) (before after : List CallData)
    → (bytes : List ℕ) × IsRead path (Ok bytes) before after × ArePipeline bytes p
    → IsFirstFault s (event.set_pipeline p) f → IsRefused (set_pipeline path) (fault.Core f) s before after
set_refused_so path p core_fault.BuildsOpen s before after was first = (was.0, p, was.2, first, was.1)
set_refused_so path p f s before after was first = absurd first.0

pub set_refused : {p : PipelineData} {replied : Replied} {f : CoreFault} {n : View} {k : List CallData} {l : Text}
    (places : PlacesData) (path : Text) (v : View)
    → (bytes : List ℕ) × IsRead path (Ok bytes) v.calls k × ArePipeline bytes p
    → replied ≡ Err f → l ≡ v.lines → Made (event.set_pipeline p) replied (after v k v.pairs []) n
    → CameOf places (set_pipeline path) (Err (fault.Core f)) v (printed n l)
set_refused {p} {replied} {f} {n} {k} places path v was is lines made =
    refused_by_core places (set_pipeline path) v lines
    (subst (λ q. Made (event.set_pipeline p) q (after v k v.pairs []) n) is made)
    (λ s first. set_refused_so path p f s v.calls n.calls (was.0, made.rest.calls ∙ was.1, was.2) first)
