-- A new build, an end and a report keep the rules of builds.
use Rattle.std.proofs.Common.{◌≢◌, ℕ, ◌+◌, ◌<◌, List, [], ◌∷◌, length, Bool, true, false, cond, IsTrue, nat_cmp}
use Rattle.std.specs.List.{AllByRecursion}
use Rattle.std.specs.Cmp.Lexicographic.{slice_cmp}
use Rattle.std.proofs.lemmas.Bool.{cond_both}
use Rattle.ccr_history.specs.declared.build.Status.{Status}
use Rattle.ccr_history.specs.declared.build.Status.TheVariants.{Running}
use Rattle.ccr_history.specs.declared.builds.TheConstants.{MOST_BUILDS}
use Rattle.ccr_history.specs.Text.{Text}
use Rattle.ccr_history.specs.Tables.{TableData}
use Rattle.ccr_history.specs.Builds.{UsedData, BuildData, with_used, by_input, is_before, with_moved, by_place, is_build_of, count_of, new_build, with_build, ended, with_end}
use Rattle.ccr_history.specs.History.{has_place, IsUsed, IsBuild, AreBuilds}
use Rattle.ccr_history.specs.Orderly.{IsOrderly, AreOrderly}
use Rattle.ccr_history.specs.Changes.{AreUsed, AreMoved}
use Rattle.ccr_history.proofs.Lists.{each_weaker, each_map, each_push, match_each}
use Rattle.ccr_history.proofs.OrderlyKept.{AreOrderly-with_build, AreOrderly-with_end}
use Rattle.ccr_history.proofs.TableLaws.{Keeps, place_kept}

-- ---- builds are orderly, and what they used and moved are places
-- what a build used and moved are places of the tables
abbrev IsPlaced : List TableData → BuildData → Type 0
IsPlaced ts b = AllByRecursion (IsUsed ts) b.used × AllByRecursion (λ p. IsTrue (has_place ts p.0 p.1)) b.moved

orderly : (ts : List TableData) (bs : List BuildData) → AreBuilds ts bs → AreOrderly bs
orderly ts bs h = (h.0, h.1, each_weaker (IsBuild ts) IsOrderly (λ b rules. (rules.0, rules.2, rules.4)) bs h.2)

placed : (ts : List TableData) (bs : List BuildData) → AreBuilds ts bs → AllByRecursion (IsPlaced ts) bs
placed ts bs h = each_weaker (IsBuild ts) (IsPlaced ts) (λ b rules. (rules.1, rules.3)) bs h.2

each_build : (ts : List TableData) (bs : List BuildData) → AllByRecursion IsOrderly bs → AllByRecursion (IsPlaced ts) bs → AllByRecursion (IsBuild ts) bs
each_build ts [] in_order at_places = tt
each_build ts (b ∷ bs) in_order at_places =
    ((in_order.0.0, at_places.0.0, in_order.0.1, at_places.0.1, in_order.0.2), each_build ts bs in_order.1 at_places.1)

are_builds : (ts : List TableData) (bs : List BuildData) → AreOrderly bs → AllByRecursion (IsPlaced ts) bs → AreBuilds ts bs
are_builds ts bs in_order at_places = (in_order.0, in_order.1, each_build ts bs in_order.2 at_places)

-- ---- what holds of each holds in another order
with_used-each : (P : UsedData → Type 0) (u : UsedData) (us : List UsedData) → P u → AllByRecursion P us → AllByRecursion P (with_used u us)
with_used-each P u [] one h = (one, tt)
with_used-each P u (v ∷ vs) one h =
    match_each (AllByRecursion P) (slice_cmp nat_cmp u.input v.input) (u ∷ v ∷ vs) (u ∷ v ∷ vs) (v ∷ with_used u vs)
    (λ _. (one, h)) (λ _. (one, h)) (λ _. (h.0, with_used-each P u vs one h.1))

by_input-each : (P : UsedData → Type 0) (us : List UsedData) → AllByRecursion P us → AllByRecursion P (by_input us)
by_input-each P [] h = tt
by_input-each P (u ∷ us) h = with_used-each P u (by_input us) h.0 (by_input-each P us h.1)

with_moved-each : (P : ℕ × ℕ → Type 0) (p : ℕ × ℕ) (ps : List (ℕ × ℕ)) → P p → AllByRecursion P ps → AllByRecursion P (with_moved p ps)
with_moved-each P p [] one h = (one, tt)
with_moved-each P p (q ∷ qs) one h =
    cond_both (is_before p q) (p ∷ q ∷ qs) (q ∷ with_moved p qs) (AllByRecursion P) (λ _. (one, h)) (λ _. (h.0, with_moved-each P p qs one h.1))

by_place-each : (P : ℕ × ℕ → Type 0) (ps : List (ℕ × ℕ)) → AllByRecursion P ps → AllByRecursion P (by_place ps)
by_place-each P [] h = tt
by_place-each P (p ∷ ps) h = with_moved-each P p (by_place ps) h.0 (by_place-each P ps h.1)

-- ---- a new build
pub build_kept : (ts : List TableData) (job : Text) (used : List UsedData) (bs : List BuildData) → AreBuilds ts bs → length bs < MOST_BUILDS → AreUsed ts used → AreBuilds ts (with_build job used bs)
build_kept ts job used bs h room given =
    let new = new_build job (count_of job bs + 1) used in
    are_builds ts (with_build job used bs) (AreOrderly-with_build job used bs room given.0 (orderly ts bs h))
    (each_push (IsPlaced ts) bs new (placed ts bs h) (by_input-each (IsUsed ts) used given.1, tt))

-- ---- an end
ended_placed : (here : Bool) (ts : List TableData) (status : Status) (moved : List (ℕ × ℕ)) → AreMoved ts moved → (b : BuildData) → IsPlaced ts b → IsPlaced ts (cond here (ended status moved b) b)
ended_placed true ts status moved given b h = (h.0, by_place-each (λ p. IsTrue (has_place ts p.0 p.1)) moved given.1)
ended_placed false ts status moved given b h = h

pub end_kept : (ts : List TableData) (job : Text) (number : ℕ) (status : Status) (moved : List (ℕ × ℕ)) (bs : List BuildData) → AreBuilds ts bs → status ≢ Running → AreMoved ts moved → AreBuilds ts (with_end job number status moved bs)
end_kept ts job number status moved bs h over given =
    are_builds ts (with_end job number status moved bs) (AreOrderly-with_end job number status moved bs over given.0 (orderly ts bs h))
    (each_map (IsPlaced ts) (IsPlaced ts) (λ b. cond (is_build_of job number b) (ended status moved b) b)
    (λ b at_places. ended_placed (is_build_of job number b) ts status moved given b at_places) bs (placed ts bs h))

-- ---- a report
still_placed : (ts us : List TableData) → Keeps ts us → (b : BuildData) → IsPlaced ts b → IsPlaced us b
still_placed ts us keeps b h = (
  each_weaker (IsUsed ts) (IsUsed us) (λ u used. (used.0, place_kept ts us keeps u.scope u.place used.1)) b.used h.0,
  each_weaker (λ p. IsTrue (has_place ts p.0 p.1)) (λ p. IsTrue (has_place us p.0 p.1)) (λ p place. place_kept ts us keeps p.0 p.1 place) b.moved h.1,
)

pub builds_kept : (ts us : List TableData) → Keeps ts us → (bs : List BuildData) → AreBuilds ts bs → AreBuilds us bs
builds_kept ts us keeps bs h =
    are_builds us bs (orderly ts bs h) (each_weaker (IsPlaced ts) (IsPlaced us) (still_placed ts us keeps) bs (placed ts bs h))
