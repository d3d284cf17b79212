-- The builds of a history keep their rules whether a call is taken or refused.
use Rattle.std.proofs.Common.{◌≡◌, ◌≢◌, ◌↔◌, ℕ, ◌<◌, ◌≤◌, List, length, Result, Ok, Err, OnOk, OnErr, IsOk, IsErrOf, refl, sym, subst, arith}
use Rattle.ccr_history.specs.declared.build.Status.{Status}
use Rattle.ccr_history.specs.declared.build.Status.TheVariants.{Running}
use Rattle.ccr_history.specs.declared.builds.TheConstants.{MOST_BUILDS}
use Rattle.ccr_history.specs.declared.fault.HistoryFault.{HistoryFault}
use Rattle.ccr_history.specs.declared.fault.HistoryFault.TheVariants.{BuildsFull}
use Rattle.ccr_history.specs.Text.{Text}
use Rattle.ccr_history.specs.TextMap.{TextMap}
use Rattle.ccr_history.specs.Scopes.{ScopeData}
use Rattle.ccr_history.specs.Tables.{TableData, reported}
use Rattle.ccr_history.specs.Builds.{UsedData, BuildData, with_build, with_end}
use Rattle.ccr_history.specs.History.{AreTables, AreBuilds, ArePins, AreDisabled}
use Rattle.ccr_history.specs.Changes.{AreUsed, AreMoved}
use Rattle.ccr_history.proofs.TableLaws.{places_kept}
use Rattle.ccr_history.proofs.BuildLaws.{build_kept, end_kept, builds_kept}

-- what holds before a call and after a call that is taken holds after each
settled : {T E A : Type 0} (r : Result T E) (P : A → Type 0) (old new next : A) → OnOk r (new ≡ next) → OnErr r (new ≡ old) → P old → (IsOk r → P next) → P new
settled (Ok x) P old new next ok err before after = subst P (sym ok) (after refl)
settled (Err e) P old new next ok err before after = subst P (sym err) before

pub builds_reported : (r : Result ℕ HistoryFault) (ts us : List TableData) (bs : List BuildData) (scope : ScopeData) (vs : List TextMap)
    → AreBuilds ts bs → OnOk r (us ≡ reported scope vs ts) → OnErr r (us ≡ ts) → AreBuilds us bs
builds_reported r ts us bs scope vs rules ok err =
    settled r (λ ws. AreBuilds ws bs) ts us (reported scope vs ts) ok err rules (λ _. builds_kept ts (reported scope vs ts) (places_kept scope vs ts) bs rules)

fewer : (r : Result ℕ HistoryFault) (n : ℕ) → n ≤ MOST_BUILDS → (IsErrOf r BuildsFull ↔ (n ≡ MOST_BUILDS)) → IsOk r → n < MOST_BUILDS
fewer (Ok x) n few full taken = let room : n ≢ MOST_BUILDS = λ e. absurd (cc (full.1 e)) in omega arith
fewer (Err e) n few full taken = absurd (cc)

pub builds_added : (r : Result ℕ HistoryFault) (ts : List TableData) (bs cs : List BuildData) (job : Text) (used : List UsedData)
    → AreBuilds ts bs → AreUsed ts used → OnOk r (cs ≡ with_build job used bs) → OnErr r (cs ≡ bs) → (IsErrOf r BuildsFull ↔ (length bs ≡ MOST_BUILDS)) → AreBuilds ts cs
builds_added r ts bs cs job used rules given ok err full =
    settled r (AreBuilds ts) bs cs (with_build job used bs) ok err rules (λ taken. build_kept ts job used bs rules (fewer r (length bs) rules.0 full taken) given)

pub builds_ended : {T : Type 0} (r : Result T HistoryFault) (ts : List TableData) (bs cs : List BuildData) (job : Text) (number : ℕ) (status : Status) (moved : List (ℕ × ℕ))
    → AreBuilds ts bs → status ≢ Running → AreMoved ts moved → OnOk r (cs ≡ with_end job number status moved bs) → OnErr r (cs ≡ bs) → AreBuilds ts cs
builds_ended r ts bs cs job number status moved rules over given ok err =
    settled r (AreBuilds ts) bs cs (with_end job number status moved bs) ok err rules (λ _. end_kept ts job number status moved bs rules over given)

-- what equals the parts of a history are those of one
pub same_history : (ts us : List TableData) (bs cs : List BuildData) (ps qs : List (Text × TextMap)) (ds es : List (ℕ × ℕ)) → us ≡ ts → cs ≡ bs → qs ≡ ps → es ≡ ds
    → AreTables ts × AreBuilds ts bs × ArePins ps × AreDisabled ts ds → AreTables us × AreBuilds us cs × ArePins qs × AreDisabled us es
same_history ts us bs cs ps qs ds es tables builds pins disabled h =
    subst (λ (l : List TableData). AreTables l × AreBuilds l cs × ArePins qs × AreDisabled l es) (sym tables)
    (subst (λ (l : List BuildData). AreTables ts × AreBuilds ts l × ArePins qs × AreDisabled ts es) (sym builds)
    (subst (λ (l : List (Text × TextMap)). AreTables ts × AreBuilds ts bs × ArePins l × AreDisabled ts es) (sym pins)
    (subst (λ (l : List (ℕ × ℕ)). AreTables ts × AreBuilds ts bs × ArePins ps × AreDisabled ts l) (sym disabled) h)))
