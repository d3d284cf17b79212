-- What keeps builds orderly: one more at the end, and one that ends.
use Rattle.std.proofs.Common.{◌≡◌, ◌≢◌, ℕ, ◌+◌, ◌<◌, List, length, Bool, true, false, cond, refl, arith, AllPairs}
use Rattle.std.specs.Str.{bytes_eq}
use Rattle.std.proofs.lemmas.List.{length-map, length_push}
use Rattle.ccr_history.specs.declared.builds.TheConstants.{MOST_BUILDS}
use Rattle.ccr_history.specs.declared.build.Status.{Status}
use Rattle.ccr_history.specs.declared.build.Status.TheVariants.{Running}
use Rattle.ccr_history.specs.Text.{Text}
use Rattle.ccr_history.specs.Builds.{UsedData, BuildData, is_build_of, count_of, new_build, with_build, ended, with_end}
use Rattle.ccr_history.specs.Orderly.{IsOrderly, AreOrderly}
use Rattle.ccr_history.proofs.Lists.{each_map, each_push}
use Rattle.ccr_history.proofs.Numbered.{AreNumbered-push, AreNumbered-with_end}
use Rattle.ccr_history.proofs.Sorting.{rises-by_input, rises-by_place}

pub AreOrderly-with_build : (job : Text) (used : List UsedData) (bs : List BuildData) → length bs < MOST_BUILDS
    → AllPairs (λ u v. bytes_eq u.input v.input ≡ false) used → AreOrderly bs → AreOrderly (with_build job used bs)
AreOrderly-with_build job used bs few apart orderly =
    let b = new_build job (count_of job bs + 1) used in
    let new : IsOrderly b = (rises-by_input used apart, λ i j d lt h. absurd (omega arith), λ _. refl) in
    (omega (arith, length_push bs b), AreNumbered-push bs b orderly.1 refl, each_push IsOrderly bs b orderly.2 new)

pub AreOrderly-with_end : (job : Text) (n : ℕ) (status : Status) (moved : List (ℕ × ℕ)) (bs : List BuildData) → status ≢ Running
    → AllPairs (λ p q. p ≢ q) moved → AreOrderly bs → AreOrderly (with_end job n status moved bs)
AreOrderly-with_end job n status moved bs over apart orderly =
    let f : BuildData → BuildData = λ b. cond (is_build_of job n b) (ended status moved b) b in (
      omega (arith, length-map bs f),
      AreNumbered-with_end job n status moved bs orderly.1,
      each_map IsOrderly IsOrderly f (λ b h. by (is_build_of job n b) b h) bs orderly.2,
    )
  where
    by : (t : Bool) (b : BuildData) → IsOrderly b → IsOrderly (cond t (ended status moved b) b)
    by true b h = (h.0, rises-by_place moved apart, λ e. absurd (over e))
    by false b h = h
