use Rattle.std.proofs.Common.{◌≡◌, ◌≢◌, ℕ, ◌+◌, ◌<◌, ◌≤◌, List, [], ◌∷◌, ◌++◌, length, take, get_or, sym, ap, ◌∙◌, arith}
use Rattle.std.proofs.lemmas.Bool.{ne_eqb}
use Rattle.std.proofs.lemmas.List.{take_more}
use Rattle.ccr_page.specs.Texts.{trimmed}
use Rattle.ccr_page.proofs.LinkLaws.{trimmed_slash, trimmed_other}
use Rattle.ccr_page.proofs.escape.trimmed_length.Goals as goal
use Rattle.ccr_page.proofs.escape.trimmed_length.Goals.{then-byte-ne47, else-byte-ne47}

pub loop-at-preserved : goal.loop-at-preserved
loop-at-preserved c =
    let t = c.args.text.now in
    let i = c.loop-at.at in
    let b = get_or t i 0 in
    let is = c.loop-at.invariant in
    let within : i < length t = omega arith in
    let more : take (i + 1) t ≡ take i t ++ b ∷ [] = take_more t i 0 within in
    elim c.if-byte-ne47.branch [
      | then-byte-ne47 w ↦ (let other : b ≢ 47 = w.if-byte-ne47.true in record {
        within = omega (arith, w.end-is);
        value = ap (λ n. take n t) w.end-is ∙ (more ∙ (sym (trimmed_other (take i t) b (ne_eqb b 47 other)) ∙ sym (ap trimmed more)));
      })
      | else-byte-ne47 w ↦ (let slash : b ≡ 47 = w.if-byte-ne47.false in record {
        within = omega (arith, w.end-is, is.within);
        value = ap (λ n. take n t) w.end-is ∙ (is.value ∙ (sym (trimmed_slash (take i t)) ∙ (sym (ap (λ n. trimmed (take i t ++ n ∷ [])) slash) ∙ sym (ap trimmed more))));
      })
    ]
