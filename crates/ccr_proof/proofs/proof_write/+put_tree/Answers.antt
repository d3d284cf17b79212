use Rattle.std.proofs.Common.{◌<◌, ◌^◌, ◌++◌, [], ◌∷◌, arith, ap, ◌∙◌, sym, subst, append_assoc, string_bytes}
use Rattle.ccr_choice.specs.declared.word.Word.TheVariants as word
use Rattle.ccr_choice.specs.Text.{line_text, text_of}
use Rattle.ccr_proof.specs.Tree.{Tree, trees_of}
use Rattle.ccr_proof.specs.Proof.{IsSmall}
use Rattle.ccr_proof.specs.ProofText.{tree_lines, trees_lines}
use Rattle.ccr_proof.proofs.Trees.{tree_is, count_is, width_of}
use Rattle.ccr_proof.proofs.ProofLaws.{le-width}
use Rattle.ccr_proof.proofs.proof_write.+put_tree.Goals as goal

pub overflow_cast-count : goal.overflow_cast-count
overflow_cast-count t c =
    let cs = c.deref-children.result.now in
    let counted = count_is c.args.node.now c.in-Job.job c.in-Job.children cs c.in-Job.is c.deref-children.ensures.value in
    omega (arith, counted, width_of cs, le-width (trees_of cs), c.requires)

pub loop-child-init : goal.loop-child-init
loop-child-init t c =
    let cs = c.deref-children.result.now in
    let root = tree_is c.args.node.now c.in-Job.job c.in-Job.children cs c.in-Job.is c.deref-children.ensures.value in
    let counted = count_is c.args.node.now c.in-Job.job c.in-Job.children cs c.in-Job.is c.deref-children.ensures.value in
    let fits : c.in-Job.job < 2 ^ 32 = omega arith in
    let P : Tree → Type 0 = IsSmall in
    record {
      text = ap (λ s. s ++ text_of (trees_lines (trees_of cs))) c.in_ok-put_line-in-Job.ensures
          ∙ append_assoc (string_bytes c.args.out.now) _ (text_of (trees_lines (trees_of cs)))
          ∙ ap (λ n. string_bytes c.args.out.now ++ (line_text (word.Job ∷ word.Number c.in-Job.job ∷ word.Number n ∷ []) ++ text_of (trees_lines (trees_of cs)))) (sym (width_of cs))
          ∙ ap (λ r. string_bytes c.args.out.now ++ text_of (tree_lines r)) (sym root);
      few = omega (arith, counted);
      small = λ h. subst P (sym root) (fits, h);
    }
