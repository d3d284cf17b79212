-- The laws of a proof's text: what is read is written so, what is written so is read, and no text begins another.
use Rattle.std.proofs.Common.{◌≡◌, ℕ, zero, suc, ◌+◌, ◌^◌, ◌<◌, ◌≤◌, Bool, true, false, cond, ◌==◌, ◌||◌, List, [], ◌∷◌, ◌++◌, length, refl, sym, ap, ◌∙◌, subst, arith, Option, Some, None, Result, Ok, Err, IfOk, nat_le, append_assoc, inl, inr, eqb-true}
use Rattle.std.specs.List.{AllByRecursion}
use Rattle.std.proofs.lemmas.Bool.{cases_lt, le-leb, or_left, or_right, eq-eqb}
use Rattle.std.proofs.lemmas.List.{append-nil}
use Rattle.ccr_choice.specs.declared.word.Word.{Word}
use Rattle.ccr_choice.specs.declared.word.Word.TheVariants as word
use Rattle.ccr_choice.specs.Text.{lines_of, text_of}
use Rattle.ccr_choice.specs.Reading.{Read, ◌>>=◌, or_broken, one_line, whole}
use Rattle.ccr_choice.proofs.Keeps.{bind_ok, or_ok}
use Rattle.ccr_choice.proofs.Words.{IsFit}
use Rattle.ccr_choice.proofs.Texts.{IsLine, lines_fit}
use Rattle.ccr_choice.proofs.Formats.{IsFormat, text_read, text_found, text_again, text_alone}
use Rattle.ccr_proof.specs.declared.claim.Claim.{Claim}
use Rattle.ccr_proof.specs.declared.proof.Proof.{Proof}
use Rattle.ccr_proof.specs.declared.fault.ProofFault.{ProofFault}
use Rattle.ccr_proof.specs.declared.fault.ProofFault.TheVariants.{BadLine, TooManyNodes, Trailing, NoMemory}
use Rattle.ccr_proof.specs.declared.proof_read.NodeLine.{NodeLine}
use Rattle.ccr_proof.specs.declared.proof_read.NodeLine.TheVariants as line
use Rattle.ccr_proof.specs.Claim.{IsClaim}
use Rattle.ccr_proof.specs.ClaimText.{claim_line, next_claim}
use Rattle.ccr_proof.specs.Halts.{left, too_many, NodeRead, of_lines}
use Rattle.ccr_proof.specs.Proof.{IsSmall, AreSmall, IsProof}
use Rattle.ccr_proof.specs.ProofRead.{IsRead, IsReadAs}
use Rattle.ccr_proof.proofs.ClaimLaws.{one_found, one_again, claim_spelled, fit_claim}
use Rattle.ccr_proof.specs.Tree.{Tree, Trees, job, empty, bounded, same_as, no_child, child, width, count, count_all, has_same, have_same, levels, levels_all, tree_of}
use Rattle.ccr_proof.specs.ProofText.{ProofRefusal, trailing, tree_lines, trees_lines, proof_lines, proof_text, format_of, proof_head, node_on, by_line, next_node, next_children, next_tree, of_format, next_proof, whole_proof, proof_in, NothingFollows}
use Rattle.ccr_proof.proofs.ReadTree.{job_at, tree_full, tree_next}

-- ---- a node's line, both ways
abbrev line_words : NodeLine → List Word
line_words (line.Job j k) = word.Job ∷ word.Number j ∷ word.Number k ∷ []
line_words (line.Empty i) = word.Empty ∷ word.Number i ∷ []
line_words line.Bounded = word.Bounded ∷ []
line_words (line.Same q) = word.Same ∷ word.Number q ∷ []

guard : (b : Bool) (y x : NodeLine) → cond b (Some y) None ≡ Some x → y ≡ x
guard true y x h = cc
guard false y x h = cc

line_found : (format : ℕ) (l : List Word) (x : NodeLine) → node_on format l ≡ Some x → l ≡ line_words x
unfolding node_on
line_found format (word.Job ∷ word.Number j ∷ word.Number k ∷ []) x h = ap line_words (guard (nat_le k 1000000) (line.Job j k) x h)
line_found format (word.Empty ∷ word.Number i ∷ []) x h = let e : line.Empty i ≡ x = cc in ap line_words e
line_found format (word.Bounded ∷ []) x h = let e : line.Bounded ≡ x = cc in ap line_words e
line_found format (word.Same ∷ word.Number q ∷ []) x h = ap line_words (guard (format == 2) (line.Same q) x h)
line_found format [] x h = cc
line_found format (w ∷ ws) x h = cc

job_again : (format j k : ℕ) → k ≤ 1000000 → node_on format (word.Job ∷ word.Number j ∷ word.Number k ∷ []) ≡ Some (line.Job j k)
unfolding node_on
job_again format j k few = ap (λ b. cond b (Some (line.Job j k)) None) (le-leb k 1000000 few)

empty_again : (format i : ℕ) → node_on format (word.Empty ∷ word.Number i ∷ []) ≡ Some (line.Empty i)
unfolding node_on
empty_again format i = refl

bounded_again : (format : ℕ) → node_on format (word.Bounded ∷ []) ≡ Some line.Bounded
unfolding node_on
bounded_again format = refl

same_again : (format q : ℕ) → format ≡ 2 → node_on format (word.Same ∷ word.Number q ∷ []) ≡ Some (line.Same q)
unfolding node_on
same_again format q e = ap (λ b. cond b (Some (line.Same q)) None) (eq-eqb format 2 e)

-- ---- what was read is written so, and within the limits
pub record TreeFound (most nodes : ℕ) (ls : List (List Word)) (x : Tree × List (List Word)) : Type 0 where
  pub lines : ls ≡ tree_lines x.0 ++ x.1
  pub shallow : levels x.0 ≤ most
  pub few : nodes + count x.0 ≤ 1000000

record TreesFound (most k nodes : ℕ) (ls : List (List Word)) (x : Trees × List (List Word)) : Type 0 where
  lines : ls ≡ trees_lines x.0 ++ x.1
  wide : width x.0 ≡ k
  shallow : levels_all x.0 ≤ most
  few : nodes + count_all x.0 ≤ 1000000

children_found : (most : ℕ) (item : ℕ → List (List Word) → NodeRead Tree) → ((nodes : ℕ) (ls : List (List Word)) (x : Tree × List (List Word)) → item nodes ls ≡ Ok x → TreeFound most nodes ls x)
    → (k nodes : ℕ) (ls : List (List Word)) (x : Trees × List (List Word)) → nodes ≤ 1000000 → next_children item k nodes ls ≡ Ok x → TreesFound most k nodes ls x
children_found most item each zero nodes ls x within h =
    let e : (no_child, ls) ≡ x = cc in
    let P : Trees × List (List Word) → Type 0 = λ y. TreesFound most 0 nodes ls y in
    subst P e (record { lines = refl; wide = refl; shallow = omega arith; few = omega arith })
children_found most item each (suc k) nodes ls x within h =
    let one = bind_ok (item nodes ls) (λ t. next_children item k (nodes + count t.0) t.1 >>= λ ts. Ok (child t.0 ts.0, ts.1)) x h in
    let first = each nodes ls one.0 one.1 in
    let two = bind_ok (next_children item k (nodes + count one.0.0) one.0.1) (λ ts. Ok (child one.0.0 ts.0, ts.1)) x one.2 in
    let rest = children_found most item each k (nodes + count one.0.0) one.0.1 two.0 first.few two.1 in
    let e : (child one.0.0 two.0.0, two.0.1) ≡ x = cc (two.2) in
    let P : Trees × List (List Word) → Type 0 = λ y. TreesFound most (suc k) nodes ls y in
    subst P e (record {
      lines = first.lines ∙ ap (λ r. tree_lines one.0.0 ++ r) rest.lines ∙ sym (append_assoc (tree_lines one.0.0) (trees_lines two.0.0) two.0.1);
      wide = ap suc rest.wide;
      shallow = omega (arith, first.shallow, rest.shallow);
      few = omega (arith, rest.few);
    })

by_found : (format most nodes : ℕ) (after : List (List Word)) (l : List Word) (o : Option NodeLine) (x : Tree × List (List Word)) → nodes < 1000000 → node_on format l ≡ o
    → ((j k : ℕ) → job_at format most nodes j k after ≡ Ok x → TreeFound most nodes ((word.Job ∷ word.Number j ∷ word.Number k ∷ []) ∷ after) x)
    → by_line o after (job_at format most nodes) ≡ Ok x → TreeFound most nodes (l ∷ after) x
by_found format most nodes after l None x few says children h = absurd (cc (h))
by_found format most nodes after l (Some (line.Job j k)) x few says children h =
    let P : List Word → Type 0 = λ w. TreeFound most nodes (w ∷ after) x in subst P (sym (line_found format l (line.Job j k) says)) (children j k h)
by_found format most nodes after l (Some (line.Empty i)) x few says children h =
    let e : (empty i, after) ≡ x = cc in
    let P : List Word → Type 0 = λ w. TreeFound most nodes (w ∷ after) x in
    let Q : Tree × List (List Word) → Type 0 = λ y. TreeFound most nodes (line_words (line.Empty i) ∷ after) y in
    subst P (sym (line_found format l (line.Empty i) says)) (subst Q e (record { lines = refl; shallow = omega arith; few = omega arith }))
by_found format most nodes after l (Some line.Bounded) x few says children h =
    let e : (bounded, after) ≡ x = cc in
    let P : List Word → Type 0 = λ w. TreeFound most nodes (w ∷ after) x in
    let Q : Tree × List (List Word) → Type 0 = λ y. TreeFound most nodes (line_words line.Bounded ∷ after) y in
    subst P (sym (line_found format l line.Bounded says)) (subst Q e (record { lines = refl; shallow = omega arith; few = omega arith }))
by_found format most nodes after l (Some (line.Same q)) x few says children h =
    let e : (same_as q, after) ≡ x = cc in
    let P : List Word → Type 0 = λ w. TreeFound most nodes (w ∷ after) x in
    let Q : Tree × List (List Word) → Type 0 = λ y. TreeFound most nodes (line_words (line.Same q) ∷ after) y in
    subst P (sym (line_found format l (line.Same q) says)) (subst Q e (record { lines = refl; shallow = omega arith; few = omega arith }))

node_found : (format most nodes : ℕ) (ls : List (List Word)) (x : Tree × List (List Word)) → nodes < 1000000
    → ((j k : ℕ) (after : List (List Word)) → job_at format most nodes j k after ≡ Ok x → TreeFound most nodes ((word.Job ∷ word.Number j ∷ word.Number k ∷ []) ∷ after) x)
    → next_node format ls (job_at format most nodes) ≡ Ok x → TreeFound most nodes ls x
node_found format most nodes [] x few children h = absurd (cc (h))
node_found format most nodes (l ∷ ls) x few children h = by_found format most nodes ls l (node_on format l) x few refl (λ j k e. children j k ls e) h

job_found : (format most nodes j k : ℕ) (after : List (List Word)) (x : Tree × List (List Word)) → nodes < 1000000 → ((ts : Trees × List (List Word)) → next_children (next_tree format most) k (nodes + 1) after ≡ Ok ts → TreesFound most k (nodes + 1) after ts)
    → job_at format (suc most) nodes j k after ≡ Ok x → TreeFound (suc most) nodes ((word.Job ∷ word.Number j ∷ word.Number k ∷ []) ∷ after) x
job_found format most nodes j k after x few children h =
    let b = bind_ok (next_children (next_tree format most) k (nodes + 1) after) (λ ts. Ok (job j ts.0, ts.1)) x h in
    let rest = children b.0 b.1 in
    let e : (job j b.0.0, b.0.1) ≡ x = cc (b.2) in
    let P : Tree × List (List Word) → Type 0 = λ y. TreeFound (suc most) nodes ((word.Job ∷ word.Number j ∷ word.Number k ∷ []) ∷ after) y in
    subst P e (record {
      lines = ap (λ r. (word.Job ∷ word.Number j ∷ word.Number k ∷ []) ∷ r) rest.lines ∙ ap (λ n. (word.Job ∷ word.Number j ∷ word.Number n ∷ []) ∷ (trees_lines b.0.0 ++ b.0.1)) (sym rest.wide);
      shallow = omega (arith, rest.shallow);
      few = omega (arith, rest.few);
    })

pub tree_found : (format most nodes : ℕ) (ls : List (List Word)) (x : Tree × List (List Word)) → next_tree format most nodes ls ≡ Ok x → TreeFound most nodes ls x
tree_found format zero nodes ls x h =
    elim (cases_lt nodes 1000000) [
      | inl few ↦ node_found format 0 nodes ls x few (λ j k after e. absurd (cc (e))) (sym (tree_next format 0 nodes ls few) ∙ h)
      | inr full ↦ absurd (cc (h, tree_full format 0 nodes ls full))
    ]
tree_found format (suc most) nodes ls x h =
    elim (cases_lt nodes 1000000) [
      | inl few ↦ node_found format (suc most) nodes ls x few
          (λ j k after e. job_found format most nodes j k after x few (λ ts r. children_found most (next_tree format most) (λ n l y s. tree_found format most n l y s) k (nodes + 1) after ts (omega arith) r) e)
          (sym (tree_next format (suc most) nodes ls few) ∙ h)
      | inr full ↦ absurd (cc (h, tree_full format (suc most) nodes ls full))
    ]

-- ---- and what is written so is read
some_nodes : (t : Tree) → 0 < count t
some_nodes (job j ts) = omega arith
some_nodes (empty i) = omega arith
some_nodes bounded = omega arith
some_nodes (same_as q) = omega arith

pub le-width : (ts : Trees) → width ts ≤ count_all ts
le-width no_child = omega arith
le-width (child t ts) = omega (arith, some_nodes t, le-width ts)

read_job : (format most nodes j : ℕ) (ts : Trees) (rest : List (List Word)) → nodes < 1000000 → width ts ≤ 1000000
    → next_children (next_tree format most) (width ts) (nodes + 1) (trees_lines ts ++ rest) ≡ Ok (ts, rest) → next_tree format (suc most) nodes (tree_lines (job j ts) ++ rest) ≡ Ok (job j ts, rest)
read_job format most nodes j ts rest few wide children =
    tree_next format (suc most) nodes (tree_lines (job j ts) ++ rest) few
    ∙ ap (λ o. by_line o (trees_lines ts ++ rest) (job_at format (suc most) nodes)) (job_again format j (width ts) wide)
    ∙ ap (λ r. r >>= λ x. Ok (job j x.0, x.1)) children

read_child : (format most nodes : ℕ) (t : Tree) (ts : Trees) (rest : List (List Word)) → next_tree format most nodes (tree_lines t ++ (trees_lines ts ++ rest)) ≡ Ok (t, trees_lines ts ++ rest)
    → next_children (next_tree format most) (width ts) (nodes + count t) (trees_lines ts ++ rest) ≡ Ok (ts, rest)
    → next_children (next_tree format most) (width (child t ts)) nodes (trees_lines (child t ts) ++ rest) ≡ Ok (child t ts, rest)
read_child format most nodes t ts rest first others =
    ap (next_children (next_tree format most) (suc (width ts)) nodes) (append_assoc (tree_lines t) (trees_lines ts) rest)
    ∙ ap (λ r. r >>= λ x. next_children (next_tree format most) (width ts) (nodes + count x.0) x.1 >>= λ xs. Ok (child x.0 xs.0, xs.1)) first
    ∙ ap (λ r. r >>= λ xs. Ok (child t xs.0, xs.1)) others

mutual
  pub tree_again : (format : ℕ) (t : Tree) (most nodes : ℕ) (rest : List (List Word)) → (has_same t ≡ true → format ≡ 2) → levels t ≤ most → nodes + count t ≤ 1000000 → next_tree format most nodes (tree_lines t ++ rest) ≡ Ok (t, rest)
  tree_again format (job j ts) zero nodes rest formed shallow few = absurd (omega arith)
  tree_again format (job j ts) (suc most) nodes rest formed shallow few =
      read_job format most nodes j ts rest (omega arith) (omega (arith, le-width ts)) (trees_again format ts most (nodes + 1) rest formed (omega arith) (omega arith))
  tree_again format (empty i) most nodes rest formed shallow few =
      tree_next format most nodes (tree_lines (empty i) ++ rest) (omega arith) ∙ ap (λ o. by_line o rest (job_at format most nodes)) (empty_again format i)
  tree_again format bounded most nodes rest formed shallow few =
      tree_next format most nodes (tree_lines bounded ++ rest) (omega arith) ∙ ap (λ o. by_line o rest (job_at format most nodes)) (bounded_again format)
  tree_again format (same_as q) most nodes rest formed shallow few =
      tree_next format most nodes (tree_lines (same_as q) ++ rest) (omega arith) ∙ ap (λ o. by_line o rest (job_at format most nodes)) (same_again format q (formed refl))

  trees_again : (format : ℕ) (ts : Trees) (most nodes : ℕ) (rest : List (List Word)) → (have_same ts ≡ true → format ≡ 2) → levels_all ts ≤ most → nodes + count_all ts ≤ 1000000
      → next_children (next_tree format most) (width ts) nodes (trees_lines ts ++ rest) ≡ Ok (ts, rest)
  trees_again format no_child most nodes rest formed shallow few = refl
  trees_again format (child t ts) most nodes rest formed shallow few =
      read_child format most nodes t ts rest (tree_again format t most nodes (trees_lines ts ++ rest) (λ h. formed (or_left (has_same t) (have_same ts) h)) (omega arith) (omega arith))
      (trees_again format ts most (nodes + count t) rest (λ h. formed (or_right (has_same t) (have_same ts) h)) (omega arith) (omega arith))

-- ---- each line has a spelling, and its numbers are small
mutual
  pub tree_spelled : (t : Tree) (ls : List (List Word)) → IsSmall t → count t ≤ 1000000 → AllByRecursion IsLine ls → AllByRecursion IsLine (tree_lines t ++ ls)
  tree_spelled (job j ts) ls small few h = ((omega arith, (tt, (small.0, (omega (arith, le-width ts), tt)))), trees_spelled ts ls small.1 (omega arith) h)
  tree_spelled (empty i) ls small few h = ((omega arith, (tt, (small, tt))), h)
  tree_spelled bounded ls small few h = ((omega arith, (tt, tt)), h)
  tree_spelled (same_as q) ls small few h = ((omega arith, (tt, (small, tt))), h)

  trees_spelled : (ts : Trees) (ls : List (List Word)) → AreSmall ts → count_all ts ≤ 1000000 → AllByRecursion IsLine ls → AllByRecursion IsLine (trees_lines ts ++ ls)
  trees_spelled no_child ls small few h = h
  trees_spelled (child t ts) ls small few h =
      let P : List (List Word) → Type 0 = λ xs. AllByRecursion IsLine xs in
      subst P (sym (append_assoc (tree_lines t) (trees_lines ts) ls)) (tree_spelled t (trees_lines ts ++ ls) small.0 (omega arith) (trees_spelled ts ls small.1 (omega arith) h))

abbrev pub AreFit : List (List Word) → Type 0
AreFit ls = AllByRecursion (λ l. AllByRecursion IsFit l) ls

mutual
  pub fit_tree : (t : Tree) (ls : List (List Word)) → AreFit (tree_lines t ++ ls) → IsSmall t × AreFit ls
  fit_tree (job j ts) ls h = let rest = fit_trees ts ls h.1 in ((h.0.1.0, rest.0), rest.1)
  fit_tree (empty i) ls h = (h.0.1.0, h.1)
  fit_tree bounded ls h = (tt, h.1)
  fit_tree (same_as q) ls h = (h.0.1.0, h.1)

  fit_trees : (ts : Trees) (ls : List (List Word)) → AreFit (trees_lines ts ++ ls) → AreSmall ts × AreFit ls
  fit_trees no_child ls h = (tt, h)
  fit_trees (child t ts) ls h =
      let first = fit_tree t (trees_lines ts ++ ls) (subst AreFit (append_assoc (tree_lines t) (trees_lines ts) ls) h) in
      let rest = fit_trees ts ls first.1 in
      ((first.0, rest.0), rest.1)

-- ---- a whole proof, both ways
pub lines_ok : {A : Type 0} (r : Read A) (x : A × List (List Word)) → of_lines r ≡ Ok x → r ≡ Ok x
lines_ok (Ok y) x h = let e : y ≡ x = cc (h) in ap Ok e
lines_ok (Err k) x h = absurd (cc (h))

head_kept : (b : Bool) (n m : ℕ) → cond b (Some n) None ≡ Some m → n ≡ m
head_kept true n m h = cc
head_kept false n m h = cc

head_line : (l : List Word) (n : ℕ) → proof_head l ≡ Some n → l ≡ word.Proof ∷ word.Number n ∷ []
head_line (word.Proof ∷ word.Number m ∷ []) n h = ap (λ k. word.Proof ∷ word.Number k ∷ []) (head_kept (m == 1 || m == 2) m n h)
head_line [] n h = cc
head_line (w ∷ ws) n h = cc

head_found : (ls : List (List Word)) (x : ℕ × List (List Word)) → one_line proof_head ls ≡ Ok x → ls ≡ (word.Proof ∷ word.Number x.0 ∷ []) ∷ x.1
head_found [] x h = cc
head_found (l ∷ ls) x h =
    let b = bind_ok (or_broken ls (proof_head l)) (λ y. Ok (y, ls)) x h in
    let e : (b.0, ls) ≡ x = cc (b.2) in
    ap (λ v. v ∷ ls) (head_line l b.0 (or_ok _ ls b.0 b.1)) ∙ ap (λ y. (word.Proof ∷ word.Number y.0 ∷ []) ∷ y.1) e

head_again : (b : Bool) → proof_head (word.Proof ∷ word.Number (cond b 2 1) ∷ []) ≡ Some (cond b 2 1)
head_again true = refl
head_again false = refl

-- ---- a tree of a format
pub formed : (format : ℕ) (t x : Tree × List (List Word)) → of_format format t ≡ Ok x → (format ≡ format_of t.0) × (t ≡ x)
formed format t x h = picked (format == format_of t.0) refl h
  where
    picked : (b : Bool) → (format == format_of t.0) ≡ b → cond b (Ok t) (Err (left (suc (length t.1)))) ≡ Ok x → (format ≡ format_of t.0) × (t ≡ x)
    picked true e h = (eqb-true _ _ e, cc (h))
    picked false e h = absurd (cc (h))

formed_again : (t : Tree) (rest : List (List Word)) → of_format (format_of t) (t, rest) ≡ Ok (t, rest)
formed_again t rest = ap (λ b. cond b (Ok (t, rest)) (Err (left (suc (length rest))))) (eq-eqb (format_of t) (format_of t) refl)

format_small : (b : Bool) → cond b 2 1 < 2 ^ 32
format_small true = omega arith
format_small false = omega arith

-- what is read is written so, and within the limits
record ProofFound (ls : List (List Word)) (x : (Claim × Tree) × List (List Word)) : Type 0 where
  lines : ls ≡ proof_lines x.0 ++ x.1
  short : AllByRecursion IsFit (claim_line x.0.0) → IsClaim x.0.0
  shallow : levels x.0.1 ≤ 32
  few : count x.0.1 ≤ 1000000

proof_found : (ls : List (List Word)) (x : (Claim × Tree) × List (List Word)) → next_proof ls ≡ Ok x → ProofFound ls x
unfolding next_proof
proof_found ls x h =
    let one = bind_ok (of_lines (one_line proof_head ls)) (λ head. of_lines (next_claim head.1) >>= λ claim. (next_tree head.0 32 0 claim.1 >>= of_format head.0) >>= λ tree. Ok ((claim.0, tree.0), tree.1)) x h in
    let two = bind_ok (of_lines (next_claim one.0.1)) (λ claim. (next_tree one.0.0 32 0 claim.1 >>= of_format one.0.0) >>= λ tree. Ok ((claim.0, tree.0), tree.1)) x one.2 in
    let four = bind_ok (next_tree one.0.0 32 0 two.0.1 >>= of_format one.0.0) (λ tree. Ok ((two.0.0, tree.0), tree.1)) x two.2 in
    let three = bind_ok (next_tree one.0.0 32 0 two.0.1) (of_format one.0.0) four.0 four.1 in
    let written = formed one.0.0 three.0 four.0 three.2 in
    let head = head_found ls one.0 (lines_ok (one_line proof_head ls) one.0 one.1) in
    let claim = one_found one.0.1 two.0 (lines_ok (next_claim one.0.1) two.0 two.1) in
    let tree = tree_found one.0.0 32 0 two.0.1 three.0 three.1 in
    let e : ((two.0.0, three.0.0), three.0.1) ≡ x = ap (λ y. ((two.0.0, y.0), y.1)) written.1 ∙ cc (four.2) in
    let P : (Claim × Tree) × List (List Word) → Type 0 = λ y. ProofFound ls y in
    subst P e (record {
      lines = head ∙ ap (λ n. (word.Proof ∷ word.Number n ∷ []) ∷ one.0.1) written.0 ∙ ap (λ r. (word.Proof ∷ word.Number (format_of three.0.0) ∷ []) ∷ r) (claim.0 ∙ ap (λ r. claim_line two.0.0 ∷ r) tree.lines);
      short = λ fits. fit_claim two.0.0 claim.1 fits;
      shallow = tree.shallow;
      few = omega (arith, tree.few);
    })

proof_again : (x : Claim × Tree) (rest : List (List Word)) → IsProof x.0 x.1 → next_proof (proof_lines x ++ rest) ≡ Ok (x, rest)
unfolding next_proof
proof_again x rest is =
    let f = format_of x.1 in
    let behind : List (List Word) = claim_line x.0 ∷ (tree_lines x.1 ++ rest) in
    ap (λ o. of_lines (or_broken behind o >>= λ n. Ok (n, behind)) >>= λ head. of_lines (next_claim head.1) >>= λ claim. (next_tree head.0 32 0 claim.1 >>= of_format head.0) >>= λ tree. Ok ((claim.0, tree.0), tree.1))
    (head_again (has_same x.1))
    ∙ ap (λ r. of_lines r >>= λ claim. (next_tree f 32 0 claim.1 >>= of_format f) >>= λ tree. Ok ((claim.0, tree.0), tree.1)) (one_again x.0 (tree_lines x.1 ++ rest) is.claim)
    ∙ ap (λ r. (r >>= of_format f) >>= λ tree. Ok ((x.0, tree.0), tree.1)) (tree_again f x.1 32 0 rest (λ h. ap (λ b. cond b 2 1) h) is.shallow (omega (arith, is.few_nodes)))
    ∙ ap (λ r. r >>= λ tree. Ok ((x.0, tree.0), tree.1)) (formed_again x.1 rest)

proof_spelled : (x : Claim × Tree) → IsProof x.0 x.1 → AllByRecursion IsLine (proof_lines x)
proof_spelled x is =
    let P : List (List Word) → Type 0 = λ ls. AllByRecursion IsLine ls in
    ((omega arith, (tt, (format_small (has_same x.1), tt))), (claim_spelled x.0 is.claim, subst P (append-nil (tree_lines x.1)) (tree_spelled x.1 [] is.numbers is.few_nodes tt)))

-- ---- the same as a format like the others, in which a node too many is no line
forget : {A : Type 0} → NodeRead A → Read A
forget (Ok x) = Ok x
forget (Err h) = Err 0

remembered : {A : Type 0} (r : NodeRead A) (x : A × List (List Word)) → forget r ≡ Ok x → r ≡ Ok x
unfolding forget
remembered (Ok y) x h = let e : y ≡ x = cc (h) in ap Ok e
remembered (Err k) x h = absurd (cc (h))

forget_ok : {A : Type 0} (r : NodeRead A) (x : A × List (List Word)) → r ≡ Ok x → forget r ≡ Ok x
unfolding forget
forget_ok r x h = ap forget h

pub read_at : List (List Word) → Read (Claim × Tree)
read_at ls = forget (next_proof ls)

abbrev pub IsPair : Claim × Tree → Type 0
IsPair x = IsProof x.0 x.1

pub proof_format : IsFormat read_at proof_lines IsPair
unfolding read_at
proof_format = record {
  found = λ ls x h. (proof_found ls x (remembered (next_proof ls) x h)).lines;
  again = λ x rest is. forget_ok (next_proof (proof_lines x ++ rest)) (x, rest) (proof_again x rest is);
  spelled = proof_spelled;
}

-- ---- the text
proof_is : (bs : List ℕ) → proof_in bs ≡ whole_proof (length (lines_of bs)) (next_proof (lines_of bs))
unfolding proof_in
proof_is bs = refl

finished : (b : Bool) (x y : Claim × Tree) → cond b (Ok x) (Err trailing) ≡ Ok y → (b ≡ true) × (x ≡ y)
finished true x y h = (refl, cc)
finished false x y h = cc

no_line : (ls : List (List Word)) → (length ls == 0) ≡ true → ls ≡ []
no_line [] h = refl
no_line (l ∷ ls) h = absurd (omega (arith, eqb-true (length (l ∷ ls)) 0 h))

whole_ok : (n : ℕ) (r : NodeRead (Claim × Tree)) (x : Claim × Tree) → whole_proof n r ≡ Ok x → r ≡ Ok (x, [])
whole_ok n (Err (left k)) x h = cc
whole_ok n (Err too_many) x h = cc
whole_ok n (Ok y) x h =
    let f = finished (length y.1 == 0) y.0 x h in
    ap (λ q. Ok (q, y.1)) f.1 ∙ ap (λ ls. Ok (x, ls)) (no_line y.1 f.0)

-- what is read keeps the limits
pub proof_kept : (bs : List ℕ) (x : Claim × Tree) (rest : List (List Word)) → next_proof (lines_of bs) ≡ Ok (x, rest) → IsPair x
proof_kept bs x rest h =
    let found = proof_found (lines_of bs) (x, rest) h in
    let fits = subst AreFit found.lines (lines_fit bs) in
    record { claim = found.short fits.1.0; numbers = (fit_tree x.1 rest fits.1.1).0; few_nodes = found.few; shallow = found.shallow }

pub text_kept : (bs : List ℕ) (x : Claim × Tree) → proof_in bs ≡ Ok x → IsPair x
text_kept bs x h = proof_kept bs x [] (whole_ok (length (lines_of bs)) (next_proof (lines_of bs)) x (sym (proof_is bs) ∙ h))

pub proof_text_found : (bs : List ℕ) (x : Claim × Tree) → proof_in bs ≡ Ok x → bs ≡ text_of (proof_lines x)
unfolding read_at
proof_text_found bs x h =
    let read = whole_ok (length (lines_of bs)) (next_proof (lines_of bs)) x (sym (proof_is bs) ∙ h) in
    text_found proof_format (λ n. n) 0 bs x (text_kept bs x h) (ap (λ r. whole (λ n. n) 0 (length (lines_of bs)) r) (forget_ok (next_proof (lines_of bs)) (x, []) read))

pub proof_text_again : (x : Claim × Tree) → IsPair x → proof_in (text_of (proof_lines x)) ≡ Ok x
unfolding read_at
proof_text_again x is =
    let bs = text_of (proof_lines x) in
    let read = text_read (λ n. n) 0 (length (lines_of bs)) (read_at (lines_of bs)) x (text_again proof_format (λ n. n) 0 x is) in
    proof_is bs ∙ ap (whole_proof (length (lines_of bs))) (remembered (next_proof (lines_of bs)) (x, []) read)

-- ---- what read_proof and write_proof promise
pub kept_of : (result : Result Proof ProofFault) (bs : List ℕ) → IsRead result (proof_in bs) → IfOk result (λ p. IsProof p.claim (tree_of p.tree))
kept_of (Ok p) bs read = text_kept bs (p.claim, tree_of p.tree) read
kept_of (Err e) bs read = tt

pub found_of : (result : Result Proof ProofFault) (bs : List ℕ) → IsRead result (proof_in bs) → IfOk result (λ p. bs ≡ proof_text p.claim (tree_of p.tree))
found_of (Ok p) bs read = proof_text_found bs (p.claim, tree_of p.tree) read
found_of (Err e) bs read = tt

pub alone_of : (result : Result Proof ProofFault) (bs : List ℕ) → IsRead result (proof_in bs) → IfOk result (λ _. NothingFollows bs)
alone_of (Ok p) bs read = λ c t more is f. text_alone proof_format bs (p.claim, tree_of p.tree) (c, t) more (text_kept bs (p.claim, tree_of p.tree) read) is (proof_text_found bs (p.claim, tree_of p.tree) read) f
alone_of (Err e) bs read = tt

pub read_as : (result : Result Proof ProofFault) (bs : List ℕ) (c : Claim) (t : Tree) → IsRead result (proof_in bs) → IsProof c t → bs ≡ proof_text c t → IsReadAs result c t
read_as result bs c t h is e = answered result (proof_in bs) (ap proof_in e ∙ proof_text_again (c, t) is) h
  where
    answered : (result : Result Proof ProofFault) (read : Result (Claim × Tree) ProofRefusal) → read ≡ Ok (c, t) → IsRead result read → IsReadAs result c t
    answered (Ok p) read e h =
        let same : ◌≡◌ {A = Claim × Tree} (p.claim, tree_of p.tree) (c, t) = cc (e, h) in
        (ap (λ x. x.0) same, ap (λ x. x.1) same)
    answered (Err NoMemory) read e h = refl
    answered (Err (BadLine n)) read e h = absurd (cc (e, h))
    answered (Err TooManyNodes) read e h = absurd (cc (e, h))
    answered (Err Trailing) read e h = absurd (cc (e, h))
