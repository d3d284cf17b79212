-- Reading a tree, one node after the other.
use Rattle.std.proofs.Common.{◌≡◌, ℕ, zero, suc, ◌+◌, ◌-◌, ◌<◌, ◌≤◌, List, [], ◌∷◌, ◌++◌, length, refl, sym, ap, ◌∙◌, subst, arith, Option, Some, Result, Ok, Err, nat_le, Vec, Global}
use Rattle.std.proofs.lemmas.Bool.{le-leb, cond-true, cond-false, false_from_ne_true, leb-true}
use Rattle.ccr_choice.specs.declared.word.Word.{Word}
use Rattle.ccr_choice.specs.Reading.{◌>>=◌}
use Rattle.ccr_proof.specs.declared.node.Node.{Node, Job}
use Rattle.ccr_proof.specs.declared.halt.Halt.{Halt}
use Rattle.ccr_proof.specs.declared.halt.Halt.TheVariants.{Memory, Left, TooMany}
use Rattle.ccr_proof.specs.declared.proof_read.NodeLine.{NodeLine}
use Rattle.ccr_proof.specs.declared.proof_read.NodeLine.TheVariants as line
use Rattle.ccr_proof.specs.Halts.{NodeStop, left, too_many, NodeRead, Halts, GivesNode}
use Rattle.ccr_proof.specs.Tree.{Tree, Trees, job, no_child, child, count, count_all, tree_of, trees_of}
use Rattle.ccr_proof.proofs.Trees.{tree_of_job}
use Rattle.ccr_proof.specs.ProofText.{node_on, by_line, next_node, next_children, next_tree}

-- what is read behind a job's line
abbrev pub job_at : ℕ → ℕ → ℕ → ℕ → ℕ → List (List Word) → NodeRead Tree
job_at format zero nodes j k after = Err (left (suc (length after)))
job_at format (suc levels) nodes j k after = next_children (next_tree format levels) k (nodes + 1) after >>= λ ts. Ok (job j ts.0, ts.1)

pub tree_full : (format levels nodes : ℕ) (ls : List (List Word)) → 1000000 ≤ nodes → next_tree format levels nodes ls ≡ Err too_many
tree_full format zero nodes ls full = cond-true (nat_le 1000000 nodes) _ _ (le-leb 1000000 nodes full)
tree_full format (suc levels) nodes ls full = cond-true (nat_le 1000000 nodes) _ _ (le-leb 1000000 nodes full)

pub tree_next : (format levels nodes : ℕ) (ls : List (List Word)) → nodes < 1000000 → next_tree format levels nodes ls ≡ next_node format ls (job_at format levels nodes)
tree_next format zero nodes ls few = cond-false (nat_le 1000000 nodes) _ _ (false_from_ne_true _ (λ e. let le = leb-true 1000000 nodes e in omega (arith, le, few)))
tree_next format (suc levels) nodes ls few = cond-false (nat_le 1000000 nodes) _ _ (false_from_ne_true _ (λ e. let le = leb-true 1000000 nodes e in omega (arith, le, few)))

pub tree_none : (format levels nodes : ℕ) (ls : List (List Word)) → nodes < 1000000 → ls ≡ [] → next_tree format levels nodes ls ≡ Err (left 0)
tree_none format levels nodes ls few none = tree_next format levels nodes ls few ∙ ap (λ xs. next_node format xs (job_at format levels nodes)) none

pub tree_line : (format levels nodes : ℕ) (ls rest : List (List Word)) (l : List Word) (o : Option NodeLine) → nodes < 1000000 → ls ≡ l ∷ rest → o ≡ node_on format l
    → next_tree format levels nodes ls ≡ by_line o rest (job_at format levels nodes)
tree_line format levels nodes ls rest l o few is says =
    tree_next format levels nodes ls few ∙ ap (λ xs. next_node format xs (job_at format levels nodes)) is ∙ ap (λ x. by_line x rest (job_at format levels nodes)) (sym says)

pub job_none : (format levels nodes j k : ℕ) (after : List (List Word)) → levels ≡ 0 → job_at format levels nodes j k after ≡ Err (left (suc (length after)))
job_none format zero nodes j k after e = refl
job_none format (suc levels) nodes j k after e = absurd (omega (arith, e))

pub job_some : (format levels nodes j k : ℕ) (after : List (List Word)) → 0 < levels → job_at format levels nodes j k after ≡ (next_children (next_tree format (levels - 1)) k (nodes + 1) after >>= λ ts. Ok (job j ts.0, ts.1))
job_some format zero nodes j k after some = absurd (omega arith)
job_some format (suc levels) nodes j k after some =
    let e : levels ≡ suc levels - 1 = omega arith in
    ap (λ n. next_children (next_tree format n) k (nodes + 1) after >>= λ ts. Ok (job j ts.0, ts.1)) e

-- ---- children, one after the other
abbrev pub onto : List Node → Trees → Trees
onto [] ts = ts
onto (c ∷ cs) ts = child (tree_of c) (onto cs ts)

onto-push : (cs : List Node) (c : Node) (ts : Trees) → onto (cs ++ c ∷ []) ts ≡ onto cs (child (tree_of c) ts)
onto-push [] c ts = refl
onto-push (x ∷ cs) c ts = ap (child (tree_of x)) (onto-push cs c ts)

onto-none : (cs : List Node) → onto cs no_child ≡ trees_of cs
onto-none [] = refl
onto-none (c ∷ cs) = ap (child (tree_of c)) (onto-none cs)

-- what was read before, in front of the rest
abbrev pub with_children : List Node → NodeRead Trees → NodeRead Trees
with_children cs r = r >>= λ ts. Ok (onto cs ts.0, ts.1)

with_none : (r : NodeRead Trees) → with_children [] r ≡ r
with_none (Ok x) = refl
with_none (Err e) = refl

with_push : (cs : List Node) (c : Node) (r : NodeRead Trees) → with_children cs (r >>= λ ts. Ok (child (tree_of c) ts.0, ts.1)) ≡ with_children (cs ++ c ∷ []) r
with_push cs c (Ok x) = ap (λ ts. Ok (ts, x.1)) (sym (onto-push cs c x.0))
with_push cs c (Err e) = refl

pub children_start : (item : ℕ → List (List Word) → NodeRead Tree) (k n nodes m : ℕ) (cs : List Node) (ls : List (List Word)) → n ≡ k → m ≡ nodes → cs ≡ []
    → with_children cs (next_children item n m ls) ≡ next_children item k nodes ls
children_start item k n nodes m cs ls same now none =
    ap (λ xs. with_children xs (next_children item n m ls)) none ∙ with_none (next_children item n m ls) ∙ ap (λ x. next_children item x m ls) same ∙ ap (λ x. next_children item k x ls) now

pub children_step : (item : ℕ → List (List Word) → NodeRead Tree) (n k nodes next : ℕ) (cs more : List Node) (ls rest : List (List Word)) (c : Node) (all : NodeRead Trees)
    → n ≡ suc k → item nodes ls ≡ Ok (tree_of c, rest) → next ≡ nodes + count (tree_of c) → more ≡ cs ++ c ∷ []
    → with_children cs (next_children item n nodes ls) ≡ all → with_children more (next_children item k next rest) ≡ all
children_step item n k nodes next cs more ls rest c all same read counted grown whole =
    ap (λ xs. with_children xs (next_children item k next rest)) grown
    ∙ ap (λ m. with_children (cs ++ c ∷ []) (next_children item k m rest)) counted
    ∙ sym (with_push cs c (next_children item k (nodes + count (tree_of c)) rest))
    ∙ ap (λ r. with_children cs (r >>= λ t. next_children item k (nodes + count t.0) t.1 >>= λ ts. Ok (child t.0 ts.0, ts.1))) (sym read)
    ∙ ap (λ m. with_children cs (next_children item m nodes ls)) (sym same)
    ∙ whole

-- a child that isn't read ends it
pub children_stop : (item : ℕ → List (List Word) → NodeRead Tree) (n k nodes : ℕ) (cs : List Node) (ls : List (List Word)) (h : NodeStop) (all : NodeRead Trees)
    → n ≡ suc k → item nodes ls ≡ Err h → with_children cs (next_children item n nodes ls) ≡ all → all ≡ Err h
children_stop item n k nodes cs ls h all same read whole =
    sym whole ∙ ap (λ m. with_children cs (next_children item m nodes ls)) same
    ∙ ap (λ r. with_children cs (r >>= λ t. next_children item k (nodes + count t.0) t.1 >>= λ ts. Ok (child t.0 ts.0, ts.1))) read

pub children_done : (item : ℕ → List (List Word) → NodeRead Tree) (n nodes : ℕ) (cs : List Node) (ls : List (List Word)) (all : NodeRead Trees)
    → n ≡ 0 → with_children cs (next_children item n nodes ls) ≡ all → all ≡ Ok (trees_of cs, ls)
children_done item n nodes cs ls all none whole =
    sym whole ∙ ap (λ m. with_children cs (next_children item m nodes ls)) none ∙ ap (λ ts. Ok (ts, ls)) (onto-none cs)

pub count_push : (cs : List Node) (c : Node) → count_all (trees_of (cs ++ c ∷ [])) ≡ count_all (trees_of cs) + count (tree_of c)
count_push [] c = omega arith
count_push (x ∷ cs) c = omega (arith, count_push cs c)

-- ---- a job's line with its children
module _ (format levels nodes j k : ℕ) (ls after : List (List Word)) (l : List Word) (few : nodes < 1000000) (is : ls ≡ l ∷ after) (says : Some (line.Job j k) ≡ node_on format l) (some : 0 < levels) where
  job_reads : next_tree format levels nodes ls ≡ (next_children (next_tree format (levels - 1)) k (nodes + 1) after >>= λ ts. Ok (job j ts.0, ts.1))
  job_reads = tree_line format levels nodes ls after l (Some (line.Job j k)) few is says ∙ job_some format levels nodes j k after some

  pub job_done : (n now : ℕ) (cs : List Node) (children : Vec Node Global) (rest : List (List Word)) → n ≡ 0 → cs ≡ children.items
      → with_children cs (next_children (next_tree format (levels - 1)) n now rest) ≡ next_children (next_tree format (levels - 1)) k (nodes + 1) after
      → next_tree format levels nodes ls ≡ Ok (tree_of (Job j children), rest)
  job_done n now cs children rest none same whole =
      job_reads
      ∙ ap (λ r. r >>= λ ts. Ok (job j ts.0, ts.1)) (children_done (next_tree format (levels - 1)) n now cs rest _ none whole)
      ∙ ap (λ xs. Ok (job j (trees_of xs), rest)) same
      ∙ ap (λ t. Ok (t, rest)) (sym (tree_of_job j children))

  pub job_stop : (n m now : ℕ) (cs : List Node) (rest : List (List Word)) (h : NodeStop) → n ≡ suc m → next_tree format (levels - 1) now rest ≡ Err h
      → with_children cs (next_children (next_tree format (levels - 1)) n now rest) ≡ next_children (next_tree format (levels - 1)) k (nodes + 1) after
      → next_tree format levels nodes ls ≡ Err h
  job_stop n m now cs rest h same read whole =
      job_reads ∙ ap (λ r. r >>= λ ts. Ok (job j ts.0, ts.1)) (children_stop (next_tree format (levels - 1)) n m now cs rest h _ same read whole)

pub halts_on : {A B : Type 0} (h : Halt) (r : Result A NodeStop) (s : Result B NodeStop) → ((x : NodeStop) → r ≡ Err x → s ≡ Err x) → Halts h r → Halts h s
halts_on Memory r s on stops = tt
halts_on (Left k) r s on stops = on (left k) stops
halts_on TooMany r s on stops = on too_many stops

pub gives_err : {X Y : Type 0} (view : X → Y) (r : Result X Halt) (y : Halt) (read : Result Y NodeStop) → r ≡ Err y → Halts y read → GivesNode view r read
gives_err view (Ok x) y read e stops = absurd (cc (e))
gives_err view (Err z) y read e stops = let P : Halt → Type 0 = λ h. Halts h read in let same : y ≡ z = cc (e) in subst P same stops
