-- A claim and a proof are read from the first line to the last.
use Rattle.std.proofs.Common.{◌≡◌, ℕ, zero, suc, ◌+◌, ◌-◌, ◌<◌, ◌≤◌, ◌⊎◌, inl, inr, Bool, true, false, cond, ◌==◌, List, [], ◌∷◌, ◌++◌, length, Option, Some, None, Ok, Err, refl, sym, ap, ◌∙◌, arith, length-append}
use Rattle.std.proofs.lemmas.Bool.{cases_lt, cases_Bool}
use Rattle.std.proofs.lemmas.List.{append-nil}
use Rattle.ccr_choice.specs.declared.word.Word.{Word}
use Rattle.ccr_choice.specs.Text.{lines_of, unended, first_lines, ended_lines}
use Rattle.ccr_choice.specs.Reading.{Read, ◌>>=◌, or_broken, one_line, whole, IsFirstBad}
use Rattle.ccr_choice.specs.Reading as text
use Rattle.ccr_choice.proofs.Forward.{Reader, Reach, took, halted, wants, broke, IsForward, bind_err, forward_bind, forward_done, forward_same, forward_line}
use Rattle.ccr_choice.proofs.BadLines.{bad_there, bad_back, tail_lines, first_rest}
use Rattle.ccr_choice.proofs.Keeps.{bind_ok}
use Rattle.ccr_choice.proofs.ProblemForward.{only_bad}
use Rattle.ccr_proof.specs.declared.claim.Claim.{Claim}
use Rattle.ccr_proof.specs.declared.proof_read.NodeLine.{NodeLine}
use Rattle.ccr_proof.specs.declared.proof_read.NodeLine.TheVariants as line
use Rattle.ccr_proof.specs.ClaimText.{claim_on, next_claim, claim_in}
use Rattle.ccr_proof.specs.Halts.{NodeStop, left, too_many, NodeRead, of_lines}
use Rattle.ccr_proof.specs.Tree.{Tree, job, empty, bounded, same_as, no_child, child, count}
use Rattle.ccr_proof.specs.ProofText.{bad_line, too_many_nodes, trailing, tree_lines, format_of, proof_head, node_on, by_line, next_node, next_children, next_tree, of_format, next_whole, next_proof, whole_proof, proof_in}
use Rattle.ccr_proof.proofs.ReadTree.{job_at, tree_full, tree_next}
use Rattle.ccr_proof.proofs.ProofLaws.{lines_ok, tree_found, formed}

-- ---- claims
pub forward_claim : IsForward (λ k. k) next_claim
unfolding next_claim claim_on
forward_claim = forward_line claim_on refl

pub claim_bad : (bs : List ℕ) (n : ℕ) → claim_in bs ≡ Err (text.bad_line n) → IsFirstBad claim_in text.bad_line bs n
unfolding claim_in
claim_bad bs n h = bad_there (λ k. k) (λ j k e. e) text.bad_line (whole text.bad_line text.trailing) (λ m k. refl) only_bad next_claim forward_claim bs n h

pub claim_bad_back : (bs : List ℕ) (n : ℕ) → IsFirstBad claim_in text.bad_line bs n → claim_in bs ≡ Err (text.bad_line n)
unfolding claim_in
claim_bad_back bs n h = bad_back (λ k. k) (λ j k e. e) text.bad_line (whole text.bad_line text.trailing) (λ m k. refl) only_bad next_claim forward_claim bs n h

-- ---- what lines say, before nodes are read
lines_err : {A : Type 0} (r : Read A) (e : NodeStop) → of_lines r ≡ Err e → (k : ℕ) × (r ≡ Err k) × (left k ≡ e)
lines_err (Ok x) e h = absurd (cc (h))
lines_err (Err k) e h = (k, refl, cc (h))

forward_of_lines : {A : Type 0} (at : Reader A ℕ) → IsForward (λ k. k) at → IsForward left (λ ls. of_lines (at ls))
forward_of_lines {A} at f front = go (f front)
  where
    go : Reach (λ k. k) at front → Reach left (λ ls. of_lines (at ls)) front
    go (took x q le h) = took x q le (λ rest. ap (λ r. of_lines r) (h rest))
    go (halted e other_than h) = absurd (other_than e refl)
    go (broke k less h) = broke k less (λ rest. ap (λ r. of_lines r) (h rest))
    go (wants w) = wants (record {
      here = ap (λ r. of_lines r) w.here;
      open_line = λ rest. ap (λ r. of_lines r) (w.open_line rest);
      behind = λ rest m e. (let b = lines_err (at (front ++ rest)) (left m) e in
          let same : b.0 ≡ m = cc (b.2) in
          let low = w.behind rest b.0 b.1 in omega (arith, same, low));
      after = λ rest x r e. w.after rest x r (lines_ok (at (front ++ rest)) (x, r) e);
    })

-- ---- a node's line, where job nodes may lie so deep, and what is behind it
abbrev kept_line : ℕ → Option NodeLine → Option NodeLine
kept_line zero None = None
kept_line zero (Some (line.Job j k)) = None
kept_line zero (Some (line.Empty i)) = Some (line.Empty i)
kept_line zero (Some line.Bounded) = Some line.Bounded
kept_line zero (Some (line.Same q)) = Some (line.Same q)
kept_line (suc levels) o = o

abbrev below : ℕ → ℕ → ℕ → NodeLine → List (List Word) → NodeRead Tree
below format zero nodes (line.Job j k) ls = Ok (bounded, ls)
below format zero nodes (line.Empty i) ls = Ok (empty i, ls)
below format zero nodes line.Bounded ls = Ok (bounded, ls)
below format zero nodes (line.Same q) ls = Ok (same_as q, ls)
below format (suc levels) nodes (line.Job j k) ls = next_children (next_tree format levels) k (nodes + 1) ls >>= λ ts. Ok (job j ts.0, ts.1)
below format (suc levels) nodes (line.Empty i) ls = Ok (empty i, ls)
below format (suc levels) nodes line.Bounded ls = Ok (bounded, ls)
below format (suc levels) nodes (line.Same q) ls = Ok (same_as q, ls)

abbrev line_at : ℕ → ℕ → List (List Word) → NodeRead NodeLine
line_at format levels ls = of_lines (one_line (λ l. kept_line levels (node_on format l)) ls)

line_zero : (format nodes : ℕ) (ls : List (List Word)) (o : Option NodeLine)
    → by_line o ls (job_at format zero nodes) ≡ (of_lines (or_broken ls (kept_line zero o) >>= λ x. Ok (x, ls)) >>= λ x. below format zero nodes x.0 x.1)
line_zero format nodes ls None = refl
line_zero format nodes ls (Some (line.Job j k)) = refl
line_zero format nodes ls (Some (line.Empty i)) = refl
line_zero format nodes ls (Some line.Bounded) = refl
line_zero format nodes ls (Some (line.Same q)) = refl

line_suc : (format levels nodes : ℕ) (ls : List (List Word)) (o : Option NodeLine)
    → by_line o ls (job_at format (suc levels) nodes) ≡ (of_lines (or_broken ls (kept_line (suc levels) o) >>= λ x. Ok (x, ls)) >>= λ x. below format (suc levels) nodes x.0 x.1)
line_suc format levels nodes ls None = refl
line_suc format levels nodes ls (Some (line.Job j k)) = refl
line_suc format levels nodes ls (Some (line.Empty i)) = refl
line_suc format levels nodes ls (Some line.Bounded) = refl
line_suc format levels nodes ls (Some (line.Same q)) = refl

node_same : (format levels nodes : ℕ) (ls : List (List Word)) → next_node format ls (job_at format levels nodes) ≡ (line_at format levels ls >>= λ x. below format levels nodes x.0 x.1)
node_same format zero nodes [] = refl
node_same format zero nodes (l ∷ ls) = line_zero format nodes ls (node_on format l)
node_same format (suc levels) nodes [] = refl
node_same format (suc levels) nodes (l ∷ ls) = line_suc format levels nodes ls (node_on format l)

never_open : (format levels : ℕ) → kept_line levels (node_on format unended) ≡ None
unfolding node_on
never_open format zero = refl
never_open format (suc levels) = refl

forward_node : (format levels nodes : ℕ) → ((n : NodeLine) → IsForward left (below format levels nodes n)) → IsForward left (next_tree format levels nodes)
forward_node format levels nodes each front =
    elim (cases_lt nodes 1000000) [
      | inl few ↦ forward_same left (next_tree format levels nodes) (λ ls. line_at format levels ls >>= λ x. below format levels nodes x.0 x.1)
          (λ ls. tree_next format levels nodes ls few ∙ node_same format levels nodes ls)
          (forward_bind left (line_at format levels) (below format levels nodes) each
          (forward_of_lines (one_line (λ l. kept_line levels (node_on format l))) (forward_line (λ l. kept_line levels (node_on format l)) (never_open format levels)))) front
      | inr full ↦ halted too_many (λ k e. cc) (λ rest. tree_full format levels nodes (front ++ rest) full)
    ]

forward_children : (item : ℕ → Reader Tree NodeStop) → ((n : ℕ) → IsForward left (item n)) → (k nodes : ℕ) → IsForward left (next_children item k nodes)
forward_children item each zero nodes = forward_done left no_child
forward_children item each (suc k) nodes =
    forward_bind left (item nodes) (λ t ls. next_children item k (nodes + count t) ls >>= λ ts. Ok (child t ts.0, ts.1))
    (λ t. forward_bind left (next_children item k (nodes + count t)) (λ ts ls. Ok (child t ts, ls)) (λ ts. forward_done left (child t ts))
    (forward_children item each k (nodes + count t)))
    (each nodes)

below_zero : (format nodes : ℕ) (n : NodeLine) → IsForward left (below format zero nodes n)
below_zero format nodes (line.Job j k) = forward_done left bounded
below_zero format nodes (line.Empty i) = forward_done left (empty i)
below_zero format nodes line.Bounded = forward_done left bounded
below_zero format nodes (line.Same q) = forward_done left (same_as q)

below_suc : (format levels nodes : ℕ) → ((m : ℕ) → IsForward left (next_tree format levels m)) → (n : NodeLine) → IsForward left (below format (suc levels) nodes n)
below_suc format levels nodes trees (line.Job j k) =
    forward_bind left (next_children (next_tree format levels) k (nodes + 1)) (λ ts ls. Ok (job j ts, ls)) (λ ts. forward_done left (job j ts))
    (forward_children (next_tree format levels) trees k (nodes + 1))
below_suc format levels nodes trees (line.Empty i) = forward_done left (empty i)
below_suc format levels nodes trees line.Bounded = forward_done left bounded
below_suc format levels nodes trees (line.Same q) = forward_done left (same_as q)

forward_tree : (format levels nodes : ℕ) → IsForward left (next_tree format levels nodes)
forward_tree format zero nodes = forward_node format zero nodes (below_zero format nodes)
forward_tree format (suc levels) nodes = forward_node format (suc levels) nodes (below_suc format levels nodes (λ m. forward_tree format levels m))

-- ---- a whole tree, which is bad at its last line where it isn't of the format
some_lines : (t : Tree) → 0 < length (tree_lines t)
some_lines (job j ts) = omega arith
some_lines (empty i) = omega arith
some_lines bounded = omega arith
some_lines (same_as q) = omega arith

-- a tree takes a line at the least
takes_line : (format : ℕ) (ls : List (List Word)) (x : Tree × List (List Word)) → next_tree format 32 0 ls ≡ Ok x → length x.1 < length ls
takes_line format ls x h = let found = tree_found format 32 0 ls x h in omega (arith, ap length found.lines, length-append (tree_lines x.0) x.1, some_lines x.0)

picks : (format : ℕ) (t : Tree × List (List Word)) (b : Bool) → (format == format_of t.0) ≡ b → of_format format t ≡ cond b (Ok t) (Err (left (suc (length t.1))))
picks format t b e = ap (λ c. cond c (Ok t) (Err (left (suc (length t.1))))) e

formed_err : (format : ℕ) (t : Tree × List (List Word)) (m : ℕ) → of_format format t ≡ Err (left m) → suc (length t.1) ≡ m
formed_err format t m h = picked (format == format_of t.0) h
  where
    picked : (b : Bool) → cond b (Ok t) (Err (left (suc (length t.1)))) ≡ Err (left m) → suc (length t.1) ≡ m
    picked true h = absurd (cc (h))
    picked false h = cc (h)

forward_whole : (format : ℕ) → IsForward left (next_whole format)
forward_whole format front = go (forward_tree format 32 0 front)
  where
    go : Reach left (next_tree format 32 0) front → Reach left (next_whole format) front
    go (took x q le h) =
        let takes = takes_line format (front ++ []) (x, q ++ []) (h []) in
        let short : length q < length front = omega (arith, takes, ap length (append-nil q), ap length (append-nil front)) in
        elim (cases_Bool (format == format_of x)) [
          | inl fits ↦ took x q le (λ rest. ap (λ r. r >>= of_format format) (h rest) ∙ picks format (x, q ++ rest) true fits)
          | inr differs ↦ broke (length q) short (λ rest.
              ap (λ r. r >>= of_format format) (h rest) ∙ picks format (x, q ++ rest) false differs
              ∙ ap (λ n. Err (left (suc n))) (let many = length-append q rest in let same : length (q ++ rest) ≡ length rest + length q = omega (arith, many) in same))
        ]
    go (halted e other_than h) = halted e other_than (λ rest. ap (λ r. r >>= of_format format) (h rest))
    go (broke k less h) = broke k less (λ rest. ap (λ r. r >>= of_format format) (h rest))
    go (wants w) = wants (record {
      here = ap (λ r. r >>= of_format format) w.here;
      open_line = λ rest. ap (λ r. r >>= of_format format) (w.open_line rest);
      behind = λ rest m e. elim (bind_err (next_tree format 32 0 (front ++ rest)) (of_format format) (left m) e) [
        | inl h ↦ w.behind rest m h
        | inr h ↦ (let last = formed_err format h.0 m h.2 in omega (arith, last, w.after rest h.0.0 h.0.1 h.1))
      ];
      after = λ rest x r e. (let b = bind_ok (next_tree format 32 0 (front ++ rest)) (of_format format) (x, r) e in
          let same = ap (λ y. length y.1) (formed format b.0 (x, r) b.2).1 in omega (arith, same, w.after rest b.0.0 b.0.1 b.1));
    })

-- ---- a whole proof
abbrev after_claim : ℕ → Claim → List (List Word) → NodeRead (Claim × Tree)
after_claim format c ls = next_whole format ls >>= λ tree. Ok ((c, tree.0), tree.1)

abbrev after_head : ℕ → List (List Word) → NodeRead (Claim × Tree)
after_head n ls = of_lines (next_claim ls) >>= λ claim. after_claim n claim.0 claim.1

forward_after_claim : (format : ℕ) (c : Claim) → IsForward left (after_claim format c)
forward_after_claim format c = forward_bind left (next_whole format) (λ t ls. Ok ((c, t), ls)) (λ t. forward_done left (c, t)) (forward_whole format)

forward_after_head : (n : ℕ) → IsForward left (after_head n)
forward_after_head n = forward_bind left (λ ls. of_lines (next_claim ls)) (after_claim n) (forward_after_claim n) (forward_of_lines next_claim forward_claim)

pub forward_proof : IsForward left next_proof
unfolding next_proof
forward_proof =
    forward_bind left (λ ls. of_lines (one_line proof_head ls)) after_head forward_after_head
    (forward_of_lines (one_line proof_head) (forward_line proof_head refl))

no_bad : (b : Bool) (x : Claim × Tree) (m : ℕ) → cond b (Ok x) (Err trailing) ≡ Err (bad_line m) → ⊥
no_bad true x m h = cc
no_bad false x m h = cc

only_line : (n m : ℕ) (r : NodeRead (Claim × Tree)) → whole_proof n r ≡ Err (bad_line m) → (k : ℕ) × (r ≡ Err (left k)) × (n + 1 - k ≡ m)
only_line n m (Ok x) h = absurd (no_bad (length x.1 == 0) x.0 m h)
only_line n m (Err (left k)) h = (k, refl, cc (h))
only_line n m (Err too_many) h = absurd (cc (h))

pub proof_bad : (bs : List ℕ) (n : ℕ) → proof_in bs ≡ Err (bad_line n) → IsFirstBad proof_in bad_line bs n
unfolding proof_in
proof_bad bs n h = bad_there left (λ j k e. cc (e)) bad_line whole_proof (λ m k. refl) only_line next_proof forward_proof bs n h

pub proof_bad_back : (bs : List ℕ) (n : ℕ) → IsFirstBad proof_in bad_line bs n → proof_in bs ≡ Err (bad_line n)
unfolding proof_in
proof_bad_back bs n h = bad_back left (λ j k e. cc (e)) bad_line whole_proof (λ m k. refl) only_line next_proof forward_proof bs n h

-- ---- too many nodes
no_many : (b : Bool) (x : Claim × Tree) → cond b (Ok x) (Err trailing) ≡ Err too_many_nodes → ⊥
no_many true x h = cc
no_many false x h = cc

only_many : (n : ℕ) (r : NodeRead (Claim × Tree)) → whole_proof n r ≡ Err too_many_nodes → r ≡ Err too_many
only_many n (Ok x) h = absurd (no_many (length x.1 == 0) x.0 h)
only_many n (Err (left k)) h = absurd (cc (h))
only_many n (Err too_many) h = refl

still_many : (front tail : List (List Word)) → next_proof (front ++ tail) ≡ Err too_many → (tail ≡ []) ⊎ (tail ≡ unended ∷ []) → Reach left next_proof front
    → (rest : List (List Word)) → next_proof (front ++ rest) ≡ Err too_many
still_many front tail e is (took x q le h) = absurd (cc (h tail, e))
still_many front tail e is (halted d other_than h) = let same : d ≡ too_many = cc (h tail, e) in λ rest. h rest ∙ ap Err same
still_many front tail e (inl none) (wants w) = absurd (cc (w.here, ap next_proof (sym (append-nil front)), ap (λ t. next_proof (front ++ t)) none, e))
still_many front tail e (inr one) (wants w) = absurd (cc (w.open_line [], ap (λ t. next_proof (front ++ t)) one, e))
still_many front tail e is (broke k less h) = absurd (cc (h tail, e))

-- so many nodes are asked for by the lines that have their line feeds, whatever follows
pub many_there : (bs : List ℕ) → proof_in bs ≡ Err too_many_nodes → (n : ℕ) × (n ≤ ended_lines bs) × ((more : List ℕ) → proof_in (first_lines n bs ++ more) ≡ Err too_many_nodes)
unfolding proof_in
many_there bs h =
    let t = tail_lines (ended_lines bs) bs refl in
    let e = only_many (length (lines_of bs)) (next_proof (lines_of bs)) h in
    let halts : (rest : List (List Word)) → next_proof (t.front ++ rest) ≡ Err too_many =
    elim t.tail [
      | inl is ↦ still_many t.front [] (ap next_proof (append-nil t.front ∙ sym is) ∙ e) (inl refl) (forward_proof t.front)
      | inr is ↦ still_many t.front (unended ∷ []) (ap next_proof (sym is) ∙ e) (inr refl) (forward_proof t.front)
    ] in (
      ended_lines bs,
      omega arith,
      λ more.
          ap (λ ls. whole_proof (length ls) (next_proof ls)) (t.each more) ∙ ap (whole_proof (length (t.front ++ lines_of more))) (halts (lines_of more)),
    )

pub many_back : (bs : List ℕ) → (n : ℕ) × (n ≤ ended_lines bs) × ((more : List ℕ) → proof_in (first_lines n bs ++ more) ≡ Err too_many_nodes) → proof_in bs ≡ Err too_many_nodes
many_back bs h = let r = first_rest h.0 bs h.1 in ap proof_in (sym r.1) ∙ h.2 r.0
