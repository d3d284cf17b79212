-- The tree of a node, from its children as a list.
use Rattle.std.proofs.Common.{◌≡◌, ℕ, suc, ◌+◌, ◌<◌, List, [], ◌∷◌, length, drop, get_or, refl, sym, ap, ◌∙◌, arith, Vec, Global, drop-cons, add-one}
use mathlib.Core.Former.{Count}
use Rattle.ccr_proof.specs.declared.node.Node.{Node, Job, Job', Row_of-Node, end_of-Node, more_of-Node, items-the_row-Node, items_hidden-the_row-Node-0}
use Rattle.ccr_proof.specs.Tree.{job, child, width, count, count_all, tree_of, trees_of_row, trees_of}

row_trees : (n : _) (row : Row_of-Node n) → trees_of_row row ≡ trees_of (items-the_row-Node n row)
row_trees n end_of-Node = refl
row_trees n (more_of-Node c rest) = ap (λ ts. child (tree_of c) ts) (row_trees _ rest)

abbrev row_of : Node → (n : Count) × Row_of-Node n
row_of (Job' j _ row) = (_, row)
row_of _ = (_, end_of-Node)

pub tree_of_job : (j : ℕ) (children : Vec Node Global) → tree_of (Job j children) ≡ job j (trees_of children.items)
tree_of_job j children =
    let row = row_of (Job j children) in
    ap (job j) (row_trees row.0 row.1 ∙ ap trees_of (items_hidden-the_row-Node-0 children))

pub width_of : (cs : List Node) → width (trees_of cs) ≡ length cs
width_of [] = refl
width_of (c ∷ cs) = ap suc (width_of cs)

pub trees_at : (cs : List Node) (k : ℕ) (c : Node) → k < length cs → c ≡ get_or cs k c → trees_of (drop k cs) ≡ child (tree_of c) (trees_of (drop (k + 1) cs))
trees_at cs k c within at = let e : drop k cs ≡ c ∷ drop (k + 1) cs = cc (drop-cons cs k c within, add-one k) in ap trees_of e

pub tree_is : (node : Node) (j : ℕ) (children : Vec Node Global) (cs : List Node) → node ≡ Job j children → cs ≡ children.items → tree_of node ≡ job j (trees_of cs)
tree_is node j children cs is same = ap tree_of is ∙ tree_of_job j children ∙ ap (λ xs. job j (trees_of xs)) (sym same)

pub count_is : (node : Node) (j : ℕ) (children : Vec Node Global) (cs : List Node) → node ≡ Job j children → cs ≡ children.items → 1 + count_all (trees_of cs) ≡ count (tree_of node)
count_is node j children cs is same = let e : 1 + count_all (trees_of cs) ≡ suc (count_all (trees_of cs)) = omega arith in e ∙ ap count (sym (tree_is node j children cs is same))
