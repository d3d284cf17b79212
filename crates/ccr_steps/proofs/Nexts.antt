-- Steps that go on with an answer.
use Rattle.std.proofs.Common.{◌≡◌, sym, subst}
use Rattle.ccr_pipeline.specs.Tree.{Tree}
use Rattle.ccr_steps.specs.declared.leaf.Next.{Next}
use Rattle.ccr_steps.specs.Asks.{AnswerData, Chosen}
use Rattle.ccr_steps.specs.Gains.{GainsData}
use Rattle.ccr_steps.specs.Frames.{LeafData, leaf_next, NextIs}

pub next_at : (c : Chosen) (T t : Tree) (l m : LeafData) (x : AnswerData) (g h : GainsData) (n : Next) → T ≡ t → l ≡ m → NextIs c (leaf_next c t m x g) t h n → NextIs c (leaf_next c T l x g) T h n
next_at c T t l m x g h n e f is = subst (λ y. NextIs c (leaf_next c y l x g) y h n) (sym e) (subst (λ y. NextIs c (leaf_next c t y x g) t h n) (sym f) is)
