use Rattle.std.proofs.Common.{take, flat_map}
use Rattle.ccr_page.specs.Pieces.{Adds}
use Rattle.ccr_page.specs.Sentences.{word_pieces}
use Rattle.ccr_page.proofs.sentence.push_sentence.Given as goal

abbrev pub invariant-loop-word : goal.invariant-loop-word
invariant-loop-word l = Adds l.fn.out.items l.out.items (flat_map word_pieces (take l.word-index l.words))
