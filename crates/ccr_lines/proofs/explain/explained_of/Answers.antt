use Rattle.ccr_lines.proofs.explain.explained_of.Goals as goal

pub returns : goal.returns
returns c = (c.args.index.now.problem, c.in_ok-chosen.chosen, c.requires.problem, c.in_ok-chosen.ensures, c.in_ok-explained.ensures)
