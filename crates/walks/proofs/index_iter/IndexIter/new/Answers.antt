use Rattle.std.proofs.Common.{◌∙◌}
use Rattle.walks.proofs.Sifted.{lists_all}
use Rattle.walks.proofs.Steps.{rem_start}
use Rattle.walks.proofs.Whole.{whole_listed}
use Rattle.walks.proofs.index_iter.IndexIter.new.Goals as goal

pub returns-clause-starts : goal.returns-clause-starts
returns-clause-starts g c = rw c.new.ensures.same (rem_start _ _ _ _ _ 0 _ (rw c.new.ensures.same at c.new.ensures.starts) ∙ whole_listed _ _ _ _ c.rules.ensures)

pub returns-clause-lists : goal.returns-clause-lists
returns-clause-lists g c = rw (returns-clause-starts g c) (lists_all _)
