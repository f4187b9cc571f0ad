use Rattle.std.proofs.Common.{arith}
use Rattle.tree.proofs.Facts.{within1, within2, past2, word0}
use Rattle.tree.proofs.Tree.word_at.Goals as goal

pub returns-then-j-ge64 : goal.returns-then-j-ge64
returns-then-j-ge64 c i e = grind (arith, word0 c.args.self.now c.requires i c.args.j, past2 c.args.self.now c.requires i c.args.j)

pub returns-then-b-size : goal.returns-then-b-size
returns-then-b-size c i e = absurd (omega (arith, c.size.ensures, within1 c.args.self.now c.requires i))

pub returns-then-c-size : goal.returns-then-c-size
returns-then-c-size c i e = grind (arith, c.size-2.ensures, c.at.ensures, e, within2 c.args.self.now c.requires i c.args.j)
