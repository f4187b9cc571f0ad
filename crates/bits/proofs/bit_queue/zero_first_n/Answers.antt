use Rattle.std.proofs.Common.{sym, rules}
use Rattle.bits.proofs.Cut.{cut_low, cut_high, masked, emptied}
use Rattle.bits.proofs.bit_queue.zero_first_n.Goals as goal

pub returns-then-n-lt64 : goal.returns-then-n-lt64
returns-then-n-lt64 c =
    let e = masked c.args.word c.args.n (search rules) c.if-n-lt64.true in
    record { value = e; below = rw e (cut_low c.args.n c.args.word); above = rw e (cut_high c.args.n c.args.word) }

pub returns-else-n-lt64 : goal.returns-else-n-lt64
returns-else-n-lt64 c =
    let e = sym (emptied c.args.word c.args.n (search rules) c.if-n-lt64.false) in
    record { value = e; below = rw (← e) at (cut_low c.args.n c.args.word); above = rw (← e) at (cut_high c.args.n c.args.word) }
