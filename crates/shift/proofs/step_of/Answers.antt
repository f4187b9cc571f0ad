-- The keyword, and the numbers after it.
use Rattle.std.proofs.Common.{rules}
use Rattle.shift.proofs.step_of.Goals as goal

pub returns-in-Pools : goal.returns-in-Pools
returns-in-Pools c = rw c.in-Pools.is (search rules)

pub returns-in-Machine : goal.returns-in-Machine
returns-in-Machine c = rw c.in-Machine.is (search rules)

pub returns-in-Mark : goal.returns-in-Mark
returns-in-Mark c = rw c.in-Mark.is (search rules)

pub returns-in-Block : goal.returns-in-Block
returns-in-Block c = rw c.in-Block.is (search rules)

pub returns-in-Unmark : goal.returns-in-Unmark
returns-in-Unmark c = rw c.in-Unmark.is (search rules)

pub returns-in-Ask : goal.returns-in-Ask
returns-in-Ask c = rw c.in-Ask.is (search rules)

pub returns-in-Cells : goal.returns-in-Cells
returns-in-Cells c = rw c.in-Cells.is (search rules)

pub returns-in-Shared : goal.returns-in-Shared
returns-in-Shared c = rw c.in-Shared.is (search rules)

pub returns-in-Lacking : goal.returns-in-Lacking
returns-in-Lacking c = rw c.in-Lacking.is (search rules)
