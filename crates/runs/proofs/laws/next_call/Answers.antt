-- A call after a list.
use Rattle.std.proofs.Common.{◌-◌, length}
use Rattle.runs.proofs.Room.{list_rule}
use Rattle.runs.proofs.laws.next_call.Goals as goal

pub returns-clause-memory : goal.returns-clause-memory
returns-clause-memory g c =
    rw (c.on-answer.ensures.says, c.after_list-set.ensures.members) (list_rule (length c.args.level1.now - 1) (length c.args.«data».now - 1) (g.S.Script.asks c.args.list) (g.C.Call.asks c.args.call))
