use Rattle.std.proofs.Common.{refl}
use Rattle.pool.proofs.Chains.{push}
use Rattle.pool.proofs.level.Level.remove_empty_block.Goals as goal

pub returns : goal.returns
returns g c =
    let law = g.met.B.IBlock in
    let p = c.requires.taken in
    let wrote = c.push_empty_block.ensures g.B.IBlock.kind.blank in
    let gave = push _ law.again law.linked _ _ _ _ _ p.0 _ p.1.0 p.1.1 c.requires.clean wrote in
    record { given = λ held t h. push _ law.again law.linked _ _ _ _ _ held _ t h c.requires.clean wrote; good = (_, gave.sound); lent = refl }
