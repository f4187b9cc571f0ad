-- A write keeps the number of slots.
use Rattle.std.proofs.Common.{◌≡◌, ℕ, length, ap, ◌∙◌, length-set}
use Rattle.pool.specs.declared.level.Level.{Level}
use Rattle.pool.specs.Levels.{Wrote}

pub wrote_length : {B : Type 0} (l l' : Level B) (i : ℕ) (b : B) → Wrote l l' i b → length l'.blocks.now ≡ length l.blocks.now
wrote_length l l' i b w = ap length w.written ∙ length-set l.blocks.now i b
