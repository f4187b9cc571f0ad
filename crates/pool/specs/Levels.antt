-- The same of a `Level`, for contracts.
use Rattle.std.specs.Prelude.{◌≡◌, ℕ, Bool, true, false, cond, length, Some, None, Option, ◌==◌, nat_lt, slice_set}
use Rattle.pool.specs.declared.level.Level.{Level}
use Rattle.pool.specs.Kinds.{Kind}
use Rattle.pool.specs.Pool.{Sound, Took, Gave}

-- the invariant of a level whose held slots are those at which held is true
abbrev pub Holds : {B : Type 0} → Kind B → Level B → (ℕ → Bool) → Type 0
Holds kind l held = Sound kind l.blocks.now l.root_empty_block l.empty_blocks_count l.fresh held

-- there are held slots with which it is sound
abbrev pub Good : {B : Type 0} → Kind B → Level B → Type 0
Good kind l = (held : ℕ → Bool) × Holds kind l held

-- a new pool: no slot is held, none was ever taken
pub record Fresh {B : Type 0} (kind : Kind B) (l : Level B) : Type 0 where
  pub first : l.fresh ≡ 1
  pub none : Holds kind l (λ _. false)

-- what taking a slot does, whichever slots are held
abbrev pub Taken : {B : Type 0} → Kind B → Level B → Level B → Option ℕ → Type 0
Taken kind l l' r = (held : ℕ → Bool) → Holds kind l held → Took kind l.blocks.now l.root_empty_block l.empty_blocks_count l.fresh l'.blocks.now l'.root_empty_block l'.empty_blocks_count l'.fresh held r

-- what freeing slot i does, whichever slots are held
abbrev pub Given : {B : Type 0} → Kind B → Level B → Level B → ℕ → Type 0
Given kind l l' i = (held : ℕ → Bool) → Holds kind l held → held i ≡ true → Gave kind l.blocks.now l.root_empty_block l.empty_blocks_count l.fresh l'.blocks.now l'.root_empty_block l'.empty_blocks_count l'.fresh held i

-- only slot i was written
pub record Wrote {B : Type 0} (l l' : Level B) (i : ℕ) (b : B) : Type 0 where
  pub written : l'.blocks.now ≡ slice_set l.blocks.now i b
  pub same_root : l'.root_empty_block ≡ l.root_empty_block
  pub same_count : l'.empty_blocks_count ≡ l.empty_blocks_count
  pub same_fresh : l'.fresh ≡ l.fresh

-- the slot that take gives: the chain's first, else the first that was never taken
abbrev pub picked : {B : Type 0} → Level B → Option ℕ
picked l = cond (l.root_empty_block == 18446744073709551615) (cond (nat_lt l.fresh (length l.blocks.now)) (Some l.fresh) None) (Some l.root_empty_block)
