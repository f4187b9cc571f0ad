-- Level-1 blocks whose slot numbers are all 0.
use Rattle.std.proofs.Common.{◌≡◌, ℕ, ◌<◌, length, get_or, replicate, sym, ap, ◌∙◌, arith}
use Rattle.std.proofs.lemmas.List.{ext_get_or, get_or-replicate, length-replicate}
use Rattle.pool.specs.declared.block.Block.{Block}
use Rattle.pool.specs.Kinds.{level1_kind}

-- a block of 64 slots that are all 0 is empty but for its link
pub clean_node : (b : Block) → length b.slots ≡ 64 → ((k : ℕ) → k < 64 → get_or b.slots k 0 ≡ 0) → level1_kind.relink b 0 ≡ level1_kind.blank
clean_node b long none =
    let e : b.slots ≡ replicate 64 0 = ext_get_or 0 b.slots (replicate 64 0) (long ∙ sym (length-replicate {A = ℕ} 64 0)) (λ k lt. none k (omega arith) ∙ sym (get_or-replicate {A = ℕ} 64 k 0 0 (omega arith))) in
    ap (λ s. record { mask = 0; slots = s }) e
