-- A new tree.
use Rattle.std.proofs.Common.{◌≡◌, ℕ, ◌<◌, false, replicate, arith}
use Rattle.std.proofs.lemmas.List.{length-replicate}
use Rattle.std.proofs.lemmas.Bool.Decides.{nat_tests}
use Rattle.bits.proofs.Laws.{bit_of_zero}
use Rattle.pool.specs.Kinds.{level1_kind, data_kind}
use Rattle.pool.specs.Levels.{Holds}
use Rattle.pool.proofs.Chains.{sound_same}
use Rattle.bits.specs.Sums.{total, some, same}
use Rattle.tree.specs.Trees.{slot1, node, slot2, word, count1, count2, Sound}
use Rattle.tree.specs.declared.Tree.{Tree}
use Rattle.bits.proofs.Totals.{total_most}
use Rattle.tree.proofs.Facts.{zeros}

module _ (s : Tree) (es : s.level0.slots ≡ replicate 64 0) (e0 : s.level0.mask ≡ 0) (f1 : s.level1.fresh ≡ 1) (f2 : s.«data».fresh ≡ 1) (h1 : Holds level1_kind s.level1 (λ _. false)) (h2 : Holds data_kind s.«data» (λ _. false)) where
  pub new_slot1 : (i : ℕ) → slot1 s i ≡ 0
  new_slot1 i = rw es (zeros i)

  pub new_node : (i : ℕ) → node s i ≡ level1_kind.blank
  new_node i = rw (new_slot1 i) h1.1.nought

  pub new_slot2 : (i j : ℕ) → slot2 s i j ≡ 0
  new_slot2 i j = rw (new_node i) (zeros j)

  pub new_word : (i j : ℕ) → word s i j ≡ 0
  new_word i j = rw (new_slot2 i j) h2.1.nought

  pub new_count1 : (k : ℕ) → 0 < k → count1 s k ≡ 0
  new_count1 k p = omega (arith, total_most (λ i. same k (slot1 s i)) 64 0 (λ i l. omega (arith, new_slot1 i)))

  pub new_count2 : (k : ℕ) → 0 < k → count2 s k ≡ 0
  new_count2 k p = omega (arith, total_most (λ i. total (λ j. same k (slot2 s i j)) 64) 64 0 (λ i l. omega (arith, total_most (λ j. same k (slot2 s i j)) 64 0 (λ j r. omega (arith, new_slot2 i j)))))

  pub new_sound : Sound s
  new_sound = (
    record {
      long = rw es (length-replicate {A = ℕ} 64 0);
      wide = λ i. rw (new_node i) (length-replicate {A = ℕ} 64 0);
      once1 = λ k p. omega (arith, new_count1 k p);
      once2 = λ k p. omega (arith, new_count2 k p);
      holds1 = sound_same _ _ _ _ _ _ _ (λ k. grind (arith, nat_tests, new_count1 k)) h1;
      holds2 = sound_same _ _ _ _ _ _ _ (λ k. grind (arith, nat_tests, new_count2 k)) h2;
      few1 = omega arith;
      few2 = omega arith;
      fits1 = λ i. rw (new_node i) (omega arith);
      fits2 = λ i j. omega (arith, new_word i j);
      top = λ i l. rw (e0, new_slot1 i) (bit_of_zero i);
      middle = λ i j l. rw (new_node i, zeros j) (bit_of_zero j);
    },
    record {
      groups_full = λ i. omega (arith, new_slot1 i, total_most (λ j. some (word s i j)) 64 0 (λ j l. omega (arith, new_word i j)));
      words_full = λ i j. omega (arith, new_slot2 i j, new_word i j);
    },
  )
