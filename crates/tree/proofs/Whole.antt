-- Whole changes of a word, made of the steps.
use Rattle.std.proofs.Common.{◌≡◌, ℕ, ◌^◌, ◌<◌, ◌≢◌, get_or, refl, ◌∙◌, arith}
use lib.Bits.{bit_or, or_add_and, and_le_l}
use lib.Count.{count_trailing_zeros}
use Rattle.bits.proofs.Low.{low_one, low_lt}
use Rattle.bits.specs.Sums.{some}
use Rattle.pool.specs.Levels.{Wrote}
use Rattle.tree.specs.Trees.{slot1, node, slot2, word, row, group_count, block_count, used1, used2, Tight, Sound}
use Rattle.tree.specs.Steps.{Grown, Filled, Stored, Cleared, Shrunk, Put}
use Rattle.tree.specs.declared.Tree.{Tree}
use Rattle.bits.proofs.Totals.{total_same, total_at, total_most, totals_same}
use Rattle.tree.proofs.Facts.{word0}
use Rattle.tree.proofs.Grow.{nodes_words}
use Rattle.tree.proofs.Fill.{store}
use Rattle.tree.proofs.Clear.{under, bare}

-- where nothing is spent on what is empty, the slots that are named tell the counts
pub used_groups : (s : Tree) → Tight s → used1 s ≡ group_count s
used_groups s t = total_same (λ i. some (slot1 s i)) (λ i. some (row s i)) 64 (λ i l. t.groups_full i)

pub used_blocks : (s : Tree) → Tight s → used2 s ≡ block_count s
used_blocks s t = totals_same (λ i j. some (slot2 s i j)) (λ i j. some (word s i j)) 64 64 (λ i j l r. t.words_full i j)

-- a row whose words are as they were
pub row_same : (s s' : Tree) (a : ℕ) → ((b : ℕ) → word s' a b ≡ word s a b) → row s' a ≡ row s a
row_same s s' a e = simp e

pub or_some : (a b : ℕ) → 0 < b → 0 < bit_or a b
or_some a b p = omega (arith, or_add_and a b, and_le_l a b)

-- a word above 0 is stored where group and block were ensured
pub ored : (s s₁ s₂ s₃ : Tree) (i j v : ℕ) → j < 64 → Tight s → 0 < v → Grown s s₁ i → Filled s₁ s₂ i j → Stored s₂ s₃ i j v → Put s s₃ i j v
ored s s₁ s₂ s₃ i j v lj t p g f st =
    let others : (a b : ℕ) → ((a ≡ i) × (b ≡ j) → ⊥) → word s₃ a b ≡ word s a b = λ a b ne. st.others a b ne ∙ f.words a b ∙ nodes_words s s₁ g.nodes g.data_same a b in
    let row : (a : ℕ) → a ≢ i → row s₃ a ≡ row s a = λ a x. row_same s s₃ a (λ b. others a b (λ q. x q.0)) in
    record {
      sound = (
        st.shape,
        record {
          groups_full = λ a. grind (arith, f.slots, st.slots, g.others a, g.has, st.here, t.groups_full a, total_at (λ b. some (word s₃ i b)) 64 j lj, row a);
          words_full = λ a b. grind (arith, f.others a b, st.nodes a, g.nodes a, others a b, t.words_full a b, f.has, st.here);
        },
      );
      here = st.here;
      others = others;
      room1 = st.room1 ∙ f.room1 ∙ g.room1;
      room2 = rw (← g.data_same) (st.room2 ∙ f.room2);
    }

-- a call made word (i, j), which has slot c and was x, the word f x
pub changed : (s s' : Tree) (f : ℕ → ℕ) (i j c x : ℕ) → Sound s → j < 64 → c ≡ slot2 s i j → 0 < c → x ≡ get_or s.«data».blocks.now c 0 → 0 < f x → (x < 2 ^ 64 → f x < 2 ^ 64) → s'.level0 ≡ s.level0 → s'.level1 ≡ s.level1 → Wrote s.«data» s'.«data» c (f x) → Put s s' i j (f (word s i j))
changed s s' f i j c x t lj ec q ex p fits e0 e1 wr =
    let e : x ≡ word s i j = cc in
    let has : 0 < slot2 s i j = rw ec at q in
    rw (← e)
    (ored s s s s' i j (f x) lj t.1 p
    (record { shape = t.0; has = under s t.0 i j has; others = λ a ne. refl; nodes = λ a. refl; data_same = refl; room1 = refl })
    (record { shape = t.0; has = has; slots = refl; others = λ a b ne. refl; words = λ a b. refl; room1 = refl; room2 = refl })
    (store s s' i j (f x) (fits (omega (arith, t.0.fits2 i j))) t.0 has (rw e0) (rw e0) e1 (rw ec at wr)))

-- after a block gave its slot back
module _ (s s' : Tree) (i j : ℕ) (t : Tight s) (c : Cleared s s' i j) where
  pub cleared_word : word s' i j ≡ 0
  cleared_word = word0 s' c.shape i j c.gone

  pub cleared_full : (a b : ℕ) → some (slot2 s' a b) ≡ some (word s' a b)
  cleared_full a b = grind (arith, c.gone, cleared_word, c.others a b, c.words a b, t.words_full a b)

  pub cleared_group : (a : ℕ) → a ≢ i → some (slot1 s' a) ≡ some (row s' a)
  cleared_group a x = grind (arith, c.slots, row_same s s' a (λ b. c.words a b (λ q. x q.0)), t.groups_full a)

  -- other words of the group are left
  pub thinned : 0 < slot1 s i → 0 < (node s' i).mask → (node s' i).mask < 2 ^ 64 → Put s s' i j 0
  thinned p q f =
      let k = count_trailing_zeros 64 (node s' i).mask in
      let lk : k < 64 = low_lt 64 (node s' i).mask q f in
      let one : 0 < row s' i = omega (arith, low_one 64 (node s' i).mask q f, c.shape.middle i k lk, cleared_full i k, total_at (λ b. some (word s' i b)) 64 k lk) in
      record {
        sound = (c.shape, record { groups_full = λ a. grind (arith, c.slots, cleared_group a, one); words_full = cleared_full });
        here = cleared_word;
        others = c.words;
        room1 = c.room1;
        room2 = c.room2;
      }

  -- the group is empty and gave its slot back
  pub emptied : (s'' : Tree) → (node s' i).mask ≡ 0 → Shrunk s' s'' i → Put s s'' i j 0
  emptied s'' z d =
      let words : (a b : ℕ) → word s'' a b ≡ word s' a b = nodes_words s' s'' d.nodes d.data_same in
      let none : (b : ℕ) → b < 64 → word s'' i b ≡ 0 = λ b l. words i b ∙ word0 s' c.shape i b (bare s' c.shape i z b l) in
      let empty : row s'' i ≡ 0 = omega (arith, total_most (λ b. some (word s'' i b)) 64 0 (λ b l. omega (arith, none b l))) in
      record {
        sound = (
          d.shape,
          record {
            groups_full = λ a. grind (arith, d.gone, empty, d.others a, cleared_group a, row_same s' s'' a (words a));
            words_full = λ a b. grind (arith, d.nodes a, words a b, cleared_full a b);
          },
        );
        here = words i j ∙ cleared_word;
        others = λ a b ne. words a b ∙ c.words a b ne;
        room1 = d.room1 ∙ c.room1;
        room2 = simp d.data_same c.room2;
      }
