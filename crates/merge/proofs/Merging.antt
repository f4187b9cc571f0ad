-- Merges of picked words, put together.
use Rattle.std.proofs.Common.{◌≡◌, ℕ, ◌<◌, Bool, true, cond, ◌&&◌, eqb, length, refl, ◌∙◌, arith}
use Rattle.std.proofs.lemmas.Bool.Decides.{nat_tests}
use Rattle.bits.specs.Bit.{bit, Lost}
use Rattle.bits.proofs.Laws.{bit_of_zero}
use Rattle.tree.specs.declared.Tree.{Tree}
use Rattle.tree.specs.Trees.{word, Sound}
use Rattle.tree.specs.Steps.{Put, Lent}
use Rattle.merge.specs.Merged.{Merged, all, in_group}
use Rattle.merge.proofs.Queue.{gone_places, gone_groups}

module _ (f : ℕ → ℕ → ℕ) where
  -- a word y that is merged in turn: u before, u' on the way, u'' after place k is handed out
  place_turn : (i w k v a b u u' u'' y : ℕ) → Lost w k v → u' ≡ cond (eqb a i && eqb (bit w b) 0) (f u y) u → ((a ≡ i) × (b ≡ k) → u'' ≡ f u' y) → (((a ≡ i) × (b ≡ k) → ⊥) → u'' ≡ u') → u'' ≡ cond (eqb a i && eqb (bit v b) 0) (f u y) u
  place_turn i w k v a b u u' u'' y h e here others = grind (arith, nat_tests, h.rest b, h.one, h.gone)

  group_turn : (w k v a u u' u'' y : ℕ) → Lost w k v → u' ≡ cond (eqb (bit w a) 0) (f u y) u → u'' ≡ cond (eqb a k) (f u' y) u' → u'' ≡ cond (eqb (bit v a) 0) (f u y) u
  group_turn w k v a u u' u'' y h e d = grind (arith, nat_tests, h.rest a, h.one, h.gone)

  -- a word that is not picked, or that f does not change
  kept_word : (c : Bool) (u y : ℕ) → (c ≡ true → f u y ≡ u) → u ≡ cond c (f u y) u
  kept_word c u y h = grind (arith, nat_tests)

  module _ (x : ℕ → ℕ → ℕ) where
    -- no word is picked that f changes
    pub unmoved : (pick : ℕ → ℕ → Bool) (s : Tree) → Sound s → ((a b : ℕ) → pick a b ≡ true → f (word s a b) (x a b) ≡ word s a b) → Merged f pick x s s
    unmoved pick s t h =
        record { sound = t; words = λ a b. kept_word (pick a b) (word s a b) (x a b) (h a b); room1 = refl; room2 = refl; lent = record { upper = refl; lower = refl } }

    -- f changes no word where n is 0, and a mask announces where it is not: what a queue of the mask misses at the start
    module _ (n : ℕ → ℕ → ℕ) (s : Tree) (t : Sound s) (quiet : (a b : ℕ) → n a b ≡ 0 → f (word s a b) (x a b) ≡ word s a b) where
      pub start_places : (i left : ℕ) (mask : ℕ → ℕ) → left ≡ mask i → ((a b : ℕ) → 0 < n a b → bit (mask a) b ≡ 1) → Merged f (gone_places i left) x s s
      start_places i left mask e h = unmoved _ s t (λ a b g. quiet a b (grind (arith, nat_tests, h a b)))

      pub start_groups : (top mask : ℕ) → top ≡ mask → ((a b : ℕ) → 0 < n a b → bit mask a ≡ 1) → Merged f (gone_groups top) x s s
      start_groups top mask e h = unmoved _ s t (λ a b g. quiet a b (grind (arith, nat_tests, h a b)))

    -- the words of s'' follow from those of s', which are merged
    after : {p r : ℕ → ℕ → Bool} {s s' s'' : Tree} → Merged f p x s s' → Sound s'' → length s''.level1.blocks.now ≡ length s'.level1.blocks.now → length s''.«data».blocks.now ≡ length s'.«data».blocks.now → Lent s' s'' → ((a b : ℕ) → word s'' a b ≡ cond (r a b) (f (word s a b) (x a b)) (word s a b)) → Merged f r x s s''
    after m t d e l h =
        record { sound = t; words = h; room1 = d ∙ m.room1; room2 = e ∙ m.room2; lent = record { upper = l.upper ∙ m.lent.upper; lower = l.lower ∙ m.lent.lower } }

    pub next_place : {i w k v : ℕ} {s s' s'' : Tree} → Lost w k v → Merged f (gone_places i w) x s s' → Put s' s'' i k (f (word s' i k) (x i k)) → Lent s' s'' → Merged f (gone_places i v) x s s''
    next_place h m p l = after m p.sound p.room1 p.room2 l (λ a b. place_turn _ _ _ _ a b _ _ _ _ h (m.words a b) (λ e. cc (e.0, e.1, p.here)) (p.others a b))

    pub next_group : {w k v : ℕ} {s s' s'' : Tree} → Lost w k v → Merged f (gone_groups w) x s s' → Merged f (in_group k) x s' s'' → Merged f (gone_groups v) x s s''
    next_group h m n = after m n.sound n.room1 n.room2 n.lent (λ a b. group_turn _ _ _ a _ _ _ _ h (m.words a b) (n.words a b))

    -- at the end all are gone
    pub repicked : {p q : ℕ → ℕ → Bool} {s s' : Tree} → Merged f p x s s' → ((a b : ℕ) → p a b ≡ q a b) → Merged f q x s s'
    repicked m e = after m m.sound refl refl (record { upper = refl; lower = refl }) (λ a b. cc (m.words a b, e a b))

    pub all_places : (i : ℕ) {w : ℕ} {s s' : Tree} → w ≡ 0 → Merged f (gone_places i w) x s s' → Merged f (in_group i) x s s'
    all_places i z m = repicked m (λ a b. grind (arith, nat_tests, bit_of_zero b))

    pub all_groups : {w : ℕ} {s s' : Tree} → w ≡ 0 → Merged f (gone_groups w) x s s' → Merged f all x s s'
    all_groups z m = repicked m (λ a b. grind (arith, nat_tests, bit_of_zero a))
