-- Xor of {5, 70} with itself, computed from the definitions.
use Rattle.std.proofs.Common.{◌≡◌, ℕ, ◌*◌, ◌^◌, Bool, [], ◌∷◌, ◌++◌, map, refl, ◌∙◌}
use lib.Bits.{bit_or, bit_xor, xor_self}
use Rattle.bits.specs.Sums.{total}
use Rattle.bits.specs.Bit.{bit}
use Rattle.bits.specs.Places.{scan, places}
use Rattle.bits.specs.Indices.{offset}
use Rattle.roll.specs.Members.{any, one}
use Rattle.walks.specs.Pending.{row, rows, whole}
use Rattle.acts.specs.Blocks.{announced, block_list, word_of}
use Rattle.worked.specs.Table.{among, top_of, middle_of, data_of, empty_at, Emptied}
use Rattle.worked.proofs.Runs.{nowhere}

abbrev pair : ℕ → Bool
pair = among (5 ∷ 70 ∷ [])

abbrev words : ℕ → ℕ → ℕ
words a b = bit_xor (data_of pair a b) (data_of pair a b)

-- a walk over one group
first_group : places 1 ≡ 0 ∷ []
unfolding places scan bit
first_group = refl

one_group : (m : ℕ → ℕ) (w : ℕ → ℕ → ℕ) (t u : ℕ) → t ≡ 1 → m 0 ≡ u → announced t m w ≡ block_list w (row 0 (places u) ++ [])
unfolding whole rows
one_group m w t u e f = rw (e, first_group, f)

two_blocks : block_list words (row 0 (places 3) ++ []) ≡ map empty_at (0 ∷ 64 ∷ [])
unfolding block_list row places scan bit word_of total
two_blocks = refl

pub emptied : Emptied (among (5 ∷ 70 ∷ [])) 0 3 (0 ∷ 64 ∷ [])
unfolding top_of middle_of total any
emptied = record {
  middle = refl;
  blocks = one_group (λ a. bit_or (middle_of pair a) (middle_of pair a)) words _ 3 refl refl ∙ two_blocks;
  nobody = λ n. nowhere bit_xor n (pair n) (pair n) (xor_self (one (pair n) * 2 ^ offset n));
}
