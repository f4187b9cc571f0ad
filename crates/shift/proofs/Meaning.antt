-- A line says one step, or goes wrong in one way.
use Rattle.std.proofs.Common.{◌≡◌, ℕ, ◌⊎◌, List, [], ◌∷◌, length, get_or, Ok, Err, Result, refl, ap, inl, inr, MatchResult, arith}
use Rattle.shift.specs.Lines.{Idle, Spelled, Says, Fault}
use Rattle.shift.specs.Words.{spelling, due}
use Rattle.shift.specs.declared.Expected.{Expected}
use Rattle.shift.specs.declared.Step.{Step}
use Rattle.shift.specs.declared.Step.TheVariants.{Nothing, Pools, Machine, Mark, Block, Unmark, Ask, Cells, Shared, Lacking}
use Rattle.shift.specs.declared.words.Word.{Word}
use Rattle.shift.specs.declared.words.Word.TheVariants as word
use Rattle.shift.proofs.Cuts.{one_cut}
use Rattle.shift.proofs.Keywords.{bare_text, idle_none, one_word}
use Rattle.shift.proofs.Listed.{cut_lists, amiss_none, amiss_one, one_list}

-- the step of a keyword and its numbers
abbrev made : Word → List ℕ → Step
made word.Pools ns = Pools (get_or ns 0 0) (get_or ns 1 0)
made word.Machine ns = Machine (get_or ns 0 0)
made word.Mark ns = Mark (get_or ns 0 0)
made word.Block ns = Block (get_or ns 0 0) (get_or ns 1 0)
made word.Unmark ns = Unmark (get_or ns 0 0)
made word.Ask ns = Ask (get_or ns 0 0)
made word.Cells ns = Cells (get_or ns 0 0)
made word.Shared ns = Shared (get_or ns 0 0)
made word.Lacking ns = Lacking (get_or ns 0 0)

-- a line that says a step is idle, or is a keyword and its numbers
abbrev Seen : List ℕ → Step → Type 0
Seen line s =
    (Idle line × (s ≡ Nothing))
    ⊎ ((w : Word) × (ns : List ℕ) × (s ≡ made w ns) × (length ns ≡ due w) × Spelled (spelling w) ns line)

seen : (line : List ℕ) (s : Step) → Says line s → Seen line s
seen line Nothing h = inl (h, refl)
seen line (Pools p q) h = inr (word.Pools, p ∷ (q ∷ []), refl, refl, h)
seen line (Machine n) h = inr (word.Machine, n ∷ [], refl, refl, h)
seen line (Mark n) h = inr (word.Mark, n ∷ [], refl, refl, h)
seen line (Block p q) h = inr (word.Block, p ∷ (q ∷ []), refl, refl, h)
seen line (Unmark n) h = inr (word.Unmark, n ∷ [], refl, refl, h)
seen line (Ask n) h = inr (word.Ask, n ∷ [], refl, refl, h)
seen line (Cells n) h = inr (word.Cells, n ∷ [], refl, refl, h)
seen line (Shared n) h = inr (word.Shared, n ∷ [], refl, refl, h)
seen line (Lacking n) h = inr (word.Lacking, n ∷ [], refl, refl, h)

one_seen : (line : List ℕ) (s t : Step) → Seen line s → Seen line t → s ≡ t
one_seen line s t p q = grind (arith, idle_none line, one_word, one_list)

fault_none : (line : List ℕ) (e : Expected) (s : Step) → Fault line e → Seen line s → ⊥
fault_none line e s f p = grind (arith, one_cut, bare_text, idle_none line, one_word, cut_lists, amiss_none)

fault_one : (line : List ℕ) (e f : Expected) → Fault line e → Fault line f → e ≡ f
fault_one line e f p q = grind (arith, one_cut, bare_text, one_word, amiss_one)

-- so the answer is the step that the line says
pub only : (line : List ℕ) (r : Result Step Expected) → MatchResult r (Says line) (Fault line) → (s : Step) → Says line s → r ≡ Ok s
only line (Ok t) h s p = ap Ok (one_seen line t s (seen line t h) (seen line s p))
only line (Err e) h s p = absurd (fault_none line e s h (seen line s p))

-- or the way in which it goes wrong
pub alone : (line : List ℕ) (r : Result Step Expected) → MatchResult r (Says line) (Fault line) → (e : Expected) → Fault line e → r ≡ Err e
alone line (Ok t) h e f = absurd (fault_none line e t f (seen line t h))
alone line (Err d) h e f = ap Err (fault_one line d e h f)
