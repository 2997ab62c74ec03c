-- Stores, one after another, and the fill of a table before them.
use Rattle.std.specs.Prelude.{◌≡◌, ℕ, zero, suc, ◌+◌, ◌<◌, ◌≤◌, List, [], ◌∷◌, length, take, Option, Some, None}
use Rattle.std.specs.FinMap as finite
use Rattle.vs_types.specs.Space.{Space}
use Rattle.vs_types.specs.declared.addresses.depth.Depth.{Depth}
use Rattle.vs_walk.specs.Memory.{Memory}
use Rattle.vs_walk.specs.Walk.{TranslatesAs}
use Rattle.vs_space.specs.Held.{word_at, with_word}
use Rattle.vs_plan.specs.declared.plans.plan.Fill.{Fill}
use Rattle.vs_plan.specs.declared.plans.plan.Store.{Store}

-- the memory after a store
abbrev pub stored : Memory → Store → Memory
stored memory store = with_word memory store.frame store.index store.new

-- the memory after stores, in their order
abbrev pub stored_all : Memory → List Store → Memory
stored_all memory [] = memory
stored_all memory (store ∷ stores) = stored_all (stored memory store) stores

-- each store finds the word that it says is there
abbrev pub FindTheirWords : Memory → List Store → Type 0
FindTheirWords memory [] = Unit {0}
FindTheirWords memory (store ∷ stores) = (word_at memory store.frame store.index ≡ Some store.old) × FindTheirWords (stored memory store) stores

-- after the stores up to one of them the memory translates as a space, from that one on as another
pub record AreSafe (depth : Depth) (memory : Memory) (root : ℕ) (before after : Space) (stores : List Store) : Type 0 where
  pub switch : ℕ
  pub until : (n : ℕ) → n ≤ switch → n ≤ length stores → TranslatesAs depth (stored_all memory (take n stores)) root before
  pub since : (n : ℕ) → switch < n → n ≤ length stores → TranslatesAs depth (stored_all memory (take n stores)) root after
  pub done : TranslatesAs depth (stored_all memory stores) root after

-- numbers from the first on, each this step above the one before, so many
unfoldable pub stepping : ℕ → ℕ → ℕ → List ℕ
stepping first step zero = []
stepping first step (suc count) = first ∷ stepping (first + step) step count

-- words, but with 0 for so many of them from an index on
unfoldable pub with_gap : ℕ → ℕ → List ℕ → List ℕ
with_gap zero zero words = words
with_gap zero (suc count) [] = []
with_gap zero (suc count) (word ∷ words) = 0 ∷ with_gap zero count words
with_gap (suc gap) count [] = []
with_gap (suc gap) count (word ∷ words) = word ∷ with_gap gap count words

-- the words that are filled in
abbrev pub fill_words : Fill → List ℕ
fill_words fill = with_gap fill.gap fill.gap_count (stepping fill.first fill.step 512)

-- the memory once a table is filled
abbrev pub filled : Memory → Option Fill → Memory
filled memory None = memory
filled memory (Some fill) = finite.insert memory fill.frame (fill_words fill)
