-- The frames of a store by their numbers, and how many it can have.
use Rattle.std.specs.Prelude.{ℕ, ◌+◌, ◌<◌, ◌≤◌, [], map, Option, IsSome, option_map, unwrap_or, slice_index, slice_set, refl}
use Rattle.std.specs.Coded.{Coded, code_by, coded×, coded_ℕ, coded_list}
use Rattle.std.specs.FinMap as finite
use Rattle.std.specs.Ordering.{nat_cmp}
use Rattle.vs_arena.specs.Store.{Store, StorePlace, Lenders}
use Rattle.vs_walk.specs.Memory.{Memory}

-- the frames in use by number: the number of the one at an index is the base plus the index
unfoldable pub numbered : ℕ → Store → Memory
numbered base store = finite.from_sorted (map (λ e. (base + e.0, e.1)) (finite.entries store))

-- the number of frame 0, how many frames there can be in use, those in use, and who lent the store its memory
pub record Held : Type 0 where
  pub base : ℕ
  pub limit : ℕ
  pub memory : Memory
  pub lenders : Lenders

-- the frames in use of a store in this place
abbrev pub held_in : StorePlace → Store → Held
held_in place store = record { base = place.base; limit = place.size; memory = numbered place.base store; lenders = place.lenders }

abbrev pub held_code : Coded Held
held_code = code_by (ℕ × (ℕ × (Memory × Lenders)))
    (coded× coded_ℕ (coded× coded_ℕ (coded× (finite.code {R = nat_cmp} coded_ℕ (coded_list coded_ℕ)) (coded_list coded_ℕ))))
    (λ h. (h.base, (h.limit, (h.memory, h.lenders)))) (λ p. record { base = p.0; limit = p.1.0; memory = p.1.1.0; lenders = p.1.1.1 }) (λ _. refl)

-- the frames in use have numbers from the base on, below the base plus how many there can be
pub record AreNumbered (held : Held) : Type 0 where
  pub from_base : (number : ℕ) → IsSome (finite.get held.memory number) → held.base ≤ number
  pub below : (number : ℕ) → IsSome (finite.get held.memory number) → number < held.base + held.limit

-- the word of a frame at an index, where the frame is in use
unfoldable pub word_at : Memory → ℕ → ℕ → Option ℕ
word_at memory number index = option_map (λ words. slice_index words index) (finite.get memory number)

-- the memory with this word in a frame, at an index
unfoldable pub with_word : Memory → ℕ → ℕ → ℕ → Memory
with_word memory number index word = finite.insert memory number (slice_set (unwrap_or (finite.get memory number) []) index word)
