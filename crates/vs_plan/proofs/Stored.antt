-- Stores, one after another: what the last of them does, and what none of them changes.
use Rattle.std.proofs.Common.{◌≡◌, ℕ, List, [], ◌∷◌, ◌++◌, Option, None, Some, Contains, refl, sym, ap, subst, ◌∙◌, ◌%◌, arith}
use Rattle.std.specs.Prelude.{option_map, IsSome, slice_index}
use Rattle.std.specs.FinMap as finite
use Rattle.vs_types.proofs.Lists.{Contains-head, Contains-tail}
use Rattle.vs_walk.specs.Memory.{Memory}
use Rattle.vs_space.specs.Held.{word_at}
use Rattle.vs_space.proofs.Writes.{get_written_other}
use Rattle.vs_plan.specs.declared.plans.plan.Store.{Store}
use Rattle.vs_plan.specs.Shown.{frames_of}
use Rattle.vs_plan.specs.Stores.{stored, stored_all, FindTheirWords}
use Rattle.vs_types.specs.Depth.{index_at}
use Rattle.vs_types.specs.Entry.{meaning}
use Rattle.vs_space.specs.Path.{found_at}
use Rattle.vs_types.specs.declared.entries.entry.Meaning.TheVariants as entry

pub stored_push : (m : Memory) (stores : List Store) (s : Store) → stored_all m (stores ++ s ∷ []) ≡ stored (stored_all m stores) s
stored_push m [] s = refl
stored_push m (t ∷ stores) s = stored_push (stored m t) stores s

pub found_push : (m : Memory) (stores : List Store) (s : Store) → FindTheirWords m stores → word_at (stored_all m stores) s.frame s.index ≡ Some s.old
    → FindTheirWords m (stores ++ s ∷ [])
found_push m [] s found here = (here, tt)
found_push m (t ∷ stores) s found here = (found.0, found_push (stored m t) stores s found.1 here)

-- frames that no store names stay
pub stored_elsewhere : (m : Memory) (stores : List Store) (q : ℕ) → (Contains (frames_of stores) q → ⊥)
    → finite.get (stored_all m stores) q ≡ finite.get m q
stored_elsewhere m [] q apart = refl
stored_elsewhere m (s ∷ stores) q apart =
    stored_elsewhere (stored m s) stores q (λ in_rest. apart (Contains-tail s.frame (frames_of stores) q in_rest))
    ∙ get_written_other m s.frame s.index s.new q
    (λ same. apart (subst (Contains (s.frame ∷ frames_of stores)) (sym same) (Contains-head s.frame (frames_of stores))))

-- a frame of which a word is found is there
pub used_word : (m : Memory) (n i w : ℕ) → word_at m n i ≡ Some w → IsSome (finite.get m n)
unfolding word_at
used_word m n i w is = by (finite.get m n) is where
  by : (o : Option (List ℕ)) → option_map (λ words. slice_index words i) o ≡ Some w → IsSome o
  by None is = cc
  by (Some words) is = refl

-- what is found at a word
pub found_word : (level : ℕ) (m : Memory) (n a word : ℕ) → word_at m n (index_at level a) ≡ Some word → found_at level m n a ≡ Some (meaning level word)
unfolding found_at
found_word level m n a word is = ap (option_map (meaning level)) is

-- a word whose bit 0 is clear is absent at each level
pub even_absent : (level word : ℕ) → word % 2 ≡ 0 → meaning level word ≡ entry.Absent
even_absent level word even = grind arith

-- the bit of a word that is absent
pub absent_even : (level word : ℕ) → meaning level word ≡ entry.Absent → word % 2 ≡ 0
absent_even level word says = grind arith
