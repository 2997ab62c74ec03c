-- A spare frame is given other words: nothing that is reached changes.
use Rattle.std.proofs.Common.{◌≡◌, ◌≢◌, ℕ, List, Some, sym, ap, ◌∙◌}
use Rattle.std.specs.Prelude.{option_map}
use Rattle.std.specs.FinMap as finite
use Rattle.vs_types.specs.Depth.{levels}
use Rattle.vs_types.specs.Entry.{meaning}
use Rattle.vs_types.specs.Space.{Space}
use Rattle.vs_types.specs.declared.addresses.depth.Depth.{Depth}
use Rattle.vs_types.specs.declared.addresses.page.Rights.{Rights}
use Rattle.vs_walk.specs.Memory.{Memory}
use Rattle.vs_walk.specs.Walk.{walk, TranslatesAs}
use Rattle.vs_space.specs.Held.{word_at}
use Rattle.vs_space.specs.Path.{entry_in, table_at}
use Rattle.vs_space.proofs.Written.{word_alike}
use Rattle.vs_types.proofs.Maps.{get-insert_other}
use Rattle.vs_space.proofs.Trees.{unreached_table, unreached_walk}
use Rattle.vs_space.proofs.Writes.{found_alike}
use Rattle.vs_plan.specs.Premise.{HasOwnWay}
use Rattle.vs_plan.specs.Way.{IsWay}
use Rattle.vs_plan.proofs.Ways.{way_kept}
use Rattle.vs_plan.specs.Other.{HasSameTables}

pub entry_alike : (level : ℕ) (m m' : Memory) (n i : ℕ) → finite.get m' n ≡ finite.get m n → entry_in level m' n i ≡ entry_in level m n i
unfolding entry_in
entry_alike level m m' n i same = ap (option_map (meaning level)) (word_alike m m' n i same)

-- ---- memories in which each table that is reached has the same words

module _ (depth : Depth) (root : ℕ) (old new : Memory) (same : HasSameTables depth root old new) where
  pub walk_as : (b : ℕ) → walk depth new root b ≡ walk depth old root b
  walk_as b = unreached_walk (levels depth) root old new same b

  pub table_as : (j b : ℕ) → table_at (levels depth) new root j b ≡ table_at (levels depth) old root j b
  table_as j b = unreached_table (levels depth) root old new same j b

  pub translates_as : (space : Space) → TranslatesAs depth old root space → TranslatesAs depth new root space
  translates_as space translates = λ b canonical. walk_as b ∙ translates b canonical

  pub own_as : (a : ℕ) → HasOwnWay depth old root a → HasOwnWay depth new root a
  own_as a has = record { once = λ l q j b one other. has.once l q j b (sym (table_as l a) ∙ one) (sym (table_as j b) ∙ other) }

  pub way_as : {a level n : ℕ} {rights : Rights} → IsWay depth old root a level n rights → IsWay depth new root a level n rights
  way_as {a} {level} {n} {rights} way = way_kept new level n rights way (λ j q over reached. found_alike j old new q a (same j a q reached))

  pub word_as : (j b q index : ℕ) → table_at (levels depth) old root j b ≡ Some q → word_at new q index ≡ word_at old q index
  word_as j b q index reached = word_alike old new q index (same j b q reached)

-- a frame that no way leads to has other words
pub insert_same : (depth : Depth) (root : ℕ) (memory : Memory) (number : ℕ) (words : List ℕ)
    → ((level b : ℕ) → table_at (levels depth) memory root level b ≢ Some number) → HasSameTables depth root memory (finite.insert memory number words)
insert_same depth root memory number words unreached level address q at =
    get-insert_other memory number words q (λ same. unreached level address (at ∙ ap Some same))
