-- The way of an address over frames that lie one after another.
use Rattle.std.proofs.Common.{◌≡◌, ℕ, ◌+◌, ◌-◌, ◌<◌, ◌≤◌, ◌⊎◌, List, length, Some, ⊎_elim, sym, ap, subst, ◌∙◌, arith}
use Rattle.std.specs.Prelude.{slice_index, slice_index_or}
use Rattle.std.specs.FinMap as finite
use Rattle.vs_types.specs.Depth.{index_at}
use Rattle.vs_types.specs.Entry.{all_rights, meaning, rights_of}
use Rattle.vs_types.specs.Page.{intersection}
use Rattle.vs_types.specs.declared.addresses.depth.Depth.{Depth}
use Rattle.vs_types.specs.declared.entries.entry.Meaning.TheVariants as entry
use Rattle.vs_walk.specs.Memory.{Memory}
use Rattle.vs_space.specs.Held.{word_at}
use Rattle.vs_space.proofs.Prunes.{word_in}
use Rattle.vs_plan.specs.declared.plans.planner.Phase.{Phase}
use Rattle.vs_plan.specs.declared.plans.planner.Phase.TheVariants as phases
use Rattle.vs_plan.specs.declared.plans.planner.Planner.{Planner}
use Rattle.vs_plan.specs.declared.plans.target.Target.{Target}
use Rattle.vs_plan.specs.Planner.{AwaitsWords}
use Rattle.vs_plan.specs.Target.{frames_end}
use Rattle.vs_plan.specs.Way.{IsWay, Begins}
use Rattle.vs_plan.proofs.Stored.{found_word}
use Rattle.vs_plan.proofs.Ways.{way_on}
use Rattle.nrvs_plan_c.specs.declared.records.kept.Words.{Words}
use Rattle.nrvs_plan_c.specs.Direct.{HasFramesWithin}
use Rattle.nrvs_plan_c.specs.Kept.{IsWaiting, depth_in}
use Rattle.vs_types.specs.Bits.{rights_at}
use Rattle.nrvs_plan_c.specs.Next.{status_in}

pub way_begins : (levels : ℕ) → (levels ≡ 4) ⊎ (levels ≡ 5) → {memory : Memory} {root address : ℕ} (allowed : ℕ) → rights_at allowed ≡ all_rights
    → IsWay (depth_in levels) memory root address levels root (rights_at allowed)
way_begins levels is {memory} {root} {address} allowed all = subst (IsWay (depth_in levels) memory root address levels root) (sym all) (⊎_elim
    (λ (four : levels ≡ 4). subst (λ n. IsWay (depth_in n) memory root address n root all_rights) (sym four) Begins)
    (λ (five : levels ≡ 5). subst (λ n. IsWay (depth_in n) memory root address n root all_rights) (sym five) Begins)
    is)

-- a frame that lies there is shown
pub frame_shown : (target : Target) (memory : Memory) (first number : ℕ) (frames : List Words) → HasFramesWithin target memory first frames
    → first + length frames ≤ frames_end target → (words : Words)
    → (first ≤ number) × (number - first < length frames) × (words ≡ slice_index_or frames (number - first) words)
    → finite.get memory number ≡ Some words.word
frame_shown target memory first number frames has within words at =
    let place : first + (number - first) ≡ number = omega (arith, at.0) in
    subst (λ n. finite.get memory n ≡ Some words.word) place (has (number - first) words at.1 (omega (arith, at.0, at.1, within)) at.2)

pub word_shown : (memory : Memory) (number level address index : ℕ) (words : List ℕ) → finite.get memory number ≡ Some words
    → index ≡ index_at level address → word_at memory number (index_at level address) ≡ Some (slice_index words index)
word_shown memory number level address index words there is =
    subst (λ i. word_at memory number i ≡ Some (slice_index words index)) is (word_in memory number index words there)

pub way_goes_on : {depth : Depth} {memory : Memory} {root address level number : ℕ} (allowed after : ℕ) {word next : ℕ}
    → IsWay depth memory root address level number (rights_at allowed) → 1 ≤ level → word_at memory number (index_at level address) ≡ Some word
    → meaning level word ≡ entry.Table next (rights_of word) → rights_at after ≡ intersection (rights_at allowed) (rights_of word)
    → IsWay depth memory root address (level - 1) next (rights_at after)
way_goes_on {depth} {memory} {root} {address} {level} {number} allowed after {word} {next} way some there says narrowed =
    subst (IsWay depth memory root address (level - 1) next) (sym narrowed)
    (way_on way some (found_word level memory number address word there ∙ ap Some says))

-- where words are waited for
pub awaits_words : (phase : Phase) {planner : Planner} → status_in phase ≡ 32 → IsWaiting phase planner → AwaitsWords planner
awaits_words phases.Descent says waits = waits
awaits_words phases.Search says waits = waits
awaits_words phases.Growth says waits = absurd (omega (arith, says))
awaits_words phases.Division says waits = absurd (omega (arith, says))
awaits_words phases.Ended says waits = absurd (omega (arith, says))
