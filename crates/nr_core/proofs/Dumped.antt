-- The dump that is gathered from a page table is one of its space.
use Rattle.std.proofs.Common.{◌≡◌, ℕ, ◌≤◌, None, Contains, IsTrue, sym, ap, subst, ◌∙◌, arith}
use Rattle.std.specs.Prelude.{IsSome}
use Rattle.std.specs.FinMap as finite
use Rattle.vs_types.specs.Space.{Space, table_count}
use Rattle.vs_types.specs.declared.addresses.depth.Depth.{Depth}
use Rattle.vs_types.specs.declared.limits.TheConstants.{TABLES}
use Rattle.vs_walk.specs.Dump.{Image}
use Rattle.vs_walk.specs.Memory.{Memory}
use Rattle.vs_walk.specs.Traversal.{traversal, reached, walk_fault}
use Rattle.vs_walk.specs.Walk.{TranslatesAs}
use Rattle.vs_walk.proofs.SameFrames.{same_frames}
use Rattle.vs_space.specs.Table.{PageTable, IsTableOf}
use Rattle.nr_trace.specs.Parts.{HasFrames}
use Rattle.nr_trace.specs.Recording.{IsThere}
use Rattle.nr_trace.specs.declared.formats.version.Version.TheVariants.{V1}
use Rattle.nr_core.specs.State.{Replica}
use Rattle.nr_core.specs.Run.{IsDumpOfReplica}

-- what is known of a table, and of the dump that is gathered from it
pub record IsGathered (table : PageTable) (depth : Depth) (root : ℕ) (dump : Image) : Type 0 where
  pub depth_is : depth ≡ table.depth
  pub root_is : root ≡ table.root
  pub in_use : (number : ℕ) → Contains (reached (traversal table.depth table.memory table.root)) number → IsTrue (finite.contains_key table.memory number)
  pub each : (number : ℕ) → IsTrue (finite.contains_key table.memory number) → Contains (reached (traversal table.depth table.memory table.root)) number
  pub dump_root : dump.root ≡ root
  pub held : (number : ℕ) → Contains (reached (traversal depth table.memory root)) number → finite.get dump.frames number ≡ finite.get table.memory number
  pub only : (number : ℕ) → IsTrue (finite.contains_key dump.frames number) → Contains (reached (traversal depth table.memory root)) number

frames_are : (table : PageTable) (depth : Depth) (root : ℕ) (dump : Image) → IsGathered table depth root dump → dump.frames ≡ table.memory
frames_are table depth root dump is =
    same_frames table.memory dump.frames table.depth depth table.root root is.depth_is is.root_is is.in_use is.each is.held is.only

some_get : (memory : Memory) (number : ℕ) → IsSome (finite.get memory number) → IsTrue (finite.contains_key memory number)
some_get memory number some = some

pub is_dump : (table : PageTable) (space : Space) (replica : Replica) (depth : Depth) (root : ℕ) (dump : Image) → IsTableOf table space
    → replica.space ≡ space → IsThere dump → dump.applied ≡ replica.applied → walk_fault table.depth table.memory table.root ≡ None
    → IsGathered table depth root dump → IsDumpOfReplica table.depth replica dump
is_dump table space replica depth root dump of space_is there applied faultless is =
    let frames = frames_are table depth root dump is in
    let root_is = is.dump_root ∙ is.root_is in
    let ByRoot : ℕ → Type 0 = λ r. TranslatesAs table.depth table.memory r replica.space in
    let ByFrames : Memory → Type 0 = λ m. TranslatesAs table.depth m dump.root replica.space in
    record {
      there = there;
      applied = applied;
      translates =
          subst ByFrames (sym frames) (subst ByRoot (sym root_is) (subst (TranslatesAs table.depth table.memory table.root) (sym space_is) of.translates));
      faultless = ap (λ m. walk_fault table.depth m dump.root) frames ∙ ap (walk_fault table.depth table.memory) root_is ∙ faultless;
      none_stray = λ number stray.
          let in_table : IsTrue (finite.contains_key table.memory number) =
          subst (λ (m : Memory). IsTrue (finite.contains_key m number)) frames (some_get dump.frames number stray.0) in
          let reached_there : Contains (reached (traversal table.depth dump.frames dump.root)) number =
          subst (λ l. Contains l number) (sym
          (ap (λ m. reached (traversal table.depth m dump.root)) frames
          ∙ ap (λ r. reached (traversal table.depth table.memory r)) root_is))
          (is.each number in_table) in
          stray.1 reached_there;
    }

-- and has a frame, as each space has a table, and no more than tables
pub has_frames : (table : PageTable) (space : Space) (depth : Depth) (root : ℕ) (dump : Image) → IsGathered table depth root dump
    → finite.len table.memory ≡ table_count table.depth space → finite.len table.memory ≤ TABLES → HasFrames V1 dump
has_frames table space depth root dump is counts few =
    let frames = ap (λ (m : Memory). finite.len m) (frames_are table depth root dump is) in
    let some : 1 ≤ finite.len dump.frames = omega (arith, frames, counts) in
    (some, omega (arith, frames, few), λ none. absurd (omega (arith, some, none)))
