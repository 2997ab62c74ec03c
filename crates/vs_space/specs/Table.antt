-- Page tables: what contracts see of one, which space it is, and what an operation does to it.
use Rattle.std.specs.Prelude.{◌≡◌, ℕ, IsFalse}
use Rattle.vs_types.specs.Space.{Space, IsSpace}
use Rattle.vs_types.specs.Step.{step}
use Rattle.vs_types.specs.Laws.{changes}
use Rattle.vs_types.specs.declared.addresses.depth.Depth.{Depth}
use Rattle.vs_types.specs.declared.requests.op.Action.{Action}
use Rattle.vs_types.specs.declared.requests.answer.Answer.{Answer}
use Rattle.vs_arena.specs.Store.{Lenders}
use Rattle.vs_walk.specs.Memory.{Memory}
use Rattle.vs_walk.specs.Walk.{TranslatesAs}
use Rattle.vs_space.specs.Flags.{AddsNoFlags}
use Rattle.vs_space.specs.Footprint.{ClearsPage, KeepsRest}

-- the depth, the number of the store's first frame, how many tables there can be, the frame number of the root, the frames of the tables,
-- and who lent the store its memory
pub record PageTable : Type 0 where
  pub depth : Depth
  pub base : ℕ
  pub limit : ℕ
  pub root : ℕ
  pub memory : Memory
  pub lenders : Lenders

-- the page table is that of the space: its tables translate each address as it looks there
pub record IsTableOf (table : PageTable) (space : Space) : Type 0 where
  pub is_space : IsSpace table.depth space
  pub translates : TranslatesAs table.depth table.memory table.root space

-- one operation: the answer, and the space of the table after it, are those of a step. A refusal leaves each word as it was, every other
-- answer those off the path of its address and the entries of other pages. No word is given an accessed flag or a dirty flag, and a protect
-- clears those of its page
pub record IsTableStep (old : PageTable) (action : Action) (answer : Answer) (new : PageTable) : Type 0 where
  pub some_space : (space : Space) × IsTableOf old space
  pub same : new ≡ record old { memory = new.memory }
  pub unchanged : IsFalse (changes answer) → new ≡ old
  pub kept : KeepsRest old.depth old.root action old.memory new.memory
  pub plain : AddsNoFlags old.memory new.memory
  pub cleared : ClearsPage old.depth old.root action answer old.memory new.memory
  pub steps : (space : Space) → IsTableOf old space
      → (answer ≡ (step old.depth old.limit space action).answer) × IsTableOf new (step old.depth old.limit space action).space
