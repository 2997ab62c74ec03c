use Rattle.vs_arena.proofs.MarkedFrames.{IsStore-from_arena}
use Rattle.vs_arena.proofs.lent_arena.LentArenaFrameStore.capacity.Goals as goal

pub returns-clause-is_store : goal.returns-clause-is_store
returns-clause-is_store c = rw (← c.self.view_is) (IsStore-from_arena c.self.invariant.arena)
