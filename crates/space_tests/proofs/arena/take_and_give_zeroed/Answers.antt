use Rattle.std.proofs.Common.{[], ap}
use Rattle.std.specs.Prelude.{unwrap_or}
use Rattle.vs_arena.specs.Store.{zeros}
use Rattle.vs_types.proofs.Maps.{get-insert_same}
use Rattle.space_tests.proofs.arena.take_and_give_zeroed.Goals as goal

pub give_zeroed-requires-clause-zeroed : goal.give_zeroed-requires-clause-zeroed
give_zeroed-requires-clause-zeroed g c =
    rw c.take_cleared-frame.ensures (ap (λ o. unwrap_or o []) (get-insert_same _ c.take_cleared-frame.result zeros))
