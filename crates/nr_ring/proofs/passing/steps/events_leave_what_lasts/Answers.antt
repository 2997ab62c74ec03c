use Rattle.std.proofs.Common.{[], ◌∷◌}
use Rattle.nr_ring.proofs.Exchanges.{events_leave}
use Rattle.nr_ring.proofs.passing.steps.events_leave_what_lasts.Goals as goal

pub returns : goal.returns
returns c depth replicas passes places pass ring v event stored may own within =
    events_leave depth replicas passes places pass ring v (event ∷ []) stored (may, own, tt, within)
