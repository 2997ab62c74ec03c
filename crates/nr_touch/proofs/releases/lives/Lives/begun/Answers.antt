use Rattle.std.proofs.Common.{◌+◌, ap}
use Rattle.nr_touch.proofs.Found.{boundary_of}
use Rattle.nr_touch.proofs.releases.lives.Lives.begun.Goals as goal

pub returns-clause-found : goal.returns-clause-found
returns-clause-found c =
    boundary_of _ _ _ _ _ _ _ c.search.result c.deref.ensures.value c.deref-2.ensures.value (ap (λ n. n + 1) c.from.ensures) c.search.ensures
