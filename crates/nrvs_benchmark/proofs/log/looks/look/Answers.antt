use Rattle.std.proofs.Common.{[], ◌∷◌, ap}
use Rattle.nr_ring.specs.Pass.{Known, new_pass}
use Rattle.nrvs_benchmark.proofs.Owners.{owner_of}
use Rattle.nrvs_benchmark.proofs.log.looks.look.Goals as goal

pub look_on-requires-clause-log : goal.look_on-requires-clause-log
look_on-requires-clause-log g c κs within k d lt =
    let log = c.in_ok-log.log in
    ap (λ (pass : Known). pass.log) (owner_of (λ replica. new_pass log (replica ∷ [])) c.args.threads k
    c.in_ok-log.passes.items c.pop.new.self.items (new_pass log []) c.in-Some.own d c.in_ok-log.ensures c.in-Some.ensures.items lt)
