use Rattle.std.proofs.Common.{[], ◌∷◌, ap}
use Rattle.nr_ring.specs.Pass.{Known, new_pass}
use Rattle.nrvs_benchmark.proofs.Owners.{owner_of}
use Rattle.nrvs_benchmark.proofs.log.appends.append.Goals as goal

pub append_on-requires-clause-log : goal.append_on-requires-clause-log
append_on-requires-clause-log g c κs within k d lt =
    let log = c.in_ok-log.log in
    ap (λ (pass : Known). pass.log) (owner_of (λ replica. new_pass log (replica ∷ [])) c.args.threads k
    c.in_ok-log.passes.items c.pop.new.self.items (new_pass log []) c.in-Some.own d c.in_ok-log.ensures c.in-Some.ensures.items lt)

pub append_on-requires-clause-owners : goal.append_on-requires-clause-owners
append_on-requires-clause-owners g c κs within k d lt =
    let log = c.in_ok-log.log in (
      k,
      ap (λ (pass : Known). pass.view.owns) (owner_of (λ replica. new_pass log (replica ∷ [])) c.args.threads k
          c.in_ok-log.passes.items c.pop.new.self.items (new_pass log []) c.in-Some.own d c.in_ok-log.ensures c.in-Some.ensures.items lt),
    )
