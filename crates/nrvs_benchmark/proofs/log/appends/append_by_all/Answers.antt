use Rattle.std.proofs.Common.{ap, ◌∙◌}
use Rattle.nr_ring.specs.Pass.{Known}
use Rattle.nrvs_benchmark.proofs.log.appends.append_by_all.Goals as goal

pub map_vec-requires-after_bounds : goal.map_vec-requires-after_bounds
map_vec-requires-after_bounds g c κs within i x lt at =
    let owner = c.requires.owners i x lt in (
      c.requires.depth,
      (
        ap (λ (pass : Known). pass.log) at ∙ c.requires.log i x lt,
        ((owner.0, ap (λ (pass : Known). pass.view.owns) at ∙ owner.1), c.requires.calls),
      ),
    )
