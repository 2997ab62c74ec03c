use Rattle.std.proofs.Common.{ap, ◌∙◌}
use Rattle.nr_ring.specs.Pass.{Known}
use Rattle.nrvs_benchmark.proofs.log.looks.look_by_all.Goals as goal

pub map_vec-requires-after_bounds : goal.map_vec-requires-after_bounds
map_vec-requires-after_bounds g c κs within i x lt at = ap (λ (pass : Known). pass.log) at ∙ c.requires i x lt
