use Rattle.std.proofs.Common.{rules, arith}
use Rattle.nr_record.proofs.Draws.{draw_allows}
use Rattle.nr_record.proofs.clock.Clock.draw.Goals as goal

pub fetch_add-requires : goal.fetch_add-requires
fetch_add-requires c = (search rules, omega (arith, c.self.invariant), draw_allows _ _ _ _ c.requires.quota)
