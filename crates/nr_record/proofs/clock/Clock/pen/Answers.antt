use Rattle.std.proofs.Common.{rules, arith}
use Rattle.nr_record.proofs.Draws.{split_keeps}
use Rattle.nr_record.proofs.clock.Clock.pen.Goals as goal

pub split_seat-seat-requires : goal.split_seat-seat-requires
split_seat-seat-requires g c =
    (search rules, omega (arith, c.self.invariant), λ s is at. split_keeps _ _ _ _ _ _ is at (omega (arith, c.requires.quota)) c.requires.fresh)
