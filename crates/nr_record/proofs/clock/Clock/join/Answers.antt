use Rattle.std.proofs.Common.{rules, arith, sym, ◌∙◌}
use Rattle.atomic_table.proofs.Lists.{set_else}
use Rattle.nr_record.specs.Rule.{joint_seat}
use Rattle.nr_record.proofs.Draws.{join_keeps}
use Rattle.nr_record.proofs.clock.Clock.join.Goals as goal

pub join_seat-requires : goal.join_seat-requires
join_seat-requires c = (
  search rules,
  search rules,
  c.requires.held,
  omega (arith, c.self.invariant),
  λ s is at differ there.
      join_keeps _ _ _ _ _ _ _ is at (sym
      (set_else s.views c.args.seat.now.id c.args.other.id (joint_seat c.args.seat.now.me.0 c.args.other.me.0) differ) ∙ there)
      differ,
)
