use Rattle.std.proofs.Common.{ℕ, ◌<◌, ◌≤◌, get_or, length}
use Rattle.nr_touch.specs.inside.Joined.{Behind}
use Rattle.nr_touch.specs.inside.Overs.{AreOver}
use Rattle.nr_touch.proofs.ChangedRows.{NoneLeadsFrom}
use Rattle.nr_touch.proofs.releases.changed.leads_in_rows.Given as goal

abbrev pub invariant-loop-end : goal.invariant-loop-end
invariant-loop-end l = record {
  within : l.end ≤ length l.changed.lives.blocks.items;
  most : (k : ℕ) → k < l.end → get_or l.changed.lives.blocks.items k 0 ≤ l.block;
  none : (b : Behind l.joined) → NoneLeadsFrom b l.release l.changed.stays.items l.changed.lives l.block l.end;
  over : (b : Behind l.joined) → AreOver b l.changed l.release l.block 0 l.before → AreOver b l.changed l.release l.block l.end l.over;
}

abbrev pub decreases-loop-end : goal.decreases-loop-end
decreases-loop-end l = l.end
