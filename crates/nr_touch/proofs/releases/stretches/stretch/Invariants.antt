use Rattle.std.proofs.Common.{ℕ, ◌≤◌, get_or}
use Rattle.nr_touch.specs.inside.Stays.{EndsBy}
use Rattle.nr_touch.proofs.releases.stretches.stretch.Given as goal

abbrev pub invariant-loop-first : goal.invariant-loop-first
invariant-loop-first l = record {
  within : l.first ≤ l.row;
  over : (j : ℕ) → l.first ≤ j → j ≤ l.row → EndsBy l.stays (get_or l.lives.rows.items j 0) l.until;
}

abbrev pub decreases-loop-first : goal.decreases-loop-first
decreases-loop-first l = l.first
