use Rattle.std.proofs.Common.{ℕ, Contains}
use denote.Ref.{Bor}
use Rattle.nr_touch.proofs.QuietRows.{NoneFrom}
use Rattle.nr_touch.proofs.releases.quiet.leads_in_pages.Given as goal

abbrev pub invariant-loop-row : goal.invariant-loop-row
invariant-loop-row l = (row : Bor (ℕ × ℕ)) → Contains l.yielded row → NoneFrom l.joined l.release row.now.1
