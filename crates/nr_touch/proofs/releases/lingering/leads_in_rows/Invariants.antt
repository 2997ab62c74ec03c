use Rattle.std.proofs.Common.{ℕ, Contains}
use denote.Ref.{Bor}
use Rattle.nr_touch.proofs.QuietRows.{NoneAt}
use Rattle.nr_touch.proofs.releases.lingering.leads_in_rows.Given as goal

abbrev pub invariant-loop-row : goal.invariant-loop-row
invariant-loop-row l = (row : Bor (ℕ × ℕ)) → Contains l.yielded row → NoneAt l.joined l.release l.lingering.pages.items row.now.1
