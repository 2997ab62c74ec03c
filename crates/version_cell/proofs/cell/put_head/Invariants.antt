use Rattle.std.proofs.Common.{◌≡◌, length}
use Rattle.version_cell.specs.inside.Heads.{IsHead}
use Rattle.version_cell.proofs.cell.put_head.Given as goal

abbrev pub invariant-loop-place : goal.invariant-loop-place
invariant-loop-place g l = (length l.head ≡ g.row.H) × IsHead g.P.CellRule.head l.code l.place l.head
