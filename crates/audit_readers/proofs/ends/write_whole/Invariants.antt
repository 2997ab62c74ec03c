use Rattle.audit_readers.proofs.Writing.{IsWritten}
use Rattle.audit_readers.proofs.ends.write_whole.Given as goal

abbrev pub invariant-loop : goal.invariant-loop
invariant-loop g l = IsWritten (g.W.Write.contents l.initial.writer) (g.W.Write.contents l.writer) l.fn.text l.rest
