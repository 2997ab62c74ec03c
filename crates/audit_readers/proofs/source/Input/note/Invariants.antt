use Rattle.std.proofs.Common.{◌≡◌}
use Rattle.audit_readers.proofs.source.Input.note.Given as goal

abbrev pub invariant-loop-byte : goal.invariant-loop-byte
invariant-loop-byte g l = record {
  reader : l.self.reader ≡ l.initial.self.reader;
  last : l.self.last ≡ l.initial.self.last;
}
