use Rattle.std.proofs.Common.{ap}
use Rattle.vs_types.specs.declared.log_entry.LogEntry.{LogEntry}
use Rattle.vs_types.specs.inside.Telling.{entry_in}
use Rattle.nr_ring.proofs.cells.packed.PackedEntry.call.Goals as goal

pub returns : goal.returns
unfolding entry_in
returns c = ap (λ (e : LogEntry). e.call) c.self.view_is
