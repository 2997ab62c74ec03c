use Rattle.nr_node.proofs.LaterLogs.{one_entry_more}
use Rattle.nr_node.proofs.laws.spaces_go_on_by_entries.Goals as goal

pub returns : goal.returns
returns c = one_entry_more
