use Rattle.nr_node.proofs.LaterLogs.{spaces_of_entries}
use Rattle.nr_node.proofs.laws.entries_make_spaces.Goals as goal

pub returns : goal.returns
returns c = spaces_of_entries
