use Rattle.std.proofs.Common.{arith}
use Rattle.std.proofs.lemmas.Grind.{common_steps}
use Rattle.vs_types.proofs.LeafWords.{leaf_reads}
use Rattle.vs_types.proofs.entries.entry.Entry.leaf.Goals as goal

pub returns-clause-read_back : goal.returns-clause-read_back
returns-clause-read_back c =
    leaf_reads c.args.size c.args.phys c.args.rights c.if-not-rights.word (grind (arith, common_steps)) c.requires.aligned c.requires.in_range
