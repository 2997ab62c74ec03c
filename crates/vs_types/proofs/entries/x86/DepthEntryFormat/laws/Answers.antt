use Rattle.vs_types.proofs.FormatOfDepth.{x86_is}
use Rattle.vs_types.proofs.entries.x86.DepthEntryFormat.laws.Goals as goal

pub returns : goal.returns
returns c = x86_is c.args.self
