use Rattle.vs_types.proofs.AllowedBits.{narrowed_rights}
use Rattle.vs_types.proofs.entries.entry.narrowed.Goals as goal

pub returns : goal.returns
returns c = narrowed_rights c.args.allowed c.args.word
