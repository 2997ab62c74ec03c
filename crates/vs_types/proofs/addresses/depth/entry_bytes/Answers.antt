use Rattle.vs_types.proofs.EntryBytes.{shifted_most}
use Rattle.vs_types.proofs.addresses.depth.entry_bytes.Goals as goal

pub returns-clause-most : goal.returns-clause-most
returns-clause-most c = shifted_most c.args.level c.requires
