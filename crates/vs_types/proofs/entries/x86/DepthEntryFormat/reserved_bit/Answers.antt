use Rattle.vs_types.specs.Entry.{meaning}
use Rattle.vs_types.proofs.FormatOfDepth.{lowest_from, reserved_from}
use Rattle.vs_types.proofs.entries.x86.DepthEntryFormat.reserved_bit.Goals as goal

pub reserved_bit-requires-clause-reserved : goal.reserved_bit-requires-clause-reserved
reserved_bit-requires-clause-reserved c = reserved_from (meaning c.args.level c.args.word) c.requires.reserved

pub returns : goal.returns
returns c = lowest_from c.args.self c.args.level c.args.word c.reserved_bit.result c.reserved_bit.ensures
