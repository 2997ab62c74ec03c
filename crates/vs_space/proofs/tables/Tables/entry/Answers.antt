use Rattle.vs_space.proofs.Descents.{entry_read}
use Rattle.vs_space.proofs.tables.Tables.entry.Goals as goal

pub read_written-requires-clause-written : goal.read_written-requires-clause-written
read_written-requires-clause-written g c = c.requires.written c.index_at.result c.word.result c.word.ensures

pub returns : goal.returns
returns g c = entry_read c.args.level _ c.args.number c.args.address c.word.ensures c.index_at.ensures.is c.read_written.ensures
