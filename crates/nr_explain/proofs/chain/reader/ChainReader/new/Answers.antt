use Rattle.std.proofs.Common.{None}
use Rattle.nr_explain.proofs.Feeding.{fresh_reading}
use Rattle.nr_explain.proofs.chain.reader.ChainReader.new.Goals as goal

pub invariant_of-result : goal.invariant_of-result
invariant_of-result c = fresh_reading None None c.new.result.items c.new-2.result c.new.ensures.items c.new-2.ensures tt tt (None, tt)
