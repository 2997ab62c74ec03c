use Rattle.std.proofs.Common.{◌≡◌, length, sym, arith}
use Rattle.nr_explain.proofs.Dumped.{read_as}
use Rattle.nr_explain.proofs.tables.dumps.long_prefix.Goals as goal

pub returns-clause-is : goal.returns-clause-is
returns-clause-is c =
    let trace = c.args.trace.now in
    let dump = c.index-dumps-replica.result in
    let (there, is_there, past) = read_as trace c.dumps.result.now c.args.replica _ dump c.requires.holds c.dumps.ensures.reads c.index-dumps-replica.is in
    let told : c.applied.result ≡ dump.applied = c.applied.ensures in
    let places : c.places.result ≡ length trace.log = c.places.ensures in
    record {
      applied = (dump, there, is_there, sym told);
      places = places;
      past = omega arith;
    }
