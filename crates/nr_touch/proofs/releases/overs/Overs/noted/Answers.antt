use Rattle.std.proofs.Common.{sym}
use Rattle.nr_touch.proofs.releases.overs.Overs.noted.Goals as goal

pub returns : goal.returns
returns c = record {
  key = (c.memory_of.result, c.args.block);
  has = sym c.in-Some.ensures.value;
  of_block = c.if-over-block.false;
  memory = c.is_of.ensures c.if-not-is_of.false;
}
