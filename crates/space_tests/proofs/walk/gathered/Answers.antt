use Rattle.vs_types.specs.declared.addresses.depth.Depth.TheVariants.{Four, Five}
use Rattle.vs_walk.proofs.Gathered.{dump_few, dump_in_range}
use Rattle.space_tests.proofs.walk.gathered.Goals as goal

pub gather-requires-clause-few : goal.gather-requires-clause-few
gather-requires-clause-few g c = dump_few c.dump_of-dump.result Five 1 c.dump_of-dump.ensures

pub gather-requires-clause-in_range : goal.gather-requires-clause-in_range
gather-requires-clause-in_range g c = dump_in_range c.dump_of-dump.result Five 1 c.dump_of-dump.ensures

pub gather-requires-2-clause-few : goal.gather-requires-2-clause-few
gather-requires-2-clause-few g c = dump_few c.dump_of-dump.result Four 2 c.dump_of-dump.ensures

pub gather-requires-2-clause-in_range : goal.gather-requires-2-clause-in_range
gather-requires-2-clause-in_range g c = dump_in_range c.dump_of-dump.result Four 2 c.dump_of-dump.ensures
