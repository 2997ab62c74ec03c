use Rattle.vs_types.specs.declared.addresses.depth.Depth.TheVariants.{Five}
use Rattle.vs_walk.proofs.Gathered.{dump_few, dump_in_range}
use Rattle.audit_tests.proofs.large.gathered.Goals as goal

pub gather-requires-clause-few : goal.gather-requires-clause-few
gather-requires-clause-few c = dump_few c.args.dump.now Five c.root-2.result c.count-held.ensures.is_dump

pub gather-requires-clause-in_range : goal.gather-requires-clause-in_range
gather-requires-clause-in_range c = dump_in_range c.args.dump.now Five c.root-2.result c.count-held.ensures.is_dump
