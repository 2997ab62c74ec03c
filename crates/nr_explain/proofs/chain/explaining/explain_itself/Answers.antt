use Rattle.std.proofs.Common.{◌∙◌, sym}
use Rattle.nr_explain.specs.Dumps.{replica_of}
use Rattle.nr_explain.proofs.Firsts.{first_of_calls, first_of_dump, none_from_false}
use Rattle.nr_explain.proofs.chain.explaining.explain_itself.Goals as goal

pub explain_dump-requires : goal.explain_dump-requires
explain_dump-requires c =
    first_of_dump c.requires.first.0 c.args.segment.now c.args.fault c.requires.own (sym c.is_of_dump.ensures ∙ c.if-is_of_dump.true) c.requires.first.1

pub explain-requires : goal.explain-requires
explain-requires c =
    first_of_calls c.requires.first.0 c.args.segment.now c.args.fault c.requires.own
    (none_from_false (replica_of c.args.fault) (sym c.is_of_dump.ensures ∙ c.if-is_of_dump.false)) c.requires.first.1
