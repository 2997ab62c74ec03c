use Rattle.std.proofs.Common.{subst}
use Rattle.nr_explain.specs.inside.Searches.{IsFoundOfDump}
use Rattle.nr_explain.proofs.trace.all_dumps.told_of_dump.Goals as goal

pub explain_dump-requires : goal.explain_dump-requires
explain_dump-requires c =
    (subst (IsFoundOfDump c.args.trace.now c.args.replica) c.in-Some.is c.in_ok-first_of_dump.ensures).1

pub returns-in-None-clause-told : goal.returns-in-None-clause-told
returns-in-None-clause-told c = subst (IsFoundOfDump c.args.trace.now c.args.replica) c.in-None.is c.in_ok-first_of_dump.ensures

pub returns-in_ok-shown-in-Some-clause-told : goal.returns-in_ok-shown-in-Some-clause-told
returns-in_ok-shown-in-Some-clause-told c =
    let found = subst (IsFoundOfDump c.args.trace.now c.args.replica) c.in-Some.is c.in_ok-first_of_dump.ensures in
    (found.0, found.1, c.in_ok-shown-in-Some.ensures)
