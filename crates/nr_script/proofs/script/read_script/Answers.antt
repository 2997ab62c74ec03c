use Rattle.std.proofs.Common.{arith}
use Rattle.nr_script.specs.Lines.{lines}
use Rattle.nr_script.proofs.Gathered.{first_lists}
use Rattle.nr_script.proofs.Shares.{scripts_of, threads_in_range}
use Rattle.nr_script.proofs.script.read_script.Goals as goal

read : goal.returns-clause-ok
read c =
    let all = c.in_ok-reading.ensures.ok in
    let range = threads_in_range c.args.depth (lines c.args.bytes.now) all.said all.each_says in
    record {
      said = all.said;
      each_says = all.each_says;
      within_limits = all.kept.within_limits;
      threads_are = all.kept.threads_are;
      requests_are = first_lists all.said c.in_ok-reading.reading.lists.items c.truncate.new.self.items c.in_ok-reading.reading.threads c.truncate.ensures.items
          (omega (arith, range.1, all.kept.threads_are)) all.kept.threads_are all.kept.lists_are;
      steps_are = all.kept.steps_are;
      first_step_is = all.kept.first_step_is;
    }

pub returns-clause-ok : goal.returns-clause-ok
returns-clause-ok c = read c

pub returns-clause-threads : goal.returns-clause-threads
returns-clause-threads c =
    let all = c.in_ok-reading.ensures.ok in
    let range = threads_in_range c.args.depth (lines c.args.bytes.now) all.said all.each_says in
    (omega (arith, range.0, all.kept.threads_are), omega (arith, range.1, all.kept.threads_are))

pub returns-clause-scripts : goal.returns-clause-scripts
returns-clause-scripts c = λ layout deep many. scripts_of c.args.depth c.args.bytes.now _ layout (read c) deep many
