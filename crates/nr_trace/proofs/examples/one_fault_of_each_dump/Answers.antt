use Rattle.nr_trace.proofs.ExamplesOfDumps as dumps
use Rattle.nr_trace.proofs.examples.one_fault_of_each_dump.Goals as goal

pub returns-clause-missing : goal.returns-clause-missing
returns-clause-missing c = dumps.missing

pub returns-clause-shared : goal.returns-clause-shared
returns-clause-shared c = dumps.shared

pub returns-clause-reserved : goal.returns-clause-reserved
returns-clause-reserved c = dumps.reserved

pub returns-clause-stray : goal.returns-clause-stray
returns-clause-stray c = dumps.stray

pub returns-clause-differs : goal.returns-clause-differs
returns-clause-differs c = dumps.differs
