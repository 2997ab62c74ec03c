use Rattle.nr_trace.specs.declared.refusals.fault.Fault.TheVariants.{PrefixPastLog, PrefixShort, MissingFrame, SharedFrame, ReservedBit, StrayFrame, Differs}
use Rattle.nr_core.proofs.reached.NoFault.{none_of_steps}
use Rattle.nr_core.proofs.faultless.dumps_are_of_the_log.Goals as goal

pub returns-clause-within : goal.returns-clause-within
returns-clause-within c = λ trace r is. none_of_steps trace is (PrefixPastLog r)

pub returns-clause-enough : goal.returns-clause-enough
returns-clause-enough c = λ trace r is. none_of_steps trace is (PrefixShort r)

pub returns-clause-none_missing : goal.returns-clause-none_missing
returns-clause-none_missing c = λ trace r number is. none_of_steps trace is (MissingFrame r number)

pub returns-clause-none_shared : goal.returns-clause-none_shared
returns-clause-none_shared c = λ trace r number is. none_of_steps trace is (SharedFrame r number)

pub returns-clause-none_reserved : goal.returns-clause-none_reserved
returns-clause-none_reserved c = λ trace r number index is. none_of_steps trace is (ReservedBit r number index)

pub returns-clause-none_stray : goal.returns-clause-none_stray
returns-clause-none_stray c = λ trace r number is. none_of_steps trace is (StrayFrame r number)

pub returns-clause-translates : goal.returns-clause-translates
returns-clause-translates c = λ trace r address is. none_of_steps trace is (Differs r address)
