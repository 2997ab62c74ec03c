use Rattle.nr_explain.proofs.BadUnits.{one_field, one_format, one_offset, one_read, one_unit}
use Rattle.nr_explain.proofs.laws.one_bad_unit.Goals as goal

pub returns-clause-fault : goal.returns-clause-fault
returns-clause-fault c = one_format

pub returns-clause-unit : goal.returns-clause-unit
returns-clause-unit c = one_unit

pub returns-clause-offset : goal.returns-clause-offset
returns-clause-offset c = one_offset

pub returns-clause-read : goal.returns-clause-read
returns-clause-read c = one_read

pub returns-clause-field : goal.returns-clause-field
returns-clause-field c = one_field
