use Rattle.nr_trace.proofs.LawsOfHistories.{well_formed_as_faults}
use Rattle.nr_trace.proofs.laws.well_formed_histories_have_no_call_fault.Goals as goal

pub returns : goal.returns
returns c = well_formed_as_faults
