use Rattle.nr_trace.proofs.LawsOfFormat.{one_refusal}
use Rattle.nr_trace.proofs.laws.one_refusal.Goals as goal

pub returns : goal.returns
returns c = one_refusal
