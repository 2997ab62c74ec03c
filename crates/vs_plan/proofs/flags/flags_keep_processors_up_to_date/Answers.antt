use Rattle.vs_plan.proofs.FlagsKept.{flags_own, flags_premise, lived_finds, lived_suffices, lived_up_to_date}
use Rattle.vs_plan.proofs.flags.flags_keep_processors_up_to_date.Goals as goal

pub returns : goal.returns
returns c = record {
  keep = λ depth root lived told memory now are same is. lived_up_to_date depth root lived told memory now are same is;
  find = λ depth root lived told memory now address end are same found. lived_finds depth root lived told memory now are same address end found;
  suffice = lived_suffices;
  ways = λ depth root address old new is own. flags_own is depth root address own;
  premises = λ depth root address space old new is premise. flags_premise is depth root address space premise;
}
