use Rattle.vs_space.proofs.Flagged.{flagged_kept, flagged_space}
use Rattle.vs_space.proofs.laws.flags_keep_the_table.Goals as goal

pub returns : goal.returns
returns c = record {
  keeps = λ depth root base limit old new notes flagged kept. flagged_kept depth root base limit flagged notes kept;
  same_space = λ lenders depth root base limit old new space flagged of. flagged_space depth root base limit flagged lenders of;
}
