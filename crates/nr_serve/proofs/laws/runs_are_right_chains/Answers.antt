use Rattle.nr_serve.proofs.Runs.{right_run, right_with_last}
use Rattle.nr_serve.proofs.laws.runs_are_right_chains.Goals as goal

pub returns : goal.returns
returns c = record {
  all = λ layout log bytes first more end on. right_run layout log bytes first more end on;
  last = λ layout log bytes segments end segment passes history on right. right_with_last layout log bytes segments end segment passes history on right;
}
