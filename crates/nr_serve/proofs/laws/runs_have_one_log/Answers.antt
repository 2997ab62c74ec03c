use Rattle.nr_serve.proofs.Runs.{one_log, one_log_with_last}
use Rattle.nr_serve.proofs.laws.runs_have_one_log.Goals as goal

pub returns : goal.returns
returns c = record {
  all = λ layout log bytes segments end some on. one_log layout log bytes segments end some on;
  last = λ layout log bytes segments end segment passes history some on right.
      one_log_with_last layout log bytes segments end segment passes history some on right;
}
