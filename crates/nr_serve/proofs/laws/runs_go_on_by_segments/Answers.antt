use Rattle.nr_serve.proofs.Runs.{runs_on}
use Rattle.nr_serve.proofs.laws.runs_go_on_by_segments.Goals as goal

pub returns : goal.returns
returns c state mid end bytes segments segment passes history on right next =
    runs_on state bytes segments mid segment passes history end on right next
