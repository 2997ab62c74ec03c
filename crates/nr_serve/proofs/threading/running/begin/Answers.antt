use Rattle.vs_types.specs.declared.limits.TheConstants.{LOG_PLACES}
use Rattle.nr_serve.proofs.Teams.{all_few}
use Rattle.nr_serve.proofs.threading.running.begin.Goals as goal

pub quotas_of-requires : goal.quotas_of-requires
quotas_of-requires g c = all_few (λ script. script.items) c.args.scripts.now LOG_PLACES c.requires.scripts.few
