use Rattle.vs_plan.proofs.BesideRoots.{beside_of, beside_again, own_again, translates_again, swapped}
use Rattle.vs_plan.proofs.laws.roots_stay_beside.Goals as goal

pub returns : goal.returns
returns c = record {
  beside = beside_of;
  again = beside_again;
  own = own_again;
  translates = translates_again;
  swapped = swapped;
}
