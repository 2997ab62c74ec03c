use Rattle.nrvs_c.proofs.Flagged.{status_stays, sound_stays, space_stays}
use Rattle.nrvs_c.proofs.laws.flags_keep_the_table.Goals as goal

pub returns : goal.returns
returns c = record {
  usable = λ handle words after marks flagged. status_stays handle words after marks flagged;
  sound = λ handle words after marks flagged sound. sound_stays handle words after marks flagged sound;
  same_space = λ lenders handle words after marks space flagged of. space_stays handle words after marks flagged lenders of;
}
