use Rattle.vs_walk.proofs.LawsOfDumps.{dump_is_whole}
use Rattle.nr_dump.proofs.Fitting.{fits_faultless}
use Rattle.nr_dump.proofs.Faultless.{faultless_fits, one_first}
use Rattle.nr_dump.proofs.laws.dumps_fit_or_have_a_fault.Goals as goal

pub returns : goal.returns
returns c = record {
  fits = λ depth dump space is_dump is_space. (
    fits_faultless depth dump space (dump_is_whole dump is_dump),
    faultless_fits depth dump space (dump_is_whole dump is_dump) is_space,
  );
  one_first = one_first;
}
