use Rattle.nr_explain.proofs.TwoEnds.{cut_off_of}
use Rattle.nr_explain.proofs.ends.Ends.cut_off.Goals as goal

pub returns : goal.returns
returns c = λ form bytes are given.
    cut_off_of form bytes c.args.self c.args.refusal c.deref.result.now c.bad_unit.result are given c.requires.within c.deref.ensures.value
    c.bad_unit.ensures
