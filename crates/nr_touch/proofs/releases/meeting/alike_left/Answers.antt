use Rattle.nr_touch.proofs.releases.meeting.alike_left.Goals as goal

pub alike_in-requires-clause-ladder : goal.alike_in-requires-clause-ladder
alike_in-requires-clause-ladder c = rw c.deref.ensures.value c.requires.built.earlier

pub returns : goal.returns
returns c = rw c.deref.ensures.value at c.alike_in.ensures
