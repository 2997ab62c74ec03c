use Rattle.nr_touch.proofs.releases.meeting.leads_there.Goals as goal

pub returns-in-Some-clause-sound : goal.returns-in-Some-clause-sound
returns-in-Some-clause-sound c = λ b t. record {
  frame = c.in-Some.field-0;
  within = c.in-Some.ensures.within;
  met = (c.in-Some.ensures.finds b).met;
}

pub returns-in-None-clause-whole : goal.returns-in-None-clause-whole
returns-in-None-clause-whole c = λ b leads. absurd (c.in-None.ensures.finds b leads)
