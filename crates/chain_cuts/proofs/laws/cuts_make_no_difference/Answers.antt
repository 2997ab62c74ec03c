use Rattle.chain_cuts.proofs.Cuts.{whole_from_segments, segments_from_whole}
use Rattle.chain_cuts.proofs.laws.cuts_make_no_difference.Goals as goal

pub returns-clause-whole : goal.returns-clause-whole
returns-clause-whole c = λ start layout first more cuts faultless. (whole_from_segments start layout first more cuts faultless).0

pub returns-clause-order : goal.returns-clause-order
returns-clause-order c = λ start layout first more cuts faultless. (whole_from_segments start layout first more cuts faultless).1

pub returns-clause-segments : goal.returns-clause-segments
returns-clause-segments c = segments_from_whole
