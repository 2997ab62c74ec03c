use Rattle.std.proofs.Common.{[]}
use Rattle.vs_walk.proofs.listing.leaves_in.Goals as goal

pub returns-clause-pages : goal.returns-clause-pages
returns-clause-pages g c = c.in_ok-reached.ensures.pages [] c.new.ensures.items
