use Rattle.vs_walk.proofs.TraversalPlaces.{fits_below}
use Rattle.vs_walk.proofs.traversal.below.Goals as goal

pub returns-clause-fits : goal.returns-clause-fits
returns-clause-fits g c =
    fits_below (g.E.EntryFormat.format c.args.format) c.requires.format c.args.place c.args.index c.start_of.result c.args.number c.both.result c.requires.fits
    c.requires.within c.requires.lower c.start_of.ensures
