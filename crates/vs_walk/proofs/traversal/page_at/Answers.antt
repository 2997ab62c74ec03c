use Rattle.std.proofs.Common.{◌<◌, sym, subst}
use Rattle.vs_walk.proofs.TraversalPlaces.{entry_begins}
use Rattle.vs_walk.proofs.traversal.page_at.Goals as goal

pub address_at-base-requires : goal.address_at-base-requires
address_at-base-requires g c =
    let f = g.E.EntryFormat.format c.args.format in
    subst (λ n. n < f.end) (sym c.start_of.ensures) (entry_begins f c.requires.format c.args.place c.args.index c.requires.fits c.requires.within)
