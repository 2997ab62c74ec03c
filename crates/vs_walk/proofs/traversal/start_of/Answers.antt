use Rattle.std.proofs.Common.{◌+◌, ap, arith}
use Rattle.vs_walk.proofs.TraversalPlaces.{level_few, start_fits}
use Rattle.vs_walk.proofs.traversal.start_of.Goals as goal

pub entry_offset-requires-clause-few : goal.entry_offset-requires-clause-few
entry_offset-requires-clause-few g c = level_few (g.E.EntryFormat.format c.args.format) c.requires.format c.args.place c.requires.fits

pub overflow_add-result : goal.overflow_add-result
overflow_add-result g c =
    omega (
      arith,
      c.entry_offset.ensures,
      start_fits (g.E.EntryFormat.format c.args.format) c.requires.format c.args.place c.args.index c.requires.fits c.requires.within,
    )

pub returns : goal.returns
returns g c = ap (λ n. c.args.place.start + n) c.entry_offset.ensures
