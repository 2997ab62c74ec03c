use Rattle.std.proofs.Common.{◌+◌}
use Rattle.vs_walk.proofs.Filled.{next_found, none_found}
use Rattle.vs_walk.proofs.frame_words.next_among.Goals as goal

pub returns-then-place-places : goal.returns-then-place-places
returns-then-place-places c =
    next_found c.args.places.now c.args.words.now c.args.start c.place_from-place.result (c.place_from-place.result + 1) c.requires.kept
    c.place_from-place.ensures c.if-place-places.true

pub returns-else-place-places : goal.returns-else-place-places
returns-else-place-places c =
    none_found c.args.places.now c.args.words.now c.args.start c.place_from-place.result c.requires.kept c.place_from-place.ensures
    c.if-place-places.false c.requires.start
