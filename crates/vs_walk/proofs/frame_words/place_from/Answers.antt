use Rattle.std.proofs.Common.{Ok, Err}
use Rattle.vs_types.specs.declared.addresses.frame.TheConstants.{FRAME_WORDS}
use Rattle.vs_walk.proofs.Filled.{guessed_place, searched_place}
use Rattle.vs_walk.proofs.frame_words.place_from.Goals as goal

pub returns-then-places-guess-2 : goal.returns-then-places-guess-2
returns-then-places-guess-2 c =
    guessed_place c.args.places.now FRAME_WORDS c.args.start c.args.guess c.requires.rise c.if-guess-gt0.true c.if-guess-places.true
    c.if-places-guess.true c.if-places-guess-2.true

pub returns-in-Ok : goal.returns-in-Ok
returns-in-Ok c =
    searched_place c.args.places.now FRAME_WORDS c.args.start (Ok c.in-Ok.place) c.requires.rise c.in-Ok.ensures.bound c.in-Ok.ensures.position

pub returns-in-Err : goal.returns-in-Err
returns-in-Err c =
    searched_place c.args.places.now FRAME_WORDS c.args.start (Err c.in-Err.place) c.requires.rise c.in-Err.ensures.bound c.in-Err.ensures.position
