use Rattle.std.proofs.Common.{get_or, sym, ap, ◌∙◌, arith}
use Rattle.vs_types.specs.declared.addresses.frame.TheConstants.{FRAME_WORDS}
use Rattle.vs_walk.specs.inside.Kept.{filled}
use Rattle.vs_walk.proofs.Filled.{word_at, no_word_found}
use Rattle.vs_walk.proofs.frame_words.word_among.Goals.{else-place-places-via-then-place-places+else-places-place, else-place-places-via-else-place-places}
use Rattle.vs_walk.proofs.frame_words.word_among.Goals as goal

pub returns-then-places-place : goal.returns-then-places-place
returns-then-places-place c =
    sym (word_at c.args.places.now c.args.words.now FRAME_WORDS c.place_from-place.result c.requires.kept c.if-place-places.true)
    ∙ ap (λ n. get_or (filled 0 c.args.places.now c.args.words.now FRAME_WORDS) n 0) c.if-places-place.true

pub returns-else-place-places : goal.returns-else-place-places
returns-else-place-places c =
    sym (no_word_found c.args.places.now c.args.words.now c.args.index c.place_from-place.result c.requires.kept c.place_from-place.ensures
    (elim c.else-place-places.branch [
      | else-place-places-via-then-place-places+else-places-place w ↦ λ _. w.if-places-place.false
      | else-place-places-via-else-place-places w ↦ λ lt. absurd (omega (arith, lt, w.if-place-places.false))
    ]))
