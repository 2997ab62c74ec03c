use Rattle.std.proofs.Common.{◌≡◌, length, take, refl, subst, ◌∙◌, arith}
use Rattle.std.proofs.lemmas.List.{length-take, take_all}
use Rattle.vs_walk.specs.inside.Kept.{AreAdded}
use Rattle.vs_walk.proofs.Added.{begun, next_added, added_short}
use Rattle.vs_walk.proofs.dump.push_nonzero.Goals as goal

pub loop-next-init : goal.loop-next-init
loop-next-init c = record {
  added = begun c.args.places.now.items c.args.words.now.items c.args.frame.now c.next_nonzero-next.result
      (omega (arith, c.next_nonzero-next.ensures.within, c.next_nonzero-next.ensures.whole)) c.next_nonzero-next.ensures.zeros;
  within = c.next_nonzero-next.ensures.within;
  found = c.next_nonzero-next.ensures.found;
  room_for_places = refl;
  room_for_words = refl;
}

pub push_reserved-requires : goal.push_reserved-requires
push_reserved-requires c =
    let frame = c.args.frame.now in
    let short = added_short c.args.places.now.items c.args.words.now.items c.loop-next.places.items c.loop-next.words.items
    (take c.loop-next.next frame) c.loop-next.invariant.added in
    omega (
      arith,
      short.0,
      length-take c.loop-next.next frame,
      c.loop-next.places.ok.0,
      c.args.places.now.ok.0,
      c.requires.places,
      c.loop-next.invariant.room_for_places,
      c.loop-next-test.true,
      c.next_nonzero-next.ensures.whole,
    )

pub push_reserved-requires-in-loop-next : goal.push_reserved-requires-in-loop-next
push_reserved-requires-in-loop-next c =
    let frame = c.args.frame.now in
    let short = added_short c.args.places.now.items c.args.words.now.items c.loop-next.places.items c.loop-next.words.items
    (take c.loop-next.next frame) c.loop-next.invariant.added in
    omega (
      arith,
      short.1,
      length-take c.loop-next.next frame,
      c.loop-next.words.ok.0,
      c.args.words.now.ok.0,
      c.requires.words,
      c.loop-next.invariant.room_for_words,
      c.loop-next-test.true,
      c.next_nonzero-next.ensures.whole,
    )

pub loop-next-preserved : goal.loop-next-preserved
loop-next-preserved c =
    let frame = c.args.frame.now in
    let next = c.next_nonzero-next-in-loop-next in
    record {
      added = next_added c.args.places.now.items c.args.words.now.items c.loop-next.places.items c.loop-next.words.items
          c.push_reserved.new.self.items c.push_reserved-in-loop-next.new.self.items frame c.loop-next.next c.word.result next.result
          c.loop-next.invariant.added
          (omega (arith, c.loop-next-test.true, c.next_nonzero-next.ensures.whole)) c.word.ensures (c.loop-next.invariant.found c.loop-next-test.true)
          c.word.type_inv c.push_reserved.ensures.items c.push_reserved-in-loop-next.ensures.items next.ensures.behind
          (omega (arith, next.ensures.within, next.ensures.whole)) next.ensures.zeros;
      within = next.ensures.within;
      found = next.ensures.found;
      room_for_places = c.push_reserved.ensures.capacity ∙ c.loop-next.invariant.room_for_places;
      room_for_words = c.push_reserved-in-loop-next.ensures.capacity ∙ c.loop-next.invariant.room_for_words;
    }
