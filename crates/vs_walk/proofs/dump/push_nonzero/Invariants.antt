use Rattle.std.proofs.Common.{◌≡◌, ◌≢◌, ◌-◌, ◌<◌, ◌≤◌, get_or, take}
use Rattle.std.specs.Vec.{vec_capacity}
use Rattle.vs_walk.specs.inside.Kept.{AreAdded}
use Rattle.vs_walk.proofs.dump.push_nonzero.Given as goal

abbrev pub invariant-loop-next : goal.invariant-loop-next
invariant-loop-next l = record {
  added : AreAdded l.fn.places.items l.fn.words.items l.places.items l.words.items (take l.next l.frame);
  within : l.next ≤ 512;
  found : l.next < 512 → get_or l.frame l.next 0 ≢ 0;
  room_for_places : vec_capacity l.places ≡ vec_capacity l.fn.places;
  room_for_words : vec_capacity l.words ≡ vec_capacity l.fn.words;
}

abbrev pub decreases-loop-next : goal.decreases-loop-next
decreases-loop-next l = 512 - l.next
