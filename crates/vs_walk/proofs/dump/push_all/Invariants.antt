use Rattle.std.proofs.Common.{◌≡◌, ◌^◌, ◌<◌, ◌++◌, take}
use Rattle.std.specs.Prelude.{All}
use Rattle.std.specs.Vec.{vec_capacity}
use Rattle.vs_walk.proofs.dump.push_all.Given as goal

abbrev pub invariant-loop-index : goal.invariant-loop-index
invariant-loop-index l = record {
  pushed : l.words.items ≡ l.fn.words.items ++ take l.index l.frame;
  fit : All (λ word. word < 2 ^ 64) (take l.index l.frame);
  room : vec_capacity l.words ≡ vec_capacity l.fn.words;
}
