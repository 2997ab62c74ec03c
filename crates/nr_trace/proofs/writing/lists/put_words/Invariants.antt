use Rattle.std.proofs.Common.{◌≡◌, ℕ, ◌<◌, ◌≤◌, ◌++◌, get_or, take}
use Rattle.std.specs.List.{flat_map}
use Rattle.std.specs.Int.{w64, to_be_bytes}
use Rattle.nr_trace.proofs.writing.lists.put_words.Given as goal

abbrev pub invariant-loop-index : goal.invariant-loop-index
invariant-loop-index l = record {
  put : l.out.items ≡ l.fn.out.items ++ flat_map (to_be_bytes w64) (take l.index l.words);
  zeros : (i : ℕ) → l.index ≤ i → i < l.next → get_or l.words i 0 ≡ 0;
}
