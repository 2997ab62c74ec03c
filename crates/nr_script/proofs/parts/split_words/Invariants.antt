use Rattle.std.proofs.Common.{◌≡◌, ◌++◌, length, map}
use Rattle.vs_text.specs.Words.{words}
use Rattle.nr_script.specs.inside.Left.{parts_left}
use Rattle.nr_script.proofs.parts.split_words.Given as goal

abbrev pub invariant-loop-turn : goal.invariant-loop-turn
invariant-loop-turn l = (length l.words.items ≡ l.turn) × (words l.line ≡ map (λ word. word.now) l.words.items ++ parts_left 32 l.left)
