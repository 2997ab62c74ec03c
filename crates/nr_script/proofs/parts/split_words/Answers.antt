use Rattle.std.proofs.Common.{◌≡◌, List, ℕ, length, map, take, sym, ap, ◌∙◌, arith}
use Rattle.std.specs.Borrow.{Bor}
use Rattle.std.proofs.lemmas.List.{take_at, length-map}
use Rattle.nr_script.specs.inside.Left.{parts_left}
use Rattle.nr_script.proofs.parts.split_words.Goals as goal

pub returns : goal.returns
returns c =
    let kept : List (List ℕ) = map (λ (word : Bor (List ℕ)). word.now) c.loop-turn.words.items in
    let seven : length kept ≡ 7 = length-map c.loop-turn.words.items (λ (word : Bor (List ℕ)). word.now) ∙ omega arith in
    sym (ap (take 7) c.loop-turn.invariant.1 ∙ take_at kept (parts_left 32 c.loop-turn.left) 7 seven)
