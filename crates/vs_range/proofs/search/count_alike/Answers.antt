use Rattle.std.proofs.Common.{ℕ, ◌+◌, List, get_or, inl, inr, ap, ◌∙◌, arith}
use Rattle.vs_range.proofs.Fours.{more_alike}
use Rattle.vs_range.proofs.search.count_alike.Goals as goal

pub returns-then-alike-lt4-clause-alike : goal.returns-then-alike-lt4-clause-alike
returns-then-alike-lt4-clause-alike g c =
    more_alike (g.W.FrameWords.words c.args.words.now) c.read_four-four.result c.args.index c.loop-count.count
    (λ j low. c.read_four-four.ensures.is j low
    ∙ ap (λ (ws : List ℕ). get_or ws (c.args.index + c.loop-count.count + j) 0) c.loop-count.invariant.2)
    c.args.bit c.leading-alike.result c.leading-alike.ensures.few c.loop-count.invariant.5 c.leading-alike.ensures.alike

pub loop-count-preserved : goal.loop-count-preserved
loop-count-preserved g c = (
  omega arith,
  omega (arith, c.loop-count-test.true),
  c.read_four-four.ensures.same ∙ c.loop-count.invariant.2,
  λ i from low. c.read_four-four.ensures.others i (inr (omega (arith, from))) (c.loop-count.invariant.3 i (omega (arith, from)) low),
  λ i below. c.read_four-four.ensures.others i (inl (omega (arith, below))) (c.loop-count.invariant.4 i below),
  more_alike (g.W.FrameWords.words c.args.words.now) c.read_four-four.result c.args.index c.loop-count.count
      (λ j low. c.read_four-four.ensures.is j low
      ∙ ap (λ (ws : List ℕ). get_or ws (c.args.index + c.loop-count.count + j) 0) c.loop-count.invariant.2)
      c.args.bit 4 (omega arith) c.loop-count.invariant.5 (λ j low. c.leading-alike.ensures.alike j (omega (arith, low, c.if-alike-lt4.false))),
)
