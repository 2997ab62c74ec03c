use Rattle.std.proofs.Common.{◌≡◌, ℕ, ◌+◌, List, get_or, refl, sym, ap, subst, ◌∙◌, arith, below_more}
use Rattle.vs_range.specs.Planner.{IsPageWord}
use Rattle.vs_range.proofs.Fours.{present_page}
use Rattle.vs_range.proofs.search.count_pages.Goals as goal

pub loop-k-preserved : goal.loop-k-preserved
loop-k-preserved g c =
    let here : IsPageWord c.args.level (get_or (g.W.FrameWords.words c.args.words.now) (c.args.index + c.loop-k.k) 0) =
    subst (IsPageWord c.args.level)
    (c.read-word.ensures.is ∙ ap (λ (ws : List ℕ). get_or ws (c.args.index + c.loop-k.k) 0) c.loop-k.invariant.0)
    (c.is_page.ensures.page c.if-not-is_page.false) in (
      c.read-word.ensures.same ∙ c.loop-k.invariant.0,
      λ i from low. c.read-word.ensures.others i (λ same. omega arith) (c.loop-k.invariant.1 i (omega arith) low),
      λ i below low. c.read-word.ensures.others i (λ same. omega arith) (c.loop-k.invariant.2 i below low),
      below_more (λ j. IsPageWord c.args.level (get_or (g.W.FrameWords.words c.args.words.now) (c.args.index + j) 0)) c.loop-k.k c.loop-k.invariant.3 here,
    )

pub loop-k-init : goal.loop-k-init
loop-k-init g c = (
  refl,
  λ i from low. c.requires.unread i low (λ same. omega (arith, from, same)),
  λ i below low. c.requires.unread i low (λ same. omega (arith, below, same)),
  λ j low.
      let here : c.args.index + j ≡ c.args.index = omega (arith, low) in
      subst (λ i. IsPageWord c.args.level (get_or (g.W.FrameWords.words c.args.words.now) i 0)) (sym here) c.requires.first,
)

pub returns-then-level-eq1-clause-pages : goal.returns-then-level-eq1-clause-pages
returns-then-level-eq1-clause-pages g c = λ k low.
    subst (λ level. IsPageWord level (get_or (g.W.FrameWords.words c.args.words.now) (c.args.index + k) 0)) (sym c.if-level-eq1.true)
    (present_page (get_or (g.W.FrameWords.words c.args.words.now) (c.args.index + k) 0) (c.count_alike.ensures.alike k low))
