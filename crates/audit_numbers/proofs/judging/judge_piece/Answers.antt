use Rattle.std.proofs.Common.{◌≡◌, ℕ, ◌++◌, [], ◌==◌, ap, sym, subst, length, true, false, refl, ◌∙◌}
use Rattle.std.proofs.lemmas.Bool.{eqb-true}
use Rattle.std.proofs.lemmas.List.{nil_from_length}
use Rattle.nr_chain.specs.Verdict.{FeedsChain}
use Rattle.audit_numbers.proofs.Pieces.{empty_piece, more_judged, right_verdict, wrong_judged}
use Rattle.audit_numbers.proofs.judging.judge_piece.Goals as goal

pub returns-then-is_empty : goal.returns-then-is_empty
returns-then-is_empty c = λ bytes orders explain judged told.
    empty_piece bytes c.args.piece.now orders explain c.args.chain c.args.telling
    (nil_from_length c.args.piece.now (eqb-true (length c.args.piece.now) 0 (sym c.is_empty.ensures ∙ c.if-is_empty.true))) judged told

pub returns-in_ok-told-in-More : goal.returns-in_ok-told-in-More
returns-in_ok-told-in-More c = λ bytes orders explain judged told. (
  more_judged bytes c.args.piece.now orders c.args.chain c.in-More.next judged
      (subst (FeedsChain judged.run c.args.chain c.args.piece.now) c.in-More.is (c.in_ok-next.ensures.feeds judged.run judged.kept)),
  c.in_ok-told-in-More.ensures bytes explain told,
)

pub returns-in_ok-told_so_far-in-Right : goal.returns-in_ok-told_so_far-in-Right
returns-in_ok-told_so_far-in-Right c = λ bytes orders explain judged told.
    right_verdict bytes c.args.piece.now orders explain c.args.chain c.in-Right.next c.in-Right.count c.in-Right.order _ _ judged
    (subst (FeedsChain judged.run c.args.chain c.args.piece.now) c.in-Right.is (c.in_ok-next.ensures.feeds judged.run judged.kept))
    (c.in_ok-told_so_far-in-Right.ensures bytes explain told)

pub returns-in_ok-explanation-in-Wrong : goal.returns-in_ok-explanation-in-Wrong
returns-in_ok-explanation-in-Wrong c = λ bytes orders explain judged told.
    let feeds = subst (FeedsChain judged.run c.args.chain c.args.piece.now) c.in-Wrong.is (c.in_ok-next.ensures.feeds judged.run judged.kept) in (
      refl,
      wrong_judged bytes c.args.piece.now orders c.args.chain c.in-Wrong.fault judged feeds (λ none. absurd (
          let zero : length c.args.piece.now ≡ 0 = ap length none in
          let empty : c.is_empty.result ≡ true = c.is_empty.ensures ∙ ap (λ (n : ℕ). n == 0) zero in
          let some : c.is_empty.result ≡ false = c.if-is_empty.false in cc)),
      c.in_ok-explanation-in-Wrong.ensures (bytes ++ c.args.piece.now) explain (c.in_ok-all_told-in-Wrong.ensures bytes explain told),
    )
