use Rattle.std.proofs.Common.{inl, inr}
use Rattle.std.proofs.lemmas.Bool.Decides.{not_from_Decides, Decides-like}
use Rattle.nr_touch.proofs.Tests.{no, yes}
use Rattle.nr_touch.proofs.cuts.Levels.{answered_by, answered_parts}
use Rattle.nr_touch.proofs.touches.stale.is_answered_with.Goals as goal

pub returns-then-is_answered_between : goal.returns-then-is_answered_between
returns-then-is_answered_between c = λ front rise old.
    yes (answered_by front c.args.level.now.changes.items rise c.args.touch.now c.args.finds c.requires.finds c.first_allowed-first.result
    c.first_allowed-first.ensures.past c.requires.columns.numbered (inl (c.is_answered_between.ensures.0 c.if-is_answered_between.true)))

pub returns-then-first-eq0 : goal.returns-then-first-eq0
returns-then-first-eq0 c = λ front rise old. Decides-like _
    (λ it. answered_by front c.args.level.now.changes.items rise c.args.touch.now c.args.finds c.requires.finds c.first_allowed-first.result
    c.first_allowed-first.ensures.past c.requires.columns.numbered (inr (c.if-first-eq0.true, it)))
    (λ it. elim (answered_parts front c.args.level.now.changes.items rise c.args.touch.now c.args.finds c.requires.finds c.first_allowed-first.result
    c.first_allowed-first.ensures.past c.requires.columns.numbered it) [
      | inl between ↦ absurd (not_from_Decides _ c.is_answered_between.ensures c.if-is_answered_between.false between)
      | inr before ↦ before.1
    ]) old

pub returns : goal.returns
returns c = λ front rise old. no (λ it. elim (answered_parts front c.args.level.now.changes.items rise c.args.touch.now c.args.finds c.requires.finds
    c.first_allowed-first.result c.first_allowed-first.ensures.past c.requires.columns.numbered it) [
      | inl between ↦ not_from_Decides _ c.is_answered_between.ensures c.if-is_answered_between.false between
      | inr before ↦ c.if-first-eq0.false before.0
    ])
