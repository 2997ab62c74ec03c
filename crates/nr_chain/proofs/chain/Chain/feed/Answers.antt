use Rattle.std.proofs.Common.{◌∙◌}
use Rattle.nr_chain.proofs.Betweens.{more_between}
use Rattle.nr_chain.proofs.Judged.{any_refused, judged, judged_within, more_taken, refused_within}
use Rattle.nr_chain.proofs.Pieces.{took}
use Rattle.nr_chain.proofs.chain.Chain.feed.Goals as goal

pub judge_whole-requires-clause-whole : goal.judge_whole-requires-clause-whole
judge_whole-requires-clause-whole c = c.is_whole.ensures.0 c.if-is_whole.true

pub judge_whole-requires-clause-behind : goal.judge_whole-requires-clause-behind
judge_whole-requires-clause-behind c =
    let feed = c.self.inside.feed in
    (took feed c.feed.new.self c.args.piece.now c.in-Ok.count c.in-Ok.ensures).behind ∙ c.self.invariant.behind

pub returns-then-is_whole-clause-feeds : goal.returns-then-is_whole-clause-feeds
returns-then-is_whole-clause-feeds c = λ run kept.
    judged c.self.inside.last c.self.inside.begun c.self.inside.feed c.feed.new.self c.args.self c.args.piece.now c.self.invariant c.self.view_is
    run kept c.in-Ok.count c.judge_whole.result c.in-Ok.ensures (c.is_whole.ensures.0 c.if-is_whole.true) (c.judge_whole.ensures.judges run)

pub returns-then-is_whole-clause-within : goal.returns-then-is_whole-clause-within
returns-then-is_whole-clause-within c =
    judged_within c.args.counts c.self.inside.last c.self.inside.begun c.self.inside.feed c.feed.new.self c.args.piece.now c.in-Ok.count c.judge_whole.result
    c.self.invariant c.in-Ok.ensures (c.is_whole.ensures.0 c.if-is_whole.true) c.judge_whole.ensures.ends

pub invariant_of-next : goal.invariant_of-next
invariant_of-next c =
    let feed = c.self.inside.feed in
    let new = c.feed.new.self in
    more_between c.self.inside.last c.self.inside.begun c.has_begun-begun.result feed new c.args.piece.now c.in-Ok.count c.self.invariant
    (took feed new c.args.piece.now c.in-Ok.count c.in-Ok.ensures)
    (λ whole. let is = c.is_whole.ensures.1 whole in let other = c.if-is_whole.false in cc) c.has_begun-begun.ensures.none c.has_begun-begun.ensures.some

pub returns-else-is_whole-clause-feeds : goal.returns-else-is_whole-clause-feeds
returns-else-is_whole-clause-feeds c = λ run kept.
    more_taken c.self.inside.last c.self.inside.begun c.self.inside.feed c.feed.new.self c.args.self c.args.piece.now c.self.invariant c.self.view_is
    run kept c.in-Ok.count c.in-Ok.ensures (λ whole. let is = c.is_whole.ensures.1 whole in let other = c.if-is_whole.false in cc)

pub returns-in-Err-clause-feeds : goal.returns-in-Err-clause-feeds
returns-in-Err-clause-feeds c = λ run kept.
    any_refused c.self.inside.last c.self.inside.begun c.self.inside.feed c.feed.new.self c.args.self c.args.piece.now c.self.invariant
    c.self.view_is run kept c.in-Err.fail c.refused.result c.in-Err.ensures c.refused.ensures

pub returns-in-Err-clause-within : goal.returns-in-Err-clause-within
returns-in-Err-clause-within c = refused_within c.args.counts c.args.piece.now c.in-Err.fail c.refused.result c.refused.ensures
