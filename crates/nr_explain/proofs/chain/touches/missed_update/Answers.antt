use Rattle.nr_explain.proofs.Missed.{has_reply, last_has_call, last_within, update_missed}
use Rattle.nr_explain.proofs.chain.touches.missed_update.Goals as goal

pub update_at-update-requires-clause-within : goal.update_at-update-requires-clause-within
update_at-update-requires-clause-within c =
    let (start, address, made, with_page, reached) = c.requires in
    last_within start c.args.segment.now address made with_page c.args.first reached c.if-first-eq0.false

pub update_at-update-requires-clause-call : goal.update_at-update-requires-clause-call
update_at-update-requires-clause-call c =
    let (start, address, made, with_page, reached) = c.requires in
    last_has_call start c.args.segment.now address made with_page c.args.first reached c.if-first-eq0.false

pub unreachable-requires : goal.unreachable-requires
unreachable-requires c =
    let (start, address, made, with_page, reached) = c.requires in
    has_reply start c.args.segment.now address made with_page c.args.first reached c.if-first-eq0.false c.update_at-update.result
    c.update_at-update.ensures.place
    c.update_at-update.ensures.placed c.in-None.ensures

pub returns : goal.returns
returns c = λ start address made with_page reached.
    update_missed start c.args.segment.now address made with_page c.args.first reached c.if-first-eq0.false c.update_at-update.result
    c.update_at-update.ensures.place
    c.update_at-update.ensures.placed c.in-Some.reply c.update_at-update.ensures.call c.in-Some.ensures
