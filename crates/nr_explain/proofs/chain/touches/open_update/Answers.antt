use Rattle.nr_explain.proofs.Missed.{none_open_before, open_found, open_has_call, open_within}
use Rattle.nr_explain.proofs.chain.touches.open_update.Goals as goal

pub returns-then-window : goal.returns-then-window
returns-then-window c = λ start address made answered with_page is.
    none_open_before start c.args.segment.now address made answered with_page c.args.window is c.if-window.true

pub update_at-update-requires-clause-within : goal.update_at-update-requires-clause-within
update_at-update-requires-clause-within c =
    let (start, address, made, answered, with_page, is) = c.requires in
    open_within start c.args.segment.now address made answered with_page c.args.window is c.if-window.false

pub update_at-update-requires-clause-call : goal.update_at-update-requires-clause-call
update_at-update-requires-clause-call c =
    let (start, address, made, answered, with_page, is) = c.requires in
    open_has_call start c.args.segment.now address made answered with_page c.args.window is c.if-window.false

pub returns : goal.returns
returns c = λ start address made answered with_page is.
    open_found start c.args.segment.now address made answered with_page c.args.window is c.if-window.false c.update_at-update.result
    c.reply_to-reply.result c.update_at-update.ensures.place c.update_at-update.ensures.placed c.update_at-update.ensures.call c.reply_to-reply.ensures
