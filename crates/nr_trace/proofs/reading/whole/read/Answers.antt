use Rattle.std.proofs.Common.{◌≡◌, rules, subst}
use Rattle.vs_types.specs.Refusal.{IfRefused}
use Rattle.vs_types.specs.declared.requests.refusal.Fail.TheVariants.{Memory}
use Rattle.nr_trace.specs.FirstFault.{HasFormatFault}
use Rattle.nr_trace.specs.Feed.{Ends}
use Rattle.nr_trace.proofs.OnlySpelled.{first_refused, only_memory, first_taken, only_spelled}
use Rattle.nr_trace.proofs.reading.whole.read.Goals as goal

pub returns-in_err-feed-clause-refused : goal.returns-in_err-feed-clause-refused
returns-in_err-feed-clause-refused c =
    let refused : IfRefused (HasFormatFault c.args.bytes.now) c.in_err-feed.field-0.0 =
    first_refused c.args.bytes.now c.new-feed.result c.feed.new.self c.in_err-feed.field-0.0 c.new-feed.ensures c.in_err-feed.ensures in
    search rules

pub returns-in_err-feed-clause-only : goal.returns-in_err-feed-clause-only
returns-in_err-feed-clause-only c = λ trace spells.
    let refused = first_refused c.args.bytes.now c.new-feed.result c.feed.new.self c.in_err-feed.field-0.0 c.new-feed.ensures c.in_err-feed.ensures in
    let is : c.in_err-feed.field-0.0 ≡ Memory = only_memory c.args.bytes.now c.in_err-feed.field-0.0 trace refused spells in
    search rules

pub returns-clause-only : goal.returns-clause-only
returns-clause-only c = λ trace spells.
    let fed = first_taken c.args.bytes.now c.new-feed.result c.feed.new.self c.new-feed.ensures c.in_ok-feed.ensures in
    only_spelled c.args.bytes.now c.end.result trace (subst (λ f. Ends f c.end.result) fed c.end.ensures) spells
