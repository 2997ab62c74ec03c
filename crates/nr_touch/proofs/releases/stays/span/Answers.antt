use Rattle.std.proofs.Common.{sym, ◌∙◌}
use Rattle.std.proofs.lemmas.Bool.{false≢true}
use Rattle.nr_touch.proofs.Spans.{spanned}
use Rattle.nr_touch.proofs.releases.stays.span.Goals as goal

pub number_of-number-requires : goal.number_of-number-requires
number_of-number-requires c = c.requires.roomy.ends

pub returns-then-seen : goal.returns-then-seen
returns-then-seen c = λ event fits alive.
    spanned c.args.history.now.changes.items c.args.seen.now c.number_of-number.result c.latest_made-from.result c.earliest_taken-until.result event
    c.number_of-number.ensures c.latest_made-from.ensures c.earliest_taken-until.ensures fits alive

pub returns : goal.returns
returns c = λ event fits alive. absurd (false≢true (sym c.if-seen.false ∙ alive.there))
