use Rattle.std.proofs.Common.{sym, ◌∙◌}
use Rattle.std.proofs.lemmas.Bool.{false≢true}
use Rattle.nr_touch.proofs.OverRows.{known_more}
use Rattle.nr_touch.proofs.releases.changed.leads_in_block.Goals as goal

pub returns-then-leads-clause-sound : goal.returns-then-leads-clause-sound
returns-then-leads-clause-sound c = λ b t. c.leads_in_rows-leads.ensures.sound b c.if-leads.true

pub returns-then-over-before-clause-whole : goal.returns-then-over-before-clause-whole
returns-then-over-before-clause-whole c = λ b stay known has of from until leads.
    absurd (false≢true (sym c.if-leads.false ∙ c.leads_in_rows-leads.ensures.whole b stay
    (c.rows-before.ensures _ b c.args.changed.now known) has of from until leads))

pub returns-clause-whole : goal.returns-clause-whole
returns-clause-whole c = λ b stay known has of from until leads. absurd (false≢true (sym c.if-leads.false ∙ c.leads_in_rows-leads.ensures.whole b stay
    (c.rows-before.ensures _ b c.args.changed.now known) has of from until leads))

pub returns-clause-known : goal.returns-clause-known
returns-clause-known c = λ b known.
    known_more b c.args.changed.now c.args.overs.now c.note.new.self c.args.release.now c.args.block _ c.in_ok-note.ensures known
    (c.leads_in_rows-leads.ensures.over b (c.rows-before.ensures _ b c.args.changed.now known) c.if-leads.false)
