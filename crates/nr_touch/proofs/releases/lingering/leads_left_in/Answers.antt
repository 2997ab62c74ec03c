use Rattle.std.proofs.Common.{sym, ◌∙◌, arith}
use Rattle.std.proofs.lemmas.Bool.{false≢true}
use Rattle.nr_touch.proofs.ListedPages.{gone_more, leads_listed}
use Rattle.nr_touch.proofs.releases.lingering.leads_left_in.Goals as goal

pub returns-then-leads-clause-sound : goal.returns-then-leads-clause-sound
returns-then-leads-clause-sound c = λ b t. c.leads_in_rows-leads.ensures.sound b c.if-leads.true

pub returns-then-not-compared-clause-whole : goal.returns-then-not-compared-clause-whole
returns-then-not-compared-clause-whole c = λ b page frame listed there of.
    absurd (false≢true (sym c.if-leads.false ∙ leads_listed b c.args.release.now c.args.lingering.now c.args.gone.now
    c.args.block c.first_of-first.result c.first_of-first.ensures listed page frame there of (λ own number. c.leads_in_rows-leads.ensures.whole b own number)))

pub returns-clause-whole : goal.returns-clause-whole
returns-clause-whole c = λ b page frame listed there of.
    absurd (false≢true (sym c.if-leads.false ∙ leads_listed b c.args.release.now c.args.lingering.now c.args.gone.now
    c.args.block c.first_of-first.result c.first_of-first.ensures listed page frame there of (λ own number. c.leads_in_rows-leads.ensures.whole b own number)))

pub returns-clause-listed : goal.returns-clause-listed
returns-clause-listed c = λ b listed.
    let pages = c.args.lingering.now.pages in
    gone_more b c.args.release.now c.args.lingering.now c.args.gone.now c.note.new.self c.args.block c.len.result
    c.in_ok-note.ensures (omega (arith, pages.ok.0)) (λ page frame there of.
    false≢true (sym c.if-leads.false ∙ leads_listed b c.args.release.now c.args.lingering.now c.args.gone.now
    c.args.block c.first_of-first.result c.first_of-first.ensures listed page frame there of
    (λ own number. c.leads_in_rows-leads.ensures.whole b own number))) listed
