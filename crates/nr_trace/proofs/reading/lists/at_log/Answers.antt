use Rattle.std.proofs.Common.{◌≡◌, ℕ, length, ap, subst, ◌∙◌, arith}
use Rattle.nr_trace.specs.FirstFault.{AtEvents}
use Rattle.nr_trace.specs.inside.Progress.{parts_spelling}
use Rattle.nr_trace.proofs.Spelled.{no_place}
use Rattle.nr_trace.proofs.Units.{goes_on}
use Rattle.nr_trace.proofs.reading.lists.at_log.Goals as goal

pub returns-then-places-eq0 : goal.returns-then-places-eq0
returns-then-places-eq0 c =
    let parts = c.args.parts in
    let none : length parts.events.items ≡ 0 = ap length c.requires.no_events in
    goes_on parts.form c.at_events.result _ _ _ _ c.at_events.ensures
    (ap (λ (n : ℕ). parts_spelling (length parts.log.items) n parts) (omega arith) ∙ ap (λ (n : ℕ). parts_spelling n c.args.events parts) (omega arith))
    (λ rest fault h. no_place parts.version parts.layout (length parts.log.items) c.args.places c.args.events rest fault c.if-places-eq0.true
    (subst (λ (n : ℕ). AtEvents parts.version parts.layout n c.args.events rest fault) none h))
