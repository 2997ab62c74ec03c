use Rattle.std.proofs.Common.{◌<◌, ◌≤◌, sym, subst, ◌∙◌}
use Rattle.nr_audit.proofs.FloorFaults.{early_kept, early_here, not_early_here}
use Rattle.nr_audit.proofs.checks.floors.early_call.Goals as goal

pub returns-then-is_some : goal.returns-then-is_some
returns-then-is_some c = λ clean found.
    early_kept c.args.history.now c.args.call c.args.early (sym c.is_some.ensures ∙ c.if-is_some.true) found

pub returns-then-entries-known : goal.returns-then-entries-known
returns-then-entries-known c = λ clean found.
    early_here c.args.history.now c.args.call c.args.entries c.args.early (sym c.is_some.ensures ∙ c.if-is_some.false) c.requires.stands
    (subst (λ n. c.args.entries < n) c.requires.known c.if-entries-known.true) found

pub returns : goal.returns
returns c = λ clean found.
    not_early_here c.args.history.now c.args.call c.args.entries c.args.early clean (sym c.is_some.ensures ∙ c.if-is_some.false) c.requires.stands
    (subst (λ n. n ≤ c.args.entries) c.requires.known c.if-entries-known.false) found
