use Rattle.std.proofs.Common.{sym, ◌∙◌, subst}
use Rattle.nr_trace.specs.declared.refusals.fault.Fault.{Fault}
use Rattle.nr_audit.specs.Start.{first_space}
use Rattle.nr_explain.specs.inside.Firsts.{IsToShow}
use Rattle.nr_explain.specs.inside.Reading.{all_states, space_seen}
use Rattle.nr_explain.proofs.Firsts.{of_its_start, start_to_show, within_to_show}
use Rattle.nr_explain.proofs.StartsShown.{none_left_in, not_within}
use Rattle.nr_explain.proofs.chain.explaining.explain_segment.Goals as goal

pub explain_start-requires-clause-of_start : goal.explain_start-requires-clause-of_start
explain_start-requires-clause-of_start c =
    of_its_start (space_seen (all_states c.args.last.now)) c.args.segment.now c.args.fault (sym c.is_within.ensures ∙ c.if-is_within.false)
    (c.in_default.not-Stale, c.in_default.not-Reachable)
    (start_to_show (all_states c.args.last.now) c.args.segment.now c.args.fault (c.in_default.not-Stale, c.in_default.not-Reachable) c.requires.first).holds

pub explain_start-requires-clause-first : goal.explain_start-requires-clause-first
explain_start-requires-clause-first c =
    start_to_show (all_states c.args.last.now) c.args.segment.now c.args.fault (c.in_default.not-Stale, c.in_default.not-Reachable) c.requires.first

pub explain_within-requires-clause-first : goal.explain_within-requires-clause-first
explain_within-requires-clause-first c =
    within_to_show (all_states c.args.last.now) c.args.segment.now c.args.fault (sym c.is_within.ensures ∙ c.if-is_within.true) c.requires.first

pub explain_touch-requires-clause-touch : goal.explain_touch-requires-clause-touch
explain_touch-requires-clause-touch c =
    subst (λ (f : Fault). IsToShow (all_states c.args.last.now) c.args.segment.now f) c.in-Stale.is c.requires.first

pub explain_release-requires-clause-well : goal.explain_release-requires-clause-well
explain_release-requires-clause-well c =
    (subst (λ (f : Fault). IsToShow (all_states c.args.last.now) c.args.segment.now f) c.in-Reachable.is c.requires.first).0

pub explain_release-requires-clause-release : goal.explain_release-requires-clause-release
explain_release-requires-clause-release c =
    (subst (λ (f : Fault). IsToShow (all_states c.args.last.now) c.args.segment.now f) c.in-Reachable.is c.requires.first).1

pub returns-then-is_within-clause-left : goal.returns-then-is_within-clause-left
returns-then-is_within-clause-left c =
    none_left_in c.args.last.now c.args.segment.now c.args.fault (first_space (space_seen (all_states c.args.last.now)) c.args.segment.now)
    c.explain_within.result
    (not_within c.args.fault (sym c.is_within.ensures ∙ c.if-is_within.true)) c.explain_within.ensures

pub returns-in_default-clause-left : goal.returns-in_default-clause-left
returns-in_default-clause-left c =
    none_left_in c.args.last.now c.args.segment.now c.args.fault (first_space (space_seen (all_states c.args.last.now)) c.args.segment.now)
    c.explain_start.result
    (c.in_default.not-Stale, c.in_default.not-Reachable) c.explain_start.ensures
