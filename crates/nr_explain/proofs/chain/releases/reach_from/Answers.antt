use Rattle.std.proofs.Common.{Option, subst}
use Rattle.std.proofs.lemmas.Result.{IfOk-weaker}
use Rattle.nr_explain.specs.inside.Reaches.{FindsBefore, FindsReach, FindsWithin}
use Rattle.nr_explain.specs.inside.Reading.{all_states, left_seen}
use Rattle.nr_explain.specs.declared.chain.evidence.Reach.{Reach}
use Rattle.nr_explain.proofs.EarlierLooks.{sound_tail}
use Rattle.nr_explain.proofs.Reaching.{reach_so, reach_within}
use Rattle.nr_explain.proofs.chain.releases.reach_from.Goals as goal

pub reach_within-requires-clause-within : goal.reach_within-requires-clause-within
reach_within-requires-clause-within c = c.in_ok-window.ensures.within

pub reach_before-requires : goal.reach_before-requires
reach_before-requires c = sound_tail c.args.segment.now c.args.last.now c.requires.fits

pub returns-in-Some : goal.returns-in-Some
returns-in-Some c =
    let segment = c.args.segment.now in
    reach_within (left_seen (all_states c.args.last.now)) c.args.first.now.space segment c.args.event c.args.given c.args.address c.in_ok-window.window
    c.in_ok-window.ensures
    c.in-Some.reach
    (subst (λ (o : Option Reach). FindsWithin c.args.first.now.space segment c.args.address c.in_ok-window.window c.args.given o)
    c.in-Some.is c.in_ok-own.ensures)

pub returns-in-None : goal.returns-in-None
returns-in-None c =
    let segment = c.args.segment.now in
    let start = c.args.first.now.space in
    let changes = left_seen (all_states c.args.last.now) in
    let window = c.in_ok-window.window in
    IfOk-weaker c.reach_before.result (FindsBefore changes c.args.address window c.args.given)
    (FindsReach changes start segment c.args.event c.args.given c.args.address)
    (λ found before. reach_so changes start segment c.args.event c.args.given c.args.address window c.in_ok-window.ensures found
    (subst (λ (o : Option Reach). FindsWithin start segment c.args.address window c.args.given o) c.in-None.is c.in_ok-own.ensures) before)
    c.reach_before.ensures
