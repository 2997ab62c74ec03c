use Rattle.std.proofs.Common.{◌≡◌, ℕ, Bool, ap, sym, ◌∙◌, subst, arith}
use Rattle.vs_types.specs.Space.{Space}
use Rattle.vs_plain.specs.Plain.{BoundedSpace}
use Rattle.vs_types.specs.declared.requests.request.Query.{Query}
use Rattle.nr_trace.specs.Calls.{IsCall}
use Rattle.nr_trace.specs.Recording.{IsAskable}
use Rattle.nr_audit.specs.Touches.{HasTouch}
use Rattle.nr_explain.specs.Nearest.{IsNearest}
use Rattle.nr_touch.specs.declared.touches.touch.Touch.{Touch}
use Rattle.nr_explain.specs.ChainEvidence.{fewest, found_page, AreLooks, IsMissed, IsOpenBefore}
use Rattle.nr_explain.specs.inside.Windows.{IsWindowOf}
use Rattle.nr_explain.proofs.Answering.{none_open, of_touch, touch_asks, touch_is_call, touched}
use Rattle.nr_explain.proofs.EarlierLooks.{earlier_at, sound_tail}
use Rattle.nr_explain.proofs.Lags.{found_so, lagging}
use Rattle.nr_explain.proofs.Missed.{above_within}
use Rattle.nr_explain.specs.inside.Reading.{all_states, left_seen}
use Rattle.nr_explain.proofs.Windows.{window_is}
use Rattle.nr_explain.proofs.chain.touches.stale_touch.Goals as goal

pub call_at-call-requires : goal.call_at-call-requires
call_at-call-requires c =
    let stale = c.requires.touch in
    subst (IsCall c.args.segment.now) stale.made (touch_is_call c.args.segment.now stale.touch stale.has)

pub unreachable-requires-in_default-reply_to : goal.unreachable-requires-in_default-reply_to
unreachable-requires-in_default-reply_to c =
    let stale = c.requires.touch in
    none_open c.args.segment.now c.args.index stale.touch stale.has stale.made c.in_default-reply_to.ensures

pub of-request-requires : goal.of-request-requires
of-request-requires c = (c.args.segment.now.layout.depth, subst (IsAskable c.args.segment.now.layout.depth) c.in-Touch.is c.call_at-call.ensures.askable)

pub earlier_looks-requires : goal.earlier_looks-requires
earlier_looks-requires c = sound_tail c.args.segment.now c.args.last.now c.requires.fits

pub looks_in-requires-clause-within : goal.looks_in-requires-clause-within
looks_in-requires-clause-within c =
    let few = c.in_ok-window.ensures.within in
    omega (arith, few, c.with_lag-from.ensures.last)

pub missed_update-missed-requires : goal.missed_update-missed-requires
missed_update-missed-requires c =
    (c.args.first.now.space, c.in-Touch.address, c.args.index, c.is_none-with_page.result, c.in_ok-window.ensures.reached)

pub open_update-still_open-requires : goal.open_update-still_open-requires
open_update-still_open-requires c =
    (c.args.first.now.space, c.in-Touch.address, c.args.index, c.in-Some.reply.event, c.is_none-with_page.result, c.in_ok-window.ensures)

pub later_update-later-requires-clause-window : goal.later_update-later-requires-clause-window
later_update-later-requires-clause-window c =
    (c.args.first.now.space, c.in-Touch.address, c.args.index, c.in-Some.reply.event, c.is_none-with_page.result, c.in_ok-window.ensures)

pub later_update-later-requires-clause-right : goal.later_update-later-requires-clause-right
later_update-later-requires-clause-right c =
    above_within c.args.first.now.space c.args.segment.now c.of-request.result c.in-Some.reply.answer c.in_ok-window.window.first
    c.in_ok-window.window.last c.in_ok-right.right c.in_ok-right.ensures

pub returns-clause-is : goal.returns-clause-is
returns-clause-is c =
    let segment = c.args.segment.now in
    let start = c.args.first.now.space in
    let call = c.call_at-call.result in
    let event = c.call_at-call.ensures.event in
    let address = c.in-Touch.address in
    let reply = c.in-Some.reply in
    let window = c.in_ok-window.window in
    let first = c.in-Some.ensures in
    let names = first.1 ∙ sym event in
    let again : c.in_ok-again.again.space ≡ start = ap (λ (s : BoundedSpace). s.space) c.in_ok-again.ensures in
    let found = c.is_none-with_page.result in
    let is : IsWindowOf start segment address c.args.index reply.event found window = c.in_ok-window.ensures in
    let kind : found ≡ found_page c.lag_of-lag.result = found_so c.lag_of-lag.result found c.is_none-with_page.ensures in
    let of_it : (touch : Touch) → HasTouch segment touch → touch.made ≡ call.event → touch.address ≡ address =
    λ touch has made. ap touched (sym (touch_asks segment call touch c.call_at-call.ensures.is has made) ∙ c.in-Touch.is) in
    let looks = subst (λ (s : Space). AreLooks s segment address c.with_lag-from.result.first c.with_lag-from.result.last c.in_ok-looks.looks.items) again
    c.in_ok-looks.ensures in
    record {
      call = c.call_at-call.ensures.is;
      address = address;
      mode = c.in-Touch.mode;
      access = c.in-Touch.access;
      asks = c.in-Touch.is;
      reply = first.0;
      names = names;
      window = λ touch has made n alike.
          window_is start segment address c.args.index reply.event found touch window
          (of_it touch has made) (made ∙ event)
          (of_touch segment c.args.index reply touch c.requires.touch.clean first.0 first.1 has (made ∙ event)) is n (alike ∙ sym kind);
      lag = c.lag_of-lag.ensures;
      lagging = lagging start segment address reply.event call found window c.call_at-call.ensures.is
          (subst (λ (n : ℕ). IsWindowOf start segment address n reply.event found window) (sym event) is) reply.answer c.lag_of-lag.result
          c.lag_of-lag.ensures (λ touch has made. record {
            address = of_it touch has made;
            made = made;
            answered = of_touch segment c.args.index reply touch c.requires.touch.clean first.0 first.1 has (made ∙ event);
            known = has.known;
          });
      looks = subst (λ (n : ℕ). AreLooks start segment address (fewest window.first c.lag_of-lag.result) n c.in_ok-looks.looks.items)
          c.with_lag-from.ensures.last
          (subst (λ (n : ℕ). AreLooks start segment address n c.with_lag-from.result.last c.in_ok-looks.looks.items) c.with_lag-from.ensures.first looks);
      missed = subst (λ (b : Bool). IsMissed start segment address call.event b window.first c.missed_update-missed.result) kind
          (subst (λ (m : ℕ). IsMissed start segment address m found window.first c.missed_update-missed.result) (sym event)
          (c.missed_update-missed.ensures start address c.args.index found is.reached));
      open_then = subst (λ (b : Bool). IsOpenBefore start segment address call.event b window.first c.open_update-still_open.result) kind
          (subst (λ (m : ℕ). IsOpenBefore start segment address m found window.first c.open_update-still_open.result) (sym event)
          (c.open_update-still_open.ensures start address c.args.index reply.event found is));
      later = c.later_update-later.ensures start address c.args.index reply.event found is;
      right = subst (λ (q : Query). IsNearest start segment q reply.answer window.first window.last c.in_ok-right.right) c.of-request.ensures
          c.in_ok-right.ensures;
    }

pub returns-clause-left : goal.returns-clause-left
returns-clause-left c = λ address mode access asks.
    earlier_at (left_seen (all_states c.args.last.now)) c.in-Touch.address _ _ _ _ _ (ap touched (sym c.in-Touch.is ∙ asks))
    (found_so c.lag_of-lag.result _ c.is_none-with_page.ensures) c.in_ok-earlier.ensures
