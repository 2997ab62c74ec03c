use Rattle.std.proofs.Common.{Vec, Global, ◌≡◌, ℕ, ◌+◌, ◌<◌, length, Option, None, Some, option_and_then, refl, sym, ap, ◌∙◌, subst, arith}
use Rattle.std.specs.Option.{option_map}
use Rattle.std.proofs.lemmas.List.{get_or_read, get_or-set_other, get_or-set_same, length-set}
use Rattle.nr_trace.specs.Calls.{reply_in, Response}
use Rattle.nr_trace.specs.declared.recordings.event.Event.{Event}
use Rattle.nr_trace.proofs.LawsOfCalls.{read_event}
use Rattle.nr_touch.specs.inside.Changes.{AreRepliesBelow}
use Rattle.nr_touch.proofs.Replayed.{all_replies, answered_at, next_reply, no_replies}
use Rattle.nr_touch.proofs.changes.replay.replies.Goals as goal
use Rattle.nr_touch.proofs.changes.replay.replies.Goals.{in-Some+then-call-len, in-Some+else-call-len, in_default}

pub loop-index-init : goal.loop-index-init
loop-index-init c = no_replies c.args.trace.now c.in_ok-replies.replies.items _ c.in_ok-replies.ensures (ap length c.events-events.ensures.reads)

pub loop-index-preserved : goal.loop-index-preserved
loop-index-preserved c =
    let trace = c.args.trace.now in
    let i = c.loop-index.index in
    let old = c.loop-index.replies.items in
    let at = read_event trace c.events-events.result.now i _ _ c.events-events.ensures.reads c.loop-index-test.true c.index-events-index.is
    (sym c.event.ensures) in
    let is : answered_at trace i ≡ c.answered_in.result =
    ap (λ (o : Option Event). option_map (λ (r : Response). r.call) (option_and_then reply_in o)) at ∙ sym c.answered_in.ensures in
    elim c.match-answered_in.branch [
      | in-Some+then-call-len w ↦
          let call = w.in-Some.call in
          let l : call < length old = omega (arith, w.if-call-len.true, w.len.ensures, c.loop-index.replies.ok.0) in
          let read = get_or_read old call w.index.result.now l w.index.ensures 0 in
          subst (λ (v : Vec ℕ Global). AreRepliesBelow trace v.items (i + 1)) (sym w.replies-is)
          (next_reply trace old _ i (Some call) (is ∙ w.in-Some.is) c.loop-index.invariant (length-set old call w.min.result)
          (λ k low e. let same : call ≡ k = cc in rw (sym same) (get_or-set_same old call w.min.result 0 l ∙ omega (arith, w.min.ensures, read)))
          (λ k low differs. get_or-set_other old call k w.min.result 0 (λ same. differs (ap Some (sym same)))))
      | in-Some+else-call-len w ↦
          subst (λ (v : Vec ℕ Global). AreRepliesBelow trace v.items (i + 1)) (sym w.replies-is)
          (next_reply trace old old i (Some w.in-Some.call) (is ∙ w.in-Some.is) c.loop-index.invariant refl
          (λ k low e. let same : w.in-Some.call ≡ k = cc in
          absurd (omega (arith, same, low, w.if-call-len.false, w.len.ensures, c.loop-index.replies.ok.0))) (λ k low differs. refl))
      | in_default w ↦
          subst (λ (v : Vec ℕ Global). AreRepliesBelow trace v.items (i + 1)) (sym w.replies-is)
          (next_reply trace old old i None (is ∙ w.in_default.is) c.loop-index.invariant refl (λ k low e. absurd (cc)) (λ k low differs. refl))
    ]

pub returns : goal.returns
returns c =
    let all = ap length c.events-events.ensures.reads in
    all_replies c.args.trace.now c.loop-index.replies.items c.loop-index.index
    (omega (arith, all, c.loop-index-test.false, c.loop-index.auto.index-end)) c.loop-index.invariant
