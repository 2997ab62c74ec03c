use Rattle.std.proofs.Common.{ℕ, ◌+◌, Option, sym, subst, arith}
use Rattle.nr_explain.specs.inside.Searches.{IsLastCall}
use Rattle.nr_explain.specs.declared.trace.evidence.RecordedCall.{RecordedCall}
use Rattle.nr_explain.proofs.Lasts.{last_here, last_stays, no_call_made, not_made_by}
use Rattle.nr_explain.proofs.search.replies.last_call.Goals as goal
use Rattle.nr_explain.proofs.search.replies.last_call.Goals.{in-Some+then-call-thread, in-Some+else-call-thread, in_default}

pub loop-index-preserved : goal.loop-index-preserved
loop-index-preserved c =
    let trace = c.args.trace.now in
    let index = c.loop-index.index in
    elim c.match-find_call.branch [
      | in-Some+then-call-thread w ↦ subst (λ (o : Option RecordedCall). IsLastCall trace c.args.thread (index + 1) o) (sym w.last-is)
          (last_here trace c.args.thread index w.in-Some.call w.in-Some.ensures.is.0 w.in-Some.ensures.is.1 w.if-call-thread.true)
      | in-Some+else-call-thread w ↦ subst (λ (o : Option RecordedCall). IsLastCall trace c.args.thread (index + 1) o) (sym w.last-is)
          (last_stays trace c.args.thread index c.loop-index.last
          (not_made_by trace c.args.thread index w.in-Some.call w.in-Some.ensures.is.0 w.in-Some.ensures.is.1 w.if-call-thread.false) c.loop-index.invariant)
      | in_default w ↦ subst (λ (o : Option RecordedCall). IsLastCall trace c.args.thread (index + 1) o) (sym w.last-is)
          (last_stays trace c.args.thread index c.loop-index.last (no_call_made trace c.args.thread index w.in_default.ensures.is) c.loop-index.invariant)
    ]

pub returns : goal.returns
returns c = subst (λ (n : ℕ). IsLastCall c.args.trace.now c.args.thread n c.loop-index.last) (omega arith) c.loop-index.invariant
