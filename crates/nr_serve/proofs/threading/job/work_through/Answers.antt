use Rattle.std.proofs.Common.{◌+◌, List, sym, subst, arith}
use Rattle.nr_ring.proofs.Histories.{begins as begins_further}
use Rattle.nr_ring.proofs.Views.{whole}
use Rattle.nr_serve.specs.SegmentRun.{IsAnswer}
use Rattle.nr_serve.specs.inside.Calls.{IsServed, since}
use Rattle.nr_serve.specs.declared.endings.call_outcome.CallOutcome.{CallOutcome}
use Rattle.nr_serve.specs.inside.Working.{IsUnderWay}
use Rattle.nr_serve.proofs.Working.{IsNext, begins, ends, goes_on, named_heard, named_history, stops}
use Rattle.nr_serve.proofs.threading.job.work_through.Goals as goal
use Rattle.nr_serve.proofs.threading.job.work_through.Given.{Over}
use Rattle.nr_serve.proofs.threading.job.work_through.Goals.{After-note}

pub loop-done-init : goal.loop-done-init
loop-done-init g c =
    let clock = c.args.team.now.clock.now in
    let depth = g.J.LogName.depth in
    let replicas = g.J.LogName.replicas in
    let tables = g.K.ReplicasName.tables in
    let of = since g.K.ReplicasName.log g.K.ReplicasName.base in
    let history = named_history clock.layout c.args.team.now.base depth replicas tables g.K.ReplicasName.base c.args.pass.now.view.seen
    c.requires.names c.has_seen_a_history.ensures.history in
    let Here : List CallOutcome → Type 0 = λ l. IsUnderWay clock of c.args.thread c.args.script.now 0 c.args.pen.now c.args.pass.now l in (
      subst Here (sym c.requires.said.0) (begins clock of c.args.thread c.args.script.now c.args.pen.now c.args.pass.now c.requires.ready history),
      c.requires.said.1,
      whole c.args.pass.now.view.seen,
    )

-- the call that the thread has just made
next : (g : Over) (c : After-note g)
    → IsNext c.args.team.now.clock.now (since g.K.ReplicasName.log g.K.ReplicasName.base) c.args.thread c.args.script.now c.loop-done.done
    c.index-script-done.result c.loop-done.pen c.call-item.new.pen c.loop-done.pass c.call-item.new.pass c.loop-done.said.items c.call-item.result
next g c = record {
  under_way = c.loop-done.invariant.0;
  within = c.loop-done-test.true;
  request_is = c.index-script-done.is;
  same_log = c.call-item.ensures.log;
  heard = named_heard c.args.team.now.clock.now.layout c.args.team.now.base g.J.LogName.depth g.J.LogName.replicas g.K.ReplicasName.tables g.K.ReplicasName.base
      c.loop-done.pass.view
      c.call-item.new.pass.view c.requires.names c.call-item.ensures.heard;
  called = c.call-item.ensures.called;
}

pub returns-in-Stopped : goal.returns-in-Stopped
returns-in-Stopped g c =
    let clock = c.args.team.now.clock.now in
    let of = since g.K.ReplicasName.log g.K.ReplicasName.base in
    let was = c.loop-done in
    let made = c.call-item.new in
    let Here : List CallOutcome → Type 0 =
    λ l. IsServed clock of c.args.thread c.args.script.now (record { pen = made.pen; pass = made.pass; said = l }) in
    record {
      served = subst Here (sym c.note.ensures.0) (stops clock of c.args.thread c.args.script.now was.done c.index-script-done.result was.pen made.pen was.pass
          made.pass was.said.items c.call-item.result (next g (goal.at.returns-in-Stopped g c).After-note) c.in-Stopped.is);
      heard = begins_further c.args.pass.now.view.seen was.pass.view.seen made.pass.view.seen was.invariant.2 c.call-item.ensures.heard.seen;
    }

pub loop-done-preserved : goal.loop-done-preserved
loop-done-preserved g c =
    let clock = c.args.team.now.clock.now in
    let of = since g.K.ReplicasName.log g.K.ReplicasName.base in
    let was = c.loop-done in
    let made = c.call-item.new in
    let answered : IsAnswer c.call-item.result = subst IsAnswer (sym c.in-Answer.is) tt in
    let Here : List CallOutcome → Type 0 = λ l. IsUnderWay clock of c.args.thread c.args.script.now (was.done + 1) made.pen made.pass l in (
      subst Here (sym c.note.ensures.0) (goes_on clock of c.args.thread c.args.script.now was.done c.index-script-done.result was.pen made.pen was.pass
          made.pass was.said.items c.call-item.result (next g (goal.at.loop-done-preserved g c).After-note) answered),
      omega (arith, was.invariant.1, c.note.ensures.1),
      begins_further c.args.pass.now.view.seen was.pass.view.seen made.pass.view.seen was.invariant.2 c.call-item.ensures.heard.seen,
    )

pub returns : goal.returns
returns g c =
    let was = c.loop-done in
    let of = since g.K.ReplicasName.log g.K.ReplicasName.base in
    record {
      served = ends c.args.team.now.clock.now of c.args.thread c.args.script.now was.done was.pen was.pass was.said.items was.invariant.0
          (omega (arith, c.loop-done-test.false, was.auto.done-end));
      heard = was.invariant.2;
    }
