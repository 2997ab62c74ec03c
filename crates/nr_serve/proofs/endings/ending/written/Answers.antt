use Rattle.std.proofs.Common.{rules, ℕ, List, length, map, ap, sym, ◌∙◌, arith}
use Rattle.std.proofs.lemmas.List.{length-map}
use Rattle.std.proofs.lemmas.Result.{IfOk-weaker}
use Rattle.vs_types.specs.declared.log_entry.LogEntry.{LogEntry}
use Rattle.nr_ring.specs.LogHistory.{log_after}
use Rattle.nr_trace.specs.declared.formats.version.Form.TheVariants as forms
use Rattle.nr_serve.specs.Run.{IsLogOf}
use Rattle.nr_serve.proofs.Segments.{calls_from_first}
use Rattle.nr_serve.proofs.endings.ending.written.Goals as goal

pub finish-requires-clause-log : goal.finish-requires-clause-log
finish-requires-clause-log g c =
    let settled = c.in_ok-log.ensures.settled in
    let entries = (log_after g.J.LogName.replicas settled.history).entries in
    let calls = calls_from_first g.K.ReplicasName.base entries c.in_ok-log.log.items settled.calls_are c.requires.places.1 in
    let long = length-map entries (λ (entry : LogEntry). entry.call) in
    omega (arith, ap (λ (calls : List ℕ). length calls) calls, long, settled.ends, c.requires.places.0)

pub returns-clause-written : goal.returns-clause-written
returns-clause-written g c =
    let trace = c.in_ok-trace.trace in
    let made = c.in_ok-trace.ensures in
    let settled = c.in_ok-log.ensures.settled in
    let log : IsLogOf c.args.config trace.log c.args.passes.now = record {
      log = g.K.ReplicasName.log;
      of_log = c.requires.passes;
      history = settled.history;
      is_history = search rules;
      begins = settled.begins;
      calls_are = made.handed_in.1
          ∙ calls_from_first g.K.ReplicasName.base (log_after g.J.LogName.replicas settled.history).entries c.in_ok-log.log.items
          settled.calls_are c.requires.places.1
          ∙ ap (λ (r : ℕ). map (λ (entry : LogEntry). entry.call) (log_after r settled.history).entries) (sym c.requires.names.1);
    } in
    IfOk-weaker c.write.result _ _
    (λ bytes spelled. record {
      trace = trace;
      spelled = spelled;
      layout_is = made.handed_in.0;
      recorded = made.recorded;
      log = log;
    })
    (c.write.ensures.spells forms.Trace made.of_trace tt)
