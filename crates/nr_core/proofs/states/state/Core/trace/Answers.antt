use Rattle.std.proofs.Common.{◌≡◌, List, All, length, map, ap, sym, subst, ◌∙◌, arith, rules}
use Rattle.std.specs.Prelude.{◌↔◌}
use Rattle.std.specs.List.{AllZip}
use Rattle.std.proofs.lemmas.List.{length-map}
use Rattle.std.proofs.lemmas.Slice.Zip.{AllZip-long}
use Rattle.vs_types.specs.declared.log_entry.LogEntry.{LogEntry}
use Rattle.nr_trace.specs.Recording.{Recording, IsEvent}
use Rattle.nr_trace.specs.Versions.{FitsFirst}
use Rattle.nr_trace.specs.declared.recordings.event.Event.{Event}
use Rattle.nr_trace.specs.declared.formats.version.Version.TheVariants.{V1, V2}
use Rattle.nr_core.specs.Run.{IsDumpOfReplica}
use Rattle.nr_core.specs.inside.Parts.{replica_in}
use Rattle.nr_core.proofs.states.state.Core.trace.Goals as goal

pub of_run-requires : goal.of_run-requires
of_run-requires c =
    let core = c.self.inside in
    let dumps = c.in_ok-dumps.dumps.items in
    let events_is : c.extend_from_slice.new.self.items ≡ core.events.items = search rules in
    let log_is : c.in_ok-log.log.items ≡ map (λ (entry : LogEntry). entry.call) core.log.items = search rules in
    record {
      log = omega (arith, ap length log_is, length-map core.log.items (λ (entry : LogEntry). entry.call), c.self.invariant.few_entries);
      events = (
        omega (arith, ap length events_is, c.self.invariant.few_events),
        subst (λ (es : List Event). All (IsEvent V2 core.config) es) (sym events_is) c.self.invariant.recorded,
      );
      dumps = (
        AllZip-long (IsDumpOfReplica core.config.depth) (map replica_in core.replicas.items) dumps
            (subst (λ rs. AllZip (IsDumpOfReplica core.config.depth) (map replica_in rs) dumps) c.deref-3.ensures.value c.in_ok-dumps.ensures.each)
            ∙ length-map core.replicas.items replica_in ∙ c.self.invariant.one_replica_each,
        c.in_ok-dumps.ensures.frames,
      );
    }

pub returns-clause-recording : goal.returns-clause-recording
returns-clause-recording c =
    let core = c.self.inside in
    let depth = core.config.depth in
    let dumps = c.in_ok-dumps.dumps.items in
    let made = c.of_run.ensures in
    let events_is : c.extend_from_slice.new.self.items ≡ core.events.items = search rules in
    let log_is : c.in_ok-log.log.items ≡ map (λ (entry : LogEntry). entry.call) core.log.items = search rules in
    rw (← c.self.view_is) record {
      of_trace = made.of_trace;
      version = subst (λ (es : List Event). (c.of_run.result.version ≡ V1) ↔ FitsFirst depth es) events_is made.version;
      layout = ap (λ (t : Recording). t.layout) made.run;
      start = ap (λ (t : Recording). t.start) made.run;
      log = ap (λ (t : Recording). t.log) made.run ∙ log_is;
      events = ap (λ (t : Recording). t.events) made.run ∙ events_is;
      dumps = subst (λ ds. AllZip (IsDumpOfReplica depth) (map replica_in core.replicas.items) ds) (ap (λ (t : Recording). t.dumps) (sym made.run))
          (subst (λ rs. AllZip (IsDumpOfReplica depth) (map replica_in rs) dumps) c.deref-3.ensures.value c.in_ok-dumps.ensures.each);
    }
