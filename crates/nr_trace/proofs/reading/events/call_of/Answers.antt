use Rattle.std.proofs.Common.{◌≡◌, ◌∷◌, ◌++◌, subst, sym, ◌∙◌, arith}
use Rattle.vs_types.specs.Finds.{Finds}
use Rattle.vs_types.specs.declared.requests.fields.RequestFields.{RequestFields}
use Rattle.nr_trace.specs.inside.Reading.{IsAskedIn, SpellsEvent}
use Rattle.nr_trace.specs.declared.recordings.event.Asked.{Asked}
use Rattle.nr_trace.proofs.EventsApart.{call_bytes, CallFits}
use Rattle.nr_trace.proofs.Events.{no_call}
use Rattle.nr_trace.proofs.Touches.{call_spelled}
use Rattle.nr_trace.proofs.reading.events.call_of.Goals as goal

pub returns-in_err-asked : goal.returns-in_err-asked
returns-in_err-asked c =
    let fields : RequestFields = record {
      kind = c.take_u8-kind.result.0;
      size = c.take_u8-size.result.0;
      rights = c.take_u8-rights.result.0;
      address = c.take_u64-address.result.0;
      physical = c.take_u64-physical.result.0;
    } in
    let parts : c.args.bytes.now ≡ call_bytes c.take_u8-replica.result.0 c.take_u16-thread.result.0 fields c.take_u8-unused.result.0
    ++ c.take_u64-physical.result.1.now = cc in
    let fits : CallFits c.take_u8-replica.result.0 c.take_u16-thread.result.0 fields c.take_u8-unused.result.0 = record {
      replica_fits = omega arith;
      thread_fits = omega arith;
      kind = omega arith;
      size = omega arith;
      rights = omega arith;
      unused_fits = omega arith;
      address = omega arith;
      physical = omega arith;
    } in
    subst (Finds (SpellsEvent c.args.version c.args.layout (0 ∷ c.args.bytes.now))) (sym c.from_residual.ensures)
    (no_call c.args.version c.args.layout c.args.bytes.now _ _ _ fields _ c.replicas.ensures.in_range parts fits
    (subst (λ depth. (asked : Asked) → IsAskedIn c.args.version depth fields asked → ⊥) c.depth.ensures c.in_err-asked.ensures))

pub returns : goal.returns
returns c =
    let fields : RequestFields = record {
      kind = c.take_u8-kind.result.0;
      size = c.take_u8-size.result.0;
      rights = c.take_u8-rights.result.0;
      address = c.take_u64-address.result.0;
      physical = c.take_u64-physical.result.0;
    } in
    let parts : c.args.bytes.now ≡ call_bytes c.take_u8-replica.result.0 c.take_u16-thread.result.0 fields c.take_u8-unused.result.0
    ++ c.take_u64-physical.result.1.now = cc in
    subst (SpellsEvent c.args.version c.args.layout (0 ∷ c.args.bytes.now)) (sym c.of.ensures)
    (call_spelled c.args.version c.args.layout c.args.bytes.now _ _ _ fields _ c.in_ok-asked.asked parts c.requires (omega arith) (omega arith) (omega arith)
    (subst (λ depth. IsAskedIn c.args.version depth fields c.in_ok-asked.asked) c.depth.ensures c.in_ok-asked.ensures))
