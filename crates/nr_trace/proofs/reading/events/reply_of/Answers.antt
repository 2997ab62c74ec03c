use Rattle.std.proofs.Common.{◌≡◌, ◌∷◌, ◌++◌, subst, sym, arith}
use Rattle.vs_types.specs.Finds.{Finds}
use Rattle.nr_trace.specs.inside.Reading.{SpellsEvent}
use Rattle.nr_trace.specs.declared.formats.fields.AnswerFields.{AnswerFields}
use Rattle.nr_trace.proofs.EventsApart.{reply_bytes, ReplyFits}
use Rattle.nr_trace.proofs.Events.{no_reply}
use Rattle.nr_trace.proofs.reading.events.reply_of.Goals as goal

pub returns-in_err-answer : goal.returns-in_err-answer
returns-in_err-answer c =
    let fields : AnswerFields = record {
      code = c.take_u8-code.result.0;
      size = c.take_u8-size.result.0;
      rights = c.take_u8-rights.result.0;
      value = c.take_u64-value.result.0;
    } in
    let parts : c.args.bytes.now ≡ reply_bytes fields c.take_u32-call.result.0 c.take_u32-at.result.0 c.take_u32-unused.result.0
    ++ c.take_u64-value.result.1.now = cc in
    let fits : ReplyFits fields c.take_u32-call.result.0 c.take_u32-at.result.0 c.take_u32-unused.result.0 = record {
      code = omega arith;
      size = omega arith;
      rights = omega arith;
      call_fits = omega arith;
      at_fits = omega arith;
      unused_fits = omega arith;
      value = omega arith;
    } in
    subst (Finds (SpellsEvent c.args.version c.args.layout (1 ∷ c.args.bytes.now))) (sym c.from_residual.ensures)
    (no_reply c.args.version c.args.layout c.args.bytes.now _ _ _ fields _ parts fits c.in_err-answer.ensures)
