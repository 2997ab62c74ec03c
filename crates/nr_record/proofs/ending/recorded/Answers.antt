use Rattle.std.proofs.Common.{◌≡◌, ℕ, List, All, length, map, ap, sym, subst, ◌∙◌, arith}
use Rattle.std.specs.List.{flat_map}
use Rattle.std.proofs.lemmas.Result.{IfOk-weaker}
use Rattle.vs_types.specs.declared.requests.answer.Answer.TheVariants.{Done}
use Rattle.nr_trace.specs.Recording.{IsEvent}
use Rattle.nr_trace.specs.declared.recordings.event.Event.{Event}
use Rattle.nr_trace.specs.declared.recordings.event.Event.TheVariants.{Reply}
use Rattle.nr_trace.specs.declared.formats.version.Version.TheVariants.{V2}
use Rattle.nr_record.proofs.Finished.{length_run, notes_below, run_fits, run_is, run_is_theirs}
use Rattle.nr_record.proofs.ending.recorded.Goals as goal

pub in_order-requires : goal.in_order-requires
in_order-requires c =
    let gathered = c.in_ok-count.ensures in
    let same = ap (λ lists. flat_map (λ made. made.items) lists) c.deref.ensures.value ∙ gathered.notes in
    notes_below c.in_ok-count.count c.args.pens.items _ same gathered.stamps.0

pub returns : goal.returns
returns c =
    let gathered = c.in_ok-count.ensures in
    let pens = c.args.pens.items in
    let n = c.in_ok-count.count in
    let same = ap (λ lists. flat_map (λ made. made.items) lists) c.deref.ensures.value ∙ gathered.notes in
    record {
      events = IfOk-weaker c.in_order.result _ _
          (λ events is. run_is_theirs n (Reply 0 0 Done) c.args.clock pens events.items gathered.stamps.0 c.requires.pens gathered.each
          (run_is n (Reply 0 0 Done) pens events.items _ is same))
          c.in_order.ensures;
      count = IfOk-weaker c.in_order.result _ _
          (λ events is. omega (
            arith,
            ap (λ (es : List Event). length es) (run_is n (Reply 0 0 Done) pens events.items _ is same),
            length_run n (Reply 0 0 Done) pens,
            gathered.stamps.2,
          ))
          c.in_order.ensures;
      fit = IfOk-weaker c.in_order.result _ _
          (λ events is. subst (λ (es : List Event). All (IsEvent V2 c.args.clock.layout) es) (sym (run_is n (Reply 0 0 Done) pens events.items _ is same))
          (run_fits n (Reply 0 0 Done) c.args.clock pens gathered.stamps.0 c.requires.pens gathered.each))
          c.in_order.ensures;
    }
