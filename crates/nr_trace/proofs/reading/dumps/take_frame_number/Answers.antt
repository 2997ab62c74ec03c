use Rattle.std.proofs.Common.{◌≡◌, ℕ, ◌++◌, [], true, sym, ap, ap₂, subst, ◌∙◌, arith}
use Rattle.std.specs.FinMap as finite
use Rattle.nr_trace.specs.FirstFault.{AtFrames, IsNext, and_then, refusal_at}
use Rattle.nr_trace.specs.Spelling.{frame_number}
use Rattle.nr_trace.specs.inside.Progress.{Ahead, BehindFrames, HasRead, frames_of, said}
use Rattle.nr_trace.specs.declared.refusals.fault.Format.{Format}
use Rattle.nr_trace.specs.declared.refusals.refusal.Refusal.{Refusal}
use Rattle.nr_trace.specs.declared.refusals.refusal.TraceUnit.{TraceUnit}
use Rattle.nr_trace.specs.declared.reading.reader.OpenFrame.{OpenFrame}
use Rattle.nr_trace.specs.declared.reading.reader.Reader.TheVariants.{Frame, Words}
use Rattle.nr_trace.proofs.LawsOfUnits.{number_64}
use Rattle.nr_trace.proofs.Frames.{number_taken, number_refused}
use Rattle.nr_trace.proofs.Taken.{only_front}
use Rattle.nr_trace.proofs.Units.{number_size, refused_by}
use Rattle.nr_trace.proofs.reading.dumps.take_frame_number.Goals as goal

pub returns-then-is_next : goal.returns-then-is_next
returns-then-is_next c =
    let parts = c.args.parts in
    let opened = c.args.opened in
    let last = c.args.last in
    let unit = c.args.unit.now in
    subst (λ (f : OpenFrame). HasRead parts.form (said (Frame parts opened last) ++ unit) (λ rest fault. Ahead (Frame parts opened last) (unit ++ rest) fault)
    (Words parts f)) (sym c.in_ok-frame.ensures)
    (number_taken parts opened last c.take_u64-number.result.0 unit c.requires.ready.0 c.requires.ready.1 (c.is_next.ensures.0 c.if-is_next.true)
    (only_front unit _ _ c.take_u64-number.ensures c.requires.whole))

pub returns : goal.returns
returns c =
    let parts = c.args.parts in
    let opened = c.args.opened in
    let own = frames_of parts opened.owner in
    let index = finite.len opened.dump.frames in
    let Behind = BehindFrames parts opened.owner in
    let is = only_front c.args.unit.now _ _ c.take_u64-number.ensures c.requires.whole in
    let none : (number : ℕ) → IsNext c.args.last number → c.args.unit.now ≡ frame_number number → ⊥ = λ number next e.
    let same = number_64 c.take_u64-number.result.0 number [] [] (omega arith) (omega (arith, next.in_range)) (sym is ∙ e) in
    let yes : c.is_next.result ≡ true = c.is_next.ensures.1 (subst (IsNext c.args.last) (sym same.0) next) in
    absurd cc in
    let unit = c.args.unit.now in
    let is_refusal : c.of.result ≡ refusal_at (own.number index) unit (own.fault index) = c.of.ensures
    ∙ ap₂ (λ (named : TraceUnit) (fault : Format). refusal_at named unit fault) (c.number_unit-named.ensures ∙ ap own.number c.count-index.ensures.reads)
    (c.bad_frame-fault.ensures ∙ ap own.fault c.count-index.ensures.reads) in
    refused_by (Ahead (Frame parts opened c.args.last)) (own.number index) unit (own.fault index) c.of.result
    (omega (arith, c.requires.whole, number_size parts opened.owner index)) is_refusal (λ rest.
    subst (λ (r : Refusal). AtFrames own index opened.left c.args.last Behind (unit ++ rest) (and_then rest r)) (sym is_refusal)
    (number_refused own index opened.left c.args.last Behind unit rest c.requires.ready.0.some_left c.requires.whole none))
