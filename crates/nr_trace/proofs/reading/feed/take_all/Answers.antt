use Rattle.std.proofs.Common.{ℕ, ◌-◌, List, ◌++◌, length, drop, length-append, length-drop, rules, ap, subst, sym, ◌∙◌, arith}
use Rattle.std.proofs.lemmas.List.{take_all}
use Rattle.nr_trace.specs.FirstFault.{refusal_at}
use Rattle.nr_trace.specs.declared.refusals.refusal.TraceUnit.TheVariants as units
use Rattle.nr_trace.specs.declared.refusals.fault.Format.TheVariants.{Trailing}
use Rattle.vs_types.specs.Refusal.{IfRefused}
use Rattle.nr_trace.specs.Feed.{IsRefusedAs}
use Rattle.nr_trace.specs.inside.Progress.{said}
use Rattle.nr_trace.specs.inside.Feeding.{HasTaken}
use Rattle.nr_trace.specs.declared.formats.version.Form.{Form}
use Rattle.nr_trace.specs.declared.formats.version.Form.TheVariants as forms
use Rattle.nr_trace.proofs.Feeding.{all_taken, some_left}
use Rattle.nr_trace.proofs.reading.feed.take_all.Goals as goal

pub returns-in_err-state : goal.returns-in_err-state
returns-in_err-state c =
    let bytes = said c.args.reader ++ c.args.begun.items ++ c.args.piece.now in
    let last = length (c.args.begun.items ++ c.args.piece.now) in
    let refused : IfRefused (IsRefusedAs forms.Trace bytes last) c.in_err-state.field-0.0 =
    subst (λ (f : Form). IfRefused (IsRefusedAs f bytes last) c.in_err-state.field-0.0) c.requires.sound.0 c.in_err-state.ensures in
    search rules

pub returns-then-count-piece : goal.returns-then-count-piece
returns-then-count-piece c =
    let piece = c.args.piece.now in
    let bytes = said c.args.reader ++ c.args.begun.items in
    let count = c.in_ok-state.count in
    let behind = take_all (length piece - count) (drop count piece) (omega (arith, length-drop count piece)) in
    let left = some_left bytes piece c.in_ok-state.state count
    (subst (λ (f : Form). HasTaken f bytes piece c.in_ok-state.state count) c.requires.sound.0 c.in_ok-state.ensures) (omega arith) in
    subst (IsRefusedAs forms.Trace (bytes ++ piece) (length (c.args.begun.items ++ piece)))
    (sym (c.of.ensures ∙ ap (λ (l : List ℕ). refusal_at units.Behind l Trailing) behind))
    (record { near = omega (arith, left.near, length-append c.args.begun.items piece); refused = left.refused })

pub returns : goal.returns
returns c =
    let bytes = said c.args.reader ++ c.args.begun.items in
    all_taken forms.Trace bytes c.args.piece.now c.in_ok-state.state c.in_ok-state.count
    (subst (λ (f : Form). HasTaken f bytes c.args.piece.now c.in_ok-state.state c.in_ok-state.count) c.requires.sound.0 c.in_ok-state.ensures)
    (omega arith)
