use Rattle.std.proofs.Common.{◌≡◌, ◌+◌, ◌++◌, length, MatchResult, ap, subst, sym, ◌∙◌}
use Rattle.vs_types.specs.Refusal.{IfRefused}
use Rattle.nr_trace.specs.Feed.{FedSegment, IsRefusedAs}
use Rattle.nr_trace.specs.Feed.Fed.{Taken}
use Rattle.nr_trace.specs.inside.Progress.{form_of, said}
use Rattle.nr_trace.specs.inside.Feeding.{HasTaken, IsFeeding, fed}
use Rattle.nr_trace.specs.declared.formats.version.Form.{Form}
use Rattle.nr_trace.specs.declared.formats.version.Form.TheVariants as forms
use Rattle.nr_trace.proofs.Feeding.{not_stopped, refused_so}
use Rattle.nr_trace.proofs.FeedingSegments.{seen, segment_refused, segment_still_refused, segment_taken}
use Rattle.nr_trace.proofs.reading.feed.SegmentFeed.feed_or_refuse.Goals as goal
use Rattle.nr_trace.proofs.reading.feed.SegmentFeed.feed_or_refuse.Goals.{in-Open, in-Stopped}

pub returns-in-Ok-clause-feeds : goal.returns-in-Ok-clause-feeds
returns-in-Ok-clause-feeds c =
    let before = c.self.inside.before in
    let piece = c.args.piece.now in
    let view = ap (seen before) c.replace-state.ensures.value ∙ c.self.view_is in
    let feeding = subst (IsFeeding (forms.Segment before)) (sym c.replace-state.ensures.value) c.self.invariant in
    elim c.match-state.branch [
      | in-Open w ↦
          let form = form_of w.in-Open.reader in
          let bytes = said w.in-Open.reader ++ w.in-Open.begun.items in
          let taken : HasTaken form bytes piece c.in-Ok.state c.in-Ok.count =
          subst (λ r. MatchResult r (λ t. HasTaken form bytes piece t.0 t.1)
          (IfRefused (IsRefusedAs form (bytes ++ piece) (length (w.in-Open.begun.items ++ piece))))) (sym w.next-is ∙ c.in-Ok.is)
          w.take_piece-next.ensures in
          segment_taken c.args.self.now before c.replace-state.result c.in-Ok.state w.in-Open.reader w.in-Open.begun piece c.in-Ok.count view feeding
          w.in-Open.is taken
      | in-Stopped w ↦ absurd cc
    ]

pub returns-in-Err-clause-feeds : goal.returns-in-Err-clause-feeds
returns-in-Err-clause-feeds c =
    let before = c.self.inside.before in
    let piece = c.args.piece.now in
    let view = ap (seen before) c.replace-state.ensures.value ∙ c.self.view_is in
    let feeding = subst (IsFeeding (forms.Segment before)) (sym c.replace-state.ensures.value) c.self.invariant in
    elim c.match-state.branch [
      | in-Open w ↦
          let form = form_of w.in-Open.reader in
          let bytes = said w.in-Open.reader ++ w.in-Open.begun.items in
          segment_refused c.args.self.now before c.replace-state.result w.in-Open.reader w.in-Open.begun piece c.in-Err.fault view feeding w.in-Open.is
          (subst (λ r. MatchResult r (λ t. HasTaken form bytes piece t.0 t.1)
          (IfRefused (IsRefusedAs form (bytes ++ piece) (length (w.in-Open.begun.items ++ piece))))) (sym w.next-is ∙ c.in-Err.is)
          w.take_piece-next.ensures)
      | in-Stopped w ↦ segment_still_refused c.args.self.now before c.replace-state.result piece c.in-Err.fault view
          (let same = sym w.next-is ∙ c.in-Err.is in w.in-Stopped.is ∙ cc)
    ]

pub returns-in-Err-clause-refused : goal.returns-in-Err-clause-refused
returns-in-Err-clause-refused c = λ all given.
    let before = c.self.inside.before in
    let piece = c.args.piece.now in
    let state = c.replace-state.result in
    let seen_so : seen before state ≡ c.args.self.now = ap (seen before) c.replace-state.ensures.value ∙ c.self.view_is in
    let view : fed state ≡ Taken all = ap (λ (f : FedSegment). f.pieces) seen_so ∙ given in
    let feeding = subst (IsFeeding (forms.Segment before)) (sym c.replace-state.ensures.value) c.self.invariant in
    subst (λ b. IfRefused (IsRefusedAs (forms.Segment b) (all ++ piece) (length piece + 23)) c.in-Err.fault) (ap (λ (f : FedSegment). f.before) seen_so)
    (elim c.match-state.branch [
      | in-Open w ↦
          let form = form_of w.in-Open.reader in
          let bytes = said w.in-Open.reader ++ w.in-Open.begun.items in
          let here = subst (IsFeeding (forms.Segment before)) w.in-Open.is feeding in
          refused_so (forms.Segment before) state w.in-Open.reader w.in-Open.begun all piece c.in-Err.fault view w.in-Open.is here.2
          (subst (λ (f : Form). IfRefused (IsRefusedAs f (bytes ++ piece) (length (w.in-Open.begun.items ++ piece))) c.in-Err.fault) here.0
          (subst (λ r. MatchResult r (λ t. HasTaken form bytes piece t.0 t.1)
          (IfRefused (IsRefusedAs form (bytes ++ piece) (length (w.in-Open.begun.items ++ piece))))) (sym w.next-is ∙ c.in-Err.is)
          w.take_piece-next.ensures))
      | in-Stopped w ↦ not_stopped state all w.in-Stopped.fail view w.in-Stopped.is
    ])
