use Rattle.std.proofs.Common.{◌++◌, length, MatchResult, ap, subst, sym, ◌∙◌}
use Rattle.vs_types.specs.Refusal.{IfRefused}
use Rattle.nr_trace.specs.Feed.{IsRefusedAs}
use Rattle.nr_trace.specs.inside.Progress.{said}
use Rattle.nr_trace.specs.inside.Feeding.{fed, HasCome, IsFeeding}
use Rattle.nr_trace.specs.declared.formats.version.Form.TheVariants as forms
use Rattle.nr_trace.proofs.Feeding.{not_stopped, piece_refused, piece_taken, refused_so, still_refused}
use Rattle.nr_trace.proofs.reading.feed.Feed.feed_or_refuse.Goals as goal
use Rattle.nr_trace.proofs.reading.feed.Feed.feed_or_refuse.Goals.{in-Open, in-Stopped}

pub returns-in-Ok-clause-feeds : goal.returns-in-Ok-clause-feeds
returns-in-Ok-clause-feeds c = elim c.match-state.branch [
  | in-Open w ↦
      let bytes = said w.in-Open.reader ++ w.in-Open.begun.items ++ c.args.piece.now in
      let come : HasCome forms.Trace bytes c.in-Ok.state =
      subst (λ r. MatchResult r (HasCome forms.Trace bytes)
      (IfRefused (IsRefusedAs forms.Trace bytes (length (w.in-Open.begun.items ++ c.args.piece.now)))))
      (sym w.next-is ∙ c.in-Ok.is) w.take_all-next.ensures in
      piece_taken c.args.self.now c.replace-state.result c.in-Ok.state w.in-Open.reader w.in-Open.begun c.args.piece.now
      (ap fed c.replace-state.ensures.value ∙ c.self.view_is) w.in-Open.is come
  | in-Stopped w ↦ absurd cc
]

pub returns-in-Err-clause-feeds : goal.returns-in-Err-clause-feeds
returns-in-Err-clause-feeds c = elim c.match-state.branch [
  | in-Open w ↦
      let bytes = said w.in-Open.reader ++ w.in-Open.begun.items ++ c.args.piece.now in
      piece_refused c.args.self.now c.replace-state.result w.in-Open.reader w.in-Open.begun c.args.piece.now c.in-Err.fail
      (ap fed c.replace-state.ensures.value ∙ c.self.view_is) w.in-Open.is
      (subst (λ r. MatchResult r (HasCome forms.Trace bytes)
      (IfRefused (IsRefusedAs forms.Trace bytes (length (w.in-Open.begun.items ++ c.args.piece.now)))))
      (sym w.next-is ∙ c.in-Err.is) w.take_all-next.ensures)
  | in-Stopped w ↦ still_refused c.args.self.now c.replace-state.result c.args.piece.now c.in-Err.fail
      (ap fed c.replace-state.ensures.value ∙ c.self.view_is) (let same = sym w.next-is ∙ c.in-Err.is in w.in-Stopped.is ∙ cc)
]

pub returns-in-Err-clause-refused : goal.returns-in-Err-clause-refused
returns-in-Err-clause-refused c = λ bytes view. elim c.match-state.branch [
  | in-Open w ↦
      let all = said w.in-Open.reader ++ w.in-Open.begun.items ++ c.args.piece.now in
      refused_so forms.Trace c.replace-state.result w.in-Open.reader w.in-Open.begun bytes c.args.piece.now c.in-Err.fail
      (ap fed c.replace-state.ensures.value ∙ c.self.view_is ∙ view) w.in-Open.is
      (subst (IsFeeding forms.Trace) (sym c.replace-state.ensures.value ∙ w.in-Open.is) c.self.invariant).2
      (subst (λ r. MatchResult r (HasCome forms.Trace all)
      (IfRefused (IsRefusedAs forms.Trace all (length (w.in-Open.begun.items ++ c.args.piece.now))))) (sym w.next-is ∙ c.in-Err.is) w.take_all-next.ensures)
  | in-Stopped w ↦ not_stopped c.replace-state.result bytes w.in-Stopped.fail (ap fed c.replace-state.ensures.value ∙ c.self.view_is ∙ view) w.in-Stopped.is
]
