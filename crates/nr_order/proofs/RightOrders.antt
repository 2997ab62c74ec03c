-- Where the trace that has an order as its log is right, the trace itself is right with the order that is recorded there.
use Rattle.std.proofs.Common.{◌≡◌, ℕ, ◌≤◌, ◌⊎◌, inl, inr, List, length, take, None, option_map, ap, ◌∙◌, subst}
use Rattle.std.specs.Prelude.{Contains}
use Rattle.vs_types.specs.Space.{Space, no_pages}
use Rattle.vs_walk.specs.Dump.{Image}
use Rattle.vs_walk.specs.Walk.{TranslatesAs}
use Rattle.nr_trace.specs.Recording.{Recording}
use Rattle.nr_trace.specs.Spelling.{Spells}
use Rattle.nr_trace.specs.Calls.{IsAnswered, IsUpdate, IsWellFormedHistory}
use Rattle.nr_trace.specs.Orders.{answer_in, before, space_from, updates, FitsFrom, HasAnswersFrom, HasItsCalls, KeepsPrecedence}
use Rattle.nr_trace.proofs.LawsOfDumps.{dump_is_there}
use Rattle.nr_trace.proofs.LawsOfSpelling.{one_trace}
use Rattle.nr_audit.specs.Headline.{AreRightWith}
use Rattle.nr_audit.specs.Segments.{IsRightAfter}
use Rattle.nr_audit.specs.Start.{begins_in, start_space}
use Rattle.nr_audit.proofs.PartsOfVerdicts.{is_trace}
use Rattle.nr_audit.proofs.Traces.{no_start}
use Rattle.nr_order.specs.WithOrder.{with_order}
use Rattle.nr_order.proofs.SameCalls as same

module _ (trace : Recording) (order found : List ℕ) where
  history : IsWellFormedHistory (with_order trace order) → IsWellFormedHistory trace
  history h = record {
    of_calls = λ index reply is.
        let own = h.of_calls index (same.placed trace order reply) (same.reply_to_it trace order index reply is) in
        (own.0, same.call_from trace order reply.call own.1);
    once = λ first second call a b. h.once first second call (same.answers_to trace order first call a) (same.answers_to trace order second call b);
    one_open = λ first second made next less is_made is_next one.
        same.precedes_from trace order first second
        (h.one_open first second made next less (same.same_call trace order first ∙ is_made) (same.same_call trace order second ∙ is_next) one);
  }

  other_member : (call : ℕ) → IsAnswered (with_order trace order) call ⊎ IsUpdate (with_order trace order) call
      → IsAnswered trace call ⊎ IsUpdate trace call
  other_member call (inl is) = inl (same.answered_from trace order call is)
  other_member call (inr is) = inr (same.update_from trace order call is)

  members : HasItsCalls (with_order trace order) found → HasItsCalls trace found
  members h = record {
    once = h.once;
    calls = λ call is. same.ordered_from trace order call (h.calls call is);
    answered = λ call is answered. h.answered call (same.ordered_to trace order call is) (same.answered_to trace order call answered);
    others = λ call is. other_member call (h.others call is);
  }

  precedence : KeepsPrecedence (with_order trace order) found → KeepsPrecedence trace found
  precedence h = λ first second a b p. h first second a b (same.precedes_to trace order first second p)

  answers : (start : Space) → HasAnswersFrom start (with_order trace order) found → HasAnswersFrom start trace found
  answers start h = λ call request reply is replied.
      h call request (same.placed trace order reply) (same.same_request trace order call ∙ is)
      (same.same_reply_to trace order call ∙ ap (option_map (same.placed trace order)) replied)
      ∙ ap (λ (space : Space). answer_in trace.layout space request) (same.same_space trace order start (before call found))

  fits : (start : Space) (replica : ℕ) (dump : Image) → FitsFrom start (with_order trace order) found replica dump → FitsFrom start trace found replica dump
  fits start replica dump h =
      let all = same.same_updates trace order found in
      record {
        enough = subst (λ (log : List ℕ). dump.applied ≤ length log) all h.enough;
        translates = subst (TranslatesAs trace.layout.depth dump.frames dump.root)
            (same.same_space trace order start (take dump.applied (updates (with_order trace order) found))
            ∙ ap (λ (log : List ℕ). space_from start trace (take dump.applied log)) all)
            h.translates;
        own_updates = λ call made is at update answered.
            subst (λ (log : List ℕ). Contains (take dump.applied log) call) all
            (h.own_updates call made (same.same_call trace order call ∙ is) at (same.update_to trace order call update)
            (same.answered_to trace order call answered));
        own_reads = λ call earlier made is at read answered update behind.
            subst (λ (log : List ℕ). Contains (take dump.applied log) earlier) all
            (h.own_reads call earlier made (same.same_call trace order call ∙ is) at (same.read_to trace order call read)
            (same.answered_to trace order call answered) (same.update_to trace order earlier update) behind);
      }

  -- of bytes that spell the trace
  pub right_order : (bytes : List ℕ) → Spells bytes trace → IsRightAfter None (with_order trace order) found → AreRightWith bytes found
  right_order bytes spelled right =
      let empty : begins_in None trace ≡ no_pages = ap (start_space trace.layout.depth) (no_start trace (is_trace spelled)) in
      record {
        trace = trace;
        spelled = record { spelled = spelled; no_other = λ other also. one_trace bytes other trace also spelled };
        events = history right.events;
        members = members right.members;
        precedence = precedence right.precedence;
        answers = subst (λ (start : Space). HasAnswersFrom start trace found) empty (answers (begins_in None trace) right.answers);
        dumps = λ replica dump at.
            subst (λ (start : Space). FitsFrom start trace found replica dump) empty
            (fits (begins_in None trace) replica dump
            (right.dumps replica dump at (dump_is_there trace replica dump spelled.of_form spelled.in_range at)));
      }
