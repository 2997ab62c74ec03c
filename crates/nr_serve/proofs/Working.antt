-- A thread that works through its script, request by request.
use Rattle.std.proofs.Common.{◌≡◌, ℕ, ◌+◌, ◌<◌, ◌≤◌, List, [], ◌∷◌, ◌++◌, All, length, map, take, get_or, cond, refl, ap, sym, subst, inl, inr, ◌∙◌, arith}
use Rattle.std.specs.Prelude.{flat_map}
use Rattle.std.proofs.Math.ListN.{length-append, length-map, get_or-append}
use Rattle.std.proofs.lemmas.List.{append_assoc, flat_map_more, map-append, take_more}
use Rattle.std.proofs.lemmas.List.Elements.{All-push}
use Rattle.std.proofs.lemmas.List.Sums.{sum_by-append}
use Rattle.std.proofs.lemmas.Option.{get_or_from_slice_get, slice_get_within}
use Rattle.vs_types.specs.Config.{Layout}
use Rattle.vs_types.specs.declared.requests.answer.Answer as answers
use Rattle.vs_types.specs.declared.addresses.depth.Depth.{Depth}
use Rattle.vs_types.specs.declared.requests.request.Query.{Query}
use Rattle.vs_types.specs.declared.requests.request.Query.TheVariants.{Update, Resolve, Access}
use Rattle.vs_types.specs.Step.{allow, look}
use Rattle.nr_ring.specs.Laws.{HasGoneOn}
use Rattle.nr_ring.specs.LogHistory.{IsLogHistory, Log, log_after}
use Rattle.nr_ring.specs.Pass.{Known, TableId}
use Rattle.nr_ring.specs.declared.ring.log_event.LogEvent.{LogEvent}
use Rattle.nr_ring.specs.declared.ring.view.View.{View}
use Rattle.nr_trace.specs.declared.recordings.event.Event.TheVariants.{Reply}
use Rattle.nr_record.specs.Pen.{ClockId, PenState, call_by, calls_in, is_call, stamped, with_call, with_reply}
use Rattle.nr_record.specs.declared.stamped.Stamped.{Stamped}
use Rattle.nr_replicas.specs.Replicas.{HasHeard}
use Rattle.nr_replicas.proofs.Hearing.{heard_on}
use Rattle.nr_replicas.proofs.Logs.{answer_stays, read_stays}
use Rattle.nr_serve.specs.Run.{StopsLast}
use Rattle.nr_serve.specs.inside.Calls.{IsServed, IsTrueAt, IsTrueOf, MadeCall, Since, notes_of}
use Rattle.nr_serve.specs.declared.endings.call_outcome.CallOutcome.{CallOutcome}
use Rattle.nr_serve.specs.declared.endings.call_outcome.CallOutcome.TheVariants.{Answer, Stopped}
use Rattle.nr_serve.specs.SegmentRun.{IsAnswer}
use Rattle.nr_serve.specs.inside.Working.{HasCalled, IsNamed, IsReady, IsUnderWay}

-- ---- what is true of a log is true of each later one

true_at_stays : (layout : Layout) (p q : Log) (number : ℕ) (request : Query) (place : ℕ) (answer : answers.Answer) → HasGoneOn p q
    → IsTrueAt layout p number request place answer → IsTrueAt layout q number request place answer
true_at_stays layout p q number (Update action) place answer on is =
    answer_stays layout.depth layout.tables 0 p q (record { call = number; op = action }) place answer on is
true_at_stays layout p q number (Resolve address) place answer on is =
    read_stays layout.depth layout.tables 0 p q (λ space. look space address) place answer on is
true_at_stays layout p q number (Access address mode access) place answer on is =
    read_stays layout.depth layout.tables 0 p q (λ space. allow space address mode access) place answer on is

pub true_stays : (layout : Layout) (from : ℕ) (p q : Log) (number : ℕ) (request : Query) (said : CallOutcome) → HasGoneOn p q
    → IsTrueOf layout from p number request said → IsTrueOf layout from q number request said
true_stays layout from p q number request Stopped on is = tt
true_stays layout from p q number request (Answer at answer) on is = true_at_stays layout p q number request (from + at) answer on is

-- ---- the items

pub stops_last_push : (said : List CallOutcome) (item : CallOutcome) → All IsAnswer said → StopsLast (said ++ item ∷ [])
stops_last_push said item answered index is =
    let long = length-append said (item ∷ []) in
    let within = slice_get_within (said ++ item ∷ []) index Stopped is in
    let here : get_or (said ++ item ∷ []) index Stopped ≡ Stopped = get_or_from_slice_get (said ++ item ∷ []) index Stopped Stopped is in
    let not_before : index < length said → ⊥ = λ lt.
    subst IsAnswer (sym (get_or-append said (item ∷ []) Stopped index lt) ∙ here) (answered index Stopped lt) in
    omega (arith, long, within, not_before)

pub stops_last_none : (said : List CallOutcome) → All IsAnswer said → StopsLast said
stops_last_none said answered index is =
    absurd (subst IsAnswer (get_or_from_slice_get said index Stopped Stopped is) (answered index Stopped (slice_get_within said index Stopped is)))

calls_in_both : (xs ys : List Stamped) → calls_in (xs ++ ys) ≡ calls_in xs + calls_in ys
calls_in_both xs ys = omega (arith, sum_by-append (λ (item : Stamped). cond (is_call item.event) 1 0) xs ys)

-- ---- request by request

-- nothing is asked yet
pub begins : (clock : ClockId) (of : Since) (thread : ℕ) (script : List Query) (pen : PenState) (pass : Known)
    → IsReady clock of.log thread script pen pass → IsLogHistory clock.layout.depth clock.layout.replicas pass.view.seen
    → IsUnderWay clock of thread script 0 pen pass []
begins clock of thread script pen pass ready history = record {
  of_clock = ap (λ (p : PenState). p.clock) ready.pen_is;
  of_thread = ap (λ (p : PenState). p.thread) ready.pen_is;
  quota = ap (λ (p : PenState). p.quota) ready.pen_is;
  of_log = ready.of_log;
  history = history;
  calls = [];
  count = refl;
  requests = refl;
  said_is = refl;
  notes = ap (λ (p : PenState). p.made) ready.pen_is;
  answered = λ k d lt. absurd (omega (arith, lt));
  none_waits = ap (λ (p : PenState). p.waiting) ready.pen_is;
  calls_noted = ap (λ (p : PenState). calls_in p.made) ready.pen_is;
  true_calls = λ k d lt. absurd (omega (arith, lt));
}

-- how many calls there are among the notes of one
one_call : (layout : Layout) (thread : ℕ) (request : Query) (number replied : ℕ) (said : CallOutcome)
    → calls_in (notes_of layout thread (record { request = request; number = number; said = said; replied = replied })) ≡ 1
one_call layout thread request number replied (Answer at answer) = refl
one_call layout thread request number replied Stopped = refl

-- the next request is called
pub record IsNext (clock : ClockId) (of : Since) (thread : ℕ) (script : List Query) (done : ℕ) (request : Query) (pen pen' : PenState) (pass pass' : Known)
    (said : List CallOutcome) (item : CallOutcome) : Type 0 where
  pub under_way : IsUnderWay clock of thread script done pen pass said
  pub within : done < length script
  pub request_is : request ≡ get_or script done request
  pub same_log : pass'.log ≡ pass.log
  pub heard : HasHeard clock.layout.depth clock.layout.replicas pass.view pass'.view
  pub called : HasCalled clock.layout of.from request pen pen' pass' item

module _ (clock : ClockId) (of : Since) (thread : ℕ) (script : List Query) (done : ℕ) (request : Query) (pen pen' : PenState) (pass pass' : Known)
    (said : List CallOutcome) (item : CallOutcome) (next : IsNext clock of thread script done request pen pen' pass pass' said item) where
  abbrev call : MadeCall
  call = record { request = request; number = next.called.number; said = item; replied = next.called.replied }

  abbrev old : List MadeCall
  old = next.under_way.calls

  abbrev notes : MadeCall → List Stamped
  notes = notes_of clock.layout thread

  abbrev IsTrueNow : MadeCall → Type 0
  IsTrueNow made = IsTrueOf clock.layout of.from (log_after clock.layout.replicas pass'.view.seen) made.number made.request made.said

  requests_more : map (λ made. made.request) (old ++ call ∷ []) ≡ take (done + 1) script
  requests_more =
      map-append (λ (made : MadeCall). made.request) old (call ∷ [])
      ∙ ap (λ (l : List Query). l ++ request ∷ []) next.under_way.requests
      ∙ ap (λ (r : Query). take done script ++ r ∷ []) next.request_is
      ∙ sym (take_more script done request next.within)

  said_more : said ++ item ∷ [] ≡ map (λ made. made.said) (old ++ call ∷ [])
  said_more =
      ap (λ (l : List CallOutcome). l ++ item ∷ []) next.under_way.said_is
      ∙ sym (map-append (λ (made : MadeCall). made.said) old (call ∷ []))

  notes_more : pen'.made ≡ flat_map notes (old ++ call ∷ [])
  notes_more =
      next.called.notes
      ∙ ap (λ (t : ℕ). pen.made ++ notes_of clock.layout t call) next.under_way.of_thread
      ∙ ap (λ (l : List Stamped). l ++ notes call) next.under_way.notes
      ∙ flat_map_more notes [] old call

  true_more : All IsTrueNow (old ++ call ∷ [])
  true_more =
      let on = heard_on clock.layout.depth clock.layout.replicas pass.view pass'.view next.heard in
      All-push IsTrueNow old call
      (λ k d lt.
      let made = get_or old k d in
      true_stays clock.layout of.from (log_after clock.layout.replicas pass.view.seen) (log_after clock.layout.replicas pass'.view.seen)
      made.number made.request
      made.said on (next.under_way.true_calls k d lt))
      next.called.true_call

  count_more : length (old ++ call ∷ []) ≡ done + 1
  count_more = omega (arith, length-append old (call ∷ []), next.under_way.count)

  calls_more : calls_in pen'.made ≡ done + 1
  calls_more =
      let both = calls_in_both pen.made (notes_of clock.layout pen.thread call) in
      let one = one_call clock.layout pen.thread request next.called.number next.called.replied item in
      ap calls_in next.called.notes ∙ both ∙ omega (arith, one, next.under_way.calls_noted)

  -- it was answered, and there may be more
  pub goes_on : IsAnswer item → IsUnderWay clock of thread script (done + 1) pen' pass' (said ++ item ∷ [])
  goes_on answer = record {
    of_clock = next.called.of_clock ∙ next.under_way.of_clock;
    of_thread = next.called.of_thread ∙ next.under_way.of_thread;
    quota = next.called.quota ∙ next.under_way.quota;
    of_log = next.same_log ∙ next.under_way.of_log;
    history = next.heard.is_history;
    calls = old ++ call ∷ [];
    count = count_more;
    requests = requests_more;
    said_is = said_more;
    notes = notes_more;
    answered = All-push IsAnswer said item next.under_way.answered answer;
    none_waits = next.called.none_waits answer;
    calls_noted = calls_more;
    true_calls = true_more;
  }

  -- it was stopped, and is the last
  pub stops : item ≡ Stopped → IsServed clock of thread script (record { pen = pen'; pass = pass'; said = said ++ item ∷ [] })
  stops stopped = record {
    of_clock = next.called.of_clock ∙ next.under_way.of_clock;
    of_thread = next.called.of_thread ∙ next.under_way.of_thread;
    quota = next.called.quota ∙ next.under_way.quota;
    of_log = next.same_log ∙ next.under_way.of_log;
    history = next.heard.is_history;
    calls = old ++ call ∷ [];
    requests = requests_more ∙ ap (λ (n : ℕ). take n script) (sym count_more);
    said = said_more;
    notes = notes_more;
    stops_last = stops_last_push said item next.under_way.answered;
    to_the_end = inr (said, ap (λ (i : CallOutcome). said ++ i ∷ []) stopped);
    true_calls = true_more;
  }

-- all requests were answered
pub ends : (clock : ClockId) (of : Since) (thread : ℕ) (script : List Query) (done : ℕ) (pen : PenState) (pass : Known) (said : List CallOutcome)
    → IsUnderWay clock of thread script done pen pass said → done ≡ length script
    → IsServed clock of thread script (record { pen = pen; pass = pass; said = said })
ends clock of thread script done pen pass said is all = record {
  of_clock = is.of_clock;
  of_thread = is.of_thread;
  quota = is.quota;
  of_log = is.of_log;
  history = is.history;
  calls = is.calls;
  requests = is.requests ∙ ap (λ (n : ℕ). take n script) (sym is.count);
  said = is.said_is;
  notes = is.notes;
  stops_last = stops_last_none said is.answered;
  to_the_end = inl (omega (arith, ap (λ (l : List CallOutcome). length l) is.said_is, length-map is.calls (λ (made : MadeCall). made.said), is.count, all));
  true_calls = is.true_calls;
}

-- ---- the names of a log and its replicas say how the service is laid out

pub named_history : (layout : Layout) (base : ℕ) (depth : Depth) (replicas tables from : ℕ) (seen : List LogEvent)
    → IsNamed layout base depth replicas tables from → IsLogHistory depth replicas seen → IsLogHistory layout.depth layout.replicas seen
named_history layout base depth replicas tables from seen named is =
    subst (λ (d : Depth). IsLogHistory d layout.replicas seen) (sym named.depth_is)
    (subst (λ (r : ℕ). IsLogHistory depth r seen) (sym named.replicas_are) is)

pub named_heard : (layout : Layout) (base : ℕ) (depth : Depth) (replicas tables from : ℕ) (a b : View)
    → IsNamed layout base depth replicas tables from → HasHeard depth replicas a b → HasHeard layout.depth layout.replicas a b
named_heard layout base depth replicas tables from a b named is =
    subst (λ (d : Depth). HasHeard d layout.replicas a b) (sym named.depth_is)
    (subst (λ (r : ℕ). HasHeard depth r a b) (sym named.replicas_are) is)

-- ---- one call

-- a call, and its reply
pub called_and_answered : (clock : ClockId) (request : Query) (before middle after : PenState) (pass : Known) (number replied from place at : ℕ)
    (answer : answers.Answer) (replicas : ℕ) → place ≡ from + at → before.clock ≡ clock → middle ≡ with_call before number request
    → after ≡ with_reply middle replied number at answer → clock.layout.replicas ≡ replicas
    → IsTrueAt clock.layout (log_after replicas pass.view.seen) number request place answer
    → HasCalled clock.layout from request before after pass (Answer at answer)
called_and_answered clock request before middle after pass number replied from place at answer replicas counted of called answered same is =
    let reply : Stamped = stamped replied (Reply number at answer) in
    record {
      number = number;
      replied = replied;
      of_clock = ap (λ (p : PenState). p.clock) answered ∙ ap (λ (p : PenState). p.clock) called;
      of_thread = ap (λ (p : PenState). p.thread) answered ∙ ap (λ (p : PenState). p.thread) called;
      quota = ap (λ (p : PenState). p.quota) answered ∙ ap (λ (p : PenState). p.quota) called;
      notes = ap (λ (p : PenState). p.made) answered
          ∙ ap (λ (p : PenState). p.made ++ reply ∷ []) called
          ∙ append_assoc before.made (stamped number (call_by before.clock.layout before.thread request) ∷ []) (reply ∷ [])
          ∙ ap (λ (c : ClockId). before.made ++ stamped number (call_by c.layout before.thread request) ∷ reply ∷ []) of;
      none_waits = λ _. ap (λ (p : PenState). p.waiting) answered;
      true_call = subst (λ (r : ℕ). IsTrueAt clock.layout (log_after r pass.view.seen) number request (from + at) answer) (sym same)
          (subst (λ (p : ℕ). IsTrueAt clock.layout (log_after replicas pass.view.seen) number request p answer) counted is);
    }
