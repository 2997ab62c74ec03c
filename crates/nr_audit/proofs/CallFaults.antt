-- The faults of calls and replies, and what the first events of a trace say: the reply to each call, and the last call of
-- each thread.
use Rattle.std.proofs.Common.{◌≡◌, ◌≢◌, ℕ, ◌+◌, ◌<◌, ◌≤◌, ◌⊎◌, List, [], ◌∷◌, length, replicate, set, get_or, Some, None, Option, refl, sym, ap, subst, ◌∙◌}
use Rattle.std.proofs.Common.{inl, inr, arith, get_or-set_other, get_or-set_same}
use Rattle.std.specs.Prelude.{slice_get}
use Rattle.std.proofs.lemmas.List.{get_or-replicate, get_or_past, length-set, length-replicate}
use Rattle.std.proofs.lemmas.Bool.{cases_lt, cases_eq}
use Rattle.vs_types.specs.Space.{no_pages}
use Rattle.nr_trace.specs.Recording.{Recording}
use Rattle.nr_trace.specs.Calls.{Invocation, call_of, Response, reply_of, Answers, IsCall}
use Rattle.nr_trace.specs.Faults.{Earlier, OpensTwice, IsReplyWith}
use Rattle.nr_trace.specs.declared.refusals.fault.Fault.{Fault}
use Rattle.nr_trace.specs.declared.refusals.fault.Fault.TheVariants.{ThreadOpen, NoSuchCall, AnsweredTwice}
use Rattle.nr_trace.specs.declared.recordings.event.Event.TheVariants.{Reply}
use Rattle.vs_types.specs.declared.requests.answer.Answer.{Answer}
use Rattle.nr_audit.specs.inside.Search.{HasFaultOn, HasNone, IsFirstAmong}
use Rattle.nr_audit.specs.inside.Passes.{IsCallFaultAt, IsCallFault}
use Rattle.nr_audit.specs.inside.Tables.{IsReplyBelow, AreReplies}
use Rattle.nr_audit.proofs.Ranks.{IsRanked, none_of_all, first_of_all, lower_number}
use Rattle.nr_trace.proofs.LawsOfCalls.{reply_here, reply_that_answers}
use Rattle.nr_audit.proofs.CallsAndReplies.{no_call_at_reply, no_call_past, no_reply_past}
use Rattle.nr_audit.proofs.CallsAndReplies.{no_reply_with, no_answer, answers_only}
use Rattle.nr_trace.proofs.LawsOfCalls.{answers_from}

pub record HasFound (trace : Recording) (end : ℕ) (last : ℕ → Option ℕ) (table : List (Option ℕ)) : Type 0 where
  pub one_each : length table ≡ length trace.events
  pub replies : (call : ℕ) → call < length table → IsReplyBelow trace end call (get_or table call None)
  pub last_made : (thread call : ℕ) → last thread ≡ Some call
      → (made : Invocation) × (call < end) × (call_of trace call ≡ Some made) × (made.thread ≡ thread)
  pub others_answered : (call : ℕ) (made : Invocation) → call < end → call_of trace call ≡ Some made
      → (last made.thread ≡ Some call) ⊎ ((index : ℕ) × (index < end) × Answers trace index call)

pub nothing : (n i : ℕ) → ◌≡◌ {A = Option ℕ} (get_or (replicate n None) i None) None
nothing n i = elim (cases_lt i n) [
  | inl low ↦ get_or-replicate n i None None low
  | inr past ↦ get_or_past (replicate n None) i None (subst (λ m. m ≤ i) (sym (length-replicate {A = Option ℕ} n None)) past)
]

nothing_known : (trace : Recording) (last : ℕ → Option ℕ) → ((thread : ℕ) → last thread ≡ None) → HasFound trace 0 last (replicate (length trace.events) None)
nothing_known trace last none = record {
  one_each = length-replicate {A = Option ℕ} (length trace.events) None;
  replies = λ call lt. subst (λ o. IsReplyBelow trace 0 call o) (sym (nothing (length trace.events) call)) (λ index lt. absurd (omega arith));
  last_made = λ thread call e. absurd (let gone = none thread in cc);
  others_answered = λ call made lt. absurd (omega arith);
}

-- before the first event nothing is known
pub known_at_start : (trace : Recording) (last : ℕ → Option ℕ) (table : List (Option ℕ)) → ((thread : ℕ) → last thread ≡ None)
    → table ≡ replicate (length trace.events) None → HasFound trace 0 last table
known_at_start trace last table none f = subst (HasFound trace 0 last) (sym f) (nothing_known trace last none)

-- an event that is no reply to the call leaves what is known of the reply to it
reply_stays : (trace : Recording) (end call : ℕ) (o : Option ℕ) → (Answers trace end call → ⊥) → IsReplyBelow trace end call o
    → IsReplyBelow trace (end + 1) call o
reply_stays trace end call None other h = λ index lt answers. elim (cases_lt index end) [
  | inl low ↦ h index low answers
  | inr same ↦ other (subst (λ i. Answers trace i call) (omega arith) answers)
]
reply_stays trace end call (Some reply) other h = (
  omega arith,
  h.1,
  λ index lt answers. elim (cases_lt index end) [
    | inl low ↦ h.2 index low answers
    | inr same ↦ absurd (other (subst (λ i. Answers trace i call) (omega arith) answers))
  ],
)

-- a call that has a reply in the table is answered
answered : (trace : Recording) (end call : ℕ) (o : Option ℕ) → o ≢ None → IsReplyBelow trace end call o → (index : ℕ) × (index < end) × Answers trace index call
answered trace end call None some h = absurd (some refl)
answered trace end call (Some reply) some h = (reply, h.0, h.1)

-- and one that has none is not
unanswered : (trace : Recording) (end call : ℕ) (o : Option ℕ) → o ≡ None → IsReplyBelow trace end call o → (index : ℕ) → index < end
    → Answers trace index call → ⊥
unanswered trace end call None e h = h
unanswered trace end call (Some reply) e h = absurd (cc)

-- the thread has no call without a reply
abbrev pub IsIdle : (ℕ → Option ℕ) → List (Option ℕ) → ℕ → Type 0
IsIdle last table thread = (call : ℕ) → last thread ≡ Some call → get_or table call None ≢ None

none_at : (trace : Recording) (i : ℕ) → (OpensTwice trace i → ⊥) → (HasFaultOn no_pages trace (NoSuchCall i) → ⊥)
    → (HasFaultOn no_pages trace (AnsweredTwice i) → ⊥)
    → HasNone (IsCallFaultAt i) trace
none_at trace i a b c (ThreadOpen j) among holds = a (subst (λ k. OpensTwice trace k) among holds)
none_at trace i a b c (NoSuchCall j) among holds = b (subst (λ k. HasFaultOn no_pages trace (NoSuchCall k)) among holds)
none_at trace i a b c (AnsweredTwice j) among holds = c (subst (λ k. HasFaultOn no_pages trace (AnsweredTwice k)) among holds)
none_at trace i a b c fault among holds = absurd among

open_is_first : (trace : Recording) (i : ℕ) (other : Fault) → IsCallFaultAt i other → Earlier trace other (ThreadOpen i) → ⊥
open_is_first trace i (ThreadOpen j) among earlier = let h = lower_number 2 j 2 i 2 earlier among in absurd (omega arith)
open_is_first trace i (NoSuchCall j) among earlier = let h = lower_number 2 j 3 i 2 earlier among in absurd (omega arith)
open_is_first trace i (AnsweredTwice j) among earlier = let h = lower_number 2 j 4 i 2 earlier among in absurd (omega arith)
open_is_first trace i fault among earlier = absurd among

no_call_is_first : (trace : Recording) (i : ℕ) (other : Fault) → (OpensTwice trace i → ⊥) → IsCallFaultAt i other → HasFaultOn no_pages trace other
    → Earlier trace other (NoSuchCall i) → ⊥
no_call_is_first trace i (ThreadOpen j) idle among holds earlier = idle (subst (λ k. OpensTwice trace k) among holds)
no_call_is_first trace i (NoSuchCall j) idle among holds earlier = let h = lower_number 2 j 3 i 3 earlier among in absurd (omega arith)
no_call_is_first trace i (AnsweredTwice j) idle among holds earlier = let h = lower_number 2 j 4 i 3 earlier among in absurd (omega arith)
no_call_is_first trace i fault idle among holds earlier = absurd among

twice_is_first : (trace : Recording) (i : ℕ) (other : Fault) → (OpensTwice trace i → ⊥) → (HasFaultOn no_pages trace (NoSuchCall i) → ⊥) → IsCallFaultAt i other
    → HasFaultOn no_pages trace other → Earlier trace other (AnsweredTwice i) → ⊥
twice_is_first trace i (ThreadOpen j) idle such among holds earlier = idle (subst (λ k. OpensTwice trace k) among holds)
twice_is_first trace i (NoSuchCall j) idle such among holds earlier = such (subst (λ k. HasFaultOn no_pages trace (NoSuchCall k)) among holds)
twice_is_first trace i (AnsweredTwice j) idle such among holds earlier = let h = lower_number 2 j 4 i 4 earlier among in absurd (omega arith)
twice_is_first trace i fault idle such among holds earlier = absurd among

pub call_ranks : (trace : Recording) → IsRanked IsCallFaultAt 2 trace
call_ranks trace index (ThreadOpen event) among = (2, ap (λ i. 2 ∷ i ∷ 2 ∷ []) among)
call_ranks trace index (NoSuchCall event) among = (3, ap (λ i. 2 ∷ i ∷ 3 ∷ []) among)
call_ranks trace index (AnsweredTwice event) among = (4, ap (λ i. 2 ∷ i ∷ 4 ∷ []) among)
call_ranks trace index fault among = absurd among

-- the first fault of an event, after events that have none, is the first of all calls
pub first_call_fault : (trace : Recording) (index : ℕ) (fault : Fault) → ((lower : ℕ) → lower < index → HasNone (IsCallFaultAt lower) trace)
    → IsFirstAmong (IsCallFaultAt index) trace fault → IsFirstAmong IsCallFault trace fault
first_call_fault trace = first_of_all IsCallFaultAt 2 trace (call_ranks trace)

-- where no event has a fault, none holds
pub no_call_fault : (trace : Recording) → ((lower : ℕ) → lower < length trace.events → HasNone (IsCallFaultAt lower) trace) → HasNone IsCallFault trace
no_call_fault trace none = none_of_all IsCallFaultAt trace (λ index. elim (cases_lt index (length trace.events)) [
  | inl low ↦ none index low
  | inr past ↦ none_at trace index
      (λ twice. let told = twice.is_made in let gone = no_call_past trace index past in cc)
      (no_reply_with trace index _ (no_reply_past trace index past))
      (no_reply_with trace index _ (no_reply_past trace index past))
])

-- what is known after all events
pub table_at_end : (trace : Recording) (last : ℕ → Option ℕ) (table : List (Option ℕ)) → HasNone IsCallFault trace
    → HasFound trace (length trace.events) last table
    → AreReplies trace table
table_at_end trace last table clean known = record {
  one_each = known.one_each;
  each = known.replies;
  no_other = λ call past index answers.
      let named = reply_that_answers trace index call answers in
      clean (NoSuchCall index) (index, refl) (
        named.0,
        named.1,
        λ such. let low = such.0 in let same = named.2 in let within = reply_within trace index named.0 named.1 in
            omega (arith, known.one_each),
      );
} where
  reply_within : (trace : Recording) (index : ℕ) (reply : Response) → reply_of trace index ≡ Some reply → index < length trace.events
  reply_within trace index reply is = elim (cases_lt index (length trace.events)) [
    | inl low ↦ low
    | inr past ↦ absurd (let none = no_reply_past trace index past in cc)
  ]

module _ (trace : Recording) (end : ℕ)
    (last : ℕ → Option ℕ) (table : List (Option ℕ)) (known : HasFound trace end last table) (within : end < length trace.events) where
  below_table : (call : ℕ) → call < end → call < length table
  below_table call lt = omega (arith, known.one_each)

  -- the event is a call or a touch, and no reply
  module _ (own : Invocation) (thread : ℕ) (on : own.thread ≡ thread) (is : call_of trace end ≡ Some own) (no_reply : reply_of trace end ≡ None) where
    -- what a call adds to what is known
    pub known_after_call : (now : ℕ → Option ℕ) → now thread ≡ Some end → ((other : ℕ) → other ≢ thread → now other ≡ last other)
        → IsIdle last table thread → HasFound trace (end + 1) now table
    known_after_call now here others idle = record {
      one_each = known.one_each;
      replies = λ call lt. reply_stays trace end call (get_or table call None)
          (no_answer trace end call no_reply) (known.replies call lt);
      last_made = λ other call e. elim (cases_eq other thread) [
        | inl same ↦
            let it : end ≡ call = (let own = subst (λ t. now t ≡ Some end) (sym same) here in cc) in (
              own,
              omega arith,
              subst (λ i. call_of trace i ≡ Some own) it is,
              on ∙ sym same,
            )
        | inr apart ↦
            let old = known.last_made other call (sym (others other apart) ∙ e) in
            (old.0, omega (arith, old.1), old.2, old.3)
      ];
      others_answered = λ call made lt e. elim (cases_lt call end) [
        | inl low ↦ elim (known.others_answered call made low e) [
          | inl at_last ↦ elim (cases_eq made.thread thread) [
            | inl same ↦
                let reply = answered trace end call (get_or table call None) (idle call (subst (λ t. last t ≡ Some call) same at_last))
                (known.replies call (below_table call low)) in
                inr (reply.0, omega (arith, reply.1), reply.2)
            | inr apart ↦ inl (others made.thread apart ∙ at_last)
          ]
          | inr reply ↦ inr (reply.0, omega (arith, reply.1), reply.2)
        ]
        | inr at_end ↦
            let it : call ≡ end = omega arith in
            let told = subst (λ i. call_of trace i ≡ Some made) it e in
            let same : made ≡ own = cc in
            inl (subst (λ t. now t ≡ Some call) (sym (ap (λ (m : Invocation). m.thread) same ∙ on)) (here ∙ ap (λ i. Some i) (sym it)))
      ];
    }

    -- and it has no fault there
    pub none_at_call : IsIdle last table thread → HasNone (IsCallFaultAt end) trace
    none_at_call idle = none_at trace end
        (λ twice.
        let told = twice.is_made in
        let same : twice.made ≡ own = cc in
        let threads : twice.earlier_made.thread ≡ thread = twice.same_thread ∙ ap (λ (m : Invocation). m.thread) same ∙ on in
        elim (known.others_answered twice.earlier twice.earlier_made twice.is_earlier twice.is_earlier_made) [
          | inl at_last ↦
              let reply = answered trace end twice.earlier (get_or table twice.earlier None)
              (idle twice.earlier (subst (λ t. last t ≡ Some twice.earlier) threads at_last))
              (known.replies twice.earlier (below_table twice.earlier twice.is_earlier)) in
              twice.not_answered reply.0 reply.1 reply.2
          | inr reply ↦ twice.not_answered reply.0 reply.1 reply.2
        ])
        (no_reply_with trace end _ no_reply)
        (no_reply_with trace end _ no_reply)

    -- a call of a thread whose last call has no reply
    pub first_open : (call : ℕ) → last thread ≡ Some call → get_or table call None ≡ None → IsFirstAmong (IsCallFaultAt end) trace (ThreadOpen end)
    first_open call at_last none = record {
      is_among = refl;
      holds =
          let earlier = known.last_made thread call at_last in
          record {
            made = own;
            is_made = is;
            earlier = call;
            earlier_made = earlier.0;
            is_earlier = earlier.1;
            is_earlier_made = earlier.2;
            same_thread = earlier.3 ∙ sym on;
            not_answered = unanswered trace end call (get_or table call None) none (known.replies call (below_table call earlier.1));
          };
      none_earlier = λ other among holds earlier. open_is_first trace end other among earlier;
    }

  module _ (call at : ℕ) (answer : Answer) (is : slice_get trace.events end ≡ Some (Reply call at answer)) where
    mine : reply_of trace end ≡ Some (record { call = call; at = at; answer = answer })
    mine = reply_here trace end call at answer is

    -- at a reply no thread makes a call
    no_open : OpensTwice trace end → ⊥
    no_open twice = let none = no_call_at_reply trace end call at answer is in let told = twice.is_made in cc

    names_it : (P : Response → Type 0) → IsReplyWith trace end P → P (record { call = call; at = at; answer = answer })
    names_it P held = let own = mine in let told = held.1 in let same : held.0 ≡ record { call = call; at = at; answer = answer } = cc in subst P same held.2

    -- a reply to what is no earlier call
    pub first_no_call : ((call < end) × IsCall trace call → ⊥) → IsFirstAmong (IsCallFaultAt end) trace (NoSuchCall end)
    first_no_call no_such = record {
      is_among = refl;
      holds = (record { call = call; at = at; answer = answer }, mine, no_such);
      none_earlier = λ other among holds earlier. no_call_is_first trace end other no_open among holds earlier;
    }

    -- a second reply
    pub first_twice : call < end → IsCall trace call → get_or table call None ≢ None → IsFirstAmong (IsCallFaultAt end) trace (AnsweredTwice end)
    first_twice low called some = record {
      is_among = refl;
      holds =
          let first = answered trace end call (get_or table call None) some (known.replies call (below_table call low)) in
          (record { call = call; at = at; answer = answer }, mine, first);
      none_earlier = λ other among holds earlier.
          twice_is_first trace end other no_open
          (λ held. names_it (λ reply. (reply.call < end) × IsCall trace reply.call → ⊥) held (low, called)) among holds earlier;
    }

    -- the first reply to a call
    pub none_at_reply : call < end → IsCall trace call → get_or table call None ≡ None → HasNone (IsCallFaultAt end) trace
    none_at_reply low called none = none_at trace end no_open
        (λ held. names_it (λ reply. (reply.call < end) × IsCall trace reply.call → ⊥) held (low, called))
        (λ held.
        let first = names_it (λ reply. (earlier : ℕ) × (earlier < end) × Answers trace earlier reply.call) held in
        unanswered trace end call (get_or table call None) none (known.replies call (below_table call low)) first.0 first.1 first.2)

    pub known_after_reply : call < end → get_or table call None ≡ None → HasFound trace (end + 1) last (set table call (Some end))
    known_after_reply low none = record {
      one_each = length-set table call (Some end) ∙ known.one_each;
      replies = λ other lt. elim (cases_eq other call) [
        | inl same ↦
            let here : get_or (set table call (Some end)) other None ≡ Some end =
            subst (λ c. get_or (set table call (Some end)) c None ≡ Some end) (sym same)
            (get_or-set_same table call (Some end) None (below_table call low)) in
            subst (λ o. IsReplyBelow trace (end + 1) other o) (sym here) (
              omega arith,
              answers_from trace end other (record { call = call; at = at; answer = answer }) mine (sym same),
              λ index below answers. elim (cases_lt index end) [
                | inl before ↦ absurd (unanswered trace end call (get_or table call None) none (known.replies call (below_table call low)) index before
                    (subst (λ c. Answers trace index c) same answers))
                | inr now ↦ omega arith
              ],
            )
        | inr apart ↦
            subst (λ o. IsReplyBelow trace (end + 1) other o) (sym (get_or-set_other table call other (Some end) None apart))
            (reply_stays trace end other (get_or table other None)
            (λ answers. apart (sym (answers_only trace end other (record { call = call; at = at; answer = answer }) mine answers)))
            (known.replies other (omega (arith, length-set table call (Some end)))))
      ];
      last_made = λ thread other e. let old = known.last_made thread other e in (old.0, omega (arith, old.1), old.2, old.3);
      others_answered = λ other made lt e. elim (cases_lt other end) [
        | inl before ↦ elim (known.others_answered other made before e) [
          | inl at_last ↦ inl at_last
          | inr reply ↦ inr (reply.0, omega (arith, reply.1), reply.2)
        ]
        | inr now ↦ absurd (let none = no_call_at_reply trace end call at answer is in
            let told = subst (λ i. call_of trace i ≡ Some made) (let it : other ≡ end = omega arith in it) e in cc)
      ];
    }
