-- Where a joined run has no fault, the first of its runs has none.
use Rattle.std.proofs.Common.{◌≡◌, ◌≢◌, ℕ, ◌<◌, ◌≤◌, ◌⊎◌, inl, inr, List, [], length, slice_get, get_or, Some, ap, ◌∙◌, arith}
use Rattle.std.proofs.lemmas.Bool.{cases_lt}
use Rattle.std.proofs.lemmas.Option.{none-some, slice_get-get_or, slice_get_within}
use Rattle.vs_types.specs.Space.{Space}
use Rattle.vs_walk.specs.Dump.{Image}
use Rattle.nr_trace.specs.Recording.{Recording}
use Rattle.nr_trace.specs.Calls.{call_of, request_of, IsCall, IsUpdate, IsRead, Response, reply_of}
use Rattle.nr_trace.specs.Orders.{before, space_from, answer_in, recorded_order, known_by, floor}
use Rattle.nr_trace.specs.Faults.{OpensTwice, IsWrongFrom, StandsAfter}
use Rattle.nr_trace.specs.Laws.{HasCleanLog, IsFaultlessFrom}
use Rattle.nr_trace.specs.declared.refusals.fault.Fault.TheVariants.{ThreadOpen, NoSuchCall, AnsweredTwice, NotAnUpdate, PlacedTwice, NotPlaced, PastLog, Early}
use Rattle.nr_trace.specs.declared.refusals.fault.Fault.TheVariants.{WrongAnswer, PrefixPastLog, PrefixShort, MissingFrame, SharedFrame, ReservedBit, StrayFrame}
use Rattle.nr_trace.specs.declared.refusals.fault.Fault.TheVariants.{Differs}
use Rattle.nr_trace.proofs.LawsOfLists.{In}
use Rattle.nr_trace.proofs.LawsOfCalls.{answered_stands, behind_its_call, call_within, is_some_from}
use Rattle.nr_trace.proofs.LawsOfCalls.{read_is_call, reply_below, update_from_not_not, update_is_call}
use Rattle.nr_trace.proofs.LawsOfCalls.{ordered_from_request, request_is_call}
use Rattle.nr_trace.proofs.LawsOfOrder.{member_stands, standing_is_member}
use Rattle.nr_trace.proofs.LawsOfPrecedence.{known_of_read}
use Rattle.chain_cuts.specs.Cut.{without_dumps, IsCutAt}
use Rattle.nr_trace.specs.Joined.{calls_behind, joined_traces}
use Rattle.nr_trace.proofs.Lists.{before_left, before_in}
use Rattle.nr_trace.proofs.Orders.{space_left}
use Rattle.nr_trace.proofs.Parts.{call_left, request_left, reply_left, answers_left, answers_to_left, reply_to_left, is_call_left}
use Rattle.nr_trace.proofs.Parts.{is_update_left, is_update_from_left}
use Rattle.nr_trace.proofs.Places.{is_read_from_left, placed_left, placed_in, placed_before, PlacedRight, stands_left, known_left, floor_above, knows_more}
use Rattle.nr_chain.proofs.Recorded.{recorded_both}
use Rattle.chain_cuts.proofs.SameRuns.{same_open}

-- a call that comes after some entries is one of the run
pub stands_within : (trace : Recording) (call entries : ℕ) → StandsAfter trace call entries → call < length trace.events
stands_within trace call entries (inl (u, e)) = call_within trace call (update_is_call trace call u)
stands_within trace call entries (inr h) = call_within trace call (read_is_call trace call h.0)

-- so is what comes before it in the recorded order
pub before_within : (trace : Recording) → HasCleanLog trace → (call other : ℕ) → In other (before call (recorded_order trace)) → other < length trace.events
before_within trace clean call other i =
    let (n, l, h) = member_stands trace other clean (before_in other call (recorded_order trace) i) in
    stands_within trace other n h

module _ (start : Space) (first second : Recording) (closed : IsCutAt first second) (faultless : IsFaultlessFrom start (joined_traces first second)) where
  abbrev whole : Recording
  whole = joined_traces first second

  there : (index : ℕ) (reply : Response) → reply_of first index ≡ Some reply → reply_of whole index ≡ Some reply
  there index reply is = reply_left first second index (reply_below first index reply is) ∙ is

  opens_once : (index : ℕ) → OpensTwice first index → ⊥
  opens_once index h =
      let within : index < length first.events = call_within first index (is_some_from (call_of first index) h.made h.is_made) in
      let lower : h.earlier < index = h.is_earlier in
      faultless (ThreadOpen index) (record {
        made = h.made;
        is_made = call_left first second index within ∙ h.is_made;
        earlier = h.earlier;
        earlier_made = h.earlier_made;
        is_earlier = h.is_earlier;
        is_earlier_made = call_left first second h.earlier (omega arith) ∙ h.is_earlier_made;
        same_thread = h.same_thread;
        not_answered = λ reply l a. h.not_answered reply l (answers_left first second reply h.earlier (omega arith) a);
      })

  replies : (index : ℕ) (reply : Response) → reply_of first index ≡ Some reply → (reply.call < index) × IsCall first reply.call
  replies index reply is =
      let within : index < length first.events = reply_below first index reply is in
      let (lower, is_call) = behind_its_call whole index reply (λ h. faultless (NoSuchCall index) h) (there index reply is) in
      (lower, is_call_left first second reply.call (omega arith) is_call)

  within : (index : ℕ) (reply : Response) → reply_of first index ≡ Some reply → reply.call < length first.events
  within index reply is = call_within first reply.call (replies index reply is).1

  -- an update's place is one of the first log
  placed : (index : ℕ) (reply : Response) → reply_of first index ≡ Some reply → IsUpdate first reply.call
      → slice_get first.log reply.at ≢ Some reply.call → ⊥
  placed index reply is u apart =
      faultless (NotPlaced index) (
        reply,
        there index reply is,
        (
          is_update_from_left first second reply.call (within index reply is) u,
          λ here. apart (placed_before first second reply.at reply.call (within index reply is) here),
        ),
      )

  -- a read that saw more would make the first update behind the cut too early
  would_be_early : (index : ℕ) (reply : Response) → reply_of first index ≡ Some reply → IsRead first reply.call → length first.log < reply.at
      → reply.at ≤ length whole.log → ⊥
  would_be_early index reply is r l most =
      let next = get_or whole.log (length first.log) 0 in
      let here : slice_get whole.log (length first.log) ≡ Some next = slice_get-get_or whole.log (length first.log) 0 (omega arith) in
      let u : IsUpdate whole next = update_from_not_not whole next (λ h. faultless (NotAnUpdate (length first.log)) (next, here, h)) in
      let known : known_by whole reply ≡ reply.at =
      known_of_read whole reply (is_read_from_left first second reply.call (within index reply is) r) in
      by_side next here u known (placed_in first second (length first.log) next here) where
        by_side : (next : ℕ) → slice_get whole.log (length first.log) ≡ Some next → IsUpdate whole next → known_by whole reply ≡ reply.at
            → (slice_get first.log (length first.log) ≡ Some next) ⊎ PlacedRight first second (length first.log) next → ⊥
        by_side next here u known (inl own) = let m = slice_get_within first.log (length first.log) next own in omega arith
        by_side next here u known (inr (at, e, own, own_is, same)) =
            let lower : index < length first.events = reply_below first index reply is in
            let behind : index < next = omega arith in
            let more : length first.log < known_by whole reply = omega arith in
            faultless (Early next) (
              length first.log,
              inl (u, here),
              floor_above whole next (length first.log) (index, reply, behind, there index reply is, more),
            )

  none_past : (index : ℕ) (reply : Response) → reply_of first index ≡ Some reply → IsRead first reply.call → length first.log < reply.at → ⊥
  none_past index reply is r l = by_order (cases_lt (length whole.log) reply.at) where
    by_order : (length whole.log < reply.at) ⊎ (reply.at ≤ length whole.log) → ⊥
    by_order (inl past) =
        faultless (PastLog index) (reply, there index reply is, (is_read_from_left first second reply.call (within index reply is) r, past))
    by_order (inr most) = would_be_early index reply is r l most

  pub clean_front : HasCleanLog first
  clean_front = record {
    no_thread_open = opens_once;
    no_such_call = λ index h. h.2 (replies index h.0 h.1);
    none_twice = λ index h.
        faultless (AnsweredTwice index) (h.0, there index h.0 h.1, (h.2.0, h.2.1, answers_to_left first second h.2.0 h.0.call h.2.2));
    updates_alone = λ place h.
        faultless (NotAnUpdate place) (h.0, placed_left first second place h.0 h.1, λ u. h.2 (is_update_left first second h.0 (closed.own place h.0 h.1) u));
    placed_once = λ place h.
        faultless (PlacedTwice place) (h.0, placed_left first second place h.0 h.1, (h.2.0, h.2.1, placed_left first second h.2.0 h.0 h.2.2));
    all_placed = λ index h. placed index h.0 h.1 h.2.0 h.2.1;
    none_past_log = λ index h. none_past index h.0 h.1 h.2.0 h.2.1;
  }

  in_time : (call entries : ℕ) → StandsAfter first call entries → entries < floor first call → ⊥
  in_time call entries h l =
      let own = stands_within first call entries h in
      let (index, reply, lower, is, more) = knows_more first call entries l in
      let known = known_left first second reply (within index reply is) in
      let more_there : entries < known_by whole reply = omega arith in
      faultless (Early call) (
        entries,
        stands_left first second call entries own h,
        floor_above whole call entries (index, reply, lower, there index reply is, more_there),
      )

  same_before : (call : ℕ) → In call (recorded_order first) → before call (recorded_order whole) ≡ before call (recorded_order first)
  same_before call i =
      ap (before call) (recorded_both first second clean_front)
      ∙ before_left call (recorded_order first) (calls_behind (length first.events) (recorded_order second)) i

  right : (call : ℕ) → IsWrongFrom start first call → ⊥
  right call h =
      let own : call < length first.events = call_within first call (request_is_call first call (is_some_from (request_of first call) h.request h.asks)) in
      let (stands, most) = answered_stands first call h.reply clean_front (ordered_from_request first call h.request h.asks) h.is_reply in
      let member = standing_is_member first h.reply.at call most stands in
      let space : space_from start whole (before call (recorded_order whole)) ≡ space_from start first (before call (recorded_order first)) =
      ap (λ (calls : List ℕ). space_from start whole calls) (same_before call member)
      ∙ space_left start first second (before call (recorded_order first)) (before_within first clean_front call) in
      faultless (WrongAnswer call) (record {
        request = h.request;
        asks = request_left first second call own ∙ h.asks;
        reply = h.reply;
        is_reply = reply_to_left first second call own ∙ h.is_reply;
        differs = λ e. h.differs (e ∙ ap (λ (s : Space). answer_in first.layout s h.request) space);
      })

  none_there : (replica : ℕ) (dump : Image) → slice_get [] replica ≡ Some dump → ⊥
  none_there replica dump is = none-some dump is

  pub front_faultless : IsFaultlessFrom start (without_dumps first)
  front_faultless (ThreadOpen index) h = opens_once index (same_open first [] first.dumps index h)
  front_faultless (NoSuchCall index) h = clean_front.no_such_call index h
  front_faultless (AnsweredTwice index) h = clean_front.none_twice index h
  front_faultless (NotAnUpdate place) h = clean_front.updates_alone place h
  front_faultless (PlacedTwice place) h = clean_front.placed_once place h
  front_faultless (NotPlaced index) h = clean_front.all_placed index h
  front_faultless (PastLog index) h = clean_front.none_past_log index h
  front_faultless (Early call) h = in_time call h.0 h.1 h.2
  front_faultless (WrongAnswer call) h =
      right call (record { request = h.request; asks = h.asks; reply = h.reply; is_reply = h.is_reply; differs = h.differs })
  front_faultless (PrefixPastLog replica) h = none_there replica h.0 h.1
  front_faultless (PrefixShort replica) h = none_there replica h.0 h.1
  front_faultless (MissingFrame replica number) h = none_there replica h.0 h.1
  front_faultless (SharedFrame replica number) h = none_there replica h.0 h.1
  front_faultless (ReservedBit replica number index) h = none_there replica h.0 h.1
  front_faultless (StrayFrame replica number) h = none_there replica h.0 h.1
  front_faultless (Differs replica address) h = none_there replica h.0 h.1
  front_faultless _ h = h
