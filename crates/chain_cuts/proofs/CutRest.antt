-- Where a joined run has no fault, the second of its runs has none from the space after the first.
use Rattle.std.proofs.Common.{◌≡◌, ◌≢◌, ℕ, ◌+◌, ◌<◌, List, ◌++◌, length, take, slice_get, option_map, Some, is_some, refl, ap, sym, ◌∙◌, subst, arith}
use Rattle.std.proofs.lemmas.List.{take-map}
use Rattle.std.proofs.lemmas.Option.{slice_get-map}
use Rattle.vs_types.specs.Config.{Layout}
use Rattle.vs_types.specs.Space.{Space}
use Rattle.vs_walk.specs.Differences.{HasMissingFrame, HasSharedFrame, HasReservedBit, HasStrayFrame, HasDifference}
use Rattle.vs_walk.specs.Dump.{Image}
use Rattle.nr_trace.specs.Recording.{IsThere, Recording}
use Rattle.nr_trace.specs.Calls.{operation_of, IsCall, IsUpdate, IsRead, Response, reply_of, Answers}
use Rattle.nr_trace.specs.Orders.{before, space_from, answer_in, recorded_order, known_by, floor}
use Rattle.nr_trace.specs.Faults.{OpensTwice, IsWrongFrom, RestsOnMore, StandsAfter}
use Rattle.nr_trace.specs.Laws.{HasCleanLog, IsFaultlessFrom}
use Rattle.nr_trace.specs.declared.refusals.fault.Fault.TheVariants.{ThreadOpen, NoSuchCall, AnsweredTwice, NotAnUpdate, PlacedTwice, NotPlaced, PastLog, Early}
use Rattle.nr_trace.specs.declared.refusals.fault.Fault.TheVariants.{WrongAnswer, PrefixPastLog, PrefixShort, MissingFrame, SharedFrame, ReservedBit, StrayFrame}
use Rattle.nr_trace.specs.declared.refusals.fault.Fault.TheVariants.{Differs}
use Rattle.nr_trace.proofs.LawsOfLists.{In, in_filter}
use Rattle.nr_trace.proofs.LawsOfCalls.{reply_behind_call}
use Rattle.nr_trace.proofs.LawsOfOrder.{updates_of_order, member_stands}
use Rattle.nr_trace.specs.Joined.{calls_behind, dump_behind, joined_traces}
use Rattle.nr_trace.proofs.Lists.{before_right, before_behind, take_behind}
use Rattle.nr_trace.proofs.Orders.{AreOf, space_both, space_of_updates}
use Rattle.nr_trace.proofs.Parts.{call_right, request_right, reply_right, reply_behind, HasEarlierCalls}
use Rattle.nr_trace.proofs.Parts.{answered_right, answers_to_right, reply_to_right, is_call_right}
use Rattle.nr_trace.proofs.Parts.{is_update_right, is_update_from_right}
use Rattle.nr_trace.proofs.Places.{is_read_from_right, placed_right, placed_in_right, stands_right, known_right, floor_above, knows_more}
use Rattle.nr_chain.proofs.Recorded.{recorded_both, places_of_both}
use Rattle.chain_cuts.proofs.CutFront.{stands_within}

-- ---- where the first run's log is clean

module _ (start : Space) (first second : Recording) (same_layout : second.layout ≡ first.layout) (clean : HasCleanLog first) where
  pub earlier_calls : HasEarlierCalls first
  earlier_calls index reply is = (reply_behind_call first index reply clean is).0

  pub members_within : AreOf first (recorded_order first)
  members_within call i =
      let (n, l, h) = member_stands first call clean i in
      stands_within first call n h

  pub log_within : AreOf first first.log
  log_within call i =
      members_within call (in_filter (λ (c : ℕ). is_some (operation_of first c)) call (recorded_order first)
      (subst (λ (calls : List ℕ). In call calls) (sym (updates_of_order first clean)) i)).0

  logged_space : space_from start first first.log ≡ space_from start first (recorded_order first)
  logged_space =
      ap (λ (calls : List ℕ). space_from start first calls) (sym (updates_of_order first clean)) ∙ space_of_updates start first (recorded_order first)

  not_a_member : (call : ℕ) → In (length first.events + call) (recorded_order first) → ⊥
  not_a_member call i = let l = members_within (length first.events + call) i in omega arith

  -- the space in which a call of the second run is answered
  pub space_before_right : (call : ℕ)
      → space_from start (joined_traces first second) (before (length first.events + call) (recorded_order (joined_traces first second)))
      ≡ space_from (space_from start first first.log) second (before call (recorded_order second))
  space_before_right call =
      ap (λ (calls : List ℕ). space_from start (joined_traces first second) calls)
      (ap (before (length first.events + call)) (recorded_both first second clean)
      ∙ before_right (length first.events + call) (recorded_order first) (calls_behind (length first.events) (recorded_order second)) (not_a_member call)
      ∙ ap (λ (calls : List ℕ). recorded_order first ++ calls) (before_behind (length first.events) call (recorded_order second)))
      ∙ space_both start first second (recorded_order first) (before call (recorded_order second)) same_layout members_within
      ∙ ap (λ (space : Space). space_from space second (before call (recorded_order second))) (sym logged_space)

  -- and the one that a dump of it is to translate as
  pub space_of_prefix : (applied : ℕ)
      → space_from start (joined_traces first second) (take (length first.log + applied) (joined_traces first second).log)
      ≡ space_from (space_from start first first.log) second (take applied second.log)
  space_of_prefix applied =
      ap (λ (calls : List ℕ). space_from start (joined_traces first second) calls)
      (take_behind first.log (calls_behind (length first.events) second.log) (length first.log) applied refl
      ∙ ap (λ (calls : List ℕ). first.log ++ calls) (take-map (λ (call : ℕ). length first.events + call) applied second.log))
      ∙ space_both start first second first.log (take applied second.log) same_layout log_within

module _ (start : Space) (first second : Recording) (same_layout : second.layout ≡ first.layout) (clean : HasCleanLog first)
    (faultless : IsFaultlessFrom start (joined_traces first second)) where
  abbrev whole : Recording
  whole = joined_traces first second

  abbrev space : Space
  space = space_from start first first.log

  abbrev behind : Response → Response
  behind reply = reply_behind (length first.events) (length first.log) reply

  earlier : HasEarlierCalls first
  earlier = earlier_calls start first second same_layout clean

  there : (index : ℕ) (reply : Response) → reply_of second index ≡ Some reply → reply_of whole (length first.events + index) ≡ Some (behind reply)
  there index reply is = reply_right first second index ∙ ap (option_map behind) is

  opens_once : (index : ℕ) → OpensTwice second index → ⊥
  opens_once index h =
      let lower : h.earlier < index = h.is_earlier in
      faultless (ThreadOpen (length first.events + index)) (record {
        made = h.made;
        is_made = call_right first second index ∙ h.is_made;
        earlier = length first.events + h.earlier;
        earlier_made = h.earlier_made;
        is_earlier = omega arith;
        is_earlier_made = call_right first second h.earlier ∙ h.is_earlier_made;
        same_thread = h.same_thread;
        not_answered = λ reply l a.
            let (own, is, answers) = answered_right first second reply h.earlier earlier a in
            let own_lower : own < index = omega arith in
            h.not_answered own own_lower answers;
      })

  is_of_a_call : (index : ℕ) (reply : Response) → reply_of second index ≡ Some reply → ((reply.call < index) × IsCall second reply.call → ⊥) → ⊥
  is_of_a_call index reply is none =
      faultless (NoSuchCall (length first.events + index)) (
        behind reply,
        there index reply is,
        λ h.
            let lower : length first.events + reply.call < length first.events + index = h.0 in
            none (omega arith, is_call_right first second reply.call h.1),
      )

  answered_once : (index : ℕ) (reply : Response) (other : ℕ) → reply_of second index ≡ Some reply → other < index → Answers second other reply.call → ⊥
  answered_once index reply other is l answers =
      let lower : length first.events + other < length first.events + index = omega arith in
      faultless (AnsweredTwice (length first.events + index)) (
        behind reply,
        there index reply is,
        (
          length first.events + other,
          lower,
          answers_to_right first second other reply.call answers,
        ),
      )

  is_an_update : (place call : ℕ) → slice_get second.log place ≡ Some call → (IsUpdate second call → ⊥) → ⊥
  is_an_update place call at none =
      faultless (NotAnUpdate (length first.log + place)) (
        length first.events + call,
        placed_right first second place call at,
        λ u. none (is_update_right first second call u),
      )

  placed_once : (place call other : ℕ) → slice_get second.log place ≡ Some call → other < place → slice_get second.log other ≡ Some call → ⊥
  placed_once place call other at l again =
      let lower : length first.log + other < length first.log + place = omega arith in
      faultless (PlacedTwice (length first.log + place)) (
        length first.events + call,
        placed_right first second place call at,
        (length first.log + other, lower, placed_right first second other call again),
      )

  placed : (index : ℕ) (reply : Response) → reply_of second index ≡ Some reply → IsUpdate second reply.call
      → slice_get second.log reply.at ≢ Some reply.call → ⊥
  placed index reply is u apart =
      faultless (NotPlaced (length first.events + index)) (
        behind reply,
        there index reply is,
        (
          is_update_from_right first second reply.call u,
          λ here.
              let (own, own_is, same) = placed_in_right first second reply.at (length first.events + reply.call) here in
              let one : own ≡ reply.call = omega arith in
              apart (own_is ∙ ap Some one),
        ),
      )

  none_past : (index : ℕ) (reply : Response) → reply_of second index ≡ Some reply → IsRead second reply.call → length second.log < reply.at → ⊥
  none_past index reply is r l =
      let places = places_of_both first second in
      let past : length whole.log < length first.log + reply.at = omega arith in
      faultless (PastLog (length first.events + index)) (behind reply, there index reply is, (is_read_from_right first second reply.call r, past))

  in_time : (call entries : ℕ) → StandsAfter second call entries → entries < floor second call → ⊥
  in_time call entries h l =
      let (index, reply, lower, is, more) = knows_more second call entries l in
      let known = (known_right first second reply).1 (omega arith) in
      let more_there : length first.log + entries < known_by whole (behind reply) = omega arith in
      let lower_there : length first.events + index < length first.events + call = omega arith in
      faultless (Early (length first.events + call)) (
        length first.log + entries,
        stands_right first second call entries earlier h,
        floor_above whole (length first.events + call) (length first.log + entries)
            (length first.events + index, behind reply, lower_there, there index reply is, more_there),
      )

  right : (call : ℕ) → IsWrongFrom space second call → ⊥
  right call h = faultless (WrongAnswer (length first.events + call)) (record {
    request = h.request;
    asks = request_right first second call ∙ h.asks;
    reply = behind h.reply;
    is_reply = reply_to_right first second call earlier ∙ ap (option_map behind) h.is_reply;
    differs = λ e. h.differs (e ∙ ap (λ (s : Space). answer_in first.layout s h.request) (space_before_right start first second same_layout clean call)
        ∙ ap (λ (layout : Layout). answer_in layout (space_from space second (before call (recorded_order second))) h.request) (sym same_layout));
  })

  dump_there : (replica : ℕ) (dump : Image) → slice_get second.dumps replica ≡ Some dump
      → slice_get whole.dumps replica ≡ Some (dump_behind (length first.log) dump)
  dump_there replica dump is =
      slice_get-map (dump_behind (length first.log)) second.dumps replica ∙ ap (option_map (dump_behind (length first.log))) is

  within_log : (replica : ℕ) (dump : Image) → slice_get second.dumps replica ≡ Some dump → IsThere dump → length second.log < dump.applied → ⊥
  within_log replica dump is is_there l =
      let places = places_of_both first second in
      let past : length whole.log < length first.log + dump.applied = omega arith in
      faultless (PrefixPastLog replica) (dump_behind (length first.log) dump, dump_there replica dump is, is_there, past)

  enough : (replica : ℕ) (dump : Image) → slice_get second.dumps replica ≡ Some dump → IsThere dump → RestsOnMore second replica dump → ⊥
  enough replica dump is is_there h =
      let own_more : dump.applied < known_by second h.reply = h.more in
      let known = (known_right first second h.reply).1 (omega arith) in
      let more : length first.log + dump.applied < known_by whole (behind h.reply) = omega arith in
      faultless (PrefixShort replica) (
        dump_behind (length first.log) dump,
        dump_there replica dump is,
        is_there,
        record {
          index = length first.events + h.index;
          reply = behind h.reply;
          is_reply = there h.index h.reply h.is_reply;
          made = h.made;
          is_made = call_right first second h.reply.call ∙ h.is_made;
          here = h.here;
          more = more;
        },
      )

  none_differs : (replica : ℕ) (dump : Image) (address : ℕ) → slice_get second.dumps replica ≡ Some dump → IsThere dump
      → HasDifference second.layout.depth dump (space_from space second (take dump.applied second.log)) address → ⊥
  none_differs replica dump address is is_there h =
      faultless (Differs replica address) (
        dump_behind (length first.log) dump,
        dump_there replica dump is,
        is_there,
        subst (λ (s : Space). HasDifference first.layout.depth dump s address) (sym (space_of_prefix start first second same_layout clean dump.applied))
            (subst (λ (layout : Layout). HasDifference layout.depth dump (space_from space second (take dump.applied second.log)) address) same_layout h),
      )

  -- a fault of the frames alone
  of_frames : (P : Layout → Image → Type 0) → ((dump : Image) → P first.layout dump → P first.layout (dump_behind (length first.log) dump)) → (replica : ℕ)
      → (dump : Image) × (slice_get second.dumps replica ≡ Some dump) × IsThere dump × P second.layout dump
      → (dump : Image) × (slice_get whole.dumps replica ≡ Some dump) × IsThere dump × P first.layout dump
  of_frames P same replica (dump, is, is_there, h) =
      (dump_behind (length first.log) dump, dump_there replica dump is, is_there, same dump (subst (λ (l : Layout). P l dump) same_layout h))

  pub rest_faultless : IsFaultlessFrom space second
  rest_faultless (ThreadOpen index) h = opens_once index h
  rest_faultless (NoSuchCall index) h = is_of_a_call index h.0 h.1 h.2
  rest_faultless (AnsweredTwice index) h = answered_once index h.0 h.2.0 h.1 h.2.1 h.2.2
  rest_faultless (NotAnUpdate place) h = is_an_update place h.0 h.1 h.2
  rest_faultless (PlacedTwice place) h = placed_once place h.0 h.2.0 h.1 h.2.1 h.2.2
  rest_faultless (NotPlaced index) h = placed index h.0 h.1 h.2.0 h.2.1
  rest_faultless (PastLog index) h = none_past index h.0 h.1 h.2.0 h.2.1
  rest_faultless (Early call) h = in_time call h.0 h.1 h.2
  rest_faultless (WrongAnswer call) h = right call h
  rest_faultless (PrefixPastLog replica) h = within_log replica h.0 h.1 h.2 h.3
  rest_faultless (PrefixShort replica) h = enough replica h.0 h.1 h.2 h.3
  rest_faultless (MissingFrame replica number) h =
      faultless (MissingFrame replica number) (of_frames (λ (l : Layout) (d : Image). HasMissingFrame l.depth d number) (λ dump x. x) replica h)
  rest_faultless (SharedFrame replica number) h =
      faultless (SharedFrame replica number) (of_frames (λ (l : Layout) (d : Image). HasSharedFrame l.depth d number) (λ dump x. x) replica h)
  rest_faultless (ReservedBit replica number index) h =
      faultless (ReservedBit replica number index) (of_frames (λ (l : Layout) (d : Image). HasReservedBit l.depth d number index) (λ dump x. x) replica h)
  rest_faultless (StrayFrame replica number) h =
      faultless (StrayFrame replica number) (of_frames (λ (l : Layout) (d : Image). HasStrayFrame l.depth d number) (λ dump x. x) replica h)
  rest_faultless (Differs replica address) h = none_differs replica h.0 address h.1 h.2 h.3
  rest_faultless _ h = h
