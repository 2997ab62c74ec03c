-- Where the two runs of a joined run have no fault, it has none.
use Rattle.std.proofs.Common.{◌≡◌, ◌≢◌, ℕ, ◌+◌, ◌<◌, ◌≤◌, ◌⊎◌, inl, inr, List, [], length, take, slice_get, Option, None, Some, is_some, refl, ap, sym, ◌∙◌, subst}
use Rattle.std.proofs.Common.{arith}
use Rattle.std.specs.Prelude.{◌↔◌}
use Rattle.std.proofs.lemmas.Option.{slice_get-map, slice_get_within}
use Rattle.vs_types.specs.Config.{Layout}
use Rattle.vs_types.specs.Space.{Space}
use Rattle.vs_types.specs.declared.requests.op.Action.{Action}
use Rattle.vs_walk.specs.Differences.{HasMissingFrame, HasSharedFrame, HasReservedBit, HasStrayFrame, HasDifference}
use Rattle.vs_walk.specs.Dump.{Image}
use Rattle.nr_trace.specs.Recording.{IsThere, Recording}
use Rattle.nr_trace.specs.Calls.{Invocation, call_of, request_of, operation_of, touch_of, IsCall, IsOrdered}
use Rattle.nr_trace.specs.Calls.{IsTouch, IsUpdate, IsRead, Response, reply_of, reply_to}
use Rattle.nr_trace.specs.Calls.{Answers}
use Rattle.nr_trace.specs.Orders.{before, space_from, answer_in, recorded_order, known_by}
use Rattle.nr_trace.specs.Faults.{HasFaultFrom, OpensTwice, IsWrongFrom, RestsOnMore, StandsAfter}
use Rattle.nr_trace.specs.Laws.{HasCleanLog, IsFaultlessFrom}
use Rattle.nr_trace.specs.declared.refusals.fault.Fault.{Fault}
use Rattle.nr_trace.specs.declared.refusals.fault.Fault.TheVariants.{ThreadOpen, NoSuchCall, AnsweredTwice, NotAnUpdate, PlacedTwice, NotPlaced, PastLog, Early}
use Rattle.nr_trace.specs.declared.refusals.fault.Fault.TheVariants.{WrongAnswer, PrefixPastLog, PrefixShort, MissingFrame, SharedFrame, ReservedBit, StrayFrame}
use Rattle.nr_trace.specs.declared.refusals.fault.Fault.TheVariants.{Differs}
use Rattle.nr_trace.proofs.LawsOfCalls.{answers_within, call_within, ordered_from_request, ordered_or_touch, reply_behind_call, reply_is_first, the_some}
use Rattle.nr_trace.proofs.LawsOfCalls.{answered_stands, not_both}
use Rattle.nr_trace.proofs.LawsOfDumps.{clean_if_faultless}
use Rattle.nr_trace.proofs.LawsOfOrder.{standing_is_member}
use Rattle.nr_trace.proofs.LawsOfPrecedence.{known_of_update, known_of_read}
use Rattle.chain_cuts.specs.Cut.{without_dumps, IsCutAt}
use Rattle.nr_trace.specs.Joined.{calls_behind, dump_behind, joined_traces}
use Rattle.nr_trace.proofs.Lists.{split_at, of_mapped, before_left}
use Rattle.nr_trace.proofs.Orders.{space_left}
use Rattle.nr_trace.proofs.Parts.{call_left, call_right, reply_left, reply_from_right, reply_behind, HasEarlierCalls, answered_left}
use Rattle.nr_trace.proofs.Parts.{answered_right, request_left, request_right}
use Rattle.nr_trace.proofs.Parts.{answers_to_left, answers_to_right, reply_to_left, reply_to_right, is_call_from_left, is_call_from_right}
use Rattle.nr_trace.proofs.Parts.{is_update_left, is_update_from_left, is_update_right, is_update_from_right, is_read_right}
use Rattle.nr_trace.proofs.Places.{is_read_left, placed_left, placed_right, placed_in, PlacedRight, stood_left, stood_right, known_left, known_right}
use Rattle.nr_trace.proofs.Places.{KnowsMore, floor_above, knows_more}
use Rattle.nr_chain.proofs.Recorded.{recorded_both, places_of_both}
use Rattle.chain_cuts.proofs.CutFront.{before_within, front_faultless, clean_front}
use Rattle.chain_cuts.proofs.SameRuns.{same_open}
use Rattle.chain_cuts.proofs.CutRest.{space_before_right, space_of_prefix, rest_faultless}

-- the faults of a run without dumps are its own
clean_without_dumps : (start : Space) (trace : Recording) → IsFaultlessFrom start (without_dumps trace) → HasCleanLog trace
clean_without_dumps start trace faultless = record {
  no_thread_open = λ index h. faultless (ThreadOpen index) (same_open trace trace.dumps [] index h);
  no_such_call = λ index h. faultless (NoSuchCall index) h;
  none_twice = λ index h. faultless (AnsweredTwice index) h;
  updates_alone = λ place h. faultless (NotAnUpdate place) h;
  placed_once = λ place h. faultless (PlacedTwice place) h;
  all_placed = λ index h. faultless (NotPlaced index) h;
  none_past_log = λ index h. faultless (PastLog index) h;
}

-- no reply makes more known than the log has
pub known_within : (trace : Recording) (index : ℕ) (reply : Response) → HasCleanLog trace → reply_of trace index ≡ Some reply
    → known_by trace reply ≤ length trace.log
known_within trace index reply clean is = by_kind (ordered_or_touch trace reply.call (reply_behind_call trace index reply clean is).1) where
  stands : IsOrdered trace reply.call → StandsAfter trace reply.call reply.at × (reply.at ≤ length trace.log)
  stands ordered = answered_stands trace reply.call reply clean ordered (reply_is_first trace index reply clean is)

  of_update : IsUpdate trace reply.call → StandsAfter trace reply.call reply.at → known_by trace reply ≤ length trace.log
  of_update u (inl (v, e)) =
      let l = slice_get_within trace.log reply.at reply.call e in
      let known = known_of_update trace reply u in
      omega arith
  of_update u (inr r) = absurd (not_both trace reply.call u r.0)

  of_touch : (operation : Option Action) → operation_of trace reply.call ≡ operation → IsTouch trace reply.call → known_by trace reply ≤ length trace.log
  of_touch (Some action) e t = let u : IsUpdate trace reply.call = ap is_some e in of_update u (stands (inl u)).0
  of_touch None e t =
      let (request, f) = the_some (touch_of trace reply.call) t in
      let none : known_by trace reply ≡ 0 = rw (e, f) refl in
      omega arith

  by_kind : IsOrdered trace reply.call ⊎ IsTouch trace reply.call → known_by trace reply ≤ length trace.log
  by_kind (inl (inl u)) = of_update u (stands (inl u)).0
  by_kind (inl (inr r)) =
      let known = known_of_read trace reply r in
      let most = (stands (inr r)).1 in
      omega arith
  by_kind (inr t) = of_touch (operation_of trace reply.call) refl t

module _ (start : Space) (first second : Recording) (same_layout : second.layout ≡ first.layout) (closed : IsCutAt first second) (clean : HasCleanLog first)
    (clean_rest : HasCleanLog second) where
  abbrev whole : Recording
  whole = joined_traces first second

  abbrev space : Space
  space = space_from start first first.log

  abbrev behind : Response → Response
  behind reply = reply_behind (length first.events) (length first.log) reply

  earlier : HasEarlierCalls first
  earlier index reply is = (reply_behind_call first index reply clean is).0

  within : (index : ℕ) (reply : Response) → reply_of first index ≡ Some reply → reply.call < length first.events
  within index reply is = call_within first reply.call (reply_behind_call first index reply clean is).1

  here : (index : ℕ) (reply : Response) → index < length first.events → reply_of whole index ≡ Some reply → reply_of first index ≡ Some reply
  here index reply l is = sym (reply_left first second index l) ∙ is

  -- what holds of each event of both runs holds of each of the whole
  by_events : (P : ℕ → Type 0) → ((index : ℕ) → index < length first.events → P index) → ((index : ℕ) → P (length first.events + index))
      → (index : ℕ) → P index
  by_events P left right index = by_side (split_at (length first.events) index) where
    by_side : (index < length first.events) ⊎ ((k : ℕ) × (index ≡ length first.events + k)) → P index
    by_side (inl l) = left index l
    by_side (inr (k, e)) = subst P (sym e) (right k)

  -- ---- threads

  opens_left : (index : ℕ) → index < length first.events → OpensTwice whole index → ⊥
  opens_left index l h =
      let lower : h.earlier < index = h.is_earlier in
      clean.no_thread_open index (record {
        made = h.made;
        is_made = sym (call_left first second index l) ∙ h.is_made;
        earlier = h.earlier;
        earlier_made = h.earlier_made;
        is_earlier = h.is_earlier;
        is_earlier_made = sym (call_left first second h.earlier (omega arith)) ∙ h.is_earlier_made;
        same_thread = h.same_thread;
        not_answered = λ reply m a. h.not_answered reply m (answers_to_left first second reply h.earlier a);
      })

  -- a call of the first run is answered in it, if its thread makes one in the second
  no_call_open : (index k : ℕ) (made other : Invocation) → k < length first.events → call_of whole k ≡ Some made
      → call_of whole (length first.events + index) ≡ Some other → made.thread ≡ other.thread
      → ((reply : ℕ) → reply < length first.events + index → Answers whole reply k → ⊥) → ⊥
  no_call_open index k made other l is other_is same none =
      let (reply, answers) =
      closed.waits k index made other (sym (call_left first second k l) ∙ is) (sym (call_right first second index) ∙ other_is) same in
      let inside = answers_within first reply k answers in
      none reply (omega arith) (answers_to_left first second reply k answers)

  opens_right : (index : ℕ) → OpensTwice whole (length first.events + index) → ⊥
  opens_right index h = by_side (split_at (length first.events) h.earlier) where
    lower : h.earlier < length first.events + index
    lower = h.is_earlier

    by_side : (h.earlier < length first.events) ⊎ ((k : ℕ) × (h.earlier ≡ length first.events + k)) → ⊥
    by_side (inl l) = no_call_open index h.earlier h.earlier_made h.made l h.is_earlier_made h.is_made h.same_thread h.not_answered
    by_side (inr (k, e)) =
        let own_lower : k < index = omega (arith, lower, e) in
        clean_rest.no_thread_open index (record {
          made = h.made;
          is_made = sym (call_right first second index) ∙ h.is_made;
          earlier = k;
          earlier_made = h.earlier_made;
          is_earlier = own_lower;
          is_earlier_made = sym (call_right first second k) ∙ subst (λ (c : ℕ). call_of whole c ≡ Some h.earlier_made) e h.is_earlier_made;
          same_thread = h.same_thread;
          not_answered = λ reply l a.
              let lower_there : length first.events + reply < length first.events + index = omega arith in
              h.not_answered (length first.events + reply) lower_there
              (subst (λ (c : ℕ). Answers whole (length first.events + reply) c) (sym e) (answers_to_right first second reply k a));
        })

  -- ---- replies

  such_left : (index : ℕ) → index < length first.events → HasFaultFrom start whole (NoSuchCall index) → ⊥
  such_left index l (reply, is, none) =
      let (lower, is_call) = reply_behind_call first index reply clean (here index reply l is) in
      none (lower, is_call_from_left first second reply.call (omega arith) is_call)

  such_right : (index : ℕ) → HasFaultFrom start whole (NoSuchCall (length first.events + index)) → ⊥
  such_right index (reply, is, none) =
      let (own, own_is, same) = reply_from_right first second index reply is in
      let (lower, is_call) = reply_behind_call second index own clean_rest own_is in
      let number : length first.events + own.call ≡ reply.call = ap (λ (r : Response). r.call) same in
      none (omega arith, subst (λ (c : ℕ). IsCall whole c) number (is_call_from_right first second own.call is_call))

  twice_left : (index : ℕ) → index < length first.events → HasFaultFrom start whole (AnsweredTwice index) → ⊥
  twice_left index l (reply, is, (other, lower, answers)) =
      let own = here index reply l is in
      let (inside, own_answers) = answered_left first second other reply.call (within index reply own) answers in
      clean.none_twice index (reply, own, (other, lower, own_answers))

  twice_right : (index : ℕ) → HasFaultFrom start whole (AnsweredTwice (length first.events + index)) → ⊥
  twice_right index (reply, is, (other, lower, answers)) =
      let (own, own_is, same) = reply_from_right first second index reply is in
      let number : length first.events + own.call ≡ reply.call = ap (λ (r : Response). r.call) same in
      let (k, e, own_answers) = answered_right first second other own.call earlier (subst (λ (c : ℕ). Answers whole other c) (sym number) answers) in
      let own_lower : k < index = omega arith in
      clean_rest.none_twice index (own, own_is, (k, own_lower, own_answers))

  -- ---- places

  updates_alone : (place : ℕ) → HasFaultFrom start whole (NotAnUpdate place) → ⊥
  updates_alone place (call, is, none) = by_side (placed_in first second place call is) where
    by_side : (slice_get first.log place ≡ Some call) ⊎ PlacedRight first second place call → ⊥
    by_side (inl own) = clean.updates_alone place (call, own, λ u. none (is_update_from_left first second call (closed.own place call own) u))
    by_side (inr (at, e, own, own_is, same)) =
        clean_rest.updates_alone at (own, own_is, λ u. none (subst (λ (c : ℕ). IsUpdate whole c) (sym same) (is_update_from_right first second own u)))

  placed_once : (place : ℕ) → HasFaultFrom start whole (PlacedTwice place) → ⊥
  placed_once place (call, is, (other, lower, again)) = by_sides (placed_in first second place call is) (placed_in first second other call again) where
    by_sides : (slice_get first.log place ≡ Some call) ⊎ PlacedRight first second place call
        → (slice_get first.log other ≡ Some call) ⊎ PlacedRight first second other call → ⊥
    by_sides (inl own) (inl before_it) = clean.placed_once place (call, own, (other, lower, before_it))
    by_sides (inl own) (inr (at, e, c, c_is, same)) =
        let l = closed.own place call own in
        omega arith
    by_sides (inr (at, e, c, c_is, same)) (inl before_it) =
        let l = closed.own other call before_it in
        omega arith
    by_sides (inr (at, e, c, c_is, same)) (inr (to, f, d, d_is, alike)) =
        let own_lower : to < at = omega arith in
        let one : d ≡ c = omega arith in
        clean_rest.placed_once at (c, c_is, (to, own_lower, d_is ∙ ap Some one))

  unplaced_left : (index : ℕ) → index < length first.events → HasFaultFrom start whole (NotPlaced index) → ⊥
  unplaced_left index l (reply, is, (u, apart)) =
      let own = here index reply l is in
      clean.all_placed index (
        reply,
        own,
        (
          is_update_left first second reply.call (within index reply own) u,
          λ there. apart (placed_left first second reply.at reply.call there),
        ),
      )

  unplaced_right : (index : ℕ) → HasFaultFrom start whole (NotPlaced (length first.events + index)) → ⊥
  unplaced_right index (reply, is, (u, apart)) =
      let (own, own_is, same) = reply_from_right first second index reply is in
      clean_rest.all_placed index (
        own,
        own_is,
        (
          is_update_right first second own.call (subst (λ (r : Response). IsUpdate whole r.call) (sym same) u),
          λ there. subst (λ (r : Response). slice_get whole.log r.at ≢ Some r.call) (sym same) apart (placed_right first second own.at own.call there),
        ),
      )

  past_left : (index : ℕ) → index < length first.events → HasFaultFrom start whole (PastLog index) → ⊥
  past_left index l (reply, is, (r, past)) =
      let own = here index reply l is in
      let places = places_of_both first second in
      let own_past : length first.log < reply.at = omega arith in
      clean.none_past_log index (reply, own, (is_read_left first second reply.call (within index reply own) r, own_past))

  past_right : (index : ℕ) → HasFaultFrom start whole (PastLog (length first.events + index)) → ⊥
  past_right index (reply, is, (r, past)) =
      let (own, own_is, same) = reply_from_right first second index reply is in
      let at : length first.log + own.at ≡ reply.at = ap (λ (a : Response). a.at) same in
      let places = places_of_both first second in
      let own_past : length second.log < own.at = omega arith in
      clean_rest.none_past_log index (own, own_is, (is_read_right first second own.call (subst (λ (a : Response). IsRead whole a.call) (sym same) r), own_past))

  -- ---- floors

  module _ (in_time : (call : ℕ) → HasFaultFrom start (without_dumps first) (Early call) → ⊥)
      (in_time_behind : (call : ℕ) → HasFaultFrom space second (Early call) → ⊥) where
    early_left : (call entries : ℕ) → call < length first.events → StandsAfter whole call entries → KnowsMore whole call entries → ⊥
    early_left call entries l h (index, reply, lower, is, more) =
        let inside : index < length first.events = omega arith in
        let own = here index reply inside is in
        let known = known_left first second reply (within index reply own) in
        let own_more : entries < known_by first reply = omega arith in
        in_time call (entries, stood_left first second call entries l h, floor_above first call entries (index, reply, lower, own, own_more))

    known_early : (call k entries index : ℕ) (reply : Response) → index < length first.events → reply_of whole index ≡ Some reply
        → entries ≡ length first.log + k → entries < known_by whole reply → ⊥
    known_early call k entries index reply inside is e more =
        let own = here index reply inside is in
        let known = known_left first second reply (within index reply own) in
        let most = known_within first index reply clean own in
        omega arith

    known_late : (call k entries index : ℕ) (reply : Response) → length first.events + index < length first.events + call
        → reply_of whole (length first.events + index) ≡ Some reply → entries ≡ length first.log + k → StandsAfter second call k
        → entries < known_by whole reply → ⊥
    known_late call k entries index reply lower is e h more =
        let (own, own_is, same) = reply_from_right first second index reply is in
        let known = (known_right first second own).0 in
        let there : entries < known_by whole (behind own) = subst (λ (r : Response). entries < known_by whole r) (sym same) more in
        let own_more : k < known_by second own = omega arith in
        let own_lower : index < call = omega arith in
        in_time_behind call (k, h, floor_above second call k (index, own, own_lower, own_is, own_more))

    early_right : (call entries : ℕ) → StandsAfter whole (length first.events + call) entries → KnowsMore whole (length first.events + call) entries → ⊥
    early_right call entries h (index, reply, lower, is, more) =
        let (k, e, own) = stood_right first second call entries earlier closed.own h in
        by_side k e own (split_at (length first.events) index) where
          by_side : (k : ℕ) → entries ≡ length first.log + k → StandsAfter second call k
              → (index < length first.events) ⊎ ((j : ℕ) × (index ≡ length first.events + j)) → ⊥
          by_side k e own (inl inside) = known_early call k entries index reply inside is e more
          by_side k e own (inr (j, f)) =
              known_late call k entries j reply (subst (λ (n : ℕ). n < length first.events + call) f lower)
              (subst (λ (n : ℕ). reply_of whole n ≡ Some reply) f is) e own more

    none_early : (call : ℕ) → HasFaultFrom start whole (Early call) → ⊥
    none_early call =
        by_events (λ (c : ℕ). HasFaultFrom start whole (Early c) → ⊥)
        (λ c l h. early_left c h.0 l h.1 (knows_more whole c h.0 h.2))
        (λ c h. early_right c h.0 h.1 (knows_more whole (length first.events + c) h.0 h.2)) call

  -- ---- answers

  module _ (right : (call : ℕ) → HasFaultFrom start (without_dumps first) (WrongAnswer call) → ⊥)
      (right_behind : (call : ℕ) → HasFaultFrom space second (WrongAnswer call) → ⊥) where
    wrong_left : (call : ℕ) → call < length first.events → IsWrongFrom start whole call → ⊥
    wrong_left call l h =
        let own_asks : request_of first call ≡ Some h.request = sym (request_left first second call l) ∙ h.asks in
        let own_reply : reply_to first call ≡ Some h.reply = sym (reply_to_left first second call l) ∙ h.is_reply in
        let (stands, most) = answered_stands first call h.reply clean (ordered_from_request first call h.request own_asks) own_reply in
        let member = standing_is_member first h.reply.at call most stands in
        let same : space_from start whole (before call (recorded_order whole)) ≡ space_from start first (before call (recorded_order first)) =
        ap (λ (calls : List ℕ). space_from start whole calls)
        (ap (before call) (recorded_both first second clean)
        ∙ before_left call (recorded_order first) (calls_behind (length first.events) (recorded_order second)) member)
        ∙ space_left start first second (before call (recorded_order first)) (before_within first clean call) in
        right call (record {
          request = h.request;
          asks = own_asks;
          reply = h.reply;
          is_reply = own_reply;
          differs = λ e. h.differs (e ∙ ap (λ (s : Space). answer_in first.layout s h.request) (sym same));
        })

    wrong_right : (call : ℕ) → IsWrongFrom start whole (length first.events + call) → ⊥
    wrong_right call h =
        let (own, own_is, same) = of_mapped behind (reply_to second call) h.reply (sym (reply_to_right first second call earlier) ∙ h.is_reply) in
        let answer : own.answer ≡ h.reply.answer = ap (λ (r : Response). r.answer) same in
        right_behind call (record {
          request = h.request;
          asks = sym (request_right first second call) ∙ h.asks;
          reply = own;
          is_reply = own_is;
          differs = λ e. h.differs (sym answer ∙ e
              ∙ ap (λ (layout : Layout). answer_in layout (space_from space second (before call (recorded_order second))) h.request) same_layout
              ∙ ap (λ (s : Space). answer_in first.layout s h.request) (sym (space_before_right start first second same_layout clean call)));
        })

  -- ---- dumps

  abbrev HasOwnDump : ℕ → (Image → Type 0) → Type 0
  HasOwnDump replica P = (own : Image) × (slice_get second.dumps replica ≡ Some own) × IsThere own × P own

  own_dump : (P : Image → Type 0) (replica : ℕ) (dump : Image) → slice_get whole.dumps replica ≡ Some dump → IsThere dump
      → P dump → HasOwnDump replica (λ (own : Image). P (dump_behind (length first.log) own))
  own_dump P replica dump is there h =
      let (own, own_is, same) = of_mapped (dump_behind (length first.log)) (slice_get second.dumps replica) dump
      (sym (slice_get-map (dump_behind (length first.log)) second.dumps replica) ∙ is) in
      (own, own_is, subst IsThere (sym same) there, subst P (sym same) h)

  short_left : (replica index : ℕ) (dump : Image) (reply : Response) → index < length first.events → reply_of whole index ≡ Some reply
      → length first.log + dump.applied < known_by whole reply → ⊥
  short_left replica index dump reply inside is more =
      let own = here index reply inside is in
      let known = known_left first second reply (within index reply own) in
      let most = known_within first index reply clean own in
      omega arith

  short_right : (replica index : ℕ) (dump : Image) (reply : Response) (made : Invocation) → reply_of whole (length first.events + index) ≡ Some reply
      → call_of whole reply.call ≡ Some made → made.replica ≡ replica → length first.log + dump.applied < known_by whole reply → RestsOnMore second replica dump
  short_right replica index dump reply made is is_made at_it more =
      let (own, own_is, same) = reply_from_right first second index reply is in
      let known = (known_right first second own).0 in
      let there : length first.log + dump.applied < known_by whole (behind own) =
      subst (λ (r : Response). length first.log + dump.applied < known_by whole r) (sym same) more in
      let own_more : dump.applied < known_by second own = omega arith in
      record {
        index = index;
        reply = own;
        is_reply = own_is;
        made = made;
        is_made = sym (call_right first second own.call) ∙ subst (λ (r : Response). call_of whole r.call ≡ Some made) (sym same) is_made;
        here = at_it;
        more = own_more;
      }

  short : (replica : ℕ) (dump : Image) → RestsOnMore whole replica (dump_behind (length first.log) dump) → RestsOnMore second replica dump
  short replica dump h = by_side (split_at (length first.events) h.index) where
    by_side : (h.index < length first.events) ⊎ ((k : ℕ) × (h.index ≡ length first.events + k)) → RestsOnMore second replica dump
    by_side (inl inside) = absurd (short_left replica h.index dump h.reply inside h.is_reply h.more)
    by_side (inr (k, e)) =
        short_right replica k dump h.reply h.made (subst (λ (n : ℕ). reply_of whole n ≡ Some h.reply) e h.is_reply) h.is_made h.here h.more

  module _ (faultless : IsFaultlessFrom space second) where
    dumps_past : (replica : ℕ) → HasFaultFrom start whole (PrefixPastLog replica) → ⊥
    dumps_past replica (dump, is, is_there, past) =
        let (own, own_is, own_there, h) = own_dump (λ (d : Image). length whole.log < d.applied) replica dump is is_there past in
        let places = places_of_both first second in
        let there : length whole.log < length first.log + own.applied = h in
        let own_past : length second.log < own.applied = omega arith in
        faultless (PrefixPastLog replica) (own, own_is, own_there, own_past)

    dumps_short : (replica : ℕ) → HasFaultFrom start whole (PrefixShort replica) → ⊥
    dumps_short replica (dump, is, is_there, more) =
        let (own, own_is, own_there, h) = own_dump (RestsOnMore whole replica) replica dump is is_there more in
        faultless (PrefixShort replica) (own, own_is, own_there, short replica own h)

    dumps_differ : (replica address : ℕ) → HasFaultFrom start whole (Differs replica address) → ⊥
    dumps_differ replica address (dump, is, is_there, differs) =
        let (own, own_is, own_there, h) =
        own_dump (λ (d : Image). HasDifference first.layout.depth d (space_from start whole (take d.applied whole.log)) address) replica
        dump is is_there differs in
        faultless (Differs replica address) (
          own,
          own_is,
          own_there,
          subst (λ (layout : Layout). HasDifference layout.depth own (space_from space second (take own.applied second.log)) address) (sym same_layout)
              (subst (λ (s : Space). HasDifference first.layout.depth own s address) (space_of_prefix start first second same_layout clean own.applied) h),
        )

    -- a fault of the frames alone
    of_frames : (P : Layout → Image → Type 0) (replica : ℕ)
        → (dump : Image) × (slice_get whole.dumps replica ≡ Some dump) × IsThere dump × P first.layout dump
        → HasOwnDump replica (λ (own : Image). P second.layout (dump_behind (length first.log) own))
    of_frames P replica (dump, is, is_there, h) =
        let (own, own_is, own_there, there) = own_dump (λ (d : Image). P first.layout d) replica dump is is_there h in
        (own, own_is, own_there, subst (λ (layout : Layout). P layout (dump_behind (length first.log) own)) (sym same_layout) there)

    module _ (front : IsFaultlessFrom start (without_dumps first)) where
      pub whole_faultless : (fault : Fault) → HasFaultFrom start whole fault → ⊥
      whole_faultless (ThreadOpen index) h =
          by_events (λ (i : ℕ). HasFaultFrom start whole (ThreadOpen i) → ⊥) opens_left opens_right index h
      whole_faultless (NoSuchCall index) h =
          by_events (λ (i : ℕ). HasFaultFrom start whole (NoSuchCall i) → ⊥) such_left such_right index h
      whole_faultless (AnsweredTwice index) h =
          by_events (λ (i : ℕ). HasFaultFrom start whole (AnsweredTwice i) → ⊥) twice_left twice_right index h
      whole_faultless (NotAnUpdate place) h = updates_alone place h
      whole_faultless (PlacedTwice place) h = placed_once place h
      whole_faultless (NotPlaced index) h =
          by_events (λ (i : ℕ). HasFaultFrom start whole (NotPlaced i) → ⊥) unplaced_left unplaced_right index h
      whole_faultless (PastLog index) h = by_events (λ (i : ℕ). HasFaultFrom start whole (PastLog i) → ⊥) past_left past_right index h
      whole_faultless (Early call) h = none_early (λ c e. front (Early c) e) (λ c e. faultless (Early c) e) call h
      whole_faultless (WrongAnswer call) h =
          by_events (λ (c : ℕ). HasFaultFrom start whole (WrongAnswer c) → ⊥)
          (wrong_left (λ c e. front (WrongAnswer c) e) (λ c e. faultless (WrongAnswer c) e))
          (wrong_right (λ c e. front (WrongAnswer c) e) (λ c e. faultless (WrongAnswer c) e)) call h
      whole_faultless (PrefixPastLog replica) h = dumps_past replica h
      whole_faultless (PrefixShort replica) h = dumps_short replica h
      whole_faultless (MissingFrame replica number) h =
          faultless (MissingFrame replica number) (of_frames (λ (layout : Layout) (dump : Image). HasMissingFrame layout.depth dump number) replica h)
      whole_faultless (SharedFrame replica number) h =
          faultless (SharedFrame replica number) (of_frames (λ (layout : Layout) (dump : Image). HasSharedFrame layout.depth dump number) replica h)
      whole_faultless (ReservedBit replica number index) h =
          faultless (ReservedBit replica number index)
          (of_frames (λ (layout : Layout) (dump : Image). HasReservedBit layout.depth dump number index) replica h)
      whole_faultless (StrayFrame replica number) h =
          faultless (StrayFrame replica number) (of_frames (λ (layout : Layout) (dump : Image). HasStrayFrame layout.depth dump number) replica h)
      whole_faultless (Differs replica address) h = dumps_differ replica address h
      whole_faultless _ h = h

pub cut : (start : Space) (first second : Recording) → second.layout ≡ first.layout → IsCutAt first second
    → IsFaultlessFrom start (joined_traces first second)
    ↔ (IsFaultlessFrom start (without_dumps first) × IsFaultlessFrom (space_from start first first.log) second)
cut start first second same_layout closed = (
  λ faultless. (
    front_faultless start first second closed faultless,
    rest_faultless start first second same_layout (clean_front start first second closed faultless) faultless,
  ),
  λ parts.
      whole_faultless start first second same_layout closed (clean_without_dumps start first parts.0)
      (clean_if_faultless (space_from start first first.log) second parts.1) parts.1 parts.0,
)
