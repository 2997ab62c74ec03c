-- The first fault of the dump of a replica, as it is looked for.
use Rattle.std.proofs.Common.{◌≡◌, ℕ, zero, suc, ◌<◌, ◌≤◌, inl, inr, List, Option, Some, None, length, get_or, replicate, take, slice_get}
use Rattle.std.proofs.Common.{refl, sym, ap, subst, ◌∙◌, arith, add-one, rules}
use Rattle.std.specs.Prelude.{IfSome, IsSome, option_and_then}
use Rattle.std.proofs.lemmas.Bool.{cases_lt}
use Rattle.std.proofs.lemmas.Option.{get_or_from_slice_get, slice_get_within}
use Rattle.vs_types.specs.Space.{no_pages}
use Rattle.vs_walk.specs.Dump.{Image}
use Rattle.nr_trace.specs.Recording.{IsEvent, IsRecording, IsThere, Recording}
use Rattle.nr_trace.specs.Calls.{Invocation, Response, call_of, made_by, reply_of}
use Rattle.nr_trace.specs.Orders.{known_by, space_after}
use Rattle.nr_trace.specs.declared.recordings.event.Event.{Event}
use Rattle.nr_trace.specs.declared.recordings.event.Event.TheVariants.{Reply}
use Rattle.nr_trace.specs.declared.refusals.fault.Fault.{Fault}
use Rattle.nr_trace.specs.declared.refusals.fault.Fault.TheVariants.{PrefixPastLog, PrefixShort, Reachable, Stale}
use Rattle.nr_trace.specs.Faults.{HasFault}
use Rattle.nr_trace.proofs.LawsOfCalls.{reply_in_event}
use Rattle.nr_dump.specs.Faults.{HasNoFault, IsFirstOfDump}
use Rattle.nr_dump.specs.declared.fault.DumpFault.{DumpFault}
use Rattle.nr_audit.specs.Dumps.{at_replica}
use Rattle.nr_audit.specs.inside.Passes.{IsDumpFaultAt}
use Rattle.nr_audit.specs.inside.Prefixes.{AreNeeds, with_known}
use Rattle.nr_audit.specs.inside.Search.{HasFaultOn, HasNoneFrom, IsFirstAmongFrom}
use Rattle.nr_audit.proofs.DumpFaults.{none_absent, first_past_log, first_short, none_of_replica, first_of_replica}
use Rattle.nr_audit.proofs.NeededEntries.{needs_at_start, needs_stay, no_reply_at, needs_after_reply}
use Rattle.nr_explain.specs.Dumps.{replica_of}
use Rattle.nr_explain.specs.Facts.{invocation, response}
use Rattle.nr_explain.specs.inside.Searches.{IsFoundOfDump, IsResting, RestsNowhere}
use Rattle.nr_explain.specs.declared.trace.evidence.ShortPrefix.{ShortPrefix}

-- ---- the faults of a dump

among_own : (replica : ℕ) (fault : Fault) → replica_of fault ≡ Some replica → IsDumpFaultAt replica fault
among_own replica (PrefixPastLog at) same = cc
among_own replica _ same = cc

own_among : (replica : ℕ) (fault : Fault) → IsDumpFaultAt replica fault → replica_of fault ≡ Some replica
own_among replica (PrefixPastLog at) same = ap Some same
own_among replica _ same = search rules

-- a trace has a fault of a dump exactly where a search finds it
searched : (trace : Recording) (fault : Fault) → HasFault trace fault → HasFaultOn no_pages trace fault
searched trace (Stale call) holds = absurd holds
searched trace (Reachable call) holds = absurd holds
searched trace _ holds = holds

has_searched : (trace : Recording) (replica : ℕ) (fault : Fault) → replica_of fault ≡ Some replica → HasFaultOn no_pages trace fault
    → HasFault trace fault
has_searched trace replica (Stale call) of holds = absurd (let none : None ≡ Some replica = of in cc)
has_searched trace replica (Reachable call) of holds = absurd (let none : None ≡ Some replica = of in cc)
has_searched trace replica _ of holds = holds

found_none : (trace : Recording) (replica : ℕ) → HasNoneFrom no_pages (IsDumpFaultAt replica) trace → IsFoundOfDump trace replica None
found_none trace replica none = λ fault of holds. none fault (among_own replica fault of) (searched trace fault holds)

found_first : (trace : Recording) (replica : ℕ) (fault : Fault) → IsFirstAmongFrom no_pages (IsDumpFaultAt replica) trace fault
    → IsFoundOfDump trace replica (Some fault)
found_first trace replica fault first =
    let own = own_among replica fault first.is_among in (
      own,
      record {
        of_dump = subst (λ (o : Option ℕ). IsSome o) (sym own) refl;
        holds = has_searched trace replica fault own first.holds;
        none_earlier = λ other same holds. first.none_earlier other (among_own replica other (same ∙ own)) (searched trace other holds);
      },
    )

-- ---- what is known by the replies at each replica

made_within : (trace : Recording) (call : ℕ) → IsRecording trace → IfSome (call_of trace call) (λ (made : Invocation). made.replica < 4)
made_within trace call ranged = by_event (slice_get trace.events call) refl where
  by_event : (o : Option Event) → slice_get trace.events call ≡ o → IfSome (option_and_then made_by o) (λ (made : Invocation). made.replica < 4)
  by_event None is = tt
  by_event (Some event) is = within event (subst (IsEvent trace.version trace.layout) (get_or_from_slice_get trace.events call event event is)
      (ranged.events call event (slice_get_within trace.events call event is))) where
        few : trace.layout.replicas ≤ 4
        few = ranged.layout.few_replicas

        within : (event : Event) → IsEvent trace.version trace.layout event → IfSome (made_by event) (λ (made : Invocation). made.replica < 4)
        within (Reply of at answer) fits = tt
        within _ fits = let low = fits.0 in omega arith

needs_below : (trace : Recording) → IsRecording trace → (end : ℕ) → (needs : List ℕ) × AreNeeds trace end needs
needs_below trace ranged zero = (replicate 4 0, needs_at_start trace (replicate 4 0) refl)
needs_below trace ranged (suc end) = by_reply (needs_below trace ranged end) (reply_of trace end) refl where
  by_reply : (needs : List ℕ) × AreNeeds trace end needs → (o : Option Response) → reply_of trace end ≡ o
      → (needs : List ℕ) × AreNeeds trace (suc end) needs
  by_reply before None is = (
    before.0,
    subst (λ (n : ℕ). AreNeeds trace n before.0) (add-one end)
        (needs_stay trace end before.0 (λ replica other. no_reply_at trace end replica other is) before.1),
  )
  by_reply before (Some own) is =
      let grown = with_known before.0 (call_of trace own.call) (known_by trace own) in (
        grown,
        subst (λ (n : ℕ). AreNeeds trace n grown) (add-one end)
            (needs_after_reply trace end before.0 own is (made_within trace own.call ranged) before.1),
      )

-- ---- what is found

pub found_absent : (trace : Recording) (replica : ℕ) (dump : Image) → slice_get trace.dumps replica ≡ Some dump → (IsThere dump → ⊥)
    → IsFoundOfDump trace replica None
found_absent trace replica dump is absent = found_none trace replica (none_absent no_pages trace replica dump is absent)

module _ (trace : Recording) (replica : ℕ) (dump : Image) (is : slice_get trace.dumps replica ≡ Some dump) (there : IsThere dump) where
  pub found_past_log : length trace.log < dump.applied → IsFoundOfDump trace replica (Some (PrefixPastLog replica))
  found_past_log past = found_first trace replica (PrefixPastLog replica) (first_past_log no_pages trace replica dump is there past)

  module _ (ranged : IsRecording trace) (few : dump.applied ≤ length trace.log) where
    needs : List ℕ
    needs = (needs_below trace ranged (length trace.events)).0

    are : AreNeeds trace (length trace.events) needs
    unfolding needs needs_below
    are = (needs_below trace ranged (length trace.events)).1

    pub found_short : (found : ShortPrefix) → IsResting trace replica dump.applied found → IsFoundOfDump trace replica (Some (PrefixShort replica))
    found_short found rests =
        let reply = response found.reply in
        let event = reply_in_event (slice_get trace.events found.reply.event) reply rests.reply in
        let most : known_by trace reply ≤ get_or needs replica 0 = are.most replica found.reply.event reply (record {
          below = slice_get_within trace.events found.reply.event event.0 event.1;
          is_reply = rests.reply;
          made = invocation found.call;
          is_made = ap (call_of trace) rests.names ∙ rests.call;
          here = rests.here ∙ rests.replica_is;
        }) in
        let more = rests.more in
        let known = rests.known in
        let applied = rests.applied_is in
        found_first trace replica (PrefixShort replica) (first_short no_pages trace replica dump is there few needs are (omega arith))

    module _ (rests : RestsNowhere trace replica dump.applied (length trace.events)) where
      enough : get_or needs replica 0 ≤ dump.applied
      enough = elim (cases_lt dump.applied (get_or needs replica 0)) [
        | inl short ↦ (let known = are.reached replica (omega arith) in
            absurd (rests known.index known.at.below (record {
              reply = known.reply;
              is_reply = known.at.is_reply;
              made = known.at.made;
              is_made = known.at.is_made;
              here = known.at.here;
              more = let just = known.just in omega arith;
            })))
        | inr le ↦ le
      ]

      pub found_sound : HasNoFault trace.layout.depth dump (space_after trace (take dump.applied trace.log)) → IsFoundOfDump trace replica None
      found_sound none = found_none trace replica (none_of_replica no_pages trace replica dump is there few needs are enough none)

      pub found_in_tables : (fault : DumpFault) → IsFirstOfDump trace.layout.depth dump (space_after trace (take dump.applied trace.log)) fault
          → IsFoundOfDump trace replica (Some (at_replica replica fault))
      found_in_tables fault first =
          found_first trace replica (at_replica replica fault) (first_of_replica no_pages trace replica dump is there few needs are enough fault first)
