-- No call comes too early.
use Rattle.std.proofs.Common.{◌≡◌, ℕ, zero, suc, ◌≤◌, inl, inr, List, Option, Some, None, refl, ap, sym, ◌∙◌, subst, arith, add-one}
use Rattle.vs_types.specs.declared.log_entry.LogEntry.{LogEntry}
use Rattle.vs_walk.specs.Dump.{Image}
use Rattle.nr_trace.specs.Recording.{Recording}
use Rattle.nr_trace.specs.Calls.{Response, reply_of}
use Rattle.nr_trace.specs.Orders.{floor}
use Rattle.nr_trace.specs.Faults.{HasFault, StandsAfter}
use Rattle.nr_trace.specs.declared.formats.version.Version.{Version}
use Rattle.nr_trace.specs.declared.refusals.fault.Fault.TheVariants.{Early}
use Rattle.nr_trace.proofs.LawsOfCalls.{reply_event}
use Rattle.nr_trace.proofs.LawsOfSteps.{floor_at_start, floor_after_reply, floor_after_other}
use Rattle.nr_core.specs.State.{State}
use Rattle.nr_core.specs.inside.Reached.{At, reply_at, Behind, shared_in, IsReached}
use Rattle.nr_core.proofs.reached.Growth.{HaveCalls, replies_have_calls}
use Rattle.nr_core.proofs.reached.Recorded.{recording, at_map, known_is_reach}

floor_within : (state : State) (version : Version) (dumps : List Image) (call n k : ℕ) → HaveCalls state.events → Behind state.events call n → k ≤ call
    → floor (recording state version dumps) k ≤ n
floor_within state version dumps call n zero have behind l = let e = floor_at_start (recording state version dumps) in omega arith
floor_within state version dumps call n (suc k) have behind l =
    by_event (floor_within state version dumps call n k have behind (omega arith)) (reply_at state.events k) refl where
      by_event : floor (recording state version dumps) k ≤ n → (o : Option Response) → reply_at state.events k ≡ o
          → floor (recording state version dumps) (suc k) ≤ n
      by_event less None e =
          let f = sym (ap (floor (recording state version dumps)) (add-one k)) ∙ floor_after_other (recording state version dumps) k e in
          omega arith
      by_event less (Some reply) e =
          let (made, is) = have k reply e in
          let f = sym (ap (floor (recording state version dumps)) (add-one k)) ∙ floor_after_reply (recording state version dumps) k reply e in
          let g = known_is_reach state version dumps reply made is in
          let h = behind k reply made l e is in
          omega arith

pub none_early : (state : State) (version : Version) (dumps : List Image) (call : ℕ) → IsReached state
    → HasFault (recording state version dumps) (Early call) → ⊥
none_early state version dumps call reached (entries, stands, early) = by_kind stands where
  trace : Recording
  trace = recording state version dumps

  have : HaveCalls state.events
  have = replies_have_calls state.layout (shared_in state) reached.replies

  not_before : Behind state.events call entries → ⊥
  not_before behind = let l = floor_within state version dumps call entries call have behind (omega arith) in absurd (omega arith)

  of_entry : (entry : LogEntry) × At state.log entries entry × (entry.call ≡ call) → ⊥
  of_entry (entry, at, e) =
      let (made, is, asks, behind) = reached.entries entries entry at in
      not_before (subst (λ c. Behind state.events c entries) e behind)

  of_reply : (reply : Response) → reply.at ≡ entries → (index : ℕ) × (reply_of trace index ≡ Some reply) × (reply.call ≡ call) → ⊥
  of_reply reply at (index, e, f) =
      let (made, before, is, right) = reached.replies index reply e in
      not_before (subst (λ n. Behind state.events call n) at (subst (λ c. Behind state.events c reply.at) f right.in_time))

  by_kind : StandsAfter trace call entries → ⊥
  by_kind (inl (is_update, at)) = of_entry (at_map (λ (entry : LogEntry). entry.call) state.log entries call at)
  by_kind (inr (is_read, reply, e, at)) = of_reply reply at (reply_event trace call reply e)
