-- No fault of a dump.
use Rattle.std.proofs.Common.{◌≡◌, ℕ, List, take, slice_get, Option, Some, None, refl, ap, sym, ◌∙◌, subst, arith}
use Rattle.std.proofs.lemmas.List.{length-map}
use Rattle.std.specs.Prelude.{MatchOption, IsSomeAnd}
use Rattle.std.specs.List.{AllZip}
use Rattle.std.proofs.lemmas.Option.{same_Some, none-some}
use Rattle.std.proofs.lemmas.Slice.Zip.{AllZip-right}
use Rattle.vs_types.specs.Space.{Space}
use Rattle.vs_types.specs.Step.{look}
use Rattle.vs_types.specs.declared.log_entry.LogEntry.{LogEntry}
use Rattle.vs_walk.specs.Dump.{Image}
use Rattle.vs_walk.specs.Walk.{as_walk}
use Rattle.vs_walk.specs.Traversal.{walk_fault}
use Rattle.vs_walk.specs.declared.walk.WalkFault.{WalkFault}
use Rattle.nr_trace.specs.Recording.{IsThere}
use Rattle.nr_trace.specs.Calls.{Invocation}
use Rattle.nr_trace.specs.Orders.{space_after}
use Rattle.nr_trace.specs.Faults.{HasFault}
use Rattle.nr_trace.specs.declared.formats.version.Version.{Version}
use Rattle.nr_trace.specs.declared.refusals.fault.Fault.TheVariants.{PrefixPastLog, PrefixShort, StrayFrame, Differs}
use Rattle.nr_core.specs.State.{State, Replica}
use Rattle.nr_core.specs.Run.{IsDumpOfReplica}
use Rattle.nr_core.specs.inside.Reached.{At, calls_of, IsReached}
use Rattle.nr_core.proofs.reached.Recorded.{recording, known_is_reach}
use Rattle.nr_core.proofs.reached.RightAnswers.{space_of_log}

abbrev pub AreDumps : State → List Image → Type 0
AreDumps state dumps = AllZip (IsDumpOfReplica state.layout.depth) state.replicas dumps

pub the_replica : (state : State) (dumps : List Image) (r : ℕ) (dump : Image) → AreDumps state dumps → At dumps r dump
    → (replica : Replica) × At state.replicas r replica × IsDumpOfReplica state.layout.depth replica dump
the_replica state dumps r dump are at =
    in_some (slice_get state.replicas r) refl
    (subst (λ (o : Option Image). MatchOption o (Unit {0}) (λ (d : Image).
    IsSomeAnd (slice_get state.replicas r) (λ (replica : Replica). IsDumpOfReplica state.layout.depth replica d))) at
    (AllZip-right (IsDumpOfReplica state.layout.depth) state.replicas dumps are r)) where
      in_some : (o : Option Replica) → slice_get state.replicas r ≡ o → IsSomeAnd o (λ (replica : Replica). IsDumpOfReplica state.layout.depth replica dump)
          → (replica : Replica) × At state.replicas r replica × IsDumpOfReplica state.layout.depth replica dump
      in_some None e h = absurd h
      in_some (Some replica) e h = (replica, e, h)

pub none_past_log : (state : State) (version : Version) (dumps : List Image) (r : ℕ) → IsReached state → AreDumps state dumps
    → HasFault (recording state version dumps) (PrefixPastLog r) → ⊥
none_past_log state version dumps r reached are (dump, at, is_there, past) =
    let (replica, there, is) = the_replica state dumps r dump are at in
    let of_replica = reached.replicas r replica there in
    let long = length-map state.log (λ (entry : LogEntry). entry.call) in
    omega (arith, is.applied, of_replica.fetched, of_replica.known, reached.completed, long, past)

pub none_short : (state : State) (version : Version) (dumps : List Image) (r : ℕ) → IsReached state → AreDumps state dumps
    → HasFault (recording state version dumps) (PrefixShort r) → ⊥
none_short state version dumps r reached are (dump, at, is_there, rests) =
    let (replica, there, is) = the_replica state dumps r dump are at in
    let (made, before, is_made, right) = reached.replies rests.index rests.reply rests.is_reply in
    let one : made ≡ rests.made = same_Some made rests.made (sym is_made ∙ rests.is_made) in
    let known = known_is_reach state version dumps rests.reply made is_made in
    let enough = right.here replica (ap (λ (m : Invocation). slice_get state.replicas m.replica) one ∙ ap (slice_get state.replicas) rests.here ∙ there) in
    let same = is.applied in
    let more = rests.more in
    absurd (omega arith)

-- of the faults that a walk meets
pub none_in_walk : (state : State) (dumps : List Image) (r : ℕ) (fault : WalkFault) → AreDumps state dumps
    → (dump : Image) × At dumps r dump × IsThere dump × (walk_fault state.layout.depth dump.frames dump.root ≡ Some fault) → ⊥
none_in_walk state dumps r fault are (dump, at, is_there, h) =
    let (replica, there, is) = the_replica state dumps r dump are at in
    none-some fault (sym is.faultless ∙ h)

pub none_stray : (state : State) (version : Version) (dumps : List Image) (r number : ℕ) → AreDumps state dumps
    → HasFault (recording state version dumps) (StrayFrame r number) → ⊥
none_stray state version dumps r number are (dump, at, is_there, h) =
    let (replica, there, is) = the_replica state dumps r dump are at in
    is.none_stray number h.0

pub none_differs : (state : State) (version : Version) (dumps : List Image) (r address : ℕ) → IsReached state → AreDumps state dumps
    → HasFault (recording state version dumps) (Differs r address) → ⊥
none_differs state version dumps r address reached are (dump, at, is_there, h) =
    let (replica, there, is) = the_replica state dumps r dump are at in
    let same : replica.space ≡ space_after (recording state version dumps) (take dump.applied (calls_of state.log)) =
    (reached.replicas r replica there).space ∙ sym (space_of_log state version dumps replica.applied reached)
    ∙ ap (λ n. space_after (recording state version dumps) (take n (calls_of state.log))) (sym is.applied) in
    h.0.1 (is.translates address h.0.0 ∙ ap (λ (space : Space). as_walk (look space address)) same)
