-- An event with one tag, as a trace keeps it. No public clause cites this file.
use Rattle.std.specs.Prelude.{◌≡◌, ⊤}
use Rattle.std.proofs.Common.{refl, ap}
use Rattle.vs_types.specs.Query.{IsSomeQuery}
use Rattle.vs_types.specs.declared.requests.op.Action.TheVariants.{Map, Unmap, Protect}
use Rattle.vs_types.specs.declared.requests.request.Query.TheVariants.{Update, Resolve, Access}
use Rattle.vs_types.specs.declared.requests.answer.Answer.TheVariants.{Done, Overlap, Full, Removed, NotMapped, Inside, Changed, Mapped, Allowed, Fault}
use Rattle.nr_trace.specs.declared.recordings.event.Event.{Event}
use Rattle.nr_trace.specs.declared.recordings.event.Event.TheVariants.{Call, Reply}
use Rattle.nr_trace.specs.declared.recordings.event.Asked.TheVariants.{Request, Release, Touch}
use Rattle.nr_trace.specs.declared.recordings.recorded.PackedEvent.{PackedEvent}
use Rattle.nr_trace.specs.declared.recordings.recorded.PackedEvent.TheVariants as kept
use Rattle.nr_trace.specs.declared.recordings.recorded.Recorded.TheInside as of_recorded

abbrev pub event_of : PackedEvent → Event
event_of (kept.Map replica thread size rights base phys) =
    Call replica thread (Request (Update (Map (record { base = base; phys = phys; size = size; rights = rights }))))
event_of (kept.Unmap replica thread base) = Call replica thread (Request (Update (Unmap base)))
event_of (kept.Protect replica thread rights base) = Call replica thread (Request (Update (Protect base rights)))
event_of (kept.Resolve replica thread address) = Call replica thread (Request (Resolve address))
event_of (kept.Access replica thread mode access address) = Call replica thread (Request (Access address mode access))
event_of (kept.Touch replica thread mode access address) = Call replica thread (Touch address mode access)
event_of (kept.Release replica thread size phys) = Call replica thread (Release size phys)
event_of (kept.Done call at) = Reply call at Done
event_of (kept.Overlap call at base) = Reply call at (Overlap base)
event_of (kept.Full call at need) = Reply call at (Full need)
event_of (kept.Removed size call at rights phys) = Reply call at (Removed phys size rights)
event_of (kept.NotMapped call at) = Reply call at NotMapped
event_of (kept.Inside call at base) = Reply call at (Inside base)
event_of (kept.Changed call at rights) = Reply call at (Changed rights)
event_of (kept.Mapped size call at rights phys) = Reply call at (Mapped phys size rights)
event_of (kept.Allowed call at phys) = Reply call at (Allowed phys)
event_of (kept.Fault call at code) = Reply call at (Fault code)

abbrev pub kept_of : Event → PackedEvent
kept_of (Call replica thread (Request (Update (Map page)))) = kept.Map replica thread page.size page.rights page.base page.phys
kept_of (Call replica thread (Request (Update (Unmap base)))) = kept.Unmap replica thread base
kept_of (Call replica thread (Request (Update (Protect base rights)))) = kept.Protect replica thread rights base
kept_of (Call replica thread (Request (Resolve address))) = kept.Resolve replica thread address
kept_of (Call replica thread (Request (Access address mode access))) = kept.Access replica thread mode access address
kept_of (Call replica thread (Touch address mode access)) = kept.Touch replica thread mode access address
kept_of (Call replica thread (Release size phys)) = kept.Release replica thread size phys
kept_of (Reply call at Done) = kept.Done call at
kept_of (Reply call at (Overlap base)) = kept.Overlap call at base
kept_of (Reply call at (Full need)) = kept.Full call at need
kept_of (Reply call at (Removed phys size rights)) = kept.Removed size call at rights phys
kept_of (Reply call at NotMapped) = kept.NotMapped call at
kept_of (Reply call at (Inside base)) = kept.Inside call at base
kept_of (Reply call at (Changed rights)) = kept.Changed call at rights
kept_of (Reply call at (Mapped phys size rights)) = kept.Mapped size call at rights phys
kept_of (Reply call at (Allowed phys)) = kept.Allowed call at phys
kept_of (Reply call at (Fault code)) = kept.Fault call at code

-- the request of a call is well formed at some depth
abbrev pub IsKept : Event → Type 0
IsKept (Call replica thread (Request request)) = IsSomeQuery request
IsKept event = ⊤

same : (k : PackedEvent) → kept_of (event_of k) ≡ k
same (kept.Map replica thread size rights base phys) = refl
same (kept.Unmap replica thread base) = refl
same (kept.Protect replica thread rights base) = refl
same (kept.Resolve replica thread address) = refl
same (kept.Access replica thread mode access address) = refl
same (kept.Touch replica thread mode access address) = refl
same (kept.Release replica thread size phys) = refl
same (kept.Done call at) = refl
same (kept.Overlap call at base) = refl
same (kept.Full call at need) = refl
same (kept.Removed size call at rights phys) = refl
same (kept.NotMapped call at) = refl
same (kept.Inside call at base) = refl
same (kept.Changed call at rights) = refl
same (kept.Mapped size call at rights phys) = refl
same (kept.Allowed call at phys) = refl
same (kept.Fault call at code) = refl

pub same_kept : (r : of_recorded.Inside) → ◌≡◌ {A = of_recorded.Inside} (record { kept = kept_of (event_of r.kept) }) r
same_kept r = ap (λ k. let inside : of_recorded.Inside = record { kept = k } in inside) (same r.kept)
