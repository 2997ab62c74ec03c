-- After how many entries of the log a call is: an update by its place, and a read by its reply.
use Rattle.std.proofs.Common.{◌≡◌, ℕ, inl, inr, Some, None, Option, refl}
use Rattle.std.specs.Prelude.{length, option_map, option_and_then, IsSome}
use Rattle.std.proofs.lemmas.Bool.{false≢true}
use Rattle.std.proofs.lemmas.Option.{slice_get_within}
use Rattle.nr_trace.specs.Recording.{Recording}
use Rattle.nr_trace.specs.Calls.{Response, address_of, reply_to, IsUpdate}
use Rattle.nr_trace.specs.Faults.{StandsAfter}
use Rattle.vs_types.specs.Finds.{Finds}
use Rattle.nr_trace.proofs.LawsOfCalls.{not_both}
use Rattle.nr_audit.specs.inside.Tables.{IsPlaceBelow}
use Rattle.nr_audit.specs.inside.Replies.{entries_seen}

pub by_place : (trace : Recording) (call : ℕ) (place : Option ℕ) → IsUpdate trace call → IsPlaceBelow trace (length trace.log) call place
    → Finds (StandsAfter trace call) place
by_place trace call None update none = λ entries stands. elim stands [
  | inl u ↦ none entries (slice_get_within trace.log entries call u.1) u.1
  | inr r ↦ not_both trace call update r.0
]
by_place trace call (Some own) update there = inl (update, there.1)

-- what an answered read saw, or nothing
from_reply : (address : Option ℕ) (response : Option Response) (seen : Option ℕ)
    → seen ≡ option_and_then (λ (a : ℕ). option_map (λ (r : Response). r.at) response) address
    → Finds (λ n. IsSome address × (reply : Response) × (response ≡ Some reply) × (reply.at ≡ n)) seen
from_reply None response None e = λ n there. false≢true there.0
from_reply (Some a) None None e = λ n there. let some = there.2 in cc
from_reply (Some a) (Some r) (Some n) e = (refl, r, refl, cc)
from_reply _ _ _ e = absurd cc

-- what is no update comes after what it saw
pub by_reply : (trace : Recording) (call : ℕ) (seen : Option ℕ) → (IsUpdate trace call → ⊥) → seen ≡ entries_seen trace call
    → Finds (StandsAfter trace call) seen
by_reply trace call None no_update told = λ entries stands. elim stands [
  | inl u ↦ no_update u.0
  | inr r ↦ from_reply (address_of trace call) (reply_to trace call) None told entries r
]
by_reply trace call (Some entries) no_update told = inr (from_reply (address_of trace call) (reply_to trace call) (Some entries) told)
