-- How an address looks, one place more.
use Rattle.std.proofs.Common.{◌≡◌, ◌≢◌, ℕ, ◌+◌, ◌<◌, ◌≤◌, inl, inr, Option, Some, None, length, get_or, slice_get, sym, ap, ◌∙◌, arith}
use Rattle.std.specs.Prelude.{option_and_then}
use Rattle.std.proofs.lemmas.Option.{get_or_from_slice_get}
use Rattle.std.proofs.lemmas.Bool.{cases_lt}
use Rattle.nr_trace.specs.Recording.{Recording}
use Rattle.vs_types.specs.Space.{Space}
use Rattle.vs_types.specs.Step.{look}
use Rattle.nr_trace.specs.Calls.{call_of, request_in, request_of}
use Rattle.nr_trace.proofs.LawsOfCalls.{some_or_none}
use Rattle.nr_audit.proofs.AnswerFaults.{space_stays}
use Rattle.nr_explain.specs.inside.Searches.{HasCallAt}
use Rattle.nr_explain.specs.Facts.{IsCallOf, IsLastChangeFrom, LooksSameFrom, looks_from}
use Rattle.nr_explain.specs.declared.trace.evidence.PlacedUpdate.{PlacedUpdate}

same_more : (start : Space) (trace : Recording) (address first last : ℕ) → LooksSameFrom start trace address first last
    → looks_from start trace address last ≡ looks_from start trace address (last + 1) → LooksSameFrom start trace address first (last + 1)
same_more start trace address first last same e places low high = elim (cases_lt places (last + 1)) [
  | inl lt ↦ same places low (omega arith) ∙ e
  | inr past ↦ ap (looks_from start trace address) (omega arith)
]

same_at : (start : Space) (trace : Recording) (address first last : ℕ) → last ≤ first → LooksSameFrom start trace address first last
same_at start trace address first last le places low high = ap (looks_from start trace address) (omega arith)

-- an update that leaves how the address looks
pub change_stays : (start : Space) (trace : Recording) (address end : ℕ) (changed : Option PlacedUpdate)
    → looks_from start trace address end ≡ looks_from start trace address (end + 1)
    → IsLastChangeFrom start trace address end changed → IsLastChangeFrom start trace address (end + 1) changed
change_stays start trace address end None e is = same_more start trace address 0 end is e
change_stays start trace address end (Some update) e is =
    let lt = is.0 in (omega arith, is.1, is.2, is.3, same_more start trace address (update.place + 1) end is.4 e)

-- an update that changes it
pub change_here : (start : Space) (trace : Recording) (address end : ℕ) (update : PlacedUpdate) → update.place ≡ end → IsCallOf trace update.call
    → slice_get trace.log end ≡ Some update.call.event → looks_from start trace address end ≢ looks_from start trace address (end + 1)
    → IsLastChangeFrom start trace address (end + 1) (Some update)
change_here start trace address end update at call placed differs = (
  omega arith,
  call,
  ap (slice_get trace.log) at ∙ placed,
  (λ same. differs (ap (looks_from start trace address) (sym at) ∙ same ∙ ap (λ n. looks_from start trace address (n + 1)) at)),
  same_at start trace address (update.place + 1) (end + 1) (omega arith),
)

-- where the looks change, there is a call
pub change_has_call : (start : Space) (trace : Recording) (address place : ℕ) → place < length trace.log
    → looks_from start trace address place ≢ looks_from start trace address (place + 1) → HasCallAt trace place
change_has_call start trace address place within differs call is = elim (some_or_none (call_of trace call)) [
  | inl made ↦ made
  | inr none ↦ absurd (differs (ap (λ (s : Space). look s address) (space_stays start trace trace.log place 0 within (asked none))))
] where
  asked : call_of trace call ≡ None → request_of trace (get_or trace.log place 0) ≡ None
  asked none = ap (request_of trace) (get_or_from_slice_get trace.log place call 0 is)
      ∙ ap (option_and_then (λ made. request_in made.asked)) none
