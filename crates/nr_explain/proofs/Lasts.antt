-- The last call of a thread, one event further.
use Rattle.std.proofs.Common.{◌≡◌, ℕ, ◌+◌, inl, inr, Option, Some, None, sym, ap, subst, ◌∙◌, arith}
use Rattle.std.proofs.lemmas.Bool.{cases_lt}
use Rattle.std.proofs.lemmas.Option.{same_Some, none-some}
use Rattle.nr_trace.specs.Recording.{Recording}
use Rattle.nr_trace.specs.Calls.{Invocation, call_of}
use Rattle.nr_explain.specs.Facts.{IsCallOf, invocation}
use Rattle.nr_explain.specs.inside.Searches.{IsIdle, IsLastCall, IsMadeBy}
use Rattle.nr_explain.specs.declared.trace.evidence.RecordedCall.{RecordedCall}

-- it is made by the thread that it names
pub thread_told : (trace : Recording) (index : ℕ) (call : RecordedCall) → IsCallOf trace call → call.event ≡ index
    → (made : Invocation) → call_of trace index ≡ Some made → made.thread ≡ call.thread
thread_told trace index call is at made e =
    let same = same_Some made (invocation call) (sym e ∙ ap (call_of trace) (sym at) ∙ is) in
    ap (λ (m : Invocation). m.thread) same

idle_more : (trace : Recording) (thread first end : ℕ) → IsIdle trace thread first end → (IsMadeBy trace thread end → ⊥)
    → IsIdle trace thread first (end + 1)
idle_more trace thread first end idle none index low high made = elim (cases_lt index end) [
  | inl lt ↦ idle index low lt made
  | inr past ↦ none (subst (IsMadeBy trace thread) (omega arith) made)
]

pub last_stays : (trace : Recording) (thread index : ℕ) (last : Option RecordedCall) → (IsMadeBy trace thread index → ⊥)
    → IsLastCall trace thread index last → IsLastCall trace thread (index + 1) last
last_stays trace thread index None none is = idle_more trace thread 0 index is none
last_stays trace thread index (Some call) none is =
    let lt = is.2 in (is.0, is.1, omega arith, idle_more trace thread (call.event + 1) index is.3 none)

pub last_here : (trace : Recording) (thread index : ℕ) (call : RecordedCall) → IsCallOf trace call → call.event ≡ index → call.thread ≡ thread
    → IsLastCall trace thread (index + 1) (Some call)
last_here trace thread index call is at same = (is, same, omega arith, λ other low high made. absurd (omega arith))

pub not_made_by : (trace : Recording) (thread index : ℕ) (call : RecordedCall) → IsCallOf trace call → call.event ≡ index
    → (call.thread ≡ thread → ⊥) → IsMadeBy trace thread index → ⊥
not_made_by trace thread index call is at other made = other (sym (thread_told trace index call is at made.made made.is_made) ∙ made.same)

pub no_call_made : (trace : Recording) (thread index : ℕ) → call_of trace index ≡ None → IsMadeBy trace thread index → ⊥
no_call_made trace thread index none made = none-some made.made (sym none ∙ made.is_made)
