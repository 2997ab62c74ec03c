-- The reply by which the most entries are known, one event further; and replies at a replica.
use Rattle.std.proofs.Common.{◌≡◌, ℕ, ◌+◌, ◌<◌, ◌≤◌, max, inl, inr, Option, Some, None, sym, ap, subst, ◌∙◌, arith}
use Rattle.std.proofs.lemmas.Bool.{cases_lt}
use Rattle.nr_trace.specs.Recording.{Recording}
use Rattle.nr_trace.specs.Calls.{Invocation, Response, call_of, reply_of}
use Rattle.nr_trace.specs.Orders.{floor, known_by}
use Rattle.nr_explain.specs.Facts.{IsReplyOf, response}
use Rattle.nr_explain.specs.inside.Searches.{IsBinding, RestsNowhere}
use Rattle.nr_explain.specs.declared.trace.evidence.RecordedReply.{RecordedReply}

pub reply_there : (trace : Recording) (index : ℕ) (reply : RecordedReply) → IsReplyOf trace reply → reply.event ≡ index
    → reply_of trace index ≡ Some (response reply)
reply_there trace index reply is at = subst (λ (i : ℕ). reply_of trace i ≡ Some (response reply)) at is

pub rises : (low before after by known new : ℕ) → low ≡ before → after ≡ max before by → known ≡ by → low < known → new ≡ known → new ≡ after
rises low before after by known new a b c lt e = omega arith

pub stays : (low before after by known new : ℕ) → low ≡ before → after ≡ max before by → known ≡ by → known ≤ low → new ≡ low → new ≡ after
stays low before after by known new a b c le e = omega arith

pub binding_stays : (trace : Recording) (index known new : ℕ) (binding : Option RecordedReply) → new ≡ known → IsBinding trace index known binding
    → IsBinding trace (index + 1) new binding
binding_stays trace index known new None e is = e ∙ is
binding_stays trace index known new (Some reply) e is =
    let lt = is.1 in
    let first = is.3 in
    (is.0, omega arith, is.2 ∙ sym e, omega arith)

pub binding_here : (trace : Recording) (index low known new : ℕ) (reply : RecordedReply) → IsReplyOf trace reply → reply.event ≡ index
    → low ≡ floor trace index → low < known → known ≡ known_by trace (response reply) → new ≡ known → IsBinding trace (index + 1) new (Some reply)
binding_here trace index low known new reply is at told more knows e =
    let here : floor trace reply.event ≡ floor trace index = ap (floor trace) at in
    (is, omega arith, sym (e ∙ knows), omega arith)

-- where none rests at a replica, no reply to a call there makes more known than is applied
pub no_more_known : (trace : Recording) (replica applied end : ℕ) → RestsNowhere trace replica applied end
    → (index : ℕ) (reply : Response) (made : Invocation) → index < end → reply_of trace index ≡ Some reply → call_of trace reply.call ≡ Some made
    → made.replica ≡ replica → known_by trace reply ≤ applied
no_more_known trace replica applied end none index reply made before is is_made here = elim (cases_lt applied (known_by trace reply)) [
  | inl more ↦ absurd (none index before (record { reply = reply; is_reply = is; made = made; is_made = is_made; here = here; more = more }))
  | inr low ↦ low
]
