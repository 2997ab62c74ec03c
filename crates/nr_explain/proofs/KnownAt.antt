-- How many entries a replica is known to have applied, one event further.
use Rattle.std.proofs.Common.{◌≡◌, ℕ, suc, ◌+◌, ◌<◌, max, List, take, map, fold, slice_get, Option, Some, None, option_to_list, option_and_then}
use Rattle.std.proofs.Common.{refl, sym, ap, ◌∙◌, add-one, arith}
use Rattle.std.specs.Prelude.{filter_map}
use Rattle.std.proofs.lemmas.List.{map-append}
use Rattle.std.proofs.lemmas.List.Elements.{filter_map-append}
use Rattle.std.proofs.lemmas.Grind.{fold-append}
use Rattle.nr_trace.specs.Recording.{Recording}
use Rattle.nr_trace.specs.Calls.{Response, reply_in, reply_of}
use Rattle.nr_trace.specs.declared.recordings.event.Event.{Event}
use Rattle.nr_trace.proofs.LawsOfLists.{take-next}
use Rattle.nr_audit.specs.Touches.{known_at, known_to}
use Rattle.nr_explain.specs.Facts.{IsReplyOf, response}
use Rattle.nr_explain.specs.ChainFacts.{IsShownBy}
use Rattle.nr_explain.specs.declared.trace.evidence.RecordedReply.{RecordedReply}

-- ---- one event more

abbrev known_in : Recording → ℕ → Option Event → List ℕ
known_in trace replica o = map (known_to trace replica) (filter_map reply_in (option_to_list o))

known_next : (trace : Recording) (replica index : ℕ)
    → known_at trace replica (suc index) ≡ fold max (known_at trace replica index) (known_in trace replica (slice_get trace.events index))
known_next trace replica index =
    ap (λ (es : List Event). fold max 0 (map (known_to trace replica) (filter_map reply_in es))) (take-next index trace.events)
    ∙ ap (λ (rs : List Response). fold max 0 (map (known_to trace replica) rs))
    (filter_map-append reply_in (take index trace.events) (option_to_list (slice_get trace.events index)))
    ∙ ap (fold max 0) (map-append (known_to trace replica) (filter_map reply_in (take index trace.events))
    (filter_map reply_in (option_to_list (slice_get trace.events index))))
    ∙ fold-append max 0 (map (known_to trace replica) (filter_map reply_in (take index trace.events))) (known_in trace replica (slice_get trace.events index))

of_reply : (trace : Recording) (replica : ℕ) (o : Option Event) (reply : Response) (n : ℕ) → option_and_then reply_in o ≡ Some reply
    → fold max n (known_in trace replica o) ≡ max n (known_to trace replica reply)
of_reply trace replica None reply n e = absurd cc
of_reply trace replica (Some event) reply n e = rw e refl

of_other : (trace : Recording) (replica : ℕ) (o : Option Event) (n : ℕ) → option_and_then reply_in o ≡ None → fold max n (known_in trace replica o) ≡ n
of_other trace replica None n e = refl
of_other trace replica (Some event) n e = rw e refl

pub known_after_reply : (trace : Recording) (replica index : ℕ) (reply : Response) → reply_of trace index ≡ Some reply
    → known_at trace replica (index + 1) ≡ max (known_at trace replica index) (known_to trace replica reply)
known_after_reply trace replica index reply e =
    ap (known_at trace replica) (add-one index) ∙ known_next trace replica index
    ∙ of_reply trace replica (slice_get trace.events index) reply (known_at trace replica index) e

pub known_after_other : (trace : Recording) (replica index : ℕ) → reply_of trace index ≡ None
    → known_at trace replica (index + 1) ≡ known_at trace replica index
known_after_other trace replica index e =
    ap (known_at trace replica) (add-one index) ∙ known_next trace replica index
    ∙ of_other trace replica (slice_get trace.events index) (known_at trace replica index) e

-- ---- the reply that shows the most

pub shown_stays : (trace : Recording) (replica index known new : ℕ) (shown : Option RecordedReply) → new ≡ known
    → IsShownBy trace replica index known shown → IsShownBy trace replica (index + 1) new shown
shown_stays trace replica index known new None e is = e ∙ is
shown_stays trace replica index known new (Some reply) e is =
    let lt = is.1 in
    let first = is.3 in
    (is.0, omega arith, is.2 ∙ sym e, omega arith)

pub shown_new : (trace : Recording) (replica index low known new : ℕ) (reply : RecordedReply) → IsReplyOf trace reply → reply.event ≡ index
    → low ≡ known_at trace replica index → low < known → known ≡ known_to trace replica (response reply) → new ≡ known
    → IsShownBy trace replica (index + 1) new (Some reply)
shown_new trace replica index low known new reply is at told more knows e =
    let here : known_at trace replica reply.event ≡ known_at trace replica index = ap (known_at trace replica) at in
    (is, omega arith, sym (e ∙ knows), omega arith)
