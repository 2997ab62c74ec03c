-- What a replica of a joined run is known to have applied.
use Rattle.std.proofs.Common.{◌≡◌, ℕ, ◌+◌, ◌-◌, ◌<◌, ◌≤◌, ◌⊎◌, inl, inr, length, Option, Some, None, option_map, refl, ap, sym, ◌∙◌}
use Rattle.std.proofs.Common.{subst, arith}
use Rattle.std.specs.Option.{option_map_or}
use Rattle.std.proofs.lemmas.Bool.{cases_lt}
use Rattle.nr_trace.specs.Recording.{Recording}
use Rattle.nr_trace.specs.Calls.{Invocation, call_of, Response, reply_of}
use Rattle.nr_trace.specs.Laws.{HasCleanLog}
use Rattle.nr_trace.specs.Orders.{known_by}
use Rattle.nr_trace.proofs.LawsOfCalls.{reply_below}
use Rattle.nr_trace.specs.Joined.{joined_traces}
use Rattle.nr_trace.proofs.Lists.{split_at}
use Rattle.nr_trace.proofs.Orderly.{clean_is_orderly}
use Rattle.nr_trace.proofs.Parts.{call_left, call_right, reply_behind, reply_from_right, reply_left, reply_right, HasEarlierCalls}
use Rattle.nr_trace.proofs.Places.{known_left, known_right}
use Rattle.nr_audit.specs.Touches.{known_at, known_when}
use Rattle.nr_audit.specs.inside.Prefixes.{IsReplyAt}
use Rattle.nr_audit.proofs.KnownEntries.{known_below, knows_at, KnowsAt}
use Rattle.chain_cuts.proofs.CutWhole.{known_within}

-- a number is at most another one where all below it are below that
at_most : (a b : ℕ) → ((n : ℕ) → n < a → n < b) → a ≤ b
at_most a b all = elim (cases_lt b a) [
  | inl less ↦ absurd (let below = all b less in omega (arith, below))
  | inr le ↦ le
]

knows_less : (trace : Recording) (event replica n : ℕ) → KnowsAt trace event replica n → n < known_at trace replica event
knows_less trace event replica n (index, reply, at, more) =
    let below = known_below trace event replica index reply at in
    omega (arith, below, more)

both_ways : (a b : ℕ) → a ≤ b → b ≤ a → a ≡ b
both_ways a b l m = omega (arith, l, m)

-- no replica is known to have applied more than there is
pub known_few : (trace : Recording) (replica event : ℕ) → HasCleanLog trace → known_at trace replica event ≤ length trace.log
known_few trace replica event clean = at_most (known_at trace replica event) (length trace.log) (λ n l.
    let (index, reply, at, more) = knows_at trace event replica n l in
    let few = known_within trace index reply clean at.is_reply in
    omega (arith, few, more))

pub known_few_when : (trace : Recording) (call : ℕ) → HasCleanLog trace → known_when trace call ≤ length trace.log
known_few_when trace call clean = by (call_of trace call) where
  by : (made : Option Invocation) → option_map_or (λ (own : Invocation). known_at trace own.replica call) made 0 ≤ length trace.log
  by None = omega arith
  by (Some made) = known_few trace made.replica call clean

module _ (first second : Recording) (clean : HasCleanLog first) where
  abbrev whole : Recording
  whole = joined_traces first second

  earlier : HasEarlierCalls first
  earlier = (clean_is_orderly first clean).earlier

  -- ---- replies of the first run

  at_left : (event replica index : ℕ) (reply : Response) → index < length first.events → IsReplyAt whole event replica index reply
      → IsReplyAt first event replica index reply
  at_left event replica index reply inside at =
      let own : reply_of first index ≡ Some reply = sym (reply_left first second index inside) ∙ at.is_reply in
      let lower = earlier index reply own in
      record {
        below = at.below;
        is_reply = own;
        made = at.made;
        is_made = sym (call_left first second reply.call (omega (arith, lower, inside))) ∙ at.is_made;
        here = at.here;
      }

  at_from_left : (event later replica index : ℕ) (reply : Response) → event ≤ later → IsReplyAt first event replica index reply
      → IsReplyAt whole later replica index reply
  at_from_left event later replica index reply le at =
      let inside = reply_below first index reply at.is_reply in
      let lower = earlier index reply at.is_reply in
      let below = at.below in
      record {
        below = omega (arith, below, le);
        is_reply = reply_left first second index inside ∙ at.is_reply;
        made = at.made;
        is_made = call_left first second reply.call (omega (arith, lower, inside)) ∙ at.is_made;
        here = at.here;
      }

  -- what is known at the events of the first run
  known_at_left : (replica event : ℕ) → event ≤ length first.events → known_at whole replica event ≡ known_at first replica event
  known_at_left replica event low = both_ways (known_at whole replica event) (known_at first replica event)
      (at_most (known_at whole replica event) (known_at first replica event) down)
      (at_most (known_at first replica event) (known_at whole replica event) up) where
        down : (n : ℕ) → n < known_at whole replica event → n < known_at first replica event
        down n l =
            let (index, reply, at, more) = knows_at whole event replica n l in
            let below = at.below in
            let own = at_left event replica index reply (omega (arith, below, low)) at in
            let lower = earlier index reply own.is_reply in
            let same = known_left first second reply (omega (arith, lower, below, low)) in
            knows_less first event replica n (index, reply, own, omega (arith, more, same))

        up : (n : ℕ) → n < known_at first replica event → n < known_at whole replica event
        up n l =
            let (index, reply, at, more) = knows_at first event replica n l in
            let below = at.below in
            let lower = earlier index reply at.is_reply in
            let same = known_left first second reply (omega (arith, lower, below, low)) in
            knows_less whole event replica n (index, reply, at_from_left event event replica index reply (omega arith) at, omega (arith, more, same))

  pub known_when_left : (call : ℕ) → call < length first.events → known_when whole call ≡ known_when first call
  known_when_left call low =
      ap (λ (o : Option Invocation). option_map_or (λ (made : Invocation). known_at whole made.replica call) o 0) (call_left first second call low)
      ∙ by (call_of first call) where
        by : (o : Option Invocation) → option_map_or (λ (made : Invocation). known_at whole made.replica call) o 0
            ≡ option_map_or (λ (made : Invocation). known_at first made.replica call) o 0
        by None = refl
        by (Some made) = known_at_left made.replica call (omega (arith, low))

  -- ---- replies of the second run

  abbrev behind : Response → Response
  behind reply = reply_behind (length first.events) (length first.log) reply

  at_right : (event replica index : ℕ) (reply own : Response) → reply_of second index ≡ Some own → behind own ≡ reply
      → IsReplyAt whole (length first.events + event) replica (length first.events + index) reply → IsReplyAt second event replica index own
  at_right event replica index reply own is same at =
      let below = at.below in
      let number : length first.events + own.call ≡ reply.call = ap (λ (r : Response). r.call) same in
      record {
        below = omega (arith, below);
        is_reply = is;
        made = at.made;
        is_made = sym (call_right first second own.call) ∙ ap (call_of whole) number ∙ at.is_made;
        here = at.here;
      }

  at_from_right : (event replica index : ℕ) (own : Response) → IsReplyAt second event replica index own
      → IsReplyAt whole (length first.events + event) replica (length first.events + index) (behind own)
  at_from_right event replica index own at =
      let below = at.below in
      record {
        below = omega (arith, below);
        is_reply = reply_right first second index ∙ ap (option_map behind) at.is_reply;
        made = at.made;
        is_made = call_right first second own.call ∙ at.is_made;
        here = at.here;
      }

  -- what is known in both is known in the second, or of the first
  known_most : (replica event : ℕ) → known_at whole replica (length first.events + event) ≤ length first.log + known_at second replica event
  known_most replica event =
      at_most (known_at whole replica (length first.events + event)) (length first.log + known_at second replica event) (λ n l.
      let (index, reply, at, more) = knows_at whole (length first.events + event) replica n l in
      by_side n index reply at more (split_at (length first.events) index)) where
        by_side : (n index : ℕ) (reply : Response) → IsReplyAt whole (length first.events + event) replica index reply → n < known_by whole reply
            → (index < length first.events) ⊎ ((k : ℕ) × (index ≡ length first.events + k)) → n < length first.log + known_at second replica event
        by_side n index reply at more (inl inside) =
            let own = at_left (length first.events + event) replica index reply inside at in
            let lower = earlier index reply own.is_reply in
            let same = known_left first second reply (omega (arith, lower, inside)) in
            let few = known_within first index reply clean own.is_reply in
            omega (arith, more, same, few)
        by_side n index reply at more (inr (k, e)) =
            let there = subst (λ (i : ℕ). IsReplyAt whole (length first.events + event) replica i reply) e at in
            let (own, is, same) = reply_from_right first second k reply there.is_reply in
            let most = known_below second event replica k own (at_right event replica k reply own is same there) in
            let known = (known_right first second own).0 in
            let here : n < known_by whole (behind own) = subst (λ (r : Response). n < known_by whole r) (sym same) more in
            omega (arith, most, known, here)

  -- and all is known where the replica has caught up
  known_least : (replica event : ℕ) → known_at first replica (length first.events) ≡ length first.log
      → length first.log + known_at second replica event ≤ known_at whole replica (length first.events + event)
  known_least replica event caught =
      at_most (length first.log + known_at second replica event) (known_at whole replica (length first.events + event)) (λ n l.
      by_side n l (cases_lt n (length first.log))) where
        by_side : (n : ℕ) → n < length first.log + known_at second replica event → (n < length first.log) ⊎ (length first.log ≤ n)
            → n < known_at whole replica (length first.events + event)
        by_side n l (inl low) =
            let (index, reply, at, more) = knows_at first (length first.events) replica n (omega (arith, low, caught)) in
            let inside = reply_below first index reply at.is_reply in
            let lower = earlier index reply at.is_reply in
            let same = known_left first second reply (omega (arith, lower, inside)) in
            knows_less whole (length first.events + event) replica n (
              index,
              reply,
              at_from_left (length first.events) (length first.events + event) replica index reply (omega arith) at,
              omega (arith, more, same),
            )
        by_side n l (inr high) =
            let (index, own, at, more) = knows_at second event replica (n - length first.log) (omega (arith, l, high)) in
            let all = (known_right first second own).1 (omega (arith, more)) in
            knows_less whole (length first.events + event) replica n
            (length first.events + index, behind own, at_from_right event replica index own at, omega (arith, more, all, high))

  pub known_when_most : (call : ℕ) → known_when whole (length first.events + call) ≤ length first.log + known_when second call
  known_when_most call =
      subst (λ (o : Option Invocation). option_map_or (λ (made : Invocation). known_at whole made.replica (length first.events + call)) o 0
      ≤ length first.log + known_when second call) (sym (call_right first second call)) (by (call_of second call)) where
        by : (o : Option Invocation) → option_map_or (λ (made : Invocation). known_at whole made.replica (length first.events + call)) o 0
            ≤ length first.log + option_map_or (λ (made : Invocation). known_at second made.replica call) o 0
        by None = omega arith
        by (Some made) = known_most made.replica call

  pub known_when_least : (call : ℕ) (made : Invocation) → call_of second call ≡ Some made
      → known_at first made.replica (length first.events) ≡ length first.log
      → length first.log + known_when second call ≤ known_when whole (length first.events + call)
  known_when_least call made is caught =
      let there : known_when whole (length first.events + call) ≡ known_at whole made.replica (length first.events + call) =
      ap (λ (o : Option Invocation). option_map_or (λ (m : Invocation). known_at whole m.replica (length first.events + call)) o 0)
      (call_right first second call ∙ is) in
      let here : known_when second call ≡ known_at second made.replica call =
      ap (λ (o : Option Invocation). option_map_or (λ (m : Invocation). known_at second m.replica call) o 0) is in
      let least = known_least made.replica call caught in
      omega (arith, there, here, least)
