-- The most entries that are known by the replies at each replica, and what that says of its dump.
use Rattle.std.proofs.Common.{cond, ◌≡◌, ℕ, ◌+◌, ◌<◌, ◌≤◌, ◌⊎◌, inl, inr, List, max, replicate, set, get_or, Some, None, Option, refl, sym, ap, subst, ◌∙◌}
use Rattle.std.proofs.Common.{arith, get_or-set_other, get_or-set_same}
use Rattle.std.specs.Prelude.{IfSome}
use Rattle.std.specs.Ordering.{nat_cmp, ord_max, is_lt}
use Rattle.std.specs.declared.cmp.Ordering.{Ordering}
use Rattle.std.specs.declared.cmp.Ordering.TheVariants.{Less, Equal, Greater}
use Rattle.std.proofs.lemmas.Cmp.{ranked}
use Rattle.std.proofs.lemmas.Bool.{cases_lt, cases_eq}
use Rattle.std.proofs.lemmas.List.{length-set, length-replicate, get_or-replicate, get_or_past}
use Rattle.nr_trace.specs.Recording.{Recording}
use Rattle.nr_trace.specs.Calls.{Invocation, call_of, Response, reply_of}
use Rattle.nr_trace.specs.Orders.{known_by}
use Rattle.nr_audit.specs.inside.Prefixes.{IsReplyAt, KnowsJust, AreNeeds, with_known}

no_needs : (replica : ℕ) → ◌≡◌ {A = ℕ} (get_or (replicate {A = ℕ} 4 0) replica 0) 0
no_needs replica = elim (cases_lt replica 4) [
  | inl low ↦ get_or-replicate {A = ℕ} 4 replica 0 0 low
  | inr past ↦ get_or_past {X = ℕ} (replicate {A = ℕ} 4 0) replica 0 (omega (arith, length-replicate {A = ℕ} 4 0))
]

pub needs_at_start : (trace : Recording) (needs : List ℕ) → needs ≡ replicate {A = ℕ} 4 0 → AreNeeds trace 0 needs
needs_at_start trace needs e = subst (λ (xs : List ℕ). AreNeeds trace 0 xs) (sym e) (record {
  four = length-replicate {A = ℕ} 4 0;
  most = λ replica index reply at. let low = at.below in absurd (omega arith);
  reached = λ replica some. let none = no_needs replica in absurd (omega arith);
})

later_reply : (trace : Recording) (end replica index : ℕ) (reply : Response) → IsReplyAt trace end replica index reply
    → IsReplyAt trace (end + 1) replica index reply
later_reply trace end replica index reply at = record {
  below = let low = at.below in omega arith;
  is_reply = at.is_reply;
  made = at.made;
  is_made = at.is_made;
  here = at.here;
}

later_known : (trace : Recording) (end replica entries : ℕ) → KnowsJust trace end replica entries → KnowsJust trace (end + 1) replica entries
later_known trace end replica entries known = record {
  index = known.index;
  reply = known.reply;
  at = later_reply trace end replica known.index known.reply known.at;
  just = known.just;
}

-- a reply below the next end is one below this, or the last
earlier_or_last : (trace : Recording) (end replica index : ℕ) (reply : Response) → IsReplyAt trace (end + 1) replica index reply
    → IsReplyAt trace end replica index reply ⊎ (index ≡ end)
earlier_or_last trace end replica index reply at = elim (cases_lt index end) [
  | inl low ↦ inl (record { below = low; is_reply = at.is_reply; made = at.made; is_made = at.is_made; here = at.here })
  | inr past ↦ inr (let low = at.below in omega arith)
]

-- an event that is no reply to a call changes nothing
pub needs_stay : (trace : Recording) (end : ℕ) (needs : List ℕ) → ((replica : ℕ) (reply : Response) → IsReplyAt trace (end + 1) replica end reply → ⊥)
    → AreNeeds trace end needs → AreNeeds trace (end + 1) needs
needs_stay trace end needs none are = record {
  four = are.four;
  most = λ replica index reply at. elim (earlier_or_last trace end replica index reply at) [
    | inl earlier ↦ are.most replica index reply earlier
    | inr last ↦ absurd (none replica reply (subst (λ i. IsReplyAt trace (end + 1) replica i reply) last at))
  ];
  reached = λ replica some. later_known trace end replica (get_or needs replica 0) (are.reached replica some);
}

pub no_reply_at : (trace : Recording) (end replica : ℕ) (reply : Response) → reply_of trace end ≡ None → IsReplyAt trace (end + 1) replica end reply → ⊥
no_reply_at trace end replica reply none at = let is = at.is_reply in cc

pub no_call_at : (trace : Recording) (end replica : ℕ) (own reply : Response) → reply_of trace end ≡ Some own → call_of trace own.call ≡ None
    → IsReplyAt trace (end + 1) replica end reply → ⊥
no_call_at trace end replica own reply is none at =
    let other = at.is_reply in
    let same : own ≡ reply = cc in
    let made = at.is_made in
    let gone = ap (λ (r : Response). call_of trace r.call) same in
    cc

-- a reply to a call at a replica raises what the replica needs to what is known by it
pub needs_grow : (trace : Recording) (end : ℕ) (needs : List ℕ) (own : Response) (made : Invocation) → reply_of trace end ≡ Some own
    → call_of trace own.call ≡ Some made → made.replica < 4
    → AreNeeds trace end needs → AreNeeds trace (end + 1) (set needs made.replica (max (get_or needs made.replica 0) (known_by trace own)))
needs_grow trace end needs own made is is_made within are = record {
  four = length-set needs made.replica most_known ∙ are.four;
  most = λ replica index reply at. elim (cases_eq replica made.replica) [
    | inl same ↦ subst (λ r. known_by trace reply ≤ get_or grown r 0) (sym same) (subst (λ n. known_by trace reply ≤ n) (sym here)
        (elim (earlier_or_last trace end replica index reply at) [
          | inl earlier ↦ (let before = subst (λ r. known_by trace reply ≤ get_or needs r 0) same (are.most replica index reply earlier) in omega arith)
          | inr last ↦ (let now = known_now index reply last at.is_reply in omega arith)
        ]))
    | inr apart ↦ subst (λ n. known_by trace reply ≤ n) (sym (get_or-set_other needs made.replica replica most_known 0 apart))
        (elim (earlier_or_last trace end replica index reply at) [
          | inl earlier ↦ are.most replica index reply earlier
          | inr last ↦ absurd (apart (own_replica replica index reply last at))
        ])
  ];
  reached = λ replica some. elim (cases_eq replica made.replica) [
    | inl same ↦ subst (λ r. KnowsJust trace (end + 1) r (get_or grown r 0)) (sym same) (subst (λ n. KnowsJust trace (end + 1) made.replica n) (sym here)
        (by_greater (cases_lt (known_by trace own) (get_or needs made.replica 0))))
    | inr apart ↦
        let stays = get_or-set_other needs made.replica replica most_known 0 apart in
        subst (λ n. KnowsJust trace (end + 1) replica n) (sym stays)
        (later_known trace end replica (get_or needs replica 0) (are.reached replica (subst (λ n. 0 < n) stays some)))
  ];
} where
  most_known : ℕ
  most_known = max (get_or needs made.replica 0) (known_by trace own)

  grown : List ℕ
  grown = set needs made.replica most_known

  here : get_or grown made.replica 0 ≡ most_known
  here = get_or-set_same needs made.replica most_known 0 (let four = are.four in omega arith)

  same_reply : (index : ℕ) (reply : Response) → index ≡ end → reply_of trace index ≡ Some reply → own ≡ reply
  same_reply index reply last at = let there = ap (reply_of trace) last in cc

  known_now : (index : ℕ) (reply : Response) → index ≡ end → reply_of trace index ≡ Some reply → known_by trace reply ≡ known_by trace own
  known_now index reply last at = ap (known_by trace) (sym (same_reply index reply last at))

  own_replica : (replica index : ℕ) (reply : Response) → index ≡ end → IsReplyAt trace (end + 1) replica index reply → replica ≡ made.replica
  own_replica replica index reply last at =
      let one = same_reply index reply last at.is_reply in
      let two = ap (λ (r : Response). call_of trace r.call) one in
      let three = at.is_made in
      let same : made ≡ at.made = cc in
      sym at.here ∙ sym (ap (λ (m : Invocation). m.replica) same)

  last_reply : IsReplyAt trace (end + 1) made.replica end own
  last_reply = record { below = omega arith; is_reply = is; made = made; is_made = is_made; here = refl }

  by_greater : (known_by trace own < get_or needs made.replica 0) ⊎ (get_or needs made.replica 0 ≤ known_by trace own)
      → KnowsJust trace (end + 1) made.replica most_known
  by_greater (inl less) =
      let same : get_or needs made.replica 0 ≡ most_known = omega arith in
      subst (λ n. KnowsJust trace (end + 1) made.replica n) same
      (later_known trace end made.replica (get_or needs made.replica 0) (are.reached made.replica (omega arith)))
  by_greater (inr more) = record { index = end; reply = own; at = last_reply; just = let it : known_by trace own ≡ most_known = omega arith in it }

-- an event that is a reply raises what the replica of its call needs
pub needs_after_reply : (trace : Recording) (end : ℕ) (needs : List ℕ) (own : Response) → reply_of trace end ≡ Some own
    → IfSome (call_of trace own.call) (λ (made : Invocation). made.replica < 4)
    → AreNeeds trace end needs → AreNeeds trace (end + 1) (with_known needs (call_of trace own.call) (known_by trace own))
needs_after_reply trace end needs own is within are = go (call_of trace own.call) refl within where
  go : (made : Option Invocation) → made ≡ call_of trace own.call → IfSome made (λ (m : Invocation). m.replica < 4)
      → AreNeeds trace (end + 1) (with_known needs made (known_by trace own))
  go None none within = needs_stay trace end needs (λ replica other. no_call_at trace end replica own other is (sym none)) are
  go (Some made) some within = needs_grow trace end needs own made is (sym some) within are

-- ---- what is read of the trace

pub greater_is : (a b : ℕ) → ord_max nat_cmp a b ≡ max a b
greater_is a b = by_cmp (nat_cmp b a) refl where
  by_cmp : (r : Ordering) → r ≡ nat_cmp b a → cond (is_lt r) a b ≡ max a b
  by_cmp Less e = let h = ranked b a Less e in let it : a ≡ max a b = omega arith in it
  by_cmp Equal e = let h = ranked b a Equal e in let it : b ≡ max a b = omega arith in it
  by_cmp Greater e = let h = ranked b a Greater e in let it : b ≡ max a b = omega arith in it
