-- Two runs, of which the second is right from the space after the first, are one right run.
use Rattle.std.proofs.Common.{◌≡◌, ℕ, ◌+◌, ◌<◌, ◌≤◌, ◌⊎◌, inl, inr, List, ◌++◌, length, take, slice_get, Contains, Some, is_some, false, ap, sym, ◌∙◌, subst}
use Rattle.std.proofs.Common.{arith}
use Rattle.std.proofs.lemmas.List.{length-append, length-map}
use Rattle.std.proofs.lemmas.Option.{slice_get-map}
use Rattle.vs_types.specs.Config.{Layout}
use Rattle.vs_types.specs.Space.{Space}
use Rattle.vs_walk.specs.Walk.{TranslatesAs}
use Rattle.vs_walk.specs.Dump.{Image}
use Rattle.nr_trace.specs.Recording.{IsThere, Recording}
use Rattle.vs_types.specs.declared.requests.request.Query.{Query}
use Rattle.nr_trace.specs.Calls.{Invocation, call_of, request_of, operation_of, IsOrdered, IsUpdate, IsRead, Response, reply_to, IsAnswered, Precedes}
use Rattle.nr_trace.specs.Orders.{before, updates, space_from, answer_in, HasItsCalls, KeepsPrecedence, HasAnswersFrom, FitsFrom}
use Rattle.nr_trace.proofs.LawsOfLists.{In, Contains-from_in, in_from_Contains, in_left, in_right}
use Rattle.nr_trace.proofs.LawsOfLists.{in_either, in_filter, in_filtered, distinct_append, in_mapped}
use Rattle.nr_trace.proofs.LawsOfCalls.{call_within, is_some_from, ordered_from_request, ordered_is_call}
use Rattle.nr_trace.specs.Joined.{dump_behind, calls_behind, joined_traces}
use Rattle.nr_chain.specs.Joined.{Segment, both}
use Rattle.nr_chain.specs.Run.{IsRightFrom, HasFittingDumpsFrom, space_behind}
use Rattle.nr_trace.proofs.Lists.{not_in_behind, in_behind, behind_distinct, before_left, before_right, before_behind, before_in, split_at, of_mapped}
use Rattle.nr_trace.proofs.Parts.{call_left, call_right, request_left, request_right, reply_behind}
use Rattle.nr_trace.proofs.Parts.{reply_to_left, reply_to_right, HasEarlierCalls, answered_left, answered_right}
use Rattle.nr_trace.proofs.Places.{is_ordered_left, is_ordered_from_left, is_ordered_right, is_ordered_from_right, is_read_left}
use Rattle.nr_trace.proofs.Parts.{is_call_left, is_call_right, is_update_left, is_update_from_left, is_update_right}
use Rattle.nr_trace.proofs.Parts.{is_update_from_right, is_read_right, is_answered_left, is_answered_from_left, is_answered_right, is_answered_from_right}
use Rattle.nr_trace.proofs.Orders.{AreOf, updates_both, space_left, space_both, space_of_updates, taken_both}
use Rattle.nr_chain.proofs.History.{earlier_calls, history_both}

module _ (start : Space) (first second : Segment) (same_layout : second.trace.layout ≡ first.trace.layout) (is_before : IsRightFrom start first) where
  abbrev whole : Recording
  whole = joined_traces first.trace second.trace

  abbrev order : List ℕ
  order = first.order ++ calls_behind (length first.trace.events) second.order

  earlier : HasEarlierCalls first.trace
  earlier = earlier_calls first.trace is_before.events

  of_first : AreOf first.trace first.order
  of_first call i = call_within first.trace call (ordered_is_call first.trace call (is_before.members.calls call (Contains-from_in call first.order i)))

  not_in_first : (k : ℕ) → In (length first.trace.events + k) first.order → ⊥
  not_in_first k i = let l = of_first (length first.trace.events + k) i in omega arith

  -- a member of the joined order
  member_left : (call : ℕ) → call < length first.trace.events → Contains order call → In call first.order
  member_left call l m =
      by_side (in_either call first.order (calls_behind (length first.trace.events) second.order) (in_from_Contains call order m)) where
        by_side : In call first.order ⊎ In call (calls_behind (length first.trace.events) second.order) → In call first.order
        by_side (inl i) = i
        by_side (inr i) = absurd (not_in_behind (length first.trace.events) call second.order l i)

  member_right : (k : ℕ) → Contains order (length first.trace.events + k) → In k second.order
  member_right k m =
      by_side (in_either (length first.trace.events + k) first.order (calls_behind (length first.trace.events) second.order)
      (in_from_Contains (length first.trace.events + k) order m)) where
        by_side : In (length first.trace.events + k) first.order ⊎ In (length first.trace.events + k) (calls_behind (length first.trace.events) second.order)
            → In k second.order
        by_side (inl i) = absurd (not_in_first k i)
        by_side (inr i) = in_behind (length first.trace.events) k second.order i

  from_left : (call : ℕ) → In call first.order → Contains order call
  from_left call i = Contains-from_in call order (in_left call first.order (calls_behind (length first.trace.events) second.order) i)

  from_right : (k : ℕ) → In k second.order → Contains order (length first.trace.events + k)
  from_right k i =
      Contains-from_in (length first.trace.events + k) order
      (in_right (length first.trace.events + k) first.order (calls_behind (length first.trace.events) second.order)
      (in_mapped (λ (call : ℕ). length first.trace.events + call) second.order k i))

  before_first_member : (call : ℕ) → In call first.order → before call order ≡ before call first.order
  before_first_member call i = before_left call first.order (calls_behind (length first.trace.events) second.order) i

  before_second_member : (k : ℕ) → before (length first.trace.events + k) order
      ≡ first.order ++ calls_behind (length first.trace.events) (before k second.order)
  before_second_member k =
      before_right (length first.trace.events + k) first.order (calls_behind (length first.trace.events) second.order) (not_in_first k)
      ∙ ap (λ (calls : List ℕ). first.order ++ calls) (before_behind (length first.trace.events) k second.order)

  -- ---- the calls of the order

  module _ (behind : HasItsCalls second.trace second.order) where
    apart : (call : ℕ) → In call first.order → In call (calls_behind (length first.trace.events) second.order) → ⊥
    apart call i j = not_in_behind (length first.trace.events) call second.order (of_first call i) j

    calls : (call : ℕ) → Contains order call → IsOrdered whole call
    calls call m = by_side (split_at (length first.trace.events) call) where
      by_side : (call < length first.trace.events) ⊎ ((k : ℕ) × (call ≡ length first.trace.events + k)) → IsOrdered whole call
      by_side (inl l) =
          is_ordered_from_left first.trace second.trace call l (is_before.members.calls call (Contains-from_in call first.order (member_left call l m)))
      by_side (inr (k, e)) =
          let own = member_right k (subst (λ (c : ℕ). Contains order c) e m) in
          subst (λ (c : ℕ). IsOrdered whole c) (sym e)
          (is_ordered_from_right first.trace second.trace k (behind.calls k (Contains-from_in k second.order own)))

    answered : (call : ℕ) → IsOrdered whole call → IsAnswered whole call → Contains order call
    answered call c a = by_side (split_at (length first.trace.events) call) where
      by_side : (call < length first.trace.events) ⊎ ((k : ℕ) × (call ≡ length first.trace.events + k)) → Contains order call
      by_side (inl l) =
          from_left call (in_from_Contains call first.order (is_before.members.answered call (is_ordered_left first.trace second.trace call l c)
          (is_answered_left first.trace second.trace call l a)))
      by_side (inr (k, e)) =
          let own_call = is_ordered_right first.trace second.trace k (subst (λ (n : ℕ). IsOrdered whole n) e c) in
          let own_answer = is_answered_right first.trace second.trace k earlier (subst (λ (n : ℕ). IsAnswered whole n) e a) in
          subst (λ (n : ℕ). Contains order n) (sym e)
          (from_right k (in_from_Contains k second.order (behind.answered k own_call own_answer)))

    kind_left : (call : ℕ) → call < length first.trace.events → IsAnswered first.trace call ⊎ IsUpdate first.trace call
        → IsAnswered whole call ⊎ IsUpdate whole call
    kind_left call l (inl a) = inl (is_answered_from_left first.trace second.trace call l a)
    kind_left call l (inr u) = inr (is_update_from_left first.trace second.trace call l u)

    kind_right : (k : ℕ) → IsAnswered second.trace k ⊎ IsUpdate second.trace k
        → IsAnswered whole (length first.trace.events + k) ⊎ IsUpdate whole (length first.trace.events + k)
    kind_right k (inl a) = inl (is_answered_from_right first.trace second.trace k earlier a)
    kind_right k (inr u) = inr (is_update_from_right first.trace second.trace k u)

    others : (call : ℕ) → Contains order call → IsAnswered whole call ⊎ IsUpdate whole call
    others call m = by_side (split_at (length first.trace.events) call) where
      by_side : (call < length first.trace.events) ⊎ ((k : ℕ) × (call ≡ length first.trace.events + k)) → IsAnswered whole call ⊎ IsUpdate whole call
      by_side (inl l) = kind_left call l (is_before.members.others call (Contains-from_in call first.order (member_left call l m)))
      by_side (inr (k, e)) =
          let own = member_right k (subst (λ (c : ℕ). Contains order c) e m) in
          subst (λ (c : ℕ). IsAnswered whole c ⊎ IsUpdate whole c) (sym e) (kind_right k (behind.others k (Contains-from_in k second.order own)))

    members_both : HasItsCalls whole order
    members_both = record {
      once = distinct_append first.order (calls_behind (length first.trace.events) second.order) is_before.members.once
          (behind_distinct (length first.trace.events) second.order behind.once) apart;
      calls = calls;
      answered = answered;
      others = others;
    }

  -- ---- precedence

  module _ (behind : KeepsPrecedence second.trace second.order) where
    in_first : (i j : ℕ) → i < length first.trace.events → j < length first.trace.events → Contains order i → Contains order j → Precedes whole i j
        → Contains (before j order) i
    in_first i j l m has_i has_j precedes =
        let (within, answers) = answered_left first.trace second.trace precedes.1 i l precedes.3 in
        let in_i = member_left i l has_i in
        let in_j = member_left j m has_j in
        let is_call = is_call_left first.trace second.trace j m precedes.0 in
        let earlier_one = is_before.precedence i j (Contains-from_in i first.order in_i) (Contains-from_in j first.order in_j)
        (is_call, precedes.1, precedes.2, answers) in
        subst (λ (calls : List ℕ). Contains calls i) (sym (before_first_member j in_j)) earlier_one

    across : (i k : ℕ) → i < length first.trace.events → Contains order i → Contains (before (length first.trace.events + k) order) i
    across i k l has_i =
        subst (λ (calls : List ℕ). Contains calls i) (sym (before_second_member k))
        (Contains-from_in i (first.order ++ calls_behind (length first.trace.events) (before k second.order))
        (in_left i first.order (calls_behind (length first.trace.events) (before k second.order)) (member_left i l has_i)))

    not_back : (i k : ℕ) → i < length first.trace.events → Precedes whole (length first.trace.events + k) i → ⊥
    not_back i k l precedes =
        let (own, is, answers) = answered_right first.trace second.trace precedes.1 k earlier precedes.3 in
        let lower : precedes.1 < i = precedes.2 in
        omega arith

    in_second : (i j : ℕ) → Contains order (length first.trace.events + i) → Contains order (length first.trace.events + j)
        → Precedes whole (length first.trace.events + i) (length first.trace.events + j)
        → Contains (before (length first.trace.events + j) order) (length first.trace.events + i)
    in_second i j has_i has_j precedes =
        let (own, is, answers) = answered_right first.trace second.trace precedes.1 i earlier precedes.3 in
        let lower : precedes.1 < length first.trace.events + j = precedes.2 in
        let own_lower : own < j = omega arith in
        let is_call = is_call_right first.trace second.trace j precedes.0 in
        let earlier_one = behind i j (Contains-from_in i second.order (member_right i has_i)) (Contains-from_in j second.order (member_right j has_j))
        (is_call, own, own_lower, answers) in
        subst (λ (calls : List ℕ). Contains calls (length first.trace.events + i)) (sym (before_second_member j))
        (Contains-from_in (length first.trace.events + i) (first.order ++ calls_behind (length first.trace.events) (before j second.order))
        (in_right (length first.trace.events + i) first.order (calls_behind (length first.trace.events) (before j second.order))
        (in_mapped (λ (call : ℕ). length first.trace.events + call) (before j second.order) i (in_from_Contains i (before j second.order) earlier_one))))

    abbrev Side : ℕ → Type 0
    Side call = (call < length first.trace.events) ⊎ ((k : ℕ) × (call ≡ length first.trace.events + k))

    by_sides : (i j : ℕ) → Side i → Side j → Contains order i → Contains order j → Precedes whole i j → Contains (before j order) i
    by_sides i j (inl l) (inl m) has_i has_j p = in_first i j l m has_i has_j p
    by_sides i j (inl l) (inr (k, e)) has_i has_j p = subst (λ (c : ℕ). Contains (before c order) i) (sym e) (across i k l has_i)
    by_sides i j (inr (k, e)) (inl m) has_i has_j p = absurd (not_back j k m (subst (λ (c : ℕ). Precedes whole c j) e p))
    by_sides i j (inr (k, e)) (inr (q, f)) has_i has_j p =
        let own = in_second k q (subst (λ (c : ℕ). Contains order c) e has_i) (subst (λ (c : ℕ). Contains order c) f has_j)
        (subst (λ (c : ℕ). Precedes whole (length first.trace.events + k) c) f (subst (λ (c : ℕ). Precedes whole c j) e p)) in
        subst (λ (c : ℕ). Contains (before c order) i) (sym f)
        (subst (λ (c : ℕ). Contains (before (length first.trace.events + q) order) c) (sym e) own)

    precedence_both : KeepsPrecedence whole order
    precedence_both i j has_i has_j p = by_sides i j (split_at (length first.trace.events) i) (split_at (length first.trace.events) j) has_i has_j p

  -- ---- spaces

  pub of_log : AreOf first.trace first.trace.log
  of_log call i =
      of_first call (in_filter (λ (c : ℕ). is_some (operation_of first.trace c)) call first.order
      (subst (λ (calls : List ℕ). In call calls) (sym is_before.log) i)).0

  logged_space : space_behind start first ≡ space_from start first.trace first.order
  logged_space =
      ap (λ (calls : List ℕ). space_from start first.trace calls) (sym is_before.log) ∙ space_of_updates start first.trace first.order

  pub space_behind_both : space_behind start (both first second) ≡ space_behind (space_behind start first) second
  space_behind_both = space_both start first.trace second.trace first.trace.log second.trace.log same_layout of_log

  -- ---- answers

  module _ (behind : HasAnswersFrom (space_behind start first) second.trace second.order) where
    abbrev Right : ℕ → Response → Query → Type 0
    Right call reply request = reply.answer ≡ answer_in first.trace.layout (space_from start whole (before call order)) request

    right_left : (call : ℕ) (request : Query) (reply : Response) → call < length first.trace.events → request_of whole call ≡ Some request
        → reply_to whole call ≡ Some reply → Right call reply request
    right_left call request reply l asks is_reply =
        let own_asks : request_of first.trace call ≡ Some request = sym (request_left first.trace second.trace call l) ∙ asks in
        let own_reply : reply_to first.trace call ≡ Some reply = sym (reply_to_left first.trace second.trace call l) ∙ is_reply in
        let i = in_from_Contains call first.order (is_before.members.answered call (ordered_from_request first.trace call request own_asks)
        (is_some_from (reply_to first.trace call) reply own_reply)) in
        is_before.answers call request reply own_asks own_reply
        ∙ ap (λ (space : Space). answer_in first.trace.layout space request)
        (sym (ap (λ (calls : List ℕ). space_from start whole calls) (before_first_member call i)
        ∙ space_left start first.trace second.trace (before call first.order) (λ other j. of_first other (before_in other call first.order j))))

    right_right : (k : ℕ) (request : Query) (reply : Response) → request_of whole (length first.trace.events + k) ≡ Some request
        → reply_to whole (length first.trace.events + k) ≡ Some reply → Right (length first.trace.events + k) reply request
    right_right k request reply asks is_reply =
        let own_asks : request_of second.trace k ≡ Some request = sym (request_right first.trace second.trace k) ∙ asks in
        let (own, own_reply, same) = of_mapped (reply_behind (length first.trace.events) (length first.trace.log)) (reply_to second.trace k) reply
        (sym (reply_to_right first.trace second.trace k earlier) ∙ is_reply) in
        let answer : own.answer ≡ reply.answer = ap (λ (r : Response). r.answer) same in
        sym answer ∙ behind k request own own_asks own_reply
        ∙ ap (λ (layout : Layout). answer_in layout (space_from (space_behind start first) second.trace (before k second.order)) request) same_layout
        ∙ ap (λ (space : Space). answer_in first.trace.layout (space_from space second.trace (before k second.order)) request) logged_space
        ∙ ap (λ (space : Space). answer_in first.trace.layout space request)
        (sym (ap (λ (calls : List ℕ). space_from start whole calls) (before_second_member k)
        ∙ space_both start first.trace second.trace first.order (before k second.order) same_layout of_first))

    answers_both : HasAnswersFrom start whole order
    answers_both call request reply asks is_reply = by_side (split_at (length first.trace.events) call) where
      by_side : (call < length first.trace.events) ⊎ ((k : ℕ) × (call ≡ length first.trace.events + k)) → Right call reply request
      by_side (inl l) = right_left call request reply l asks is_reply
      by_side (inr (k, e)) =
          subst (λ (c : ℕ). Right c reply request) (sym e)
          (right_right k request reply (subst (λ (c : ℕ). request_of whole c ≡ Some request) e asks)
          (subst (λ (c : ℕ). reply_to whole c ≡ Some reply) e is_reply))

  -- ---- the log

  log_both : updates second.trace second.order ≡ second.trace.log → updates whole order ≡ whole.log
  log_both logged =
      updates_both first.trace second.trace first.order second.order of_first
      ∙ ap (λ (calls : List ℕ). calls ++ calls_behind (length first.trace.events) (updates second.trace second.order)) is_before.log
      ∙ ap (λ (calls : List ℕ). first.trace.log ++ calls_behind (length first.trace.events) calls) logged

  -- ---- dumps

  module _ (replica : ℕ) (dump : Image) (fits : FitsFrom (space_behind start first) second.trace second.order replica dump) where
    abbrev applied : List ℕ
    applied = take dump.applied (updates second.trace second.order)

    abbrev all_applied : List ℕ
    all_applied = take (length first.trace.log + dump.applied) (updates whole order)

    taken : all_applied ≡ first.trace.log ++ calls_behind (length first.trace.events) applied
    taken = taken_both first.trace second.trace first.order second.order dump.applied of_first is_before.log

    enough : length first.trace.log + dump.applied ≤ length (updates whole order)
    enough =
        let parts = ap (λ (calls : List ℕ). length calls) (updates_both first.trace second.trace first.order second.order of_first
        ∙ ap (λ (calls : List ℕ). calls ++ calls_behind (length first.trace.events) (updates second.trace second.order)) is_before.log) in
        let sum = length-append first.trace.log (calls_behind (length first.trace.events) (updates second.trace second.order)) in
        let kept = length-map (updates second.trace second.order) (λ (call : ℕ). length first.trace.events + call) in
        let own : dump.applied ≤ length (updates second.trace second.order) = fits.enough in
        omega arith

    translates : TranslatesAs first.trace.layout.depth dump.frames dump.root (space_from start whole all_applied)
    translates =
        subst (λ (calls : List ℕ). TranslatesAs first.trace.layout.depth dump.frames dump.root (space_from start whole calls)) (sym taken)
        (subst (λ (space : Space). TranslatesAs first.trace.layout.depth dump.frames dump.root space)
        (sym (space_both start first.trace second.trace first.trace.log applied same_layout of_log))
        (subst (λ (layout : Layout). TranslatesAs layout.depth dump.frames dump.root (space_from (space_behind start first) second.trace applied))
        same_layout fits.translates))

    has_logged : (call : ℕ) → In call first.order → IsUpdate first.trace call → Contains all_applied call
    has_logged call i u =
        subst (λ (calls : List ℕ). Contains calls call) (sym taken)
        (Contains-from_in call (first.trace.log ++ calls_behind (length first.trace.events) applied)
        (in_left call first.trace.log (calls_behind (length first.trace.events) applied)
        (subst (λ (calls : List ℕ). In call calls) is_before.log (in_filtered (λ (c : ℕ). is_some (operation_of first.trace c)) call first.order i u))))

    has_applied : (k : ℕ) → Contains applied k → Contains all_applied (length first.trace.events + k)
    has_applied k h =
        subst (λ (calls : List ℕ). Contains calls (length first.trace.events + k)) (sym taken)
        (Contains-from_in (length first.trace.events + k) (first.trace.log ++ calls_behind (length first.trace.events) applied)
        (in_right (length first.trace.events + k) first.trace.log (calls_behind (length first.trace.events) applied)
        (in_mapped (λ (call : ℕ). length first.trace.events + call) applied k (in_from_Contains k applied h))))

    own_updates : (call : ℕ) (made : Invocation) → call_of whole call ≡ Some made → made.replica ≡ replica → IsUpdate whole call → IsAnswered whole call
        → Contains all_applied call
    own_updates call made is_made here u a = by_side (split_at (length first.trace.events) call) where
      by_side : (call < length first.trace.events) ⊎ ((k : ℕ) × (call ≡ length first.trace.events + k)) → Contains all_applied call
      by_side (inl l) =
          let own_made : call_of first.trace call ≡ Some made = sym (call_left first.trace second.trace call l) ∙ is_made in
          let own_update = is_update_left first.trace second.trace call l u in
          has_logged call (in_from_Contains call first.order (is_before.members.answered call (inl own_update)
          (is_answered_left first.trace second.trace call l a))) own_update
      by_side (inr (k, e)) =
          let own_made = sym (call_right first.trace second.trace k) ∙ subst (λ (c : ℕ). call_of whole c ≡ Some made) e is_made in
          subst (λ (c : ℕ). Contains all_applied c) (sym e)
          (has_applied k (fits.own_updates k made own_made here (is_update_right first.trace second.trace k (subst (λ (c : ℕ). IsUpdate whole c) e u))
          (is_answered_right first.trace second.trace k earlier (subst (λ (c : ℕ). IsAnswered whole c) e a))))

    -- an update that comes before a read, as one of the second run
    before_right_read : (k other : ℕ) → Contains (before (length first.trace.events + k) order) (length first.trace.events + other)
        → Contains (before k second.order) other
    before_right_read k other h =
        by_side (in_either (length first.trace.events + other) first.order (calls_behind (length first.trace.events) (before k second.order))
        (in_from_Contains (length first.trace.events + other) (first.order ++ calls_behind (length first.trace.events) (before k second.order))
        (subst (λ (calls : List ℕ). Contains calls (length first.trace.events + other)) (before_second_member k) h))) where
          by_side : In (length first.trace.events + other) first.order
              ⊎ In (length first.trace.events + other) (calls_behind (length first.trace.events) (before k second.order))
              → Contains (before k second.order) other
          by_side (inl i) = absurd (not_in_first other i)
          by_side (inr i) = Contains-from_in other (before k second.order) (in_behind (length first.trace.events) other (before k second.order) i)

    stands_before : (call other : ℕ) → Contains (before call order) other → Contains order other
    stands_before call other h = Contains-from_in other order (before_in other call order (in_from_Contains other (before call order) h))

    not_before_left : (call other : ℕ) → In call first.order → Contains (before call order) (length first.trace.events + other) → ⊥
    not_before_left call other i h =
        not_in_first other (before_in (length first.trace.events + other) call first.order
        (subst (λ (calls : List ℕ). In (length first.trace.events + other) calls) (before_first_member call i)
        (in_from_Contains (length first.trace.events + other) (before call order) h)))

    read_right : (call other : ℕ) (made : Invocation) → call_of whole call ≡ Some made → made.replica ≡ replica → IsRead whole call → IsAnswered whole call
        → IsUpdate whole (length first.trace.events + other) → Contains (before call order) (length first.trace.events + other)
        → Contains applied other
    read_right call other made is_made here r a u h = by_side (split_at (length first.trace.events) call) where
      by_side : (call < length first.trace.events) ⊎ ((k : ℕ) × (call ≡ length first.trace.events + k)) → Contains applied other
      by_side (inl l) =
          let own_made : call_of first.trace call ≡ Some made = sym (call_left first.trace second.trace call l) ∙ is_made in
          absurd (not_before_left call other (in_from_Contains call first.order (is_before.members.answered call
          (inr (is_read_left first.trace second.trace call l r)) (is_answered_left first.trace second.trace call l a))) h)
      by_side (inr (k, e)) =
          let own_made = sym (call_right first.trace second.trace k) ∙ subst (λ (c : ℕ). call_of whole c ≡ Some made) e is_made in
          fits.own_reads k other made own_made here (is_read_right first.trace second.trace k (subst (λ (c : ℕ). IsRead whole c) e r))
          (is_answered_right first.trace second.trace k earlier (subst (λ (c : ℕ). IsAnswered whole c) e a))
          (is_update_right first.trace second.trace other u)
          (before_right_read k other (subst (λ (c : ℕ). Contains (before c order) (length first.trace.events + other)) e h))

    own_reads : (call other : ℕ) (made : Invocation) → call_of whole call ≡ Some made → made.replica ≡ replica → IsRead whole call → IsAnswered whole call
        → IsUpdate whole other → Contains (before call order) other → Contains all_applied other
    own_reads call other made is_made here r a u h = by_side (split_at (length first.trace.events) other) where
      by_side : (other < length first.trace.events) ⊎ ((k : ℕ) × (other ≡ length first.trace.events + k)) → Contains all_applied other
      by_side (inl l) = has_logged other (member_left other l (stands_before call other h)) (is_update_left first.trace second.trace other l u)
      by_side (inr (k, e)) =
          subst (λ (c : ℕ). Contains all_applied c) (sym e)
          (has_applied k (read_right call k made is_made here r a (subst (λ (c : ℕ). IsUpdate whole c) e u)
          (subst (λ (c : ℕ). Contains (before call order) c) e h)))

    fits_both : FitsFrom start whole order replica (dump_behind (length first.trace.log) dump)
    fits_both = record { enough = enough; translates = translates; own_updates = own_updates; own_reads = own_reads }

  pub dumps_both : HasFittingDumpsFrom (space_behind start first) second → HasFittingDumpsFrom start (both first second)
  dumps_both behind replica dump is there =
      let (own, own_is, same) = of_mapped (dump_behind (length first.trace.log)) (slice_get second.trace.dumps replica) dump
      (sym (slice_get-map (dump_behind (length first.trace.log)) second.trace.dumps replica) ∙ is) in
      subst (λ (d : Image). FitsFrom start whole order replica d) same (fits_both replica own (behind replica own own_is (subst IsThere (sym same) there)))

  pub right_both : IsRightFrom (space_behind start first) second → IsRightFrom start (both first second)
  right_both behind = record {
    events = history_both first.trace second.trace is_before.events behind.events;
    members = members_both behind.members;
    precedence = precedence_both behind.precedence;
    answers = answers_both behind.answers;
    log = log_both behind.log;
    dumps = dumps_both behind.dumps;
  }
