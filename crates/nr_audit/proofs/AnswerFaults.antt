-- The answers of a trace, against the space after the calls that come before in the recorded order.
use Rattle.std.proofs.Common.{◌≡◌, ℕ, zero, suc, ◌+◌, ◌<◌, ◌≤◌, true, false, List, [], ◌∷◌, length, take, get_or, Some, None, Option, refl, sym, ap}
use Rattle.std.proofs.Common.{subst, ◌∙◌}
use Rattle.std.proofs.Common.{inl, inr, arith}
use Rattle.std.specs.Prelude.{is_some, option_and_then, option_map, Contains, IfSome, ◌==◌, nat_eq}
use Rattle.std.specs.List.{IsDistinct, AllByRecursion, position_or_len, cons_option}
use Rattle.std.proofs.lemmas.Bool.{cases_lt, cond-true, cond-false, false≢true, eq-eqb, eqb-true, ne_eqb}
use Rattle.std.proofs.lemmas.List.{length-take, length-take-le, take_more}
use Rattle.std.proofs.lemmas.List.Sums.{position_or_len_is, passes_at_first}
use Rattle.std.proofs.lemmas.List.Elements.{filter_map-append, at_from_Contains}
use Rattle.vs_types.specs.Config.{Layout}
use Rattle.vs_types.specs.Space.{Space}
use Rattle.vs_types.specs.Step.{step, after_all}
use Rattle.vs_types.specs.declared.requests.op.Action.{Action}
use Rattle.vs_types.specs.declared.requests.request.Query.{Query}
use Rattle.vs_types.specs.declared.requests.request.Query.TheVariants.{Update, Resolve, Access}
use Rattle.vs_types.specs.declared.requests.answer.Answer.{Answer}
use Rattle.vs_types.proofs.Afterwards.{after_all-append}
use Rattle.vs_plain.specs.Plain.{BoundedSpace}
use Rattle.nr_trace.specs.Recording.{Recording}
use Rattle.nr_trace.specs.Calls.{Response, operation_in, operation_of, request_of, reply_to}
use Rattle.nr_trace.specs.Orders.{before, updates, operations, space_from, answer_in, recorded_order}
use Rattle.nr_trace.specs.Faults.{Earlier, IsWrongFrom}
use Rattle.nr_trace.specs.Laws.{HasCleanLog}
use Rattle.nr_trace.specs.declared.refusals.fault.Fault.{Fault}
use Rattle.nr_trace.specs.declared.refusals.fault.Fault.TheVariants.{WrongAnswer}
use Rattle.nr_trace.proofs.LawsOfOrder.{order_distinct, updates_of_order}
use Rattle.nr_trace.proofs.LawsOfFaults.{below_from_less, wrong_is_member}
use Rattle.nr_audit.specs.inside.Search.{HasFaultOn, HasNoneFrom, IsFirstAmongFrom}
use Rattle.nr_audit.specs.inside.Passes.{IsAnswerFault}
use Rattle.nr_audit.specs.Served.{Serves}
use Rattle.nr_audit.specs.Verdict.{space_of}
use Rattle.nr_audit.specs.inside.Replies.{answer_to}

-- ---- where a call is among distinct ones

apart_at : (x : ℕ) (xs : List ℕ) (k d : ℕ) → AllByRecursion (λ y. nat_eq x y ≡ false) xs → k < length xs → get_or xs k d ≡ x → ⊥
apart_at x [] k d h lt e = absurd (omega arith)
apart_at x (y ∷ ys) zero d h lt e = false≢true (sym h.0 ∙ eq-eqb x y (sym e))
apart_at x (y ∷ ys) (suc k) d h lt e = apart_at x ys k d h.1 (omega arith) e

distinct_at : (xs : List ℕ) (j k d : ℕ) → IsDistinct nat_eq xs → j < k → k < length xs → get_or xs j d ≡ get_or xs k d → ⊥
unfolding IsDistinct
distinct_at (x ∷ xs) zero (suc k) d h lt within e = apart_at x xs k d h.0 (omega arith) (sym e)
distinct_at (x ∷ xs) (suc j) (suc k) d h lt within e = distinct_at xs j k d h.1 (omega arith) (omega arith) e
distinct_at _ j _ d h lt within e = absurd (omega arith)

place_of : (xs : List ℕ) (k d : ℕ) → IsDistinct nat_eq xs → k < length xs → position_or_len (λ other. other == get_or xs k d) xs ≡ k
place_of xs k d distinct within = position_or_len_is (λ other. other == get_or xs k d) xs k d (omega arith)
    (λ j lt. apart (get_or xs j d) (get_or xs k d) (distinct_at xs j k d distinct lt within))
    (λ _. eq-eqb (get_or xs k d) (get_or xs k d) refl) where
      apart : (a b : ℕ) → (a ≡ b → ⊥) → (a == b) ≡ false
      apart a b = ne_eqb a b

-- the calls before the one at a place are those of the places before
pub before_at : (xs : List ℕ) (k d : ℕ) → IsDistinct nat_eq xs → k < length xs → before (get_or xs k d) xs ≡ take k xs
before_at xs k d distinct within = ap (λ n. take n xs) (place_of xs k d distinct within)

-- a call with fewer calls before it is at that place
pub stands_there : (xs : List ℕ) (call k d : ℕ) → length (before call xs) < k → k ≤ length xs → (j : ℕ) × (j < k) × (get_or xs j d ≡ call)
stands_there xs call k d lt within =
    let p = position_or_len (λ other. other == call) xs in
    elim (cases_lt p (length xs)) [
      | inl low ↦ (p, omega (arith, length-take-le p xs (omega arith)), eqb-true (get_or xs p d) call (passes_at_first (λ other. other == call) xs d low))
      | inr past ↦ absurd (omega (arith, length-take p xs))
    ]

-- ---- the space after a call

-- the space that a request leaves
pub served : Layout → Space → Query → Space
served layout space (Update action) = (step layout.depth layout.tables space action).space
served layout space _ = space

pub answered : (layout : Layout) (space : Space) (query : Query) (answer : Answer) (new : BoundedSpace) → Serves (space_of layout space) query answer new
    → answer ≡ answer_in layout space query
answered layout space (Update action) answer new h = h.0
answered layout space _ answer new h = h.0

pub left : (layout : Layout) (space : Space) (query : Query) (answer : Answer) (new : BoundedSpace) → Serves (space_of layout space) query answer new
    → new ≡ space_of layout (served layout space query)
unfolding served
left layout space (Update action) answer new h = h.1
left layout space _ answer new h = h.1

more : (start : Space) (trace : Recording) (order : List ℕ) (k d : ℕ) → k < length order
    → space_from start trace (take (k + 1) order)
    ≡ after_all trace.layout.depth trace.layout.tables (space_from start trace (take k order)) (operations trace (get_or order k d ∷ []))
more start trace order k d within =
    ap (λ xs. space_from start trace xs) (take_more order k d within)
    ∙ ap (λ xs. after_all trace.layout.depth trace.layout.tables start xs) (filter_map-append (operation_of trace) (take k order) (get_or order k d ∷ []))
    ∙ after_all-append trace.layout.depth trace.layout.tables start (operations trace (take k order)) (operations trace (get_or order k d ∷ []))

-- what a request says of its call
pub operation_by : (trace : Recording) (call : ℕ) (query : Option Query) → query ≡ request_of trace call
    → operation_of trace call ≡ option_and_then operation_in query
operation_by trace call query e = ap (λ q. option_and_then operation_in q) (sym e)

-- what is no call leaves the space
pub space_stays : (start : Space) (trace : Recording) (order : List ℕ) (k d : ℕ) → k < length order
    → request_of trace (get_or order k d) ≡ None
    → space_from start trace (take k order) ≡ space_from start trace (take (k + 1) order)
space_stays start trace order k d within none =
    sym (more start trace order k d within
    ∙ ap (λ o. after_all trace.layout.depth trace.layout.tables (space_from start trace (take k order)) (cons_option o []))
    (operation_by trace (get_or order k d) None (sym none)))

-- a call leaves the space that its request leaves
pub space_visits : (start : Space) (trace : Recording) (order : List ℕ) (k d : ℕ) (query : Query) → k < length order
    → Some query ≡ request_of trace (get_or order k d)
    → served trace.layout (space_from start trace (take k order)) query ≡ space_from start trace (take (k + 1) order)
unfolding served
space_visits start trace order k d (Update action) within asks =
    sym (more start trace order k d within
    ∙ ap (λ o. after_all trace.layout.depth trace.layout.tables (space_from start trace (take k order)) (cons_option o []))
    (operation_by trace (get_or order k d) (Some (Update action)) asks))
space_visits start trace order k d (Resolve address) within asks =
    sym (more start trace order k d within
    ∙ ap (λ o. after_all trace.layout.depth trace.layout.tables (space_from start trace (take k order)) (cons_option o []))
    (operation_by trace (get_or order k d) (Some (Resolve address)) asks))
space_visits start trace order k d (Access address mode access) within asks =
    sym (more start trace order k d within
    ∙ ap (λ o. after_all trace.layout.depth trace.layout.tables (space_from start trace (take k order)) (cons_option o []))
    (operation_by trace (get_or order k d) (Some (Access address mode access)) asks))

pub operations_of_updates : (trace : Recording) (xs : List ℕ) → operations trace (updates trace xs) ≡ operations trace xs
operations_of_updates trace [] = refl
operations_of_updates trace (x ∷ xs) = by_case (operation_of trace x) refl (operations_of_updates trace xs) where
  by_case : (o : Option Action) → operation_of trace x ≡ o → operations trace (updates trace xs) ≡ operations trace xs
      → operations trace (updates trace (x ∷ xs)) ≡ operations trace (x ∷ xs)
  by_case None none rest =
      ap (λ ys. operations trace ys) (cond-false (is_some (operation_of trace x)) (x ∷ updates trace xs) (updates trace xs) (ap is_some none))
      ∙ rest ∙ sym (ap (λ o. cons_option o (operations trace xs)) none)
  by_case (Some action) some rest =
      ap (λ ys. operations trace ys) (cond-true (is_some (operation_of trace x)) (x ∷ updates trace xs) (updates trace xs) (ap is_some some))
      ∙ ap (λ ys. cons_option (operation_of trace x) ys) rest

-- the recorded order leaves the space that the log does
pub space_of_order : (start : Space) (trace : Recording) (order : List ℕ) → HasCleanLog trace → order ≡ recorded_order trace
    → space_from start trace order ≡ space_from start trace trace.log
space_of_order start trace order clean listed =
    ap (λ xs. space_from start trace xs) listed
    ∙ ap (λ xs. after_all trace.layout.depth trace.layout.tables start xs)
    (sym (operations_of_updates trace (recorded_order trace)) ∙ ap (λ xs. operations trace xs) (updates_of_order trace clean))

-- ---- answers

-- the reply that gives an answer
response_of : (o : Option Response) (answer : Answer) → Some answer ≡ option_map (λ (r : Response). r.answer) o
    → (response : Response) × (o ≡ Some response) × (response.answer ≡ answer)
response_of None answer e = absurd (cc)
response_of (Some response) answer e = (response, refl, cc)

module _ (start : Space) (trace : Recording) (order : List ℕ) (listed : order ≡ recorded_order trace) (clean : HasCleanLog trace) where
  distinct : IsDistinct nat_eq order
  distinct = subst (λ xs. IsDistinct nat_eq xs) (sym listed) (order_distinct trace clean)

  -- the calls before that of a place in the recorded order
  before_here : (k : ℕ) → k < length order → before (get_or order k 0) (recorded_order trace) ≡ take k order
  before_here k within = subst (λ xs. before (get_or order k 0) xs ≡ take k order) listed (before_at order k 0 distinct within)

  -- an answer that is given and is not the space's is wrong
  pub wrong_here : (k : ℕ) (query : Query) (answer : Answer) (told : Option Answer) → k < length order
      → Some query ≡ request_of trace (get_or order k 0)
      → answer ≡ answer_in trace.layout (space_from start trace (take k order)) query → told ≡ answer_to trace (get_or order k 0)
      → (IfSome told (λ t. t ≡ answer) → ⊥) → IsWrongFrom start trace (get_or order k 0)
  wrong_here k query answer None within asks gives is differs = absurd (differs tt)
  wrong_here k query answer (Some told) within asks gives is differs =
      let reply = response_of (reply_to trace (get_or order k 0)) told is in
      record {
        request = query;
        asks = sym asks;
        reply = reply.0;
        is_reply = reply.1;
        differs = λ same. differs (sym reply.2 ∙ same
            ∙ ap (λ xs. answer_in trace.layout (space_from start trace xs) query) (before_here k within) ∙ sym gives);
      }

  -- one that is given, if any is, and is the space's is not
  pub right_here : (k : ℕ) (query : Query) (answer : Answer) (told : Option Answer) → k < length order
      → Some query ≡ request_of trace (get_or order k 0)
      → answer ≡ answer_in trace.layout (space_from start trace (take k order)) query → told ≡ answer_to trace (get_or order k 0)
      → IfSome told (λ t. t ≡ answer) → IsWrongFrom start trace (get_or order k 0) → ⊥
  right_here k query answer told within asks gives is agrees wrong =
      let two = wrong.asks in
      let same : query ≡ wrong.request = cc in
      let here = is ∙ ap (λ o. option_map (λ (r : Response). r.answer) o) wrong.is_reply in
      wrong.differs (subst (λ o. IfSome o (λ t. t ≡ answer)) here agrees ∙ gives
      ∙ ap (λ q. answer_in trace.layout (space_from start trace (take k order)) q) same
      ∙ ap (λ xs. answer_in trace.layout (space_from start trace xs) wrong.request) (sym (before_here k within)))

  -- what asks nothing, or is a touch, has no wrong answer
  pub no_call_is_right : (call : ℕ) → request_of trace call ≡ None → IsWrongFrom start trace call → ⊥
  no_call_is_right call none wrong = let some = wrong.asks in cc

  -- the first wrong answer in the recorded order is the first of all
  pub first_wrong : (k : ℕ) → k < length order → ((j : ℕ) → j < k → IsWrongFrom start trace (get_or order j 0) → ⊥) → IsWrongFrom start trace (get_or order k 0)
      → IsFirstAmongFrom start IsAnswerFault trace (WrongAnswer (get_or order k 0))
  first_wrong k within none wrong = record {
    is_among = tt;
    holds = wrong;
    none_earlier = λ other among holds earlier. no_earlier other among holds earlier;
  } where
    no_earlier : (other : Fault) → IsAnswerFault other → HasFaultOn start trace other → Earlier trace other (WrongAnswer (get_or order k 0)) → ⊥
    no_earlier (WrongAnswer call) among holds earlier =
        let counted = ap length (before_here k within) in
        let taken = length-take-le k order (omega arith) in
        elim (below_from_less 6 (length (before call (recorded_order trace))) 10 6 (length (before (get_or order k 0) (recorded_order trace))) 10 earlier) [
          | inl low ↦ omega arith
          | inr rest ↦ elim rest [
            | inl less ↦
                let low = less.1 in
                let there = stands_there order call k 0 (subst (λ xs. length (before call xs) < k) (sym listed) (omega arith)) (omega arith) in
                none there.0 there.1 (subst (λ c. IsWrongFrom start trace c) (sym there.2) holds)
            | inr also ↦ (let low = also.2 in omega arith)
          ]
        ]
    no_earlier other among holds earlier = among

  -- where no call of the recorded order is answered wrongly, none is
  pub none_wrong : ((j : ℕ) → j < length order → IsWrongFrom start trace (get_or order j 0) → ⊥) → HasNoneFrom start IsAnswerFault trace
  none_wrong none (WrongAnswer call) among holds =
      let there = at_from_Contains order call (subst (λ xs. Contains xs call) (sym listed) (wrong_is_member start trace call clean holds)) in
      none there.0 there.1 (subst (λ c. IsWrongFrom start trace c) (sym (there.2 0)) holds)
  none_wrong none other among holds = among

-- one more place that is not wrong
pub right_more : (start : Space) (trace : Recording) (order : List ℕ) (k : ℕ) → ((j : ℕ) → j < k → IsWrongFrom start trace (get_or order j 0) → ⊥)
    → (IsWrongFrom start trace (get_or order k 0) → ⊥) → (j : ℕ) → j < k + 1 → IsWrongFrom start trace (get_or order j 0) → ⊥
right_more start trace order k below here j lt wrong = elim (cases_lt j k) [
  | inl low ↦ below j low wrong
  | inr same ↦ here (subst (λ i. IsWrongFrom start trace (get_or order i 0)) (let it : j ≡ k = omega arith in it) wrong)
]
