-- What a pen holds stays true as it draws stamps.
use Rattle.std.proofs.Common.{◌≡◌, ℕ, zero, suc, ◌+◌, ◌<◌, ◌≤◌, List, [], ◌∷◌, ◌++◌, All, Contains, length, get_or, take, drop, map, cond, refl, ap, sym, ◌∙◌}
use Rattle.std.proofs.Common.{subst, arith, ◌*◌, Option}
use Rattle.std.specs.Prelude.{None, Some, sum}
use Rattle.std.proofs.Math.ListN.{length-append}
use Rattle.std.proofs.lemmas.List.{map-append}
use Rattle.std.proofs.lemmas.List.Sums.{sum_by-append, sum_by-drop_more}
use Rattle.std.proofs.lemmas.List.Elements.{All-push, Contains-append_left, Contains-push}
use Rattle.vs_types.specs.Config.{Layout}
use Rattle.vs_types.specs.Query.{IsQuery}
use Rattle.vs_types.specs.declared.requests.answer.Answer.{Answer}
use Rattle.vs_types.specs.declared.requests.request.Query.{Query}
use Rattle.nr_trace.proofs.LawsOfLists.{All-unmap}
use Rattle.nr_trace.specs.Recording.{IsEvent}
use Rattle.nr_trace.specs.declared.recordings.event.Event.{Event}
use Rattle.nr_trace.specs.declared.recordings.event.Event.TheVariants.{Call, Reply}
use Rattle.nr_trace.specs.declared.recordings.event.Asked.TheVariants as askeds
use Rattle.nr_trace.specs.declared.formats.version.Version.TheVariants.{V2}
use Rattle.nr_record.specs.Pen.{ClockId, PenState, call_by, calls_in, is_call, new_pen, new_pens, stamped}
use Rattle.nr_record.specs.Rule.{HasDrawn}
use Rattle.nr_record.specs.Stamps.{Rise}
use Rattle.nr_record.specs.inside.Held.{IsHeld, IsOwn, IsWaiting, waits}
use Rattle.nr_record.specs.declared.stamped.Stamped.{Stamped}
use Rattle.nr_record.specs.declared.view.View.{View}

rise_push : (xs : List ℕ) (x : ℕ) → Rise xs → All (λ s. s < x) xs → Rise (xs ++ x ∷ [])
rise_push [] x rise below = ((λ k d lt. absurd (omega arith)), tt)
rise_push (s ∷ ss) x rise below =
    (All-push (λ later. s < later) ss x rise.0 (below 0 0 (omega arith)), rise_push ss x rise.1 (λ k d lt. below (suc k) d (omega arith)))

own_more : (layout : Layout) (thread : ℕ) (made : List Stamped) (item : Stamped) (event : Event) → IsOwn layout thread made event
    → IsOwn layout thread (made ++ item ∷ []) event
own_more layout thread made item (Reply call at answer) own = (own.0, Contains-append_left made (item ∷ []) (stamped call (call_by layout thread own.0)) own.1)
own_more layout thread made item _ own = own

calls_more : (made : List Stamped) (item : Stamped) → calls_in (made ++ item ∷ []) ≡ calls_in made + cond (is_call item.event) 1 0
calls_more made item = omega (arith, sum_by-append (λ (other : Stamped). cond (is_call other.event) 1 0) made (item ∷ []))

pub later_made : (made : List Stamped) (stamps : List ℕ) (stamp : ℕ) → map (λ item. item.stamp) made ≡ stamps → All (λ s. s < stamp) stamps
    → All (λ item. item.stamp < stamp) made
later_made made stamps stamp same below =
    All-unmap (λ s. s < stamp) (λ (item : Stamped). item.stamp) made (subst (λ (xs : List ℕ). All (λ s. s < stamp) xs) (sym same) below)

-- a pen that holds its notes has drawn one more stamp, and notes an event with it
held_more : (view after : View) (replica thread stamp room room' : ℕ) (waiting waiting' : Option ℕ) (made : List Stamped) (event : Event)
    → IsHeld view replica thread waiting room made → HasDrawn view stamp after → IsEvent V2 view.plan.config event
    → IsOwn view.plan.config thread (made ++ stamped stamp event ∷ []) event → IsWaiting view.plan.config thread (made ++ stamped stamp event ∷ []) waiting'
    → 1 + waits waiting' ≡ waits waiting + 2 * cond (is_call event) 1 0 → calls_in made + cond (is_call event) 1 0 ≤ view.quota → room ≤ room'
    → IsHeld after replica thread waiting' room' (made ++ stamped stamp event ∷ [])
held_more view after replica thread stamp room room' waiting waiting' made event is drawn fits own waits_on pair left more =
    let item : Stamped = stamped stamp event in
    let long = length-append made (item ∷ []) in
    let calls = calls_more made item in
    subst (λ (v : View). IsHeld v replica thread waiting' room' (made ++ item ∷ [])) (sym drawn.view) (record {
      same = map-append (λ (other : Stamped). other.stamp) made (item ∷ []) ∙ ap (λ (xs : List ℕ). xs ++ stamp ∷ []) is.same;
      replica_is = is.replica_is;
      is_replica = is.is_replica;
      is_thread = is.is_thread;
      room_is = omega (arith, is.room_is, more);
      pairs = omega (arith, is.pairs, long, calls, pair);
      within = omega (arith, calls, left);
      rising = rise_push view.stamps stamp is.rising drawn.later;
      events = All-push (λ (other : Stamped). IsEvent V2 view.plan.config other.event) made item is.events fits;
      own = All-push (λ (other : Stamped). IsOwn view.plan.config thread (made ++ item ∷ []) other.event) made item
          (λ k d lt. own_more view.plan.config thread made item (get_or made k d).event (is.own k d lt)) own;
      is_waiting = waits_on;
    })

-- for a call of its thread
pub held_call : (view after : View) (replica thread stamp room room' : ℕ) (made : List Stamped) (request : Query)
    → IsHeld view replica thread None room made → HasDrawn view stamp after → calls_in made < view.quota → IsQuery view.plan.config.depth request
    → room ≤ room' → IsHeld after replica thread (Some stamp) room' (made ++ stamped stamp (Call replica thread (askeds.Request request)) ∷ [])
held_call view after replica thread stamp room room' made request is drawn left fits more =
    let item : Stamped = stamped stamp (Call replica thread (askeds.Request request)) in
    held_more view after replica thread stamp room room' None (Some stamp) made item.event is drawn (is.is_replica, is.is_thread, fits, tt)
    (is.replica_is, refl)
    (request, subst (λ (n : ℕ). Contains (made ++ item ∷ []) (stamped stamp (Call n thread (askeds.Request request)))) is.replica_is (Contains-push made item))
    refl (omega (arith, left)) more

-- and for the reply to its call
pub held_reply : (view after : View) (replica thread stamp room room' call at : ℕ) (made : List Stamped) (answer : Answer)
    → IsHeld view replica thread (Some call) room made → HasDrawn view stamp after → IsEvent V2 view.plan.config (Reply call at answer)
    → room ≤ room' → IsHeld after replica thread None room' (made ++ stamped stamp (Reply call at answer) ∷ [])
held_reply view after replica thread stamp room room' call at made answer is drawn fits more =
    held_more view after replica thread stamp room room' (Some call) None made (Reply call at answer) is drawn fits (
      is.is_waiting.0,
      Contains-append_left made (stamped stamp (Reply call at answer) ∷ []) (stamped call (call_by view.plan.config thread is.is_waiting.0))
          is.is_waiting.1,
    ) tt refl (omega (arith, is.within)) more

new_pens_next : (clock : ClockId) (thread : ℕ) (quotas : List ℕ) (k : ℕ) → k < length quotas
    → new_pens clock thread (take (suc k) quotas) ≡ new_pens clock thread (take k quotas) ++ new_pen clock (thread + k) (get_or quotas k 0) ∷ []
new_pens_next clock thread [] k lt = absurd (omega arith)
new_pens_next clock thread (q ∷ qs) zero lt = ap (λ n. new_pen clock n q ∷ []) (omega arith)
new_pens_next clock thread (q ∷ qs) (suc k) lt =
    let rest : List PenState = new_pens clock (thread + 1) (take k qs) in
    let next : (thread + 1) + k ≡ thread + suc k = omega arith in
    let more = new_pens_next clock (thread + 1) qs k (omega arith) ∙ ap (λ (n : ℕ). rest ++ new_pen clock n (get_or qs k 0) ∷ []) next in
    ap (λ (ps : List PenState). new_pen clock thread q ∷ ps) more

pub new_pens_more : (clock : ClockId) (quotas : List ℕ) (k : ℕ) → k < length quotas
    → new_pens clock 0 (take (k + 1) quotas) ≡ new_pens clock 0 (take k quotas) ++ new_pen clock k (get_or quotas k 0) ∷ []
new_pens_more clock quotas k lt =
    let next : k + 1 ≡ suc k = omega arith in
    let same : 0 + k ≡ k = omega arith in
    ap (λ (n : ℕ). new_pens clock 0 (take n quotas)) next ∙ new_pens_next clock 0 quotas k lt
    ∙ ap (λ (n : ℕ). new_pens clock 0 (take k quotas) ++ new_pen clock n (get_or quotas k 0) ∷ []) same

pub sum_drop : (quotas : List ℕ) (k : ℕ) → k < length quotas → sum (drop k quotas) ≡ get_or quotas k 0 + sum (drop (k + 1) quotas)
sum_drop quotas k lt = sum_by-drop_more (λ (q : ℕ). q) quotas k 0 lt
