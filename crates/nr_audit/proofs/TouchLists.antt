-- The touches of a segment by the events at which they are made.
use Rattle.std.proofs.Common.{◌≡◌, ℕ, zero, suc, ◌+◌, ◌<◌, ◌⊎◌, List, [], ◌∷◌, ◌++◌, length, slice_get, get_or, Option, Some, None, option_and_then}
use Rattle.std.proofs.Common.{option_map, inl, inr, Bor, is_some, IsSome, true, false, refl, sym, ap}
use Rattle.std.proofs.Common.{◌∙◌, subst, arith}
use Rattle.std.specs.Prelude.{if◌then◌else◌, ◌==◌, IfNone, IfSome}
use Rattle.std.specs.List.{AllPairs}
use Rattle.std.specs.Option.{option_copied}
use Rattle.std.proofs.lemmas.Bool.{cases_lt, eq-eqb}
use Rattle.std.proofs.lemmas.List.{length-append}
use Rattle.std.proofs.lemmas.Option.{same_Some, slice_get_within, slice_get-get_or, get_or_from_slice_get}
use Rattle.vs_types.specs.Space.{Space}
use Rattle.vs_types.specs.declared.addresses.access.Access.{Access}
use Rattle.vs_types.specs.declared.addresses.access.Mode.{Mode}
use Rattle.nr_trace.specs.Recording.{Recording}
use Rattle.nr_trace.specs.Calls.{Invocation, made_by, unordered_in, operation_of, touch_of, Response, reply_in, reply_of, Answers}
use Rattle.nr_trace.specs.declared.recordings.event.Event.{Event}
use Rattle.nr_trace.specs.declared.recordings.event.Event.TheVariants as events
use Rattle.nr_trace.specs.declared.recordings.event.Asked.{Asked}
use Rattle.nr_trace.specs.declared.recordings.event.Asked.TheVariants as askeds
use Rattle.nr_trace.specs.Run.{Run}
use Rattle.nr_touch.specs.Stale.{FindsStale}
use Rattle.nr_touch.specs.declared.touches.touch.Touch.{Touch}
use Rattle.nr_audit.specs.Touches.{known_when, HasRightTouches, HasTouch, IsStale}
use Rattle.nr_audit.specs.Met.{AreTouchesOf}
use Rattle.nr_audit.specs.inside.Begun.{is_protect, touch_by, touch_between, AreTouchesBelow, IsPlaceAnswered, IsPlacePlain, IsFirstStale, IsTouchAt}
use Rattle.nr_audit.specs.inside.Tables.{IsReplyBelow}
use Rattle.nr_audit.proofs.CallsAndReplies.{answers_only}

abbrev asked_in : Option Event → Option Asked
asked_in event = option_and_then (λ (made : Invocation). unordered_in made.asked) (option_and_then made_by event)

-- an event that asks for a touch is that touch
of_asked : (event : Option Event) (address : ℕ) (mode : Mode) (access : Access) → asked_in event ≡ Some (askeds.Touch address mode access)
    → (replica : ℕ) × (thread : ℕ) × (event ≡ Some (events.Call replica thread (askeds.Touch address mode access)))
of_asked (Some (events.Call replica thread (askeds.Touch own_address own_mode own_access))) address mode access e = (replica, thread, cc)
of_asked _ address mode access e = cc

of_replied : (event : Option Event) (reply : Response) → option_and_then reply_in event ≡ Some reply
    → event ≡ Some (events.Reply reply.call reply.at reply.answer)
of_replied (Some (events.Reply call at answer)) reply e =
    let same : record { call = call; at = at; answer = answer } ≡ reply = cc in
    ap (λ (r : Response). Some (events.Reply r.call r.at r.answer)) same
of_replied _ reply e = cc

-- a touch of the segment lies between its events
pub has_between : (segment : Recording) (touch : Touch) → HasTouch segment touch → touch_between segment touch.made touch.answered ≡ Some touch
has_between segment touch has =
    let asked = of_asked (slice_get segment.events touch.made) touch.address touch.mode touch.access has.asks in
    let replied = of_replied (slice_get segment.events touch.answered) has.reply has.is_reply in
    ap (λ known. touch_by touch.made touch.answered known (slice_get segment.events touch.made) (slice_get segment.events touch.answered)) (sym has.known)
    ∙ ap (λ event. touch_by touch.made touch.answered touch.known event (slice_get segment.events touch.answered)) asked.2
    ∙ ap (λ event. touch_by touch.made touch.answered touch.known
    (Some (events.Call asked.0 asked.1 (askeds.Touch touch.address touch.mode touch.access))) event) replied
    ∙ ap (λ answer. Some (record touch { answer = answer })) has.answer

-- what lies between two events is a touch of the segment, where the second answers the first
record Lies (segment : Recording) (made answered : ℕ) (touch : Touch) : Type 0 where
  pub made_so : touch.made ≡ made
  pub answered_so : touch.answered ≡ answered
  pub known_so : touch.known ≡ known_when segment made
  pub asks : asked_in (slice_get segment.events made) ≡ Some (askeds.Touch touch.address touch.mode touch.access)
  pub call : ℕ
  pub at : ℕ
  pub replies : option_and_then reply_in (slice_get segment.events answered) ≡ Some (record { call = call; at = at; answer = touch.answer })

lies_by : (segment : Recording) (made answered : ℕ) (touch : Touch) (asked replied : Option Event) → slice_get segment.events made ≡ asked
    → slice_get segment.events answered ≡ replied → touch_by made answered (known_when segment made) asked replied ≡ Some touch
    → Lies segment made answered touch
lies_by segment made answered touch (Some (events.Call replica thread (askeds.Touch address mode access))) (Some (events.Reply call at answer)) a r e =
    let same : record { made = made; answered = answered; known = known_when segment made; address = address; mode = mode; access = access; answer = answer }
    ≡ touch = cc in
    subst (Lies segment made answered) same record {
      made_so = refl;
      answered_so = refl;
      known_so = refl;
      asks = ap asked_in a;
      call = call;
      at = at;
      replies = ap (option_and_then reply_in) r;
    }
lies_by segment made answered touch _ _ a r e = cc

pub between_has : (segment : Recording) (made answered : ℕ) (touch : Touch) → touch_between segment made answered ≡ Some touch
    → Answers segment answered made → HasTouch segment touch × (touch.made ≡ made) × (touch.answered ≡ answered)
between_has segment made answered touch e answers =
    let lies = lies_by segment made answered touch (slice_get segment.events made) (slice_get segment.events answered) refl refl e in
    let reply : Response = record { call = lies.call; at = lies.at; answer = touch.answer } in (
      record {
        asks = subst (λ call. touch_of segment call ≡ Some (askeds.Touch touch.address touch.mode touch.access)) (sym lies.made_so) lies.asks;
        reply = reply;
        is_reply = subst (λ index. reply_of segment index ≡ Some reply) (sym lies.answered_so) lies.replies;
        of_it = answers_only segment answered made reply lies.replies answers ∙ sym lies.made_so;
        answer = refl;
        known = lies.known_so ∙ ap (known_when segment) (sym lies.made_so);
      },
      lies.made_so,
      lies.answered_so,
    )

-- the reply to a touch answers it
pub touch_answers : (segment : Recording) (touch : Touch) → HasTouch segment touch → Answers segment touch.answered touch.made
touch_answers segment touch has =
    subst (λ o. IsSome (option_and_then (λ (r : Response). if r.call == touch.made then Some r else None) o)) (sym has.is_reply)
    (subst (λ b. IsSome (if b then Some has.reply else None)) (sym (eq-eqb has.reply.call touch.made has.of_it)) refl)

pub touch_within : (segment : Recording) (touch : Touch) → HasTouch segment touch → touch.made < length segment.events
touch_within segment touch has =
    let asked = of_asked (slice_get segment.events touch.made) touch.address touch.mode touch.access has.asks in
    slice_get_within segment.events touch.made (events.Call asked.0 asked.1 (askeds.Touch touch.address touch.mode touch.access)) asked.2

pub answered_within : (segment : Recording) (touch : Touch) → HasTouch segment touch → touch.answered < length segment.events
answered_within segment touch has =
    slice_get_within segment.events touch.answered (events.Reply has.reply.call has.reply.at has.reply.answer)
    (of_replied (slice_get segment.events touch.answered) has.reply has.is_reply)

-- ---- a list with one element more

pub pushed_new : {X : Type 0} (xs : List X) (x : X) → slice_get (xs ++ x ∷ []) (length xs) ≡ Some x
pushed_new [] x = refl
pushed_new (y ∷ ys) x = pushed_new ys x

pub pushed_old : {X : Type 0} (xs : List X) (x : X) (k : ℕ) (y : X) → slice_get xs k ≡ Some y → slice_get (xs ++ x ∷ []) k ≡ Some y
pushed_old [] x k y e = cc
pushed_old (z ∷ zs) x zero y e = e
pushed_old (z ∷ zs) x (suc k) y e = pushed_old zs x k y e

pub pushed_cases : {X : Type 0} (xs : List X) (x : X) (k : ℕ) (y : X) → slice_get (xs ++ x ∷ []) k ≡ Some y → (slice_get xs k ≡ Some y) ⊎ (x ≡ y)
pushed_cases [] x zero y e = inr (cc)
pushed_cases [] x (suc k) y e = cc
pushed_cases (z ∷ zs) x zero y e = inl e
pushed_cases (z ∷ zs) x (suc k) y e = pushed_cases zs x k y e

-- ---- the list

-- none yet
pub none_below : (segment : Recording) → AreTouchesBelow segment 0 []
none_below segment = record {
  each = λ index touch at. absurd (let none : None ≡ Some touch = at in cc);
  all = λ touch has lt. absurd (omega arith);
  rising = λ i j d less lt. absurd (omega arith);
}

-- no touch more
pub no_more : (segment : Recording) (end : ℕ) (touches : List Touch) → ((touch : Touch) → HasTouch segment touch → touch.made ≡ end → ⊥)
    → AreTouchesBelow segment end touches → AreTouchesBelow segment (end + 1) touches
no_more segment end touches none are = record {
  each = λ index touch at. let has = are.each index touch at in (has.0, omega (arith, has.1));
  all = λ touch has lt. elim (cases_lt touch.made end) [
    | inl low ↦ are.all touch has low
    | inr same ↦ absurd (none touch has (omega arith))
  ];
  rising = are.rising;
}

-- one touch more
pub one_more_touch : (segment : Recording) (end : ℕ) (touches : List Touch) (touch : Touch) → HasTouch segment touch → touch.made ≡ end
    → ((other : Touch) → HasTouch segment other → other.made ≡ end → other ≡ touch)
    → AreTouchesBelow segment end touches → AreTouchesBelow segment (end + 1) (touches ++ touch ∷ [])
one_more_touch segment end touches touch has made only are = record { each = each; all = all; rising = rising } where
  each : (index : ℕ) (other : Touch) → slice_get (touches ++ touch ∷ []) index ≡ Some other → HasTouch segment other × (other.made < end + 1)
  each index other at = elim (pushed_cases touches touch index other at) [
    | inl old ↦ (let own = are.each index other old in (own.0, omega (arith, own.1)))
    | inr new ↦ (subst (HasTouch segment) new has, let same = ap (λ (t : Touch). t.made) new in omega (arith, made))
  ]

  all : (other : Touch) → HasTouch segment other → other.made < end + 1 → (index : ℕ) × (slice_get (touches ++ touch ∷ []) index ≡ Some other)
  all other own lt = elim (cases_lt other.made end) [
    | inl low ↦ (let there = are.all other own low in (there.0, pushed_old touches touch there.0 other there.1))
    | inr high ↦ (let one = only other own (omega arith) in (length touches, pushed_new touches touch ∙ ap Some (sym one)))
  ]

  rising : AllPairs (λ first second. first.made < second.made) (touches ++ touch ∷ [])
  rising i j d less lt =
      let n : j < length touches + 1 = omega (arith, length-append touches (touch ∷ [])) in
      elim (cases_lt j (length touches)) [
        | inl low ↦
            subst (λ (t : Touch). t.made < (get_or (touches ++ touch ∷ []) j d).made) (sym (old_at i (omega arith)))
            (subst (λ (t : Touch). (get_or touches i d).made < t.made) (sym (old_at j low)) (are.rising i j d less low))
        | inr high ↦ (
            let last : j ≡ length touches = omega arith in
            let new : get_or (touches ++ touch ∷ []) j d ≡ touch =
            ap (λ k. get_or (touches ++ touch ∷ []) k d) last
            ∙ get_or_from_slice_get (touches ++ touch ∷ []) (length touches) touch d (pushed_new touches touch) in
            let own = are.each i (get_or touches i d) (slice_get-get_or touches i d (omega arith)) in
            subst (λ (t : Touch). t.made < (get_or (touches ++ touch ∷ []) j d).made) (sym (old_at i (omega arith)))
            (subst (λ (t : Touch). (get_or touches i d).made < t.made) (sym new) (omega (arith, own.1, made))))
      ]
    where
      old_at : (k : ℕ) → k < length touches → get_or (touches ++ touch ∷ []) k d ≡ get_or touches k d
      old_at k low = get_or_from_slice_get (touches ++ touch ∷ []) k (get_or touches k d) d
          (pushed_old touches touch k (get_or touches k d) (slice_get-get_or touches k d low))

-- the touch that is made at an event, by the reply to it
only_touch : (segment : Recording) (made answered : ℕ) → IsReplyBelow segment (length segment.events) made (Some answered)
    → (other : Touch) → HasTouch segment other → other.made ≡ made → touch_between segment made answered ≡ Some other
only_touch segment made answered replied other has is =
    let answers = subst (Answers segment other.answered) is (touch_answers segment other has) in
    let same : other.answered ≡ answered = replied.2 other.answered (answered_within segment other has) answers in
    subst (λ m. touch_between segment m answered ≡ Some other) is
    (subst (λ a. touch_between segment other.made a ≡ Some other) same (has_between segment other has))

-- where the call has no reply, no answered touch is made there
pub none_made : (segment : Recording) (made : ℕ) → IsReplyBelow segment (length segment.events) made None → IsTouchAt segment made None
none_made segment made none touch has is =
    none touch.answered (answered_within segment touch has) (subst (Answers segment touch.answered) is (touch_answers segment touch has))

pub made_there : (segment : Recording) (made answered : ℕ) (o : Option Touch) → IsReplyBelow segment (length segment.events) made (Some answered)
    → o ≡ touch_between segment made answered → IsTouchAt segment made o
made_there segment made answered None replied is = λ touch has same. let there = only_touch segment made answered replied touch has same in cc
made_there segment made answered (Some touch) replied is =
    let has = between_has segment made answered touch (sym is) replied.1 in
    (has.0, has.1, λ other own same. let there = only_touch segment made answered replied other own same in cc)

-- all of them
pub all_touches : (segment : Recording) (touches : List Touch) → AreTouchesBelow segment (length segment.events) touches → AreTouchesOf segment touches
all_touches segment touches are = record {
  each = λ index touch at. (are.each index touch at).0;
  all = λ touch has. are.all touch has (touch_within segment touch has);
  rising = are.rising;
}

-- ---- calls of the log that are answered

-- the call that is read at the place has a reply
pub answered_here : (segment : Recording) (place : ℕ) (o : Option (Bor ℕ)) (placed : Bor ℕ) → option_copied o ≡ slice_get segment.log place
    → o ≡ Some placed → (reply : Option ℕ) → IsReplyBelow segment (length segment.events) placed.now reply → is_some reply ≡ true
    → IsPlaceAnswered segment place
answered_here segment place o placed read is None below some = absurd (let wrong : false ≡ true = some in cc)
answered_here segment place o placed read is (Some reply) below some = λ call there.
    let same : Some placed.now ≡ Some call = sym (ap option_copied is) ∙ read ∙ there in
    (reply, subst (Answers segment reply) (same_Some placed.now call same) below.1)

-- no call is read there
pub answered_nowhere : (segment : Recording) (place : ℕ) (o : Option (Bor ℕ)) → option_copied o ≡ slice_get segment.log place → o ≡ None
    → IsPlaceAnswered segment place
answered_nowhere segment place o read is = λ call there.
    absurd (let wrong : None ≡ Some call = sym (ap option_copied is) ∙ read ∙ there in cc)

-- no protect is there
pub plain_here : (segment : Recording) (place : ℕ) (o : Option (Bor ℕ)) (placed : Bor ℕ) → option_copied o ≡ slice_get segment.log place
    → o ≡ Some placed → is_protect (operation_of segment placed.now) ≡ false → IsPlacePlain segment place
plain_here segment place o placed read is none = λ call there.
    let same : Some placed.now ≡ Some call = sym (ap option_copied is) ∙ read ∙ there in
    subst (λ (c : ℕ). is_protect (operation_of segment c) ≡ false) (same_Some placed.now call same) none

pub plain_nowhere : (segment : Recording) (place : ℕ) (o : Option (Bor ℕ)) → option_copied o ≡ slice_get segment.log place → o ≡ None
    → IsPlacePlain segment place
plain_nowhere segment place o read is = λ call there.
    absurd (let wrong : None ≡ Some call = sym (ap option_copied is) ∙ read ∙ there in cc)

-- ---- what the search finds

pub all_right : (before : Option Run) (start : Space) (segment : Recording) (touches : List Touch)
    → AreTouchesBelow segment (length segment.events) touches
    → FindsStale before start segment touches None → HasRightTouches before start segment
all_right before start segment touches are finds touch has =
    let there = are.all touch has (touch_within segment touch has) in
    finds there.0 touch there.1

pub first_of_list : (before : Option Run) (start : Space) (segment : Recording) (touches : List Touch) (index : ℕ) (d : Touch)
    → AreTouchesBelow segment (length segment.events) touches
    → FindsStale before start segment touches (Some index) → IsFirstStale before start segment (get_or touches index d).made
first_of_list before start segment touches index d are (touch, at, wrong, below) =
    let is = get_or_from_slice_get touches index touch d at in
    subst (λ (t : Touch). IsFirstStale before start segment t.made) (sym is)
    record { stale = (touch, (are.each index touch at).0, refl, wrong); none_lower = none } where
      none : (lower : ℕ) → lower < touch.made → IsStale before start segment lower → ⊥
      none lower less (other, has, made, stale) =
          let there = are.all other has (touch_within segment other has) in
          elim (cases_lt there.0 index) [
            | inl earlier ↦ stale (below there.0 other earlier there.1)
            | inr behind ↦ elim (cases_lt index there.0) [
              | inl later ↦ (
                  let rises = are.rising index there.0 other later (slice_get_within touches there.0 other there.1) in
                  let low : touch.made < other.made = subst (λ (t : Touch). t.made < other.made) (get_or_from_slice_get touches index touch other at)
                  (subst (λ (t : Touch). (get_or touches index other).made < t.made) (get_or_from_slice_get touches there.0 other other there.1) rises) in
                  omega (arith, made))
              | inr same ↦ (
                  let one : index ≡ there.0 = omega arith in
                  let them : touch ≡ other = sym (get_or_from_slice_get touches index touch touch at)
                  ∙ ap (λ i. get_or touches i touch) one ∙ get_or_from_slice_get touches there.0 other touch there.1 in
                  let mades : touch.made ≡ other.made = ap (λ (t : Touch). t.made) them in
                  omega (arith, made))
            ]
          ]

-- what is found, by its call number
module _ (before : Option Run) (start : Space) (segment : Recording) (touches : List Touch)
    (are : AreTouchesBelow segment (length segment.events) touches) where
  abbrev number_of : Option ℕ → Option ℕ
  number_of found = option_map (λ (touch : Touch). touch.made) (option_and_then (slice_get touches) found)

  pub none_found : (found number : Option ℕ) → FindsStale before start segment touches found → number ≡ number_of found
      → IfNone number (HasRightTouches before start segment)
  none_found None number finds is =
      subst (λ (o : Option ℕ). IfNone o (HasRightTouches before start segment)) (sym is) (all_right before start segment touches are finds)
  none_found (Some index) number finds is =
      let some : number ≡ Some finds.0.made = is ∙ ap (option_map (λ (t : Touch). t.made)) finds.1 in
      subst (λ (o : Option ℕ). IfNone o (HasRightTouches before start segment)) (sym some) tt

  pub some_found : (found number : Option ℕ) → FindsStale before start segment touches found → number ≡ number_of found
      → IfSome number (IsFirstStale before start segment)
  some_found None number finds is = subst (λ (o : Option ℕ). IfSome o (IsFirstStale before start segment)) (sym is) tt
  some_found (Some index) number finds is =
      let some : number ≡ Some finds.0.made = is ∙ ap (option_map (λ (t : Touch). t.made)) finds.1 in
      let first = first_of_list before start segment touches index finds.0 are finds in
      subst (λ (o : Option ℕ). IfSome o (IsFirstStale before start segment)) (sym some)
      (subst (λ (t : Touch). IsFirstStale before start segment t.made) (get_or_from_slice_get touches index finds.0 finds.0 finds.1) first)

-- what holds where no touch is stale
pub where_none : (before : Option Run) (start : Space) (segment : Recording) (touches : List Touch) (found number : Option ℕ) (P Q : Type 0) → (P → Q)
    → FindsStale before start segment touches found
    → number ≡ option_map (λ (touch : Touch). touch.made) (option_and_then (slice_get touches) found) → IfNone found P → IfNone number Q
where_none before start segment touches None number P Q so finds is it = subst (λ (o : Option ℕ). IfNone o Q) (sym is) (so it)
where_none before start segment touches (Some index) number P Q so finds is it =
    let one : number ≡ Some finds.0.made =
    is ∙ ap (option_map (λ (touch : Touch). touch.made)) finds.1 in
    subst (λ (o : Option ℕ). IfNone o Q) (sym one) tt
