-- What the notes of a thread's calls say of the events in which they are.
use Rattle.std.proofs.lemmas.Bool.{false≢true}
use Rattle.std.proofs.Common.{◌≡◌, ℕ, zero, suc, ◌<◌, Bool, true, false, List, [], ◌∷◌, ◌++◌, All, Contains, length, get_or, map, cond, eqb, eq-eqb, refl, ap}
use Rattle.std.proofs.Common.{sym, ◌∙◌, subst, arith, ⊎_elim}
use Rattle.std.specs.Prelude.{Option, None, Some, slice_get, option_and_then, filter, filter_map, ◌==◌, if◌then◌else◌}
use Rattle.std.specs.Option.{option_map_or}
use Rattle.std.specs.List.{cons_option, flat_map}
use Rattle.std.proofs.lemmas.List.{get_or-map, length-map}
use Rattle.std.proofs.lemmas.List.Elements.{All-cons, All-head, All-tail, Contains-append_cases, All-map}
use Rattle.std.proofs.lemmas.List.Concat.{flat_map-cons}
use Rattle.std.proofs.lemmas.Bool.Decides.{nat_tests}
use mathlib.Core.Logic.{dite}
use native.Mathlib.Decide.{ℕ_discrete}
use Rattle.vs_types.specs.Config.{Layout}
use Rattle.vs_types.specs.declared.requests.answer.Answer as given
use Rattle.vs_types.specs.declared.requests.request.Query.{Query}
use Rattle.nr_trace.specs.Calls.{Response, reply_in}
use Rattle.nr_trace.specs.declared.recordings.event.Event.{Event}
use Rattle.nr_trace.specs.declared.recordings.event.Event.TheVariants.{Reply}
use Rattle.nr_record.specs.Events.{caller, events_of, is_of}
use Rattle.nr_record.specs.Pen.{call_by, stamped}
use Rattle.nr_record.specs.Stamps.{Rise}
use Rattle.nr_record.specs.declared.stamped.Stamped.{Stamped}
use Rattle.nr_serve.specs.inside.Calls.{MadeCall, notes_of, reply_notes}
use Rattle.nr_serve.specs.declared.endings.call_outcome.CallOutcome.{CallOutcome}
use Rattle.nr_serve.specs.declared.endings.call_outcome.CallOutcome.TheVariants.{Answer, Stopped}
use Rattle.nr_trace.proofs.LawsOfLists.{All-unmap}

abbrev pub stamps : List Stamped → List ℕ
stamps made = map (λ item. item.stamp) made

abbrev pub notes : Layout → ℕ → List MadeCall → List Stamped
notes layout thread calls = flat_map (notes_of layout thread) calls

abbrev pub numbers : List MadeCall → List ℕ
numbers calls = map (λ call. call.number) calls

notes_cons : (layout : Layout) (thread : ℕ) (c : MadeCall) (cs : List MadeCall)
    → notes layout thread (c ∷ cs)
    ≡ stamped c.number (call_by layout thread c.request) ∷ (reply_notes c.number c.replied c.said ++ notes layout thread cs)
notes_cons layout thread c cs = flat_map-cons (notes_of layout thread) c cs

rest_rises : (number replied : ℕ) (said : CallOutcome) (xs : List Stamped) → Rise (stamps (reply_notes number replied said ++ xs)) → Rise (stamps xs)
rest_rises number replied (Answer at answer) xs rise = rise.1
rest_rises number replied Stopped xs rise = rise

rest_notes : (P : Stamped → Type 0) (number replied : ℕ) (said : CallOutcome) (xs : List Stamped) → All P (reply_notes number replied said ++ xs) → All P xs
rest_notes P number replied (Answer at answer) xs all = All-tail P (stamped replied (Reply number at answer)) xs all
rest_notes P number replied Stopped xs all = all

-- what holds of all notes holds of each that a call is made
pub firsts : (P : Stamped → Type 0) (layout : Layout) (thread : ℕ) (calls : List MadeCall) → All P (notes layout thread calls)
    → All (λ call. P (stamped call.number (call_by layout thread call.request))) calls
firsts P layout thread [] all = λ k d lt. absurd (omega arith)
firsts P layout thread (c ∷ cs) all =
    let first = stamped c.number (call_by layout thread c.request) in
    let others = reply_notes c.number c.replied c.said ++ notes layout thread cs in
    let all' = subst (λ (xs : List Stamped). All P xs) (notes_cons layout thread c cs) all in
    All-cons (λ (call : MadeCall). P (stamped call.number (call_by layout thread call.request))) c cs (All-head P first others all')
    (firsts P layout thread cs (rest_notes P c.number c.replied c.said (notes layout thread cs) (All-tail P first others all')))

-- the numbers of the calls rise as the stamps do
pub rise_numbers : (layout : Layout) (thread : ℕ) (calls : List MadeCall) → Rise (stamps (notes layout thread calls)) → Rise (numbers calls)
rise_numbers layout thread [] rise = tt
rise_numbers layout thread (c ∷ cs) rise =
    let rise' = subst (λ (xs : List Stamped). Rise (stamps xs)) (notes_cons layout thread c cs) rise in
    let later = λ (s : ℕ). c.number < s in
    let others = reply_notes c.number c.replied c.said ++ notes layout thread cs in (
      All-map later (λ (call : MadeCall). call.number) cs (firsts (λ (item : Stamped). later item.stamp) layout thread cs
          (rest_notes (λ (item : Stamped). later item.stamp) c.number c.replied c.said (notes layout thread cs)
          (All-unmap later (λ (item : Stamped). item.stamp) others rise'.0))),
      rise_numbers layout thread cs (rest_rises c.number c.replied c.said (notes layout thread cs) rise'.1),
    )

-- a note that a call is made is one of these calls, by the thread
pub record IsOneOf (thread who : ℕ) (calls : List MadeCall) (number : ℕ) : Type 0 where
  pub by_thread : who ≡ thread
  pub is_call : Contains (numbers calls) number

not_reply : (number at : ℕ) (answer : given.Answer) (who : ℕ) → caller (Reply number at answer) ≡ Some who → ⊥
not_reply number at answer who e = cc

in_call : (layout : Layout) (thread : ℕ) (c : MadeCall) (item : Stamped) (who : ℕ) → Contains (notes_of layout thread c) item → caller item.event ≡ Some who
    → (who ≡ thread) × (c.number ≡ item.stamp)
in_call layout thread c item who has is = at has.0 has.1 has.2 where
  second : (said : CallOutcome) (k : ℕ) → k < length (reply_notes c.number c.replied said) → get_or (reply_notes c.number c.replied said) k item ≡ item → ⊥
  second (Answer at answer) zero lt same =
      not_reply c.number at answer who (ap (λ (s : Stamped). caller s.event) same ∙ is)
  second (Answer at answer) (suc k) lt same = absurd (omega arith)
  second Stopped k lt same = absurd (omega arith)

  at : (k : ℕ) → k < length (notes_of layout thread c) → get_or (notes_of layout thread c) k item ≡ item → (who ≡ thread) × (c.number ≡ item.stamp)
  at zero lt same =
      let made : Some thread ≡ Some who = ap (λ (s : Stamped). caller s.event) same ∙ is in
      (cc, ap (λ (s : Stamped). s.stamp) same)
  at (suc k) lt same = absurd (second c.said k (omega arith) same)

pub note_is_call : (layout : Layout) (thread : ℕ) (calls : List MadeCall) (item : Stamped) (who : ℕ) → Contains (notes layout thread calls) item
    → caller item.event ≡ Some who → IsOneOf thread who calls item.stamp
note_is_call layout thread [] item who has is = absurd (omega (arith, has.1))
note_is_call layout thread (c ∷ cs) item who has is =
    ⊎_elim
    (λ here. let both = in_call layout thread c item who here is in
    record { by_thread = both.0; is_call = (zero, omega arith, both.1) })
    (λ there. let rest = note_is_call layout thread cs item who there is in
    record { by_thread = rest.by_thread; is_call = (suc rest.is_call.0, omega (arith, rest.is_call.1), rest.is_call.2) })
    (Contains-append_cases (notes_of layout thread c) (notes layout thread cs) item
    (subst (λ (xs : List Stamped). Contains xs item) (flat_map-cons (notes_of layout thread) c cs) has))

-- what a reply to the call says
abbrev pub response : ℕ → CallOutcome → Option Response
response number (Answer at answer) = Some (record { call = number; at = at; answer = answer })
response number Stopped = None

abbrev named : ℕ → Response → Option Response
named call reply = if reply.call == call then Some reply else None

abbrev pub answering : ℕ → Event → Option Response
answering number event = option_and_then (named number) (reply_in event)

other_call : (n number at : ℕ) (answer : given.Answer) → (number ≡ n → ⊥) → answering n (Reply number at answer) ≡ None
other_call n number at answer differ =
    let test : eqb number n ≡ false = grind (arith, nat_tests) in
    let r : Response = record { call = number; at = at; answer = answer } in
    ap (λ b. cond b (Some r) None) test

own_call : (number at : ℕ) (answer : given.Answer) → answering number (Reply number at answer) ≡ Some (record { call = number; at = at; answer = answer })
own_call number at answer =
    let r : Response = record { call = number; at = at; answer = answer } in
    ap (λ b. cond b (Some r) None) (eq-eqb number number refl)

abbrev pub spoken : List Stamped → List Event
spoken made = map (λ item. item.event) made

sifted_step : (is : Event → Bool) (G : Event → Option Response) (e : Event) (es : List Event) → (is e ≡ false → G e ≡ None)
    → filter_map G (filter is es) ≡ filter_map G es → (b : Bool) → is e ≡ b → filter_map G (filter is (e ∷ es)) ≡ filter_map G (e ∷ es)
sifted_step is G e es silent rest true holds =
    ap (λ b. filter_map G (cond b (e ∷ filter is es) (filter is es))) holds ∙ ap (λ (xs : List Response). cons_option (G e) xs) rest
sifted_step is G e es silent rest false fails =
    ap (λ b. filter_map G (cond b (e ∷ filter is es) (filter is es))) fails ∙ rest
    ∙ sym (ap (λ o. cons_option o (filter_map G es)) (silent fails))

-- where a test leaves out nothing that counts, what is made of the rest is what is made of all
sifted : (is : Event → Bool) (G : Event → Option Response) (events : List Event) → ((e : Event) → is e ≡ false → G e ≡ None)
    → filter_map G (filter is events) ≡ filter_map G events
sifted is G [] silent = refl
sifted is G (e ∷ es) silent = sifted_step is G e es (silent e) (sifted is G es silent) (is e) refl

-- no event of another thread answers a call of this one
others_silent : (events : List Event) (layout : Layout) (thread number : ℕ) (request : Query)
    → slice_get events number ≡ Some (call_by layout thread request) → (e : Event) → is_of thread events e ≡ false → answering number e ≡ None
others_silent events layout thread number request at (Reply call place answer) fails =
    dite (ℕ_discrete call number)
    (λ same.
    let here = ap (λ (k : ℕ). option_map_or (λ (other : ℕ). eqb other thread) (option_and_then caller (slice_get events k)) false) same
    ∙ ap (λ o. option_map_or (λ (other : ℕ). eqb other thread) (option_and_then caller o) false) at ∙ eq-eqb thread thread refl in
    absurd (false≢true (sym fails ∙ here)))
    (λ differ. other_call number call place answer differ)
others_silent events layout thread number request at _ fails = refl

skip_reply : (n number replied : ℕ) (said : CallOutcome) (xs : List Stamped) → (number ≡ n → ⊥)
    → filter_map (answering n) (spoken (reply_notes number replied said ++ xs)) ≡ filter_map (answering n) (spoken xs)
skip_reply n number replied (Answer at answer) xs differ =
    ap (λ o. cons_option o (filter_map (answering n) (spoken xs))) (other_call n number at answer differ)
skip_reply n number replied Stopped xs differ = refl

skip_call : (n : ℕ) (layout : Layout) (thread : ℕ) (c : MadeCall) (cs : List MadeCall) → (c.number ≡ n → ⊥)
    → filter_map (answering n) (spoken (notes layout thread (c ∷ cs))) ≡ filter_map (answering n) (spoken (notes layout thread cs))
skip_call n layout thread c cs differ =
    ap (λ (xs : List Stamped). filter_map (answering n) (spoken xs)) (notes_cons layout thread c cs)
    ∙ skip_reply n c.number c.replied c.said (notes layout thread cs) differ

none_answers : (n : ℕ) (layout : Layout) (thread : ℕ) (calls : List MadeCall) → All (λ m. m ≡ n → ⊥) (numbers calls)
    → filter_map (answering n) (spoken (notes layout thread calls)) ≡ []
none_answers n layout thread [] differ = refl
none_answers n layout thread (c ∷ cs) differ =
    skip_call n layout thread c cs (All-head (λ (m : ℕ). m ≡ n → ⊥) c.number (numbers cs) differ)
    ∙ none_answers n layout thread cs (All-tail (λ (m : ℕ). m ≡ n → ⊥) c.number (numbers cs) differ)

own_reply : (number replied : ℕ) (said : CallOutcome) (xs : List Stamped) → filter_map (answering number) (spoken xs) ≡ []
    → slice_get (filter_map (answering number) (spoken (reply_notes number replied said ++ xs))) 0 ≡ response number said
own_reply number replied (Answer at answer) xs none =
    ap (λ o. slice_get (cons_option o (filter_map (answering number) (spoken xs))) 0) (own_call number at answer)
own_reply number replied Stopped xs none = ap (λ (rs : List Response). slice_get rs 0) none

-- the first answer to each call among the notes is what came of it
first_answers : (layout : Layout) (thread : ℕ) (calls : List MadeCall) → Rise (numbers calls)
    → All (λ c. slice_get (filter_map (answering c.number) (spoken (notes layout thread calls))) 0 ≡ response c.number c.said) calls
first_answers layout thread [] rise = λ k d lt. absurd (omega arith)
first_answers layout thread (x ∷ xs) rise =
    let later : All (λ m. x.number < m) (numbers xs) = rise.0 in
    let P : MadeCall → Type 0 =
    λ c. slice_get (filter_map (answering c.number) (spoken (notes layout thread (x ∷ xs)))) 0 ≡ response c.number c.said in
    All-cons P x xs
    (ap (λ (made : List Stamped). slice_get (filter_map (answering x.number) (spoken made)) 0) (notes_cons layout thread x xs)
    ∙ own_reply x.number x.replied x.said (notes layout thread xs)
    (none_answers x.number layout thread xs (λ k d lt same. let l = later k d lt in omega (arith, l, same))))
    (λ k d lt.
    let c : MadeCall = get_or xs k d in
    let long = length-map xs (λ (call : MadeCall). call.number) in
    let is : get_or (numbers xs) k 0 ≡ c.number = get_or-map (λ (call : MadeCall). call.number) xs k d 0 lt in
    let above : x.number < c.number = subst (λ (m : ℕ). x.number < m) is (later k 0 (omega arith)) in
    ap (λ (rs : List Response). slice_get rs 0) (skip_call c.number layout thread x xs (λ same. omega arith))
    ∙ first_answers layout thread xs rise.1 k d lt)

-- a thread's calls are in the events as its notes say
pub record AreNoted (events : List Event) (layout : Layout) (thread : ℕ) (calls : List MadeCall) : Type 0 where
  pub rising : Rise (stamps (notes layout thread calls))
  pub noted : All (λ item. slice_get events item.stamp ≡ Some item.event) (notes layout thread calls)
  pub own : events_of thread events ≡ spoken (notes layout thread calls)

pub made_calls : (events : List Event) (layout : Layout) (thread : ℕ) (calls : List MadeCall) → AreNoted events layout thread calls
    → All (λ c. slice_get events c.number ≡ Some (call_by layout thread c.request)) calls
made_calls events layout thread calls are = firsts (λ (item : Stamped). slice_get events item.stamp ≡ Some item.event) layout thread calls are.noted

pub answers_are : (events : List Event) (layout : Layout) (thread : ℕ) (calls : List MadeCall) → AreNoted events layout thread calls
    → All (λ c. slice_get (filter_map (answering c.number) events) 0 ≡ response c.number c.said) calls
answers_are events layout thread calls are = λ k d lt.
    let c : MadeCall = get_or calls k d in
    let silent = others_silent events layout thread c.number c.request (made_calls events layout thread calls are k d lt) in
    ap (λ (rs : List Response). slice_get rs 0)
    (sym (sifted (is_of thread events) (answering c.number) events silent) ∙ ap (λ (es : List Event). filter_map (answering c.number) es) are.own)
    ∙ first_answers layout thread calls (rise_numbers layout thread calls are.rising) k d lt
