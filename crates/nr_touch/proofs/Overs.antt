-- When calls are over, and tests of lists that say so.
use Rattle.std.proofs.Common.{◌≡◌, ◌↔◌, ℕ, zero, suc, ◌+◌, ◌<◌, ◌≤◌, ◌^◌, inl, inr, Bool, not, true, false, cond, List, [], ◌∷◌, ◌++◌, length, take}
use Rattle.std.proofs.Common.{get_or, slice_get, Some, refl, sym, ap, subst, ◌∙◌, arith}
use Rattle.std.specs.Prelude.{count_by, option_and_then}
use Rattle.std.specs.List.{list_any}
use Rattle.std.specs.Bool.{Decides}
use Rattle.std.proofs.Math.Bool.{◌||◌, or_comm, or-false}
use Rattle.std.proofs.lemmas.Bool.Decides.{Decides-below_or, Decides-like, Decides-not}
use Rattle.std.proofs.lemmas.Bool.{cases_lt, eqb-true, eq-eqb, or_cases, or_left, or_right}
use Rattle.std.proofs.lemmas.List.Folds.{list_any-append}
use Rattle.std.proofs.lemmas.List.Sums.{sum_by-append}
use Rattle.std.proofs.lemmas.Option.{same_Some}
use Rattle.nr_trace.specs.Recording.{Recording}
use Rattle.nr_trace.specs.Calls.{Answers, Response, reply_in}
use Rattle.nr_trace.specs.Orders.{below}
use Rattle.nr_trace.specs.declared.recordings.event.Event.{Event}
use Rattle.nr_trace.specs.declared.recordings.event.Event.TheVariants.{Reply}
use Rattle.nr_trace.proofs.LawsOfCalls.{answers_from, reply_in_event, reply_that_answers}
use Rattle.nr_touch.specs.Beside.{is_over, is_reply_to}
use Rattle.nr_touch.specs.Replies.{AreReplies}

-- ---- tests of lists

any_taken : {X : Type 0} (p : X → Bool) (xs : List X) (n : ℕ) → list_any p (take n xs) ≡ true
    → (k : ℕ) × (k < n) × (x : X) × (slice_get xs k ≡ Some x) × (p x ≡ true)
any_taken p xs zero t = absurd (cc)
any_taken p [] (suc n) t = absurd (cc)
any_taken p (x ∷ xs) (suc n) t = elim (or_cases (p x) (list_any p (take n xs)) t) [
  | inl here ↦ (0, omega arith, x, refl, here)
  | inr later ↦ (let (k, low, y, at, is) = any_taken p xs n later in (suc k, omega arith, y, at, is))
]

taken_any : {X : Type 0} (p : X → Bool) (xs : List X) (n k : ℕ) (x : X) → k < n → slice_get xs k ≡ Some x → p x ≡ true → list_any p (take n xs) ≡ true
taken_any p xs zero k x low at is = absurd (omega arith)
taken_any p [] (suc n) k x low at is = absurd (cc)
taken_any p (y ∷ xs) (suc n) zero x low at is = or_left (p y) (list_any p (take n xs)) (let same : y ≡ x = cc in ap p same ∙ is)
taken_any p (y ∷ xs) (suc n) (suc k) x low at is = or_right (p y) (list_any p (take n xs)) (taken_any p xs n k x (omega arith) at is)

pub any_below : (p : ℕ → Bool) (n : ℕ) → Decides (list_any p (below n)) ((k : ℕ) × (k < n) × (p k ≡ true))
any_below p = Decides-below_or p (λ k. p k ≡ true) (λ n. list_any p (below n)) (λ k. (λ t. t, λ t. t)) refl (λ n.
    list_any-append p (below n) (n ∷ []) ∙ or_comm (list_any p (below n)) (list_any p (n ∷ []))
    ∙ ap (λ b. b || list_any p (below n)) (or-false (p n)))

count_append : (p : ℕ → Bool) (xs : List ℕ) (n : ℕ) → count_by p (xs ++ n ∷ []) ≡ count_by p xs + cond (p n) 1 0
count_append p xs n =
    let one : count_by p (n ∷ []) ≡ 0 + cond (p n) 1 0 = refl in
    let parts : count_by p (xs ++ n ∷ []) ≡ count_by p xs + count_by p (n ∷ []) = sum_by-append (λ x. cond (p x) 1 0) xs (n ∷ []) in
    omega (arith, one, parts)

pub count_more : (p : ℕ → Bool) (n : ℕ) → count_by p (below (n + 1)) ≡ count_by p (below n) + cond (p n) 1 0
count_more p n = let next : n + 1 ≡ suc n = omega arith in ap (λ m. count_by p (below m)) next ∙ count_append p (below n) n

-- numbers that fail the test add nothing
pub count_same : (p : ℕ → Bool) (first more : ℕ) → ((n : ℕ) → first ≤ n → n < first + more → p n ≡ false)
    → count_by p (below (first + more)) ≡ count_by p (below first)
count_same p first zero none = let same : first + 0 ≡ first = omega arith in ap (λ m. count_by p (below m)) same
count_same p first (suc more) none =
    let next : first + suc more ≡ (first + more) + 1 = omega arith in
    let last = none (first + more) (omega arith) (omega arith) in
    let rest = count_same p first more (λ n low high. none n low (omega arith)) in
    let step = count_more p (first + more) in
    let nothing : ◌≡◌ {A = ℕ} (cond (p (first + more)) 1 0) 0 = ap (λ (b : Bool). cond {A = ℕ} b 1 0) last in
    ap (λ m. count_by p (below m)) next ∙ (omega (arith, step, rest, nothing))

-- ---- calls that are open

reply_there : (trace : Recording) (call k : ℕ) (event : Event) → slice_get trace.events k ≡ Some event → is_reply_to call event ≡ true → Answers trace k call
reply_there trace call k (Reply other place answer) at is =
    answers_from trace k call (record { call = other; at = place; answer = answer }) (ap (option_and_then reply_in) at) (eqb-true other call is)
reply_there trace call k _ at is = absurd (cc)

reply_says : (call : ℕ) (event : Event) (reply : Response) → reply_in event ≡ Some reply → reply.call ≡ call → is_reply_to call event ≡ true
reply_says call (Reply other at answer) reply gives names = eq-eqb other call (ap (λ (r : Response). r.call) (same_Some _ reply gives) ∙ names)
reply_says call _ reply gives names = absurd (cc)

pub one_more : (b : Bool) (count new : ℕ) → b ≡ true → new ≡ count + 1 → new ≡ count + cond b 1 0
one_more b count new t sum = subst (λ (x : Bool). new ≡ count + cond x 1 0) (sym t) sum

pub no_more : (b : Bool) (count new : ℕ) → b ≡ false → new ≡ count → new ≡ count + cond b 1 0
no_more b count new f sum = subst (λ (x : Bool). new ≡ count + cond x 1 0) (sym f) (omega (arith, sum))

-- the second number isn't below the first, where a test says so
pub not_below : (a b : ℕ) (r : Bool) → Decides r (a < b) → Decides (not r) (b ≤ a)
not_below a b r says = Decides-like (not r)
    (λ (none : a < b → ⊥). elim (cases_lt a b) [ inl less ↦ absurd (none less) | inr more ↦ more ]) (λ more less. omega (arith, more, less))
    (Decides-not r says)

-- two tests that pass alike are one
pub one_test : (a b : Bool) → (a ≡ true → b ≡ true) → (b ≡ true → a ≡ true) → a ≡ b
one_test true b to from = sym (to refl)
one_test false true to from = from refl
one_test false false to from = refl

-- a reply before the event
pub over_means : (trace : Recording) (call event : ℕ) → (is_over trace call event ≡ true) ↔ ((reply : ℕ) × (reply < event) × Answers trace reply call)
over_means trace call event = (there, back) where
  there : is_over trace call event ≡ true → (reply : ℕ) × (reply < event) × Answers trace reply call
  there t = let (k, low, e, at, is) = any_taken (is_reply_to call) trace.events event t in (k, low, reply_there trace call k e at is)

  back : ((reply : ℕ) × (reply < event) × Answers trace reply call) → is_over trace call event ≡ true
  back (k, low, answers) =
      let (reply, is, names) = reply_that_answers trace k call answers in
      let (which, at, gives) = reply_in_event (slice_get trace.events k) reply is in
      taken_any (is_reply_to call) trace.events event k which low at (reply_says call which reply gives names)

-- the first reply to the call is before the event
pub over_is : (trace : Recording) (replies : List ℕ) → AreReplies trace replies → (call event : ℕ) → call < length replies
    → event < 2 ^ 32 → (is_over trace call event ≡ true) ↔ (get_or replies call 0 < event)
over_is trace replies are call event within fits =
    let by = are.first call event within fits in
    let over = over_means trace call event in
    (λ t. by.1 (over.0 t), λ less. over.1 (by.0 less))
