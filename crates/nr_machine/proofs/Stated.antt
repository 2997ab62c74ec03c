-- What each step holds of the states and the answers.
use Rattle.std.proofs.Common.{◌≡◌, ℕ, zero, suc, ◌+◌, ◌-◌, ◌/◌, ◌%◌, ◌<◌, ◌≤◌, ◌==◌, nat_le, nat_lt, Bool, true, false, cond, Option, Some, None, List, [], ◌∷◌, ◌++◌, length, refl, ap, sym, subst, ◌∙◌, ◌⊎◌, inl, inr, arith}
use Rattle.std.specs.Prelude.{⊤, min, IsNone, ◌&&◌}
use Rattle.std.proofs.lemmas.Bool.Decides.{nat_tests}
use Rattle.nr_machine.specs.declared.words.Update.{Update}
use Rattle.nr_machine.specs.declared.words.Operation.{Operation}
use Rattle.nr_machine.specs.declared.words.Operation.TheVariants.{Load, Store, Exchange, Max}
use Rattle.nr_machine.specs.declared.words.Word.TheVariants.{Head, Completed, Local, Done, First, Second}
use Rattle.nr_machine.specs.Words.{carried_out, told_by, with_at}
use Rattle.nr_machine.specs.Actor.{Actor, MayApply, MayDo, MayEndAt, applies, got_entry, is_own, is_own_at, learned, sees, update_at}
use Rattle.nr_machine.specs.World.{Act, Event, Log, World, MayAct, Plays, acted, appended, log_after, opening, played, with_end}
use Rattle.nr_machine.specs.World.Act.{Begins, Does, Applies, Ends, ReadBegins, ReadEnds}
use Rattle.nr_machine.specs.World.Event.{Ended}
use Rattle.nr_machine.specs.States.{Kind, Nodes, Reply, AllRight, IsRight, StatesFollow, answers_from, at_first, ends_among, ends_of, followed, run, state_after, with_reply}
use Rattle.nr_machine.specs.States.Reply.{Updated, Saw}
use Rattle.nr_machine.proofs.Cases.{at_cases}
use Rattle.nr_machine.proofs.Kept.{AreEntries}
use Rattle.nr_machine.proofs.Held.{Holds, IsBeginning, IsHeld, Stands, operation_holds}
use Rattle.nr_machine.proofs.Ending.{acts_hold, opening_held}

-- the same entries make the same state and answers
pub same_state : {S A : Type 0} (kind : Kind S A) (e f : ℕ → Update) (count : ℕ) → ((p : ℕ) → p < count → e p ≡ f p)
    → state_after kind e count ≡ state_after kind f count
same_state {S} {A} kind e f zero same = refl
same_state {S} {A} kind e f (suc count) same =
    ap (λ (x : S). kind.step x (e count)) (same_state kind e f count (λ p lt. same p (omega (arith, lt))))
    ∙ ap (λ (x : Update). kind.step (state_after kind f count) x) (same count (omega arith))

pub same_answers : {S A : Type 0} (kind : Kind S A) (e f : ℕ → Update) (first count : ℕ) → ((p : ℕ) → p < first + count → e p ≡ f p)
    → answers_from kind e first count ≡ answers_from kind f first count
same_answers {S} {A} kind e f first zero same = refl
same_answers {S} {A} kind e f first (suc count) same =
    ap (λ (xs : List A). xs ++ (kind.answer (state_after kind e (first + count)) (e (first + count)) ∷ []))
    (same_answers kind e f first count (λ p lt. same p (omega (arith, lt))))
    ∙ ap (λ (x : S). answers_from kind f first count ++ (kind.answer x (e (first + count)) ∷ []))
    (same_state kind e f (first + count) (λ p lt. same p (omega (arith, lt))))
    ∙ ap (λ (x : Update). answers_from kind f first count ++ (kind.answer (state_after kind f (first + count)) x ∷ []))
    (same (first + count) (omega arith))

-- the answers so far to the updates of a call
abbrev pub Answered : {S A : Type 0} → Kind S A → (ℕ → Update) → ℕ → ℕ → Option ℕ → List A → Type 0
Answered kind entries applied count None answers = answers ≡ []
Answered kind entries applied count (Some first) answers = answers ≡ answers_from kind entries first (min (applied - first) count)

pub answered_on : {S A : Type 0} (kind : Kind S A) (calls : ℕ) (floor : ℕ
    → ℕ) (log log' : Log) (call applied : ℕ) (batch : List Update) (standing : Option ℕ) (answers : List A)
    → IsBeginning log log' → Stands calls floor log call batch standing → Answered kind log.entry applied (length batch) standing answers
    → Answered kind log'.entry applied (length batch) standing answers
answered_on {S} {A} kind calls floor log log' call applied batch None answers later stands is = is
answered_on {S} {A} kind calls floor log log' call applied batch (Some first) answers later stands is =
    let most = stands.2 in
    is ∙ sym (same_answers kind log'.entry log.entry first (min (applied - first) (length batch))
    (λ p lt. later.entry p (within (applied - first) (length batch) p lt most))) where
      within : (x count p : ℕ) → p < first + min x count → first + count ≤ log.tail → p < log.tail
      within x count p lt le = omega (arith, lt, le)

pub record IsStated {S A : Type 0} (nodes : ℕ) (kind : Kind S A) (w : Nodes S A) : Type 0 where
  pub held : IsHeld nodes w.world
  pub state : (n : ℕ) → n < nodes → w.state n ≡ state_after kind w.world.log.entry (w.world.actor n).applied
  pub answers : (n : ℕ) → n < nodes
      → Answered kind w.world.log.entry (w.world.actor n).applied (length (w.world.actor n).batch) (w.world.actor n).standing (w.answers n)
  pub readers : (c : ℕ) → (w.world.read c).waits ≡ true → (w.world.read c).node < nodes
  pub replies : AllRight kind w.world w.replies

-- what was right stays right: the log grows at its end alone
right_more : {S A : Type 0} (kind : Kind S A) (w w' : World) (r : Reply S A) → IsBeginning w.log w'.log → IsRight kind w r
    → IsRight kind w' r
right_more {S} {A} kind w w' (Updated call first batch answers) later right =
    let most = right.0 in
    let more = later.tail in (
      omega (arith, most, more),
      right.1 ∙ sym (same_answers kind w'.log.entry w.log.entry first (length batch) (λ p lt. later.entry p (omega (arith, lt, most)))),
      λ i lt. let at : first + i < w.log.tail = omega (arith, most, lt) in
          (later.call (first + i) at ∙ (right.2 i lt).0, later.entry (first + i) at ∙ (right.2 i lt).1),
    )
right_more {S} {A} kind w w' (Saw call count state) later right =
    let below = right.0 in
    let more = later.tail in (
      omega (arith, below, more),
      right.1
          ∙ sym (same_state kind w'.log.entry w.log.entry count (λ p lt. later.entry p (omega (arith, lt, below)))),
    )

pub all_more : {S A : Type 0} (kind : Kind S A) (w w' : World) (rs : List (Reply S A)) → IsBeginning w.log w'.log → AllRight kind w rs
    → AllRight kind w' rs
all_more {S} {A} kind w w' [] later all = tt
all_more {S} {A} kind w w' (r ∷ rs) later all = (right_more kind w w' r later all.0, all_more kind w w' rs later all.1)

-- an operation applies nothing, and its call goes on with the updates that it has
pub record GoesOn (a b : Actor) : Type 0 where
  pub applied : b.applied ≡ a.applied
  pub batch : b.batch ≡ a.batch
  pub standing : (b.standing ≡ a.standing) ⊎ ((a.standing ≡ None) × (b.standing ≡ Some a.seen))

same_on : (a b : Actor) → b.applied ≡ a.applied → b.batch ≡ a.batch → b.standing ≡ a.standing → GoesOn a b
same_on a b applied batch standing = record { applied = applied; batch = batch; standing = inl standing }

pub none_of : (s : Option ℕ) → IsNone s → s ≡ None
none_of None is = refl
none_of (Some x) is = absurd (cc)

pub goes_on : (nodes n : ℕ) (a : Actor) (operation : Operation) (value : ℕ) → MayDo nodes n a operation
    → GoesOn a (learned n a operation value)
goes_on nodes n a (Load Head) value may = same_on a _ refl refl refl
goes_on nodes n a (Load Completed) value may = same_on a _ refl refl refl
goes_on nodes n a (Load (Local r)) value may = same_on a _ refl refl refl
goes_on nodes n a (Load (Done r)) value may = same_on a _ refl refl refl
goes_on nodes n a (Load (First r i)) value may = same_on a _ refl refl refl
goes_on nodes n a (Load (Second r i)) value may = by_half a.half where
  by_half : (h : Option ℕ) → GoesOn a (got_entry a h value)
  by_half None = same_on a _ refl refl refl
  by_half (Some first) = same_on a _ refl refl refl
goes_on nodes n a (Store (Local r) new) value may = same_on a _ refl refl refl
goes_on nodes n a (Store (Done r) new) value may = same_on a _ refl refl refl
goes_on nodes n a (Store (First r i) new) value may = same_on a _ refl refl refl
goes_on nodes n a (Store (Second r i) new) value may = same_on a _ refl refl refl
goes_on nodes n a (Store word new) value may = absurd may
goes_on nodes n a (Exchange Head old new) value may = by_test (value == old) where
  by_test : (b : Bool) → GoesOn a (cond b (record (sees a (a.seen + length a.batch) n) { standing = Some a.seen })
      (sees a (value / 128) (value % 128)))
  by_test true = record { applied = refl; batch = refl; standing = inr (none_of a.standing may.wants, refl) }
  by_test false = same_on a _ refl refl refl
goes_on nodes n a (Exchange word old new) value may = absurd may
goes_on nodes n a (Max Completed new) value may = same_on a _ refl refl refl
goes_on nodes n a (Max word new) value may = absurd may

-- at the place that its exchange gave it, nothing was applied yet
pub answered_goes_on : {S A : Type 0} (kind : Kind S A) (entries : ℕ → Update) (a b : Actor) (answers : List A) → GoesOn a b
    → a.applied ≤ a.seen
    → Answered kind entries a.applied (length a.batch) a.standing answers
    → Answered kind entries b.applied (length b.batch) b.standing answers
answered_goes_on {S} {A} kind entries a b answers on le is =
    subst (λ (x : ℕ). Answered kind entries x (length b.batch) b.standing answers) (sym on.applied)
    (subst (λ (us : List Update). Answered kind entries a.applied (length us) b.standing answers) (sym on.batch)
    (by_standing on.standing)) where
      by_standing : (b.standing ≡ a.standing) ⊎ ((a.standing ≡ None) × (b.standing ≡ Some a.seen))
          → Answered kind entries a.applied (length a.batch) b.standing answers
      by_standing (inl same) = subst (λ (s : Option ℕ). Answered kind entries a.applied (length a.batch) s answers) (sym same) is
      by_standing (inr (none, some)) =
          subst (λ (s : Option ℕ). Answered kind entries a.applied (length a.batch) s answers) (sym some)
          (subst (λ (s : Option ℕ). Answered kind entries a.applied (length a.batch) s answers) none is
          ∙ ap (answers_from kind entries a.seen) (let e : 0 ≡ min (a.applied - a.seen) (length a.batch) = omega (arith, le) in e))

-- the next entry, and its answer
pub next_entry : (entry : ℕ → Update) (from : ℕ) (got : List Update) → AreEntries entry from got → 0 < length got
    → update_at got 0 ≡ entry from
next_entry entry from [] are some = absurd (omega (arith, some))
next_entry entry from (u ∷ us) are some = are.0

pub more_state : {S A : Type 0} (kind : Kind S A) (entries : ℕ → Update) (s : S) (u : Update) (count : ℕ)
    → s ≡ state_after kind entries count → u ≡ entries count
    → kind.step s u ≡ state_after kind entries (count + 1)
more_state {S} {A} kind entries s u count state entry =
    ap (λ (x : S). kind.step x u) state ∙ ap (λ (x : Update). kind.step (state_after kind entries count) x) entry
    ∙ ap (λ (k : ℕ). state_after kind entries k) (let e : suc count ≡ count + 1 = omega arith in e)

pub more_answers : {S A : Type 0} (kind : Kind S A) (entries : ℕ
    → Update) (s : S) (u : Update) (applied count : ℕ) (standing : Option ℕ) (answers : List A)
    → s ≡ state_after kind entries applied → u ≡ entries applied → Answered kind entries applied count standing answers
    → Answered kind entries (applied + 1) count standing
    (cond (is_own_at standing count applied) (answers ++ (kind.answer s u ∷ [])) answers)
more_answers {S} {A} kind entries s u applied count None answers state entry is = is
more_answers {S} {A} kind entries s u applied count (Some first) answers state entry is =
    by_test (nat_le first applied) refl (nat_lt applied (first + count)) refl where
      more : (k : ℕ) → first + k ≡ applied → answers ≡ answers_from kind entries first k
          → answers ++ (kind.answer s u ∷ []) ≡ answers_from kind entries first (suc k)
      more k at same =
          ap (λ (xs : List A). xs ++ (kind.answer s u ∷ [])) same
          ∙ ap (λ (x : S). answers_from kind entries first k ++ (kind.answer x u ∷ []))
          (state ∙ ap (λ (p : ℕ). state_after kind entries p) (sym at))
          ∙ ap (λ (x : Update). answers_from kind entries first k ++ (kind.answer (state_after kind entries (first + k)) x ∷ []))
          (entry ∙ ap entries (sym at))

      by_test : (b : Bool) → nat_le first applied ≡ b → (c : Bool) → nat_lt applied (first + count) ≡ c
          → (cond (b && c) (answers ++ (kind.answer s u ∷ [])) answers) ≡ answers_from kind entries first (min (applied + 1 - first) count)
      by_test true e true f =
          let from : first ≤ applied = grind (arith, nat_tests, e) in
          let below : applied < first + count = grind (arith, nat_tests, f) in
          let now : min (applied - first) count ≡ applied - first = omega (arith, from, below) in
          more (applied - first) (omega (arith, from)) (is ∙ ap (answers_from kind entries first) now)
          ∙ ap (answers_from kind entries first)
          (let e : suc (applied - first) ≡ min (applied + 1 - first) count = omega (arith, from, below) in e)
      by_test true e false f =
          let past : first + count ≤ applied = grind (arith, nat_tests, f) in
          is ∙ ap (answers_from kind entries first)
          (let e : min (applied - first) count ≡ min (applied + 1 - first) count = omega (arith, past) in e)
      by_test false e c f =
          let before : applied < first = grind (arith, nat_tests, e) in
          is ∙ ap (answers_from kind entries first)
          (let e : min (applied - first) count ≡ min (applied + 1 - first) count = omega (arith, before) in e)
