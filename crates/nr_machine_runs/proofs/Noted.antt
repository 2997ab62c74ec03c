-- What holds of the log and of the batches of a run: each call has at most one place, or is in at most one batch.
use Rattle.std.proofs.Common.{◌≡◌, ℕ, ◌+◌, ◌-◌, ◌<◌, ◌≤◌, nat_lt, Bool, true, false, ◌⊎◌, inl}
use Rattle.std.proofs.Common.{inr, Some, None, List, [], length, refl, ap, sym, subst, ◌∙◌, arith}
use Rattle.std.specs.Prelude.{slice_get}
use Rattle.std.proofs.lemmas.Bool.Decides.{nat_tests}
use Rattle.vs_types.specs.declared.log_entry.LogEntry.{LogEntry}
use Rattle.vs_types.specs.declared.requests.request.Query.TheVariants.{Update as Updates}
use Rattle.nr_trace.specs.Calls.{Invocation, made_by}
use Rattle.nr_trace.specs.declared.recordings.event.Event.{Event}
use Rattle.nr_trace.specs.declared.recordings.event.Asked.TheVariants as askeds
use Rattle.nr_core.specs.inside.Reached.{request_made, AreEntries, Behind, call_at}
use Rattle.nr_core.proofs.reached.Growth.{HaveCalls, Longer, behind_stays, read_stays, read_within, then_from}
use Rattle.nr_machine.specs.declared.words.Update.{Update}
use Rattle.nr_machine.specs.Actor.{Actor, update_at}
use Rattle.nr_machine.specs.Words.{with_at}
use Rattle.nr_machine.specs.World.{Log}
use Rattle.nr_machine.proofs.Cases.{at_cases}
use Rattle.nr_machine_runs.specs.History.{entries_to}
use Rattle.nr_machine_runs.specs.Recorded.{IsCallAt, MayGive, given_with}
use Rattle.nr_machine_runs.proofs.Given.{calls_are, each_once, given_all, given_stays, not_before, nth_call}
use Rattle.nr_machine_runs.proofs.Histories.{IsAppended}
use Rattle.nr_machine_runs.proofs.Values.{value_at}

-- the entry is that of a recorded update, and by no reply before that call more entries are known than the place
abbrev pub IsEntryAt : List Event → LogEntry → ℕ → Type 0
IsEntryAt events entry place =
    (made : Invocation) × (call_at events entry.call ≡ Some made) × (request_made made ≡ Updates entry.op) × Behind events entry.call place

abbrev pub place_call : (Update → LogEntry) → Log → ℕ → ℕ
place_call means log p = (means (log.entry p)).call

pub record IsPlaced (nodes : ℕ) (means : Update → LogEntry) (events : List Event) (log : Log) (actor : ℕ → Actor)
    (given : ℕ → Bool) : Type 0 where
  pub apart : (p q : ℕ) → p < q → q < log.tail → place_call means log p ≡ place_call means log q → ⊥
  pub marked : (p : ℕ) → p < log.tail → given (place_call means log p) ≡ true
  pub entries : (p : ℕ) → p < log.tail → IsEntryAt events (means (log.entry p)) p
  pub calls : (n : ℕ) → n < nodes → (i : ℕ) → i < length (actor n).batch → IsCallAt events n (means (update_at (actor n).batch i))
  pub taken : (n : ℕ) → n < nodes → (i : ℕ) → i < length (actor n).batch → given (nth_call means (actor n).batch i) ≡ true
  pub fresh : (n : ℕ) → n < nodes → (actor n).standing ≡ None → (i p : ℕ) → i < length (actor n).batch → p < log.tail
      → place_call means log p ≡ nth_call means (actor n).batch i → ⊥
  pub own : (n : ℕ) → n < nodes → (actor n).standing ≡ None → (i j : ℕ) → i < j → j < length (actor n).batch
      → nth_call means (actor n).batch i ≡ nth_call means (actor n).batch j → ⊥
  pub others : (n m : ℕ) → (n ≡ m → ⊥) → n < nodes → m < nodes → (actor n).standing ≡ None → (actor m).standing ≡ None
      → (i j : ℕ) → i < length (actor n).batch → j < length (actor m).batch
      → nth_call means (actor n).batch i ≡ nth_call means (actor m).batch j → ⊥

pub entries_placed : (nodes : ℕ) (means : Update → LogEntry) (events : List Event) (log : Log) (actor : ℕ → Actor) (given : ℕ → Bool)
    → IsPlaced nodes means events log actor given → AreEntries events (entries_to means log.entry log.tail)
entries_placed nodes means events log actor given is place entry at =
    let here = value_at (λ p. means (log.entry p)) log.tail place entry at in
    subst (λ (e : LogEntry). IsEntryAt events e place) (sym here.1) (is.entries place here.0)

-- its batch is as before, or it has none any more; and if that isn't in the log it wasn't before
pub record IsNoMore (old new : Actor) : Type 0 where
  pub within : (i : ℕ) → i < length new.batch → i < length old.batch
  pub same : (i : ℕ) → i < length new.batch → update_at new.batch i ≡ update_at old.batch i
  pub free : (i : ℕ) → i < length new.batch → new.standing ≡ None → old.standing ≡ None

pub as_before : (old new : Actor) → new.batch ≡ old.batch → (new.standing ≡ None → old.standing ≡ None) → IsNoMore old new
as_before old new same free = record {
  within = λ i lt. subst (λ (us : List Update). i < length us) same lt;
  same = λ i lt. ap (λ (us : List Update). update_at us i) same;
  free = λ i lt. free;
}

pub none_left : (old new : Actor) → new.batch ≡ [] → IsNoMore old new
none_left old new none = record {
  within = λ i lt. absurd (never i lt);
  same = λ i lt. absurd (never i lt);
  free = λ i lt. absurd (never i lt);
} where
  never : (i : ℕ) → i < length new.batch → ⊥
  never i lt = let long = ap (λ (us : List Update). length us) none in omega (arith, lt, long)

pub placed_on : (nodes : ℕ) (means : Update → LogEntry) (events : List Event) (log : Log) (actor actor' : ℕ → Actor) (given : ℕ → Bool)
    → ((m : ℕ) → IsNoMore (actor m) (actor' m)) → IsPlaced nodes means events log actor given → IsPlaced nodes means events log actor' given
placed_on nodes means events log actor actor' given less is = record {
  apart = is.apart;
  marked = is.marked;
  entries = is.entries;
  calls = λ n lt i w. subst (λ (u : Update). IsCallAt events n (means u)) (sym ((less n).same i w)) (is.calls n lt i ((less n).within i w));
  taken = λ n lt i w. ap given (same n i w) ∙ is.taken n lt i ((less n).within i w);
  fresh = λ n lt none i p w below e. is.fresh n lt ((less n).free i w none) i p ((less n).within i w) below (e ∙ same n i w);
  own = λ n lt none i j below w e. let v : i < length (actor' n).batch = omega (arith, below, w) in
      is.own n lt ((less n).free j w none) i j below ((less n).within j w) (sym (same n i v) ∙ e ∙ same n j w);
  others = λ n m apart lt there none none' i j w w' e.
      is.others n m apart lt there ((less n).free i w none) ((less m).free j w' none') i j ((less n).within i w) ((less m).within j w')
      (sym (same n i w) ∙ e ∙ same m j w');
} where
  same : (n i : ℕ) → i < length (actor' n).batch → nth_call means (actor' n).batch i ≡ nth_call means (actor n).batch i
  same n i w = ap (λ (u : Update). (means u).call) ((less n).same i w)

pub call_stays : (events later : List Event) (n : ℕ) (entry : LogEntry) → Longer events later → IsCallAt events n entry
    → IsCallAt later n entry
call_stays events later n entry longer (thread, at) = (thread, longer.stays entry.call _ at)

pub entry_stays : (events later : List Event) (entry : LogEntry) (place : ℕ) → Longer events later → HaveCalls events
    → IsEntryAt events entry place
    → IsEntryAt later entry place
entry_stays events later entry place longer have (made, is, asks, behind) = (
  made,
  read_stays made_by events later entry.call made longer is,
  asks,
  (let within = read_within made_by events entry.call made is in
      behind_stays events later entry.call place longer have (omega (arith, within)) behind),
)

-- an event more
pub placed_later : (nodes : ℕ) (means : Update → LogEntry) (events later : List Event) (log : Log) (actor : ℕ → Actor) (given : ℕ → Bool)
    → Longer events later → HaveCalls events → IsPlaced nodes means events log actor given → IsPlaced nodes means later log actor given
placed_later nodes means events later log actor given longer have is = record {
  apart = is.apart;
  marked = is.marked;
  taken = is.taken;
  fresh = is.fresh;
  own = is.own;
  others = is.others;
  entries = λ p lt. entry_stays events later (means (log.entry p)) p longer have (is.entries p lt);
  calls = λ n lt i within. call_stays events later n (means (update_at (actor n).batch i)) longer (is.calls n lt i within);
}

-- a call begins with updates that were given to no machine
pub placed_begun : (nodes : ℕ) (means : Update → LogEntry) (events : List Event) (log : Log) (actor : ℕ → Actor) (given : ℕ
    → Bool) (n : ℕ) (a : Actor)
    → MayGive means events n given a.batch → IsPlaced nodes means events log actor given
    → IsPlaced nodes means events log (with_at actor n a) (given_with means given a.batch)
placed_begun nodes means events log actor given n a may is = record {
  apart = is.apart;
  marked = λ p lt. given_stays means given a.batch (place_call means log p) (is.marked p lt);
  entries = is.entries;
  calls = λ m lt. at_cases (λ x. (i : ℕ) → i < length x.batch → IsCallAt events m (means (update_at x.batch i))) actor n a m
      (λ e i within. subst (λ (k : ℕ). IsCallAt events k (means (update_at a.batch i))) (sym e)
      (calls_are means events n given a.batch may i within))
      (λ apart. is.calls m lt);
  taken =
      λ m lt. at_cases (λ x. (i : ℕ) → i < length x.batch → given_with means given a.batch (nth_call means x.batch i) ≡ true) actor n a m
      (λ e i within. given_all means given a.batch i within)
      (λ apart i within. given_stays means given a.batch (nth_call means (actor m).batch i) (is.taken m lt i within));
  fresh = λ m lt. at_cases (λ x. x.standing ≡ None → (i p : ℕ) → i < length x.batch → p < log.tail
      → place_call means log p ≡ nth_call means x.batch i → ⊥)
      actor n a m
      (λ e none i p within below same. differ given (place_call means log p) (nth_call means a.batch i) (is.marked p below)
      (not_before means events n given a.batch may i within) same)
      (λ apart. is.fresh m lt);
  own = λ m lt. at_cases (λ x. x.standing ≡ None → (i j : ℕ) → i < j → j < length x.batch
      → nth_call means x.batch i ≡ nth_call means x.batch j → ⊥)
      actor n a m (λ e none. each_once means events n given a.batch may) (λ apart. is.own m lt);
  others = λ m k apart lt there.
      at_cases (λ x. x.standing ≡ None → (with_at actor n a k).standing ≡ None → (i j : ℕ) → i < length x.batch
      → j < length (with_at actor n a k).batch
      → nth_call means x.batch i ≡ nth_call means (with_at actor n a k).batch j → ⊥) actor n a m
      (λ e none. at_cases (λ y. y.standing ≡ None → (i j : ℕ) → i < length a.batch → j < length y.batch
      → nth_call means a.batch i ≡ nth_call means y.batch j → ⊥)
      actor n a k (λ f. absurd (apart (e ∙ sym f)))
      (λ other none' i j within within' same. differ given (nth_call means (actor k).batch j) (nth_call means a.batch i)
      (is.taken k there j within')
      (not_before means events n given a.batch may i within) (sym same)))
      (λ other none. at_cases (λ y. y.standing ≡ None → (i j : ℕ) → i < length (actor m).batch → j < length y.batch
      → nth_call means (actor m).batch i ≡ nth_call means y.batch j → ⊥) actor n a k
      (λ f none' i j within within' same. differ given (nth_call means (actor m).batch i) (nth_call means a.batch j)
      (is.taken m lt i within)
      (not_before means events n given a.batch may j within') same)
      (λ still. is.others m k apart lt there none));
} where
  differ : (given : ℕ → Bool) (x y : ℕ) → given x ≡ true → given y ≡ false → x ≡ y → ⊥
  differ given x y one two same = let wrong : true ≡ false = sym one ∙ ap given same ∙ two in absurd (cc)

-- a place below the end of a batch is an earlier one, or in the batch
split : (tail count p : ℕ) → p < tail + count → (p < tail) ⊎ ((i : ℕ) × (p ≡ tail + i) × (i < count))
split tail count p lt = by_test (nat_lt p tail) refl where
  by_test : (b : Bool) → nat_lt p tail ≡ b → (p < tail) ⊎ ((i : ℕ) × (p ≡ tail + i) × (i < count))
  by_test true e = inl (grind (arith, nat_tests, e))
  by_test false e = let past : tail ≤ p = grind (arith, nat_tests, e) in inr (p - tail, omega (arith, past), omega (arith, past, lt))

-- a batch is appended: its calls had no place, and have one now
pub placed_appended : (nodes : ℕ) (means : Update → LogEntry) (events : List Event) (log log' : Log) (actor : ℕ → Actor) (given : ℕ
    → Bool) (n first : ℕ) (a : Actor)
    → n < nodes → IsAppended log log' (actor n).batch → (actor n).standing ≡ None → a.batch ≡ (actor n).batch → a.standing ≡ Some first
    → ((call place : ℕ) → log.tail ≤ place → Behind events call place)
    → IsPlaced nodes means events log actor given → IsPlaced nodes means events log' (with_at actor n a) given
placed_appended nodes means events log log' actor given n first a lt more none same_batch standing behind is = record {
  apart = λ p q below within. apart p q below (split log.tail (length batch) p (earlier p q below (in_tail q within)))
      (split log.tail (length batch) q (in_tail q within));
  marked = λ p within. marked p (split log.tail (length batch) p (in_tail p within));
  entries = λ p within. entered p (split log.tail (length batch) p (in_tail p within));
  calls = λ m there. at_cases (λ x. (i : ℕ) → i < length x.batch → IsCallAt events m (means (update_at x.batch i))) actor n a m
      (λ e. subst (λ (us : List Update). (i : ℕ) → i < length us → IsCallAt events m (means (update_at us i))) (sym same_batch)
      (subst (λ (k : ℕ). (i : ℕ) → i < length batch → IsCallAt events k (means (update_at batch i))) (sym e) (is.calls n lt)))
      (λ other. is.calls m there);
  taken = λ m there. at_cases (λ x. (i : ℕ) → i < length x.batch → given (nth_call means x.batch i) ≡ true) actor n a m
      (λ e. subst (λ (us : List Update). (i : ℕ) → i < length us → given (nth_call means us i) ≡ true) (sym same_batch) (is.taken n lt))
      (λ other. is.taken m there);
  fresh = λ m there. at_cases (λ x. x.standing ≡ None → (i p : ℕ) → i < length x.batch → p < log'.tail
      → place_call means log' p ≡ nth_call means x.batch i → ⊥)
      actor n a m (λ e never. absurd (stands never))
      (λ other free i p within below. fresh m there other free i within p (split log.tail (length batch) p (in_tail p below)));
  own = λ m there. at_cases (λ x. x.standing ≡ None → (i j : ℕ) → i < j → j < length x.batch
      → nth_call means x.batch i ≡ nth_call means x.batch j → ⊥)
      actor n a m (λ e never. absurd (stands never)) (λ other. is.own m there);
  others = λ m k differ there there'.
      at_cases (λ x. x.standing ≡ None → (with_at actor n a k).standing ≡ None → (i j : ℕ) → i < length x.batch
      → j < length (with_at actor n a k).batch
      → nth_call means x.batch i ≡ nth_call means (with_at actor n a k).batch j → ⊥) actor n a m
      (λ e never. absurd (stands never))
      (λ other free. at_cases (λ y. y.standing ≡ None → (i j : ℕ) → i < length (actor m).batch → j < length y.batch
      → nth_call means (actor m).batch i ≡ nth_call means y.batch j → ⊥) actor n a k
      (λ f never. absurd (stands never)) (λ still. is.others m k differ there there' free));
} where
  batch : List Update
  batch = (actor n).batch

  stands : a.standing ≡ None → ⊥
  stands never = let wrong : Some first ≡ None = sym standing ∙ never in absurd (cc)

  in_tail : (p : ℕ) → p < log'.tail → p < log.tail + length batch
  in_tail p within = let end = more.tail in omega (arith, within, end)

  earlier : (p q : ℕ) → p < q → q < log.tail + length batch → p < log.tail + length batch
  earlier p q below within = omega (arith, below, within)

  old_call : (p : ℕ) → p < log.tail → place_call means log' p ≡ place_call means log p
  old_call p before = ap (λ (u : Update). (means u).call) (more.old p before)

  new_call : (p i : ℕ) → p ≡ log.tail + i → i < length batch → place_call means log' p ≡ nth_call means batch i
  new_call p i at within = ap (place_call means log') at ∙ ap (λ (u : Update). (means u).call) (more.new i within)

  apart : (p q : ℕ) → p < q → (p < log.tail) ⊎ ((i : ℕ) × (p ≡ log.tail + i) × (i < length batch))
      → (q < log.tail) ⊎ ((i : ℕ) × (q ≡ log.tail + i) × (i < length batch)) → place_call means log' p ≡ place_call means log' q → ⊥
  apart p q below (inl one) (inl two) same = is.apart p q below two (sym (old_call p one) ∙ same ∙ old_call q two)
  apart p q below (inl one) (inr (j, at, within)) same =
      is.fresh n lt none j p within one (sym (old_call p one) ∙ same ∙ new_call q j at within)
  apart p q below (inr (i, at, within)) (inl two) same = omega (arith, below, at, two)
  apart p q below (inr (i, at, within)) (inr (j, at', within')) same =
      is.own n lt none i j (omega (arith, below, at, at')) within' (sym (new_call p i at within) ∙ same ∙ new_call q j at' within')

  marked : (p : ℕ) → (p < log.tail) ⊎ ((i : ℕ) × (p ≡ log.tail + i) × (i < length batch)) → given (place_call means log' p) ≡ true
  marked p (inl before) = ap given (old_call p before) ∙ is.marked p before
  marked p (inr (i, at, within)) = ap given (new_call p i at within) ∙ is.taken n lt i within

  entered : (p : ℕ) → (p < log.tail) ⊎ ((i : ℕ) × (p ≡ log.tail + i) × (i < length batch)) → IsEntryAt events (means (log'.entry p)) p
  entered p (inl before) = subst (λ (u : Update). IsEntryAt events (means u) p) (sym (more.old p before)) (is.entries p before)
  entered p (inr (i, at, within)) =
      subst (λ (u : Update). IsEntryAt events (means u) p) (sym (ap log'.entry at ∙ more.new i within))
      (of_call (is.calls n lt i within)) where
        of_call : IsCallAt events n (means (update_at batch i)) → IsEntryAt events (means (update_at batch i)) p
        of_call (thread, there) = (
          record { replica = n; thread = thread; asked = askeds.Request (Updates (means (update_at batch i)).op) },
          then_from made_by (slice_get events (means (update_at batch i)).call) _ _ there refl,
          refl,
          behind (means (update_at batch i)).call p (omega (arith, at)),
        )

  fresh : (m : ℕ) → m < nodes → (m ≡ n → ⊥) → (actor m).standing ≡ None → (i : ℕ) → i < length (actor m).batch → (p : ℕ)
      → (p < log.tail) ⊎ ((j : ℕ) × (p ≡ log.tail + j) × (j < length batch)) → place_call means log' p ≡ nth_call means (actor m).batch i
      → ⊥
  fresh m there other free i within p (inl before) same = is.fresh m there free i p within before (sym (old_call p before) ∙ same)
  fresh m there other free i within p (inr (j, at, within')) same =
      is.others n m (λ e. other (sym e)) lt there none free j i within' within (sym (new_call p j at within') ∙ same)
