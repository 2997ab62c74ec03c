-- Runs in segments, of which the second begins with the space after the first, are right as one.
use Rattle.std.proofs.Common.{◌≡◌, ℕ, ◌+◌, ◌⊎◌, inl, inr, List, [], ◌∷◌, ◌++◌, length, map, refl, ap, ap₂, sym, ◌∙◌, subst, arith}
use Rattle.std.proofs.lemmas.List.{append_assoc, append-nil, length-append, length-map, map-append}
use Rattle.vs_types.specs.Space.{Space}
use Rattle.vs_walk.specs.Dump.{Image}
use Rattle.nr_trace.specs.Recording.{Recording}
use Rattle.nr_trace.specs.declared.recordings.event.Event.{Event}
use Rattle.nr_trace.specs.declared.recordings.event.Event.TheVariants.{Reply}
use Rattle.nr_trace.specs.Joined.{event_behind, dump_behind, calls_behind, joined_traces}
use Rattle.nr_chain.specs.Joined.{Segment, both, joined}
use Rattle.nr_chain.specs.Run.{HasFittingDumpsFrom, IsRightFrom, IsRightRun, space_behind}
use Rattle.nr_chain.proofs.Recorded.{events_of_both}
use Rattle.nr_chain.proofs.Both.{dumps_both, right_both}

-- ---- two runs, and one behind them, are one run and two behind it

map_through : {X : Type 0} (f g h : X → X) → ((x : X) → f x ≡ g (h x)) → (xs : List X) → map f xs ≡ map g (map h xs)
map_through f g h same [] = refl
map_through f g h same (x ∷ xs) = ap₂ ◌∷◌ (same x) (map_through f g h same xs)

sum_twice : (n m x : ℕ) → (n + m) + x ≡ n + (m + x)
sum_twice n m x = omega arith

event_twice : (n m p q : ℕ) (event : Event) → event_behind (n + m) (p + q) event ≡ event_behind n p (event_behind m q event)
event_twice n m p q (Reply call at answer) = ap₂ (λ (c a : ℕ). Reply c a answer) (sum_twice n m call) (sum_twice p q at)
event_twice n m p q event = refl

dump_twice : (p q : ℕ) (dump : Image) → dump_behind (p + q) dump ≡ dump_behind p (dump_behind q dump)
dump_twice p q dump = λ i. record { applied = sum_twice p q dump.applied i; root = dump.root; frames = dump.frames }

-- calls behind the events of two runs
calls_of_three : (n m l : ℕ) (a b c : List ℕ) → l ≡ n + m → (a ++ calls_behind n b) ++ calls_behind l c ≡ a ++ calls_behind n (b ++ calls_behind m c)
calls_of_three n m l a b c e =
    append_assoc a (calls_behind n b) (calls_behind l c)
    ∙ ap (λ (calls : List ℕ). a ++ calls)
    (ap (λ (calls : List ℕ). calls_behind n b ++ calls)
    (ap (λ (k : ℕ). calls_behind k c) e
    ∙ map_through (λ (x : ℕ). (n + m) + x) (λ (x : ℕ). n + x) (λ (x : ℕ). m + x) (sum_twice n m) c)
    ∙ sym (map-append (λ (x : ℕ). n + x) b (calls_behind m c)))

places_of_two : (a b : Recording) → length (joined_traces a b).log ≡ length a.log + length b.log
places_of_two a b =
    length-append a.log (calls_behind (length a.events) b.log) ∙ ap (λ (k : ℕ). length a.log + k) (length-map b.log (λ (x : ℕ). length a.events + x))

events_of_three : (a b c : Recording) → (joined_traces (joined_traces a b) c).events ≡ (joined_traces a (joined_traces b c)).events
events_of_three a b c =
    append_assoc a.events (map (event_behind (length a.events) (length a.log)) b.events)
    (map (event_behind (length (joined_traces a b).events) (length (joined_traces a b).log)) c.events)
    ∙ ap (λ (events : List Event). a.events ++ events)
    (ap (λ (events : List Event). map (event_behind (length a.events) (length a.log)) b.events ++ events)
    (ap₂ (λ (n p : ℕ). map (event_behind n p) c.events) (events_of_both a b) (places_of_two a b)
    ∙ map_through (event_behind (length a.events + length b.events) (length a.log + length b.log)) (event_behind (length a.events) (length a.log))
    (event_behind (length b.events) (length b.log)) (event_twice (length a.events) (length b.events) (length a.log) (length b.log)) c.events)
    ∙ sym (map-append (event_behind (length a.events) (length a.log)) b.events (map (event_behind (length b.events) (length b.log)) c.events)))

dumps_of_three : (a b c : Recording) → (joined_traces (joined_traces a b) c).dumps ≡ (joined_traces a (joined_traces b c)).dumps
dumps_of_three a b c =
    ap (λ (p : ℕ). map (dump_behind p) c.dumps) (places_of_two a b)
    ∙ map_through (dump_behind (length a.log + length b.log)) (dump_behind (length a.log)) (dump_behind (length b.log))
    (dump_twice (length a.log) (length b.log)) c.dumps

traces_of_three : (a b c : Recording) → joined_traces (joined_traces a b) c ≡ joined_traces a (joined_traces b c)
traces_of_three a b c = λ i. record {
  version = a.version;
  layout = a.layout;
  start = a.start;
  log = calls_of_three (length a.events) (length b.events) (length (joined_traces a b).events) a.log b.log c.log (events_of_both a b) i;
  events = events_of_three a b c i;
  dumps = dumps_of_three a b c i;
}

three : (a b c : Segment) → both (both a b) c ≡ both a (both b c)
three a b c = λ i. record {
  trace = traces_of_three a.trace b.trace c.trace i;
  order = calls_of_three (length a.trace.events) (length b.trace.events) (length (joined_traces a.trace b.trace).events) a.order b.order c.order
      (events_of_both a.trace b.trace) i;
}

joined_behind : (a b : Segment) (rest : List Segment) → joined (both a b) rest ≡ both a (joined b rest)
joined_behind a b [] = refl
joined_behind a b (c ∷ rest) = ap (λ (s : Segment). joined s rest) (three a b c) ∙ joined_behind a (both b c) rest

joined_on : (first : Segment) (more rest : List Segment) → joined first (more ++ rest) ≡ joined (joined first more) rest
joined_on first [] rest = refl
joined_on first (next ∷ more) rest = joined_on (both first next) more rest

joined_both : (first next : Segment) (more rest : List Segment) → joined first (more ++ next ∷ rest) ≡ both (joined first more) (joined next rest)
joined_both first next more rest = joined_on first more (next ∷ rest) ∙ joined_behind (joined first more) next rest

layout_of_joined : (first : Segment) (more : List Segment) → (joined first more).trace.layout ≡ first.trace.layout
layout_of_joined first [] = refl
layout_of_joined first (next ∷ more) = layout_of_joined (both first next) more

-- ---- the fronts of two lists, one behind the other

abbrev InFirst : {X : Type 0} → List X → List X → Type 0
InFirst {X} xs front = (more : List X) × (xs ≡ front ++ more)

abbrev InSecond : {X : Type 0} → List X → X → List X → List X → List X → Type 0
InSecond {X} xs y ys front others = (own : List X) × (front ≡ xs ++ y ∷ own) × (ys ≡ own ++ others)

front_of_both : {X : Type 0} (xs : List X) (y : X) (ys front others : List X) → xs ++ y ∷ ys ≡ front ++ others
    → InFirst xs front ⊎ InSecond xs y ys front others
front_of_both [] y ys [] others e = inl ([], refl)
front_of_both [] y ys (f ∷ front) others e =
    let here : y ∷ ys ≡ f ∷ (front ++ others) = e in
    let head : f ≡ y = cc in
    let tail : ys ≡ front ++ others = cc in
    inr (front, ap (λ z. z ∷ front) head, tail)
front_of_both (x ∷ xs) y ys [] others e = inl (x ∷ xs, refl)
front_of_both {X} (x ∷ xs) y ys (f ∷ front) others e =
    let here : x ∷ (xs ++ y ∷ ys) ≡ f ∷ (front ++ others) = e in
    let head : x ≡ f = cc in
    let tail : xs ++ y ∷ ys ≡ front ++ others = cc in
    onto head (front_of_both xs y ys front others tail) where
      onto : x ≡ f → InFirst xs front ⊎ InSecond xs y ys front others → InFirst (x ∷ xs) (f ∷ front) ⊎ InSecond (x ∷ xs) y ys (f ∷ front) others
      onto head (inl (more, is)) = inl (more, ap₂ ◌∷◌ head is)
      onto head (inr (own, is, rest)) = inr (own, ap₂ ◌∷◌ (sym head) is, rest)

-- ---- right runs

as_one : (start : Space) (first : Segment) (more : List Segment) → IsRightRun start first more → IsRightFrom start (joined first more)
as_one start first more run = record {
  events = run.events;
  members = run.members;
  precedence = run.precedence;
  answers = run.answers;
  log = run.log;
  dumps = run.dumps more [] (sym (append-nil more));
}

pub right_runs : (start : Space) (first next : Segment) (more rest : List Segment) → next.trace.layout ≡ first.trace.layout → IsRightRun start first more
    → IsRightRun (space_behind start (joined first more)) next rest → IsRightRun start first (more ++ next ∷ rest)
right_runs start first next more rest same_layout run behind = record {
  events = right.events;
  members = right.members;
  precedence = right.precedence;
  answers = right.answers;
  log = right.log;
  dumps = λ front others is. fitting front others (front_of_both more next rest front others is);
} where
  same : (front : List Segment) → (joined next front).trace.layout ≡ (joined first more).trace.layout
  same front = layout_of_joined next front ∙ same_layout ∙ sym (layout_of_joined first more)

  right : IsRightFrom start (joined first (more ++ next ∷ rest))
  right =
      subst (λ (segment : Segment). IsRightFrom start segment) (sym (joined_both first next more rest))
      (right_both start (joined first more) (joined next rest) (same rest) (as_one start first more run)
      (as_one (space_behind start (joined first more)) next rest behind))

  fitting : (front others : List Segment) → InFirst more front ⊎ InSecond more next rest front others → HasFittingDumpsFrom start (joined first front)
  fitting front others (inl (tail, is)) = run.dumps front tail is
  fitting front others (inr (own, is, rest_is)) =
      subst (λ (segments : List Segment). HasFittingDumpsFrom start (joined first segments)) (sym is)
      (subst (λ (segment : Segment). HasFittingDumpsFrom start segment) (sym (joined_both first next more own))
      (dumps_both start (joined first more) (joined next own) (same own) (as_one start first more run) (behind.dumps own others rest_is)))
