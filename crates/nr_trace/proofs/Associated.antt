-- Three recordings, one after the other, are one however they are taken together.
use Rattle.std.proofs.Common.{◌≡◌, ℕ, ◌+◌, List, [], ◌∷◌, ◌++◌, length, map, refl, ap, ap₂, sym, ◌∙◌, append_assoc, arith}
use Rattle.std.proofs.lemmas.List.{map-append}
use Rattle.vs_walk.specs.Dump.{Image}
use Rattle.nr_trace.specs.Recording.{Recording}
use Rattle.nr_trace.specs.declared.recordings.event.Event.{Event}
use Rattle.nr_trace.specs.declared.recordings.event.Event.TheVariants.{Reply}
use Rattle.nr_trace.specs.Joined.{calls_behind, dump_behind, event_behind, joined_traces}
use Rattle.nr_trace.proofs.Lengths.{many_events, many_places}

calls_twice : (m n : ℕ) (calls : List ℕ) → calls_behind (m + n) calls ≡ calls_behind m (calls_behind n calls)
calls_twice m n [] = refl
calls_twice m n (call ∷ calls) = ap₂ (λ (x : ℕ) (xs : List ℕ). x ∷ xs) (let it : (m + n) + call ≡ m + (n + call) = omega arith in it) (calls_twice m n calls)

event_twice : (m n p q : ℕ) (event : Event) → event_behind (m + n) (p + q) event ≡ event_behind m p (event_behind n q event)
event_twice m n p q (Reply call at answer) =
    ap₂ (λ (c a : ℕ). Reply c a answer) (let it : (m + n) + call ≡ m + (n + call) = omega arith in it)
    (let it : (p + q) + at ≡ p + (q + at) = omega arith in it)
event_twice m n p q _ = refl

events_twice : (m n p q : ℕ) (events : List Event) → map (event_behind (m + n) (p + q)) events ≡ map (event_behind m p) (map (event_behind n q) events)
events_twice m n p q [] = refl
events_twice m n p q (event ∷ events) = ap₂ (λ (x : Event) (xs : List Event). x ∷ xs) (event_twice m n p q event) (events_twice m n p q events)

dumps_twice : (p q : ℕ) (dumps : List Image) → map (dump_behind (p + q)) dumps ≡ map (dump_behind p) (map (dump_behind q) dumps)
dumps_twice p q [] = refl
dumps_twice p q (dump ∷ dumps) =
    ap₂ (λ (x : Image) (xs : List Image). x ∷ xs)
    (ap (λ (n : ℕ). let it : Image = record { applied = n; root = dump.root; frames = dump.frames } in it)
    (let it : (p + q) + dump.applied ≡ p + (q + dump.applied) = omega arith in it))
    (dumps_twice p q dumps)

module _ (first second third : Recording) where
  same_log : (joined_traces (joined_traces first second) third).log ≡ (joined_traces first (joined_traces second third)).log
  same_log =
      ap (λ (n : ℕ). (first.log ++ calls_behind (length first.events) second.log) ++ calls_behind n third.log) (many_events first second)
      ∙ ap (λ (calls : List ℕ). (first.log ++ calls_behind (length first.events) second.log) ++ calls)
      (calls_twice (length first.events) (length second.events) third.log)
      ∙ append_assoc first.log (calls_behind (length first.events) second.log)
      (calls_behind (length first.events) (calls_behind (length second.events) third.log))
      ∙ ap (λ (calls : List ℕ). first.log ++ calls)
      (sym (map-append (λ (call : ℕ). length first.events + call) second.log (calls_behind (length second.events) third.log)))

  same_events : (joined_traces (joined_traces first second) third).events ≡ (joined_traces first (joined_traces second third)).events
  same_events =
      ap₂ (λ (m p : ℕ). (first.events ++ map (event_behind (length first.events) (length first.log)) second.events) ++ map (event_behind m p) third.events)
      (many_events first second) (many_places first second)
      ∙ ap (λ (events : List Event). (first.events ++ map (event_behind (length first.events) (length first.log)) second.events) ++ events)
      (events_twice (length first.events) (length second.events) (length first.log) (length second.log) third.events)
      ∙ append_assoc first.events (map (event_behind (length first.events) (length first.log)) second.events)
      (map (event_behind (length first.events) (length first.log)) (map (event_behind (length second.events) (length second.log)) third.events))
      ∙ ap (λ (events : List Event). first.events ++ events)
      (sym (map-append (event_behind (length first.events) (length first.log)) second.events
      (map (event_behind (length second.events) (length second.log)) third.events)))

  same_dumps : (joined_traces (joined_traces first second) third).dumps ≡ (joined_traces first (joined_traces second third)).dumps
  same_dumps = ap (λ (p : ℕ). map (dump_behind p) third.dumps) (many_places first second) ∙ dumps_twice (length first.log) (length second.log) third.dumps

  pub joined_associate : joined_traces (joined_traces first second) third ≡ joined_traces first (joined_traces second third)
  joined_associate = λ i. record {
    version = first.version;
    layout = first.layout;
    start = first.start;
    log = same_log i;
    events = same_events i;
    dumps = same_dumps i;
  }
