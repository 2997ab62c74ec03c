-- The parts of a trace that has an order as its log.
use Rattle.std.proofs.Common.{◌≡◌, ℕ, suc, ◌+◌, ◌-◌, ◌<◌, List, [], ◌∷◌, ◌++◌, length, map, take, get_or, slice_get, Option, Some, None, Ok, Err, false, ap, sym, ◌∙◌, subst, arith}
use Rattle.std.specs.Borrow.{Bor}
use Rattle.std.specs.Option.{option_copied}
use Rattle.std.specs.Prelude.{drop, is_some, IfSome, MatchResult, Result}
use Rattle.std.specs.Result.{result_ok}
use Rattle.std.proofs.lemmas.List.{map-append, take_at, take_more}
use Rattle.std.proofs.lemmas.Option.{slice_get-get_or}
use Rattle.vs_types.specs.Config.{Layout}
use Rattle.vs_walk.specs.Dump.{Image}
use Rattle.nr_trace.specs.Recording.{Recording}
use Rattle.nr_trace.specs.Orders.{updates}
use Rattle.nr_trace.specs.declared.recordings.event.Event.{Event}
use Rattle.nr_trace.specs.declared.formats.version.Version.{Version}
use Rattle.nr_order.specs.WithOrder.{placed_by, with_order}
use Rattle.nr_order.specs.inside.Counted.{AreCountedFrom}
use Rattle.nr_order.proofs.Counting.{count_take, counted_more}

-- what is written through a loan of the whole
pub written : (len : ℕ) (new items : List ℕ) → length new ≡ len → new ≡ take len (new ++ drop (length new) items)
written len new items long = sym (take_at new (drop (length new) items) len long)

-- one event more is placed
pub placed_more : (trace : Recording) (order : List ℕ) (events : List Event) (index : ℕ) (item made : Event) (old new : List Event) → events ≡ trace.events
    → index < length events → item ≡ get_or events index item → made ≡ placed_by trace order item
    → old ≡ map (placed_by trace order) (take index trace.events) → new ≡ old ++ made ∷ []
    → new ≡ map (placed_by trace order) (take (index + 1) trace.events)
placed_more trace order events index item made old new same within read placed before pushed =
    let f : Event → Event = placed_by trace order in
    let here : index < length trace.events = subst (λ (es : List Event). index < length es) same within in
    pushed ∙ ap (λ (es : List Event). es ++ made ∷ []) before
    ∙ ap (λ (e : Event). map f (take index trace.events) ++ e ∷ [])
    (placed ∙ ap f (read ∙ ap (λ (es : List Event). get_or es index item) same))
    ∙ sym (ap (map f) (take_more trace.events index item here) ∙ map-append f (take index trace.events) (get_or trace.events index item ∷ []))

-- one member more is counted, from the last one back
pub counted_step : (trace : Recording) (order : List ℕ) (passed call before own : ℕ) (old new : List ℕ) → passed < length order
    → call ≡ get_or order (length order - 1 - passed) 0
    → before ≡ length (updates trace (take (length order - passed) order)) → AreCountedFrom trace order (length order - passed) old
    → own ≡ before - length (updates trace (call ∷ [])) → length new ≡ length old
    → (call < length new → slice_get new call ≡ Some own)
    → ((other : ℕ) → (other ≡ call → ⊥) → slice_get new other ≡ slice_get old other)
    → (own ≡ length (updates trace (take (length order - (passed + 1)) order))) × AreCountedFrom trace order (length order - (passed + 1)) new
counted_step trace order passed call before own old new less is_call counted are step many puts others =
    let n : ℕ = length order - (passed + 1) in
    let place : length order - 1 - passed ≡ n = omega arith in
    let next : length order - passed ≡ suc n = omega (arith, less) in
    let within : n < length order = omega (arith, less) in
    let is : slice_get order n ≡ Some call =
    slice_get-get_or order n 0 within ∙ ap (λ (k : ℕ). Some (get_or order k 0)) (sym place) ∙ ap Some (sym is_call) in
    let taken : length (updates trace (take (suc n) order)) ≡ length (updates trace (take n order)) + length (updates trace (call ∷ [])) =
    count_take trace order n call is in
    let all : before ≡ length (updates trace (take (suc n) order)) = counted ∙ ap (λ (k : ℕ). length (updates trace (take k order))) next in
    let own_is : own ≡ length (updates trace (take n order)) = omega (arith, step, all, taken) in (
      own_is,
      counted_more trace order n call old new is (subst (λ (k : ℕ). AreCountedFrom trace order k old) next are) many (λ within. puts within ∙ ap Some own_is)
          others,
    )

-- all parts
pub whole_of : (trace : Recording) (order log : List ℕ) (events : List Event) (dumps : List Image) (version : Version) (layout : Layout)
    → version ≡ trace.version → layout ≡ trace.layout → trace.start ≡ None → log ≡ updates trace order → events ≡ map (placed_by trace order) trace.events
    → dumps ≡ trace.dumps
    → ◌≡◌ {A = Recording} (record { version = version; layout = layout; start = None; log = log; events = events; dumps = dumps }) (with_order trace order)
whole_of trace order log events dumps version layout a b c d e f =
    let start : None ≡ trace.start = sym c in
    λ i. record { version = a i; layout = b i; start = start i; log = d i; events = e i; dumps = f i }

-- a value that is there
pub some_with : {X : Type 0} (o : Option X) (x : X) (P : X → Type 0) → o ≡ Some x → IfSome o P → P x
some_with o x P is h = subst (λ (found : Option _). IfSome found P) is h

-- no start is read where there is none
pub no_start_read : {X : Type 0} (read : Option (Bor X)) (start : Option X) → option_copied read ≡ start → is_some read ≡ false → start ≡ None
no_start_read None start is none = sym is
no_start_read (Some image) start is none = absurd cc

-- the trace that is made of all parts
pub made_of : {E : Type 0} (P : Type 0) (Q : E → Type 0) (whole parts : Recording) (result : Result Recording E) (made : Option Recording)
    → made ≡ result_ok result → MatchResult result (λ trace. (trace ≡ parts) × P) Q → parts ≡ whole → IfSome made (λ trace. trace ≡ whole)
made_of P Q whole parts (Ok trace) made is matches same = subst (λ (o : Option Recording). IfSome o (λ trace. trace ≡ whole)) (sym is) (matches.0 ∙ same)
made_of P Q whole parts (Err fault) made is matches same = subst (λ (o : Option Recording). IfSome o (λ trace. trace ≡ whole)) (sym is) tt
