-- What is counted of a segment without touches.
use Rattle.std.proofs.Common.{◌≡◌, ◌∙◌, ℕ, ◌+◌, false, [], length, slice_get, Option, Some, None, option_and_then, refl, sym, ap, subst, arith}
use Rattle.std.specs.Prelude.{count_by, IsSome}
use Rattle.std.specs.Option.{option_map_or}
use Rattle.vs_types.specs.Space.{Space}
use Rattle.nr_trace.specs.Recording.{Recording}
use Rattle.nr_trace.specs.Calls.{made_by, unordered_in, Invocation}
use Rattle.nr_trace.specs.Orders.{below}
use Rattle.nr_trace.specs.declared.recordings.event.Event.{Event}
use Rattle.nr_trace.specs.declared.recordings.event.Event.TheVariants as events
use Rattle.nr_trace.specs.declared.recordings.event.Asked.{Asked}
use Rattle.nr_trace.specs.declared.recordings.event.Asked.TheVariants as askeds
use Rattle.nr_trace.specs.Run.{Run}
use Rattle.nr_touch.specs.Beside.{beside, is_beside, meets_update, touched, touched_in}
use Rattle.nr_touch.specs.Excuses.{AreExcusedBy}
use Rattle.nr_touch.proofs.Overs.{count_same}
use Rattle.nr_audit.specs.Met.{AreTouchesOf}
use Rattle.nr_audit.specs.inside.Begun.{HasSomeTouch}

pub no_excuses : (before : Option Run) (start : Space) (segment : Recording) → AreExcusedBy before start segment [] []
no_excuses before start segment = record {
  one_each = refl;
  each = λ index touch excuse at had. absurd (let none : None ≡ Some touch = at in cc);
}

abbrev asked_in : Option Event → Option Asked
asked_in event = option_and_then (λ (made : Invocation). unordered_in made.asked) (option_and_then made_by event)

-- an event that has an address is a touch
not_touched : (event : Option Event) → (IsSome (asked_in event) → ⊥)
    → option_and_then (λ (made : Invocation). touched_in made.asked) (option_and_then made_by event) ≡ None
not_touched (Some (events.Call replica thread (askeds.Touch address mode access))) none = absurd (none refl)
not_touched _ none = refl

module _ (segment : Recording) (none : HasSomeTouch segment → ⊥) where
  pub no_touches_of : AreTouchesOf segment []
  no_touches_of = record {
    each = λ index touch at. absurd (let nothing : None ≡ Some touch = at in cc);
    all = λ touch has. absurd (none (touch.made, subst IsSome (sym has.asks) refl));
    rising = λ i j d less lt. absurd (omega (arith, lt));
  }

  pub none_beside : (start : Space) → 0 ≡ beside start segment
  none_beside start =
      let all : length segment.events ≡ 0 + length segment.events = omega arith in
      sym (ap (λ (n : ℕ). count_by (is_beside start segment) (below n)) all
      ∙ count_same (is_beside start segment) 0 (length segment.events) (λ n low high.
      ap (λ (o : Option ℕ). option_map_or (meets_update start segment n) o false)
      (not_touched (slice_get segment.events n) (λ is. none (n, is)))))
