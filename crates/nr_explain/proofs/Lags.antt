-- The moments from which a touch may be answered by a table that lags.
use Rattle.std.proofs.Common.{◌≡◌, ◌↔◌, ℕ, ◌≤◌, inl, inr, Bool, true, false, not, length, Option, Some, None, is_some, refl, sym, ap, subst, ◌∙◌, arith}
use Rattle.std.specs.Prelude.{IfSome}
use Rattle.std.specs.Option.{option_map_or}
use Rattle.std.proofs.lemmas.Bool.{false≢true}
use Rattle.std.proofs.lemmas.Option.{slice_get_within}
use Rattle.vs_types.specs.Space.{Space}
use Rattle.vs_types.specs.declared.requests.answer.Answer.{Answer}
use Rattle.nr_trace.specs.Recording.{Recording}
use Rattle.nr_trace.specs.Calls.{Invocation}
use Rattle.nr_touch.specs.Touches.{page_after, ChangesLook, IsLagging, IsMadeAfter}
use Rattle.nr_touch.specs.declared.touches.touch.Touch.{Touch}
use Rattle.nr_audit.specs.Touches.{known_at, known_when, HasTouch}
use Rattle.nr_explain.specs.ChainEvidence.{found_page}
use Rattle.nr_explain.specs.ChainFacts.{IsLagOf}
use Rattle.nr_explain.specs.Facts.{IsCallOf}
use Rattle.nr_explain.specs.inside.Windows.{IsWindowOf}
use Rattle.nr_explain.specs.declared.chain.evidence.Lag.{Lag}
use Rattle.nr_explain.specs.declared.chain.windows.Window.{Window}
use Rattle.nr_explain.specs.declared.trace.evidence.RecordedCall.{RecordedCall}

-- how many entries the replica of a recorded call was known to have applied
known_of : (segment : Recording) (call : RecordedCall) → IsCallOf segment call → known_when segment call.event ≡ known_at segment call.replica call.event
known_of segment call is =
    ap (λ (o : Option Invocation). option_map_or (λ (made : Invocation). known_at segment made.replica call.event) o 0) is

-- a touch of these addresses and events
pub record IsAskedSo (segment : Recording) (of_it : ℕ) (call : RecordedCall) (by : ℕ) (touch : Touch) : Type 0 where
  pub address : touch.address ≡ of_it
  pub made : touch.made ≡ call.event
  pub answered : touch.answered ≡ by
  pub known : touch.known ≡ known_when segment touch.made

-- whether a touch found a page
pub found_so : (lag : Option Lag) (found : Bool) → is_some lag ≡ not found → found ≡ found_page lag
found_so None true e = refl
found_so None false e = absurd (false≢true e)
found_so (Some lag) true e = absurd (false≢true (sym e))
found_so (Some lag) false e = refl

module _ (start : Space) (segment : Recording) (address answered : ℕ) (call : RecordedCall) (with_page : Bool) (window : Window)
    (is_call : IsCallOf segment call) (is : IsWindowOf start segment address call.event answered with_page window) where
  lag_is : (touch : Touch) (lag : Lag) → IsAskedSo segment address call answered touch → lag.known ≡ known_at segment call.replica call.event → (m : ℕ)
      → IsLagging start segment touch m ↔ ((lag.known ≤ m) × (m ≤ window.last) × (page_after start segment touch.address m ≡ None))
  lag_is touch lag asked told m = (there, back) where
    same : touch.known ≡ lag.known
    same = asked.known ∙ ap (known_when segment) asked.made ∙ known_of segment call is_call ∙ sym told

    placed_after : (place event : ℕ) → IsMadeAfter segment place event → place ≤ length segment.log
    placed_after place event h = let low = slice_get_within segment.log place h.0 h.1 in omega (arith, low)

    there : IsLagging start segment touch m → (lag.known ≤ m) × (m ≤ window.last) × (page_after start segment touch.address m ≡ None)
    there it = (
      (let low = it.known in omega (arith, low, same)),
      elim is.met [
        | inl all ↦ (let few = it.within in omega (arith, few, all))
        | inr place ↦ it.not_foreseen window.last (subst (λ (a : ℕ). ChangesLook start segment a window.last) (sym asked.address) place.1.0)
            (subst (IsMadeAfter segment window.last) (sym asked.answered) place.1.1)
      ],
      it.absent,
    )

    back : (lag.known ≤ m) × (m ≤ window.last) × (page_after start segment touch.address m ≡ None) → IsLagging start segment touch m
    back (low, high, absent) = record {
      within = let few = is.within in omega (arith, few, high);
      known = omega (arith, low, same);
      not_foreseen = λ place changes after.
          let within = slice_get_within segment.log place after.0 after.1 in
          let more = is.not_foreseen place within
          (subst (λ (a : ℕ). ChangesLook start segment a place) asked.address changes, subst (IsMadeAfter segment place) asked.answered after) in
          omega (arith, more, high);
      absent = absent;
    }

  pub lagging : (answer : Answer) (lag : Option Lag) → IsLagOf segment call answer lag
      → ((touch : Touch) → HasTouch segment touch → touch.made ≡ call.event → IsAskedSo segment address call answered touch)
      → IfSome lag (λ (it : Lag). (touch : Touch) → HasTouch segment touch → touch.made ≡ call.event → (m : ℕ)
      → IsLagging start segment touch m ↔ ((it.known ≤ m) × (m ≤ window.last) × (page_after start segment touch.address m ≡ None)))
  lagging answer None of_it asks = tt
  lagging answer (Some lag) of_it asks = λ touch has made m. lag_is touch lag (asks touch has made) of_it.1 m
