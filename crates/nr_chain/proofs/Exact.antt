-- What is found of bytes is one thing.
use Rattle.std.proofs.Common.{◌≡◌, ℕ, ◌⊎◌, inl, inr, List, [], ◌∷◌, Option, Some, None, refl, ap, ap₂, sym, ◌∙◌, subst}
use Rattle.vs_types.specs.Config.{Layout}
use Rattle.nr_trace.specs.Recording.{Recording}
use Rattle.nr_trace.specs.FirstFault.{HasSegmentFault}
use Rattle.nr_trace.specs.Orders.{recorded_order}
use Rattle.nr_trace.specs.declared.refusals.fault.Fault.TheVariants as faults
use Rattle.nr_trace.specs.declared.refusals.fault.Format.{Format}
use Rattle.nr_trace.specs.declared.formats.version.Form.TheVariants as forms
use Rattle.nr_trace.proofs.LawsOfFormat.{no_fault_of_segment, one_fault}
use Rattle.nr_audit.specs.Faults.{IsFirstAfter, IsSoundAfter}
use Rattle.nr_trace.specs.declared.refusals.fault.Fault.{Fault}
use Rattle.nr_trace.specs.Run.{Run}
use Rattle.nr_audit.specs.Segments.{run_after}
use Rattle.nr_chain.specs.Bytes.{layout_before, BeginsWith, EndsWith, HasFirstNext, IsFirstNext, GoesOnSo}
use Rattle.nr_chain.proofs.OneChain.{begins_some, one_front}

-- the first fault of the next segment is of its format, or of what is spelled
abbrev FirstOfEither : Option Run → List ℕ → Fault → Type 0
FirstOfEither behind bytes fault =
    ((own : Format) × (fault ≡ faults.Format own) × HasSegmentFault (layout_before behind) bytes own) ⊎ HasFirstNext behind bytes fault

first_of_either : (behind : Option Run) (bytes : List ℕ) (fault : Fault) → IsFirstNext behind bytes fault → FirstOfEither behind bytes fault
first_of_either behind bytes (faults.Format own) first = inl (own, refl, first)
first_of_either behind bytes _ first = inr first

-- what begins with a segment has no fault of the format
no_fault_in_front : (before : Option Layout) (bytes : List ℕ) (segment : Recording) (rest : List ℕ) (fault : Format) → BeginsWith before bytes segment rest
    → HasSegmentFault before bytes fault → ⊥
no_fault_in_front before bytes segment rest fault begins h =
    no_fault_of_segment before begins.own rest segment fault begins.spelled (subst (λ (b : List ℕ). HasSegmentFault before b fault) begins.is h)

-- a segment that is sound has no first fault
sound_or_first : (behind : Option Run) (bytes : List ℕ) (segment : Recording) (rest : List ℕ) (fault : Fault)
    → BeginsWith (layout_before behind) bytes segment rest → IsSoundAfter behind segment → FirstOfEither behind bytes fault → ⊥
sound_or_first behind bytes segment rest fault begins sound (inl (own, is, h)) = no_fault_in_front (layout_before behind) bytes segment rest own begins h
sound_or_first behind bytes segment rest fault begins sound (inr (other, last, starts, first)) =
    let (same_rest, same) = one_front (layout_before behind) bytes other segment last rest starts begins in
    sound.faultless fault (subst (λ (r : Recording). IsFirstAfter behind r fault) same first).holds

-- a chain doesn't end at a segment that is sound
pub ends_or_sound : (behind : Option Run) (bytes : List ℕ) (found : Option Fault) (segment : Recording) (rest : List ℕ) → EndsWith behind bytes found
    → BeginsWith (layout_before behind) bytes segment rest → IsSoundAfter behind segment → ⊥
ends_or_sound None bytes (Some fault) segment rest ends begins sound =
    sound_or_first None bytes segment rest fault begins sound (first_of_either None bytes fault ends)
ends_or_sound (Some behind) [] found segment rest ends begins sound = begins_some (layout_before (Some behind)) [] segment rest begins refl
ends_or_sound (Some behind) (x ∷ bytes) (Some fault) segment rest ends begins sound =
    sound_or_first (Some behind) (x ∷ bytes) segment rest fault begins sound (first_of_either (Some behind) (x ∷ bytes) fault ends)
ends_or_sound _ _ None segment rest ends begins sound = ends

module _ (one_first : (before : Option Run) (segment : Recording) (first second : Fault) → IsFirstAfter before segment first
    → IsFirstAfter before segment second → first ≡ second) where
  one_of_either : (behind : Option Run) (bytes : List ℕ) (first second : Fault) → FirstOfEither behind bytes first → FirstOfEither behind bytes second
      → first ≡ second
  one_of_either behind bytes first second (inl (own, is, h)) (inl (other, other_is, k)) =
      is ∙ ap (λ (f : Format). faults.Format f) (one_fault (forms.Segment (layout_before behind)) bytes own other h k) ∙ sym other_is
  one_of_either behind bytes first second (inl (own, is, h)) (inr (segment, rest, begins, is_first)) =
      absurd (no_fault_in_front (layout_before behind) bytes segment rest own begins h)
  one_of_either behind bytes first second (inr (segment, rest, begins, is_first)) (inl (own, is, h)) =
      absurd (no_fault_in_front (layout_before behind) bytes segment rest own begins h)
  one_of_either behind bytes first second (inr (segment, rest, begins, is_first)) (inr (other, last, starts, other_first)) =
      let (same_rest, same) = one_front (layout_before behind) bytes other segment last rest starts begins in
      one_first behind segment first second is_first
      (subst (λ (r : Recording). IsFirstAfter behind r second) same other_first)

  one_next : (behind : Option Run) (bytes : List ℕ) (first second : Fault) → IsFirstNext behind bytes first → IsFirstNext behind bytes second → first ≡ second
  one_next behind bytes first second h k =
      one_of_either behind bytes first second (first_of_either behind bytes first h) (first_of_either behind bytes second k)

  one_end : (behind : Option Run) (bytes : List ℕ) (first second : Option Fault) → EndsWith behind bytes first → EndsWith behind bytes second
      → first ≡ second
  one_end None bytes (Some first) (Some second) h k = ap Some (one_next None bytes first second h k)
  one_end (Some behind) [] first second h k = h ∙ sym k
  one_end (Some behind) (x ∷ bytes) (Some first) (Some second) h k = ap Some (one_next (Some behind) (x ∷ bytes) first second h k)
  one_end _ _ (Some first) None h k = absurd k
  one_end _ _ None second h k = absurd h

  pub found_once : (behind : Option Run) (bytes : List ℕ) (orders others : List (List ℕ)) (found other : Option Fault)
      → GoesOnSo behind bytes orders found → GoesOnSo behind bytes others other → (orders ≡ others) × (found ≡ other)
  found_once behind bytes [] [] found other h k = (refl, one_end behind bytes found other h k)
  found_once behind bytes [] (order ∷ more) found other h (segment, rest, begins, sound, same, next) =
      absurd (ends_or_sound behind bytes found segment rest h begins sound)
  found_once behind bytes (order ∷ more) [] found other (segment, rest, begins, sound, same, next) k =
      absurd (ends_or_sound behind bytes other segment rest k begins sound)
  found_once behind bytes (order ∷ more) (another ∷ others) found other (segment, rest, begins, sound, same, next)
      (own, last, starts, own_sound, own_same, own_next) =
      let (is_rest, is) = one_front (layout_before behind) bytes own segment last rest starts begins in
      let there : GoesOnSo (Some (run_after behind segment)) rest others other =
      subst (λ (b : List ℕ). GoesOnSo (Some (run_after behind segment)) b others other) is_rest
      (subst (λ (r : Recording). GoesOnSo (Some (run_after behind r)) last others other) is own_next) in
      let (rests, founds) = found_once (Some (run_after behind segment)) rest more others found other next there in
      let orders_same : order ≡ another = same ∙ sym (ap recorded_order is) ∙ sym own_same in
      (ap₂ (λ (o : List ℕ) (os : List (List ℕ)). o ∷ os) orders_same rests, founds)
