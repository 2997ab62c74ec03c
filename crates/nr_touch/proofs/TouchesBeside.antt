-- Touches that were open while an update of their page was.
use Rattle.std.proofs.Common.{◌≡◌, ◌↔◌, ℕ, ◌+◌, ◌<◌, ◌≤◌, ◌^◌, inl, inr, Bool, true, false, List, length, map, get_or, slice_get, Option, Some, None}
use Rattle.std.proofs.Common.{Contains, IsTrue, sym, ap, subst, ◌∙◌, arith}
use Rattle.std.specs.Prelude.{option_and_then}
use Rattle.std.specs.List.{list_any}
use Rattle.std.specs.Option.{option_map_or}
use Rattle.std.specs.Bool.{Decides}
use Rattle.std.proofs.lemmas.Bool.Decides.{same_from_decides, Decides-and, Decides-at, Decides-like, Decides-not}
use Rattle.std.proofs.lemmas.Bool.{and_parts, false_from_ne_true}
use Rattle.std.proofs.lemmas.Option.{get_or_from_slice_get, slice_get_within}
use Rattle.vs_types.specs.Space.{Space}
use Rattle.vs_types.specs.declared.addresses.page.Size.{Size}
use Rattle.vs_types.specs.declared.addresses.page.Size.TheVariants.{K4, M2, G1}
use Rattle.nr_trace.specs.Recording.{Recording}
use Rattle.nr_trace.specs.Calls.{Invocation, made_by}
use Rattle.nr_trace.specs.Laws.{HasCleanLog}
use Rattle.nr_trace.specs.Orders.{below}
use Rattle.nr_trace.specs.declared.recordings.event.Event.{Event}
use Rattle.nr_trace.proofs.LawsOfCalls.{call_within, placed_is_update, some_or_none, the_some, update_is_call}
use Rattle.nr_touch.specs.Beside.{are_open_at_once, changes_look, is_beside, is_open_beside, is_over, meets_update, touched, touched_in}
use Rattle.nr_touch.specs.Replies.{AreReplies}
use Rattle.nr_touch.specs.Touches.{page_after, ChangesLook}
use Rattle.nr_touch.specs.inside.Changes.{number_at, AreChanges, IsPlaced}
use Rattle.nr_touch.specs.inside.Columns.{IsNumbered, IsOf}
use Rattle.nr_touch.specs.inside.Lives.{opening_of, AreOpenings, HasLife, IsMet, IsOpenWithin}
use Rattle.nr_touch.specs.declared.changes.change.PlacedChange.{PlacedChange}
use Rattle.nr_touch.specs.declared.releases.lives.Life.{Life}
use Rattle.nr_touch.specs.declared.releases.lives.Lives.{Lives}
use Rattle.nr_touch.proofs.SamePages.{look_means}
use Rattle.nr_touch.proofs.Sighted.{contains_map, map_contains}
use Rattle.nr_touch.proofs.Overs.{any_below, not_below, over_is, over_means}
use Rattle.nr_touch.proofs.Sizes.{by_size, covered_numbered}

changes_means : (start : Space) (trace : Recording) (address place : ℕ)
    → (changes_look start trace address place ≡ true) ↔ ChangesLook start trace address place
changes_means start trace address place =
    Decides-not _ (look_means (page_after start trace address place) (page_after start trace address (place + 1)))

-- ---- lists of openings

module _ (changes : List PlacedChange) (numbered : (c : PlacedChange) → Contains changes c → IsNumbered c) (address first last : ℕ) where
  abbrev pub IsOpenOf : Size → Type 0
  IsOpenOf size = HasLife (map opening_of changes) (number_at address size) first last

  within_of : (size : Size) → IsOpenOf size → IsOpenWithin changes address first last
  within_of size (life, has, of, low, high) =
      let (c, own, is) = map_contains opening_of changes life has in
      let number : IsOf (number_at address size) c = ap (λ (l : Life). l.block) is ∙ of in
      let made : c.made ≡ life.from = ap (λ (l : Life). l.from) is in
      let answered : c.answered ≡ life.until = ap (λ (l : Life). l.until) is in
      (c, own, covered_numbered c address size (numbered c own) number, omega (arith, made, low), omega (arith, answered, high))

  of_within : (P : Type 0) → (IsOpenOf K4 → P) → (IsOpenOf M2 → P) → (IsOpenOf G1 → P) → IsOpenWithin changes address first last → P
  of_within P small large huge (c, own, covered, low, high) =
      by_size changes numbered address (λ d. P) c own covered (λ of. small (there of)) (λ of. large (there of)) (λ of. huge (there of)) where
        there : {number : ℕ} → IsOf number c → HasLife (map opening_of changes) number first last
        there of = (opening_of c, contains_map opening_of changes c own, of, low, high)

  -- a search in the columns of one size
  pub open_of_size : (updates : Lives) (size : Size) (number : ℕ) → AreOpenings changes updates → number ≡ number_at address size
      → IsMet updates number first last → IsOpenWithin changes address first last
  open_of_size updates size number are is met =
      within_of size ((are (number_at address size) first last).1 (subst (λ (n : ℕ). IsMet updates n first last) is met))

  met_of_size : (updates : Lives) (size : Size) (number : ℕ) → AreOpenings changes updates → number ≡ number_at address size
      → IsOpenOf size → IsMet updates number first last
  met_of_size updates size number are is opens = subst (λ (n : ℕ). IsMet updates n first last) (sym is) ((are (number_at address size) first last).0 opens)

  -- searches in the columns of each size
  pub none_of_sizes : (updates : Lives) (small large huge : ℕ) → AreOpenings changes updates → small ≡ number_at address K4 → large ≡ number_at address M2
      → huge ≡ number_at address G1 → (P : Type 0) → (IsMet updates small first last → P) → (IsMet updates large first last → P)
      → (IsMet updates huge first last → P) → IsOpenWithin changes address first last → P
  none_of_sizes updates small large huge are s l g P in_small in_large in_huge =
      of_within P (λ opens. in_small (met_of_size updates K4 small are s opens)) (λ opens. in_large (met_of_size updates M2 large are l opens))
      (λ opens. in_huge (met_of_size updates G1 huge are g opens))

-- ---- one touch

pub touch_within : (trace : Recording) (call address : ℕ) → touched trace call ≡ Some address → call < length trace.events
touch_within trace call address is = elim (some_or_none (slice_get trace.events call)) [
  | inl some ↦ (let (event, at) = the_some (slice_get trace.events call) some in slice_get_within trace.events call event at)
  | inr none ↦ absurd (
      let nothing = ap (λ (o : Option Event). option_and_then (λ (made : Invocation). touched_in made.asked) (option_and_then made_by o)) none in
      let twice = sym nothing ∙ is in cc)
]

module _ (start : Space) (trace : Recording) (clean : HasCleanLog trace) (changes : List PlacedChange) (are : AreChanges start trace changes)
    (replies : List ℕ) (each : AreReplies trace replies) (few : length trace.events < 2 ^ 32) where
  made_within : (c : PlacedChange) → IsPlaced start trace c → c.made < length trace.events
  made_within c is = call_within trace c.made (update_is_call trace c.made (placed_is_update trace c.place c.made clean is.made))

  placed_at : (c : PlacedChange) → IsPlaced start trace c → get_or trace.log c.place 0 ≡ c.made
  placed_at c is = get_or_from_slice_get trace.log c.place c.made 0 is.made

  over_at : (call event : ℕ) → call < length trace.events → event ≤ length trace.events → (is_over trace call event ≡ true) ↔ (get_or replies call 0 < event)
  over_at call event within low = over_is trace replies each call event (let many = each.one_each in omega (arith, many, within)) (omega (arith, low, few))

  -- an update and a call are open at once
  at_once : (call : ℕ) → call < length trace.events → (c : PlacedChange) → IsPlaced start trace c
      → Decides (are_open_at_once trace call c.made) ((c.made ≤ get_or replies call 0) × (call ≤ c.answered))
  at_once call within c is = Decides-and _ _
      (not_below (get_or replies call 0) c.made (is_over trace call c.made) (over_at call c.made within (let low = made_within c is in omega (arith, low))))
      (not_below c.answered call (is_over trace c.made call) (Decides-like _ (is.answered call (omega (arith, within, few))).1
      (is.answered call (omega (arith, within, few))).0 (over_means trace c.made call)))

  -- some update of the address is open beside a call
  beside_means : (address call : ℕ) → call < length trace.events
      → Decides (list_any (is_open_beside start trace address call) (below (length trace.log))) (IsOpenWithin changes address call (get_or replies call 0))
  beside_means address call within = Decides-like _ there back (any_below (is_open_beside start trace address call) (length trace.log)) where
    opens : (c : PlacedChange) → IsPlaced start trace c → Decides (is_open_beside start trace address call c.place)
        (ChangesLook start trace address c.place × ((c.made ≤ get_or replies call 0) × (call ≤ c.answered)))
    opens c is = Decides-and (changes_look start trace address c.place) (are_open_at_once trace call (get_or trace.log c.place 0))
        (changes_means start trace address c.place)
        (subst (λ n. Decides (are_open_at_once trace call n) ((c.made ≤ get_or replies call 0) × (call ≤ c.answered))) (sym (placed_at c is))
        (at_once call within c is))

    there : (place : ℕ) × (place < length trace.log) × (is_open_beside start trace address call place ≡ true)
        → IsOpenWithin changes address call (get_or replies call 0)
    there (place, low, open_so) =
        let (looks, both) = and_parts (changes_look start trace address place) (are_open_at_once trace call (get_or trace.log place 0)) open_so in
        let (c, has, at, covered) = are.all place address low ((changes_means start trace address place).0 looks) in
        let (_, (made, answered)) = (opens c (are.each c has).0).0 (subst (λ n. is_open_beside start trace address call n ≡ true) (sym at) open_so) in
        (c, has, covered, made, answered)

    back : IsOpenWithin changes address call (get_or replies call 0)
        → (place : ℕ) × (place < length trace.log) × (is_open_beside start trace address call place ≡ true)
    back (c, has, covered, made, answered) =
        let (is, low) = are.each c has in (c.place, low, (opens c is).1 (is.differs address covered, (made, answered)))

  -- a call that is no touch
  pub no_touch : (call : ℕ) → touched trace call ≡ None → false ≡ is_beside start trace call
  no_touch call none = sym (ap (λ (o : Option ℕ). option_map_or (meets_update start trace call) o false) none)

  -- a touch, which is beside an update where it is answered and one is open
  touch_means : (call address : ℕ) → call < length trace.events → touched trace call ≡ Some address → Decides (is_beside start trace call)
      ((get_or replies call 0 < length trace.events) × IsOpenWithin changes address call (get_or replies call 0))
  touch_means call address within is =
      Decides-at _ (meets_update start trace call address) (ap (λ (o : Option ℕ). option_map_or (meets_update start trace call) o false) is)
      (Decides-and _ _ (over_at call (length trace.events) within (omega arith)) (beside_means address call within))

  -- one that is never answered
  pub not_answered : (call address : ℕ) → call < length trace.events → touched trace call ≡ Some address → length trace.events ≤ get_or replies call 0
      → false ≡ is_beside start trace call
  not_answered call address within is late = sym (false_from_ne_true (is_beside start trace call)
      (λ t. let (early, beside) = (touch_means call address within is).0 t in omega (arith, early, late)))

  pub answered_touch : (call address : ℕ) (b : Bool) → call < length trace.events → touched trace call ≡ Some address
      → get_or replies call 0 < length trace.events → IsTrue b ↔ IsOpenWithin changes address call (get_or replies call 0) → b ≡ is_beside start trace call
  answered_touch call address b within is early says =
      let means = touch_means call address within is in
      same_from_decides b (is_beside start trace call) says (λ t. (means.0 t).1, λ beside. means.1 (early, beside))
