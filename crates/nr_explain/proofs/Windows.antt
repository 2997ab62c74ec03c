-- The moments from which a touch may be answered.
use Rattle.std.proofs.Common.{◌≡◌, ◌↔◌, ℕ, ◌+◌, ◌-◌, ◌%◌, ◌<◌, ◌≤◌, ◌⊎◌, inl, inr, Bool, true, false, length, Option, Some, None, is_some}
use Rattle.std.proofs.Common.{refl, sym, ap, subst, ◌∙◌, arith}
use Rattle.std.specs.Prelude.{◌&&◌, if◌then◌else◌, min, not, IsTrue}
use Rattle.std.proofs.lemmas.Bool.{cases_lt, false≢true}
use Rattle.std.proofs.lemmas.Option.{slice_get_within}
use Rattle.vs_types.specs.Page.{bytes_of, covers, IsPage}
use Rattle.vs_types.specs.Space.{Space, IsSpace, page_at}
use Rattle.vs_types.specs.Step.{look, look_in_page}
use Rattle.vs_types.specs.declared.addresses.depth.Depth.{Depth}
use Rattle.vs_types.specs.declared.addresses.page.Page.{Page}
use Rattle.vs_types.proofs.Pages.{covers_means, same_aligned}
use Rattle.vs_types.proofs.Spaces.{page_at_means}
use Rattle.nr_trace.specs.Recording.{Recording}
use Rattle.nr_touch.specs.Touches.{page_after, ChangesLook, EndsLook, IsAllowedPrefix, IsAnsweredBefore, IsMadeAfter, IsTaken}
use Rattle.nr_touch.specs.declared.touches.touch.Touch.{Touch}
use Rattle.nr_explain.specs.ChainFacts.{EndsFinding, IsOpenEnd}
use Rattle.nr_explain.specs.inside.Windows.{IsFlushed, IsForeseen, IsWindowBelow, IsWindowOf}
use Rattle.nr_explain.specs.declared.chain.windows.Window.{Window}
use Rattle.nr_explain.proofs.Answering.{least}

-- ---- what ends that an address is found so

-- where something is taken away, the look changes
taken_changes : (before after : Option Page) → IsTaken before after → before ≡ after → ⊥
taken_changes before after it same = it.gone (record {
  rights = it.page.rights;
  is = sym same ∙ it.was;
  more = record { write = λ has. has; user = λ has. has; exec = λ has. has };
})

pub ends_changes : (start : Space) (segment : Recording) (address : ℕ) (with_page : Bool) (place : ℕ)
    → EndsFinding start segment address with_page place → ChangesLook start segment address place
ends_changes start segment address true place it = taken_changes _ _ it
ends_changes start segment address false place it = it

-- what ends a look, by whether it is that of a page
pub ends_kind : (start : Space) (segment : Recording) (address : ℕ) (with_page : Bool) (page : Option Page) (place : ℕ) → is_some page ≡ with_page
    → EndsLook start segment address page place ↔ EndsFinding start segment address with_page place
ends_kind start segment address with_page None place kind =
    subst (λ (b : Bool). ChangesLook start segment address place ↔ EndsFinding start segment address b place) kind (λ it. it, λ it. it)
ends_kind start segment address with_page (Some page) place kind =
    subst (λ (b : Bool). EndsLook start segment address (Some page) place ↔ EndsFinding start segment address b place) kind (λ it. it, λ it. it)

-- ---- a bound of places, with one more

-- the bound is behind the place, where that has the property
abbrev pub Raises : Type 0 → ℕ → ℕ → ℕ → Type 0
Raises Here end old new = (Here × (new ≡ end + 1)) ⊎ ((Here → ⊥) × (new ≡ old))

pub raised : (Here : Type 0) (so : Bool) (end old new : ℕ) → IsTrue so ↔ Here → new ≡ (if so then end + 1 else old) → Raises Here end old new
raised Here true end old new is e = inl (is.0 refl, e)
raised Here false end old new is e = inr ((λ here. false≢true (is.1 here)), e)

-- the bound is no more than the place, where that has the property
abbrev pub Lowers : Type 0 → ℕ → ℕ → ℕ → Type 0
Lowers Here end old new = (Here × (new ≤ end) × (new ≤ old) × ((new ≡ end) ⊎ (new ≡ old))) ⊎ ((Here → ⊥) × (new ≡ old))

pub lowered : (Here : Type 0) (so : Bool) (end old new : ℕ) → IsTrue so ↔ Here → new ≡ (if so then min old end else old) → Lowers Here end old new
lowered Here true end old new is e = let low = least old end new e in inl (is.0 refl, low.0, low.1, low.2)
lowered Here false end old new is e = inr ((λ here. false≢true (is.1 here)), e)

module _ (P : ℕ → Type 0) (end old new : ℕ) where
  raised_all : Raises (P end) end old new → ((place : ℕ) → place < end → P place → place < old) → (place : ℕ) → place < end + 1 → P place → place < new
  raised_all step all place low has = elim step [
    | inl there ↦ (let bound = there.1 in omega (arith, low))
    | inr none ↦ (let bound = none.1 in elim (cases_lt place end) [
      | inl below ↦ (let less = all place below has in omega (arith, less))
      | inr past ↦ absurd (none.0 (subst P (let here : place ≡ end = omega (arith, past, low) in here) has))
    ])
  ]

  lowered_all : Lowers (P end) end old new → ((place : ℕ) → place < end → P place → old ≤ place) → (place : ℕ) → place < end + 1 → P place → new ≤ place
  lowered_all step all place low has = elim (cases_lt place end) [
    | inl below ↦ (let more = all place below has in elim step [
      | inl there ↦ (let less = there.2 in omega (arith, more))
      | inr none ↦ (let same = none.1 in omega (arith, more))
    ])
    | inr past ↦ elim step [
      | inl there ↦ (let less = there.1 in omega (arith, past))
      | inr none ↦ absurd (none.0 (subst P (let here : place ≡ end = omega (arith, past, low) in here) has))
    ]
  ]

  lowered_met : (total : ℕ) → Lowers (P end) end old new → (old ≡ total) ⊎ ((old < end) × P old) → (new ≡ total) ⊎ ((new < end + 1) × P new)
  lowered_met total step met = elim step [
    | inl there ↦ elim there.3 [
      | inl here ↦ inr (omega (arith, here), subst P (sym here) there.0)
      | inr same ↦ stays same
    ]
    | inr none ↦ stays none.1
  ] where
    stays : new ≡ old → (new ≡ total) ⊎ ((new < end + 1) × P new)
    stays same = elim met [
      | inl all ↦ inl (same ∙ all)
      | inr at ↦ (let low = at.0 in inr (omega (arith, low, same), subst P (sym same) at.1))
    ]

  lowered_least : (total : ℕ) → Lowers (P end) end old new → old ≤ total → new ≤ total
  lowered_least total step low = elim step [
    | inl there ↦ (let less = there.2 in omega (arith, low))
    | inr none ↦ (let same = none.1 in omega (arith, low))
  ]

-- ---- the window

module _ (start : Space) (segment : Recording) (address made answered : ℕ) (with_page : Bool) where
  abbrev Flushed : ℕ → Type 0
  Flushed place = IsFlushed start segment address made with_page place

  abbrev Foreseen : ℕ → Type 0
  Foreseen place = IsForeseen start segment address answered place

  abbrev OpenEnd : ℕ → Type 0
  OpenEnd place = IsOpenEnd start segment address made with_page place

  abbrev Below : ℕ → Window → Type 0
  Below end window = IsWindowBelow start segment address made answered with_page end window

  window_steps : (old new : Window) (end : ℕ) → Raises (Flushed end) end old.first new.first → Lowers (Foreseen end) end old.last new.last
      → Lowers (OpenEnd end) end old.still_open new.still_open → Below end old → Below (end + 1) new
  window_steps old new end first last still_open is = record {
    flushed = raised_all Flushed end old.first new.first first is.flushed;
    reached = elim first [
      | inl there ↦ inr (end, sym there.1, omega arith, there.0)
      | inr none ↦ elim is.reached [
        | inl at_zero ↦ inl (none.1 ∙ at_zero)
        | inr at ↦ (let low = at.2 in inr (at.0, at.1 ∙ sym none.1, omega (arith, low), at.3))
      ]
    ];
    not_foreseen = lowered_all Foreseen end old.last new.last last is.not_foreseen;
    met = lowered_met Foreseen end old.last new.last (length segment.log) last is.met;
    within = lowered_least Foreseen end old.last new.last (length segment.log) last is.within;
    not_open = lowered_all OpenEnd end old.still_open new.still_open still_open is.not_open;
    found = lowered_met OpenEnd end old.still_open new.still_open (length segment.log) still_open is.found;
  }

  -- a place whose update doesn't change how the address looks
  pub window_stays : (window : Window) (end : ℕ) → (ChangesLook start segment address end → ⊥) → Below end window → Below (end + 1) window
  window_stays window end none is = window_steps window window end (inr ((λ it. none (changes it.0)), refl)) (inr ((λ it. none it.0), refl))
      (inr ((λ it. none (changes it.0)), refl)) is where
        changes : EndsFinding start segment address with_page end → ChangesLook start segment address end
        changes = ends_changes start segment address with_page end

  -- one whose update does
  module _ (end : ℕ) (ends over later : Bool) (ending : IsTrue ends ↔ EndsFinding start segment address with_page end)
      (answering : IsTrue over ↔ IsAnsweredBefore segment end made) (making : IsTrue later ↔ IsMadeAfter segment end answered)
      (changes : ChangesLook start segment address end) where
    flushes : (e o : Bool) → IsTrue e ↔ EndsFinding start segment address with_page end → IsTrue o ↔ IsAnsweredBefore segment end made
        → IsTrue (e && o) ↔ Flushed end
    flushes true o it over_so = ((λ t. (it.0 refl, over_so.0 t)), (λ h. over_so.1 h.1))
    flushes false o it over_so = ((λ t. absurd (false≢true t)), (λ h. it.1 h.0))

    opens : (e o : Bool) → IsTrue e ↔ EndsFinding start segment address with_page end → IsTrue o ↔ IsAnsweredBefore segment end made
        → IsTrue (e && not o) ↔ OpenEnd end
    opens true true it over_so = ((λ t. absurd (false≢true t)), (λ h. absurd (h.1 (over_so.0 refl))))
    opens true false it over_so = ((λ t. (it.0 refl, λ h. false≢true (over_so.1 h))), (λ h. refl))
    opens false o it over_so = ((λ t. absurd (false≢true t)), (λ h. it.1 h.0))

    pub window_narrows : (old new : Window) → new.first ≡ (if ends && over then end + 1 else old.first)
        → new.last ≡ (if later then min old.last end else old.last)
        → new.still_open ≡ (if ends && not over then min old.still_open end else old.still_open) → Below end old → Below (end + 1) new
    window_narrows old new first last still_open is = window_steps old new end
        (raised (Flushed end) (ends && over) end old.first new.first (flushes ends over ending answering) first)
        (lowered (Foreseen end) later end old.last new.last ((λ t. (changes, making.0 t)), (λ h. making.1 h.1)) last)
        (lowered (OpenEnd end) (ends && not over) end old.still_open new.still_open (opens ends over ending answering) still_open) is

  pub first_within : (window : Window) → IsWindowOf start segment address made answered with_page window → window.first ≤ length segment.log
  first_within window is = elim is.reached [
    | inl at_zero ↦ omega arith
    | inr place ↦ (let next = place.1 in let low = place.2 in omega arith)
  ]

-- the touch may be answered just from the moments of the window, of those at which its address has a page, or none
module _ (start : Space) (segment : Recording) (touch : Touch) (with_page : Bool) (window : Window)
    (is : IsWindowOf start segment touch.address touch.made touch.answered with_page window) (n : ℕ)
    (kind : is_some (page_after start segment touch.address n) ≡ with_page) where
  placed : (place : ℕ) → IsAnsweredBefore segment place touch.made → place < length segment.log
  placed place h = slice_get_within segment.log place h.0 h.1

  kinds : (place : ℕ) → EndsLook start segment touch.address (page_after start segment touch.address n) place
      ↔ EndsFinding start segment touch.address with_page place
  kinds place = ends_kind start segment touch.address with_page (page_after start segment touch.address n) place kind

  in_window : IsAllowedPrefix start segment touch n → (window.first ≤ n) × (n ≤ window.last)
  in_window allowed = (
    elim is.reached [
      | inl at_zero ↦ omega arith
      | inr place ↦ (let low = allowed.flushed place.0 ((kinds place.0).1 place.3.0) place.3.1 in let next = place.1 in omega (arith, low))
    ],
    elim is.met [
      | inl all ↦ (let few = allowed.within in omega (arith, few))
      | inr place ↦ allowed.not_foreseen window.last place.1.0 place.1.1
    ],
  )

  allowed_in : (window.first ≤ n) × (n ≤ window.last) → IsAllowedPrefix start segment touch n
  allowed_in (low, high) = record {
    within = let few = is.within in omega (arith, few, high);
    flushed = λ place ends before.
        let less = is.flushed place (placed place before) ((kinds place).0 ends, before) in
        omega (arith, less, low);
    not_foreseen = λ place changes after.
        let within = slice_get_within segment.log place after.0 after.1 in
        let more = is.not_foreseen place within (changes, after) in
        omega (arith, more, high);
  }

pub window_is : (start : Space) (segment : Recording) (address made answered : ℕ) (with_page : Bool) (touch : Touch) (window : Window)
    → touch.address ≡ address → touch.made ≡ made → touch.answered ≡ answered → IsWindowOf start segment address made answered with_page window
    → (n : ℕ) → is_some (page_after start segment touch.address n) ≡ with_page
    → IsAllowedPrefix start segment touch n ↔ ((window.first ≤ n) × (n ≤ window.last))
window_is start segment address made answered with_page touch window at made_is answered_is is n kind =
    (in_window start segment touch with_page window of_it n kind, allowed_in start segment touch with_page window of_it n kind) where
      of_it : IsWindowOf start segment touch.address touch.made touch.answered with_page window
      of_it = subst (λ (a : ℕ). IsWindowOf start segment a touch.made touch.answered with_page window) (sym at)
          (subst (λ (m : ℕ). IsWindowOf start segment address m touch.answered with_page window) (sym made_is)
          (subst (λ (e : ℕ). IsWindowOf start segment address made e with_page window) (sym answered_is) is))

-- ---- looks and pages

-- pages that cover an address and look the same there are one
pub one_look : (depth : Depth) (p q : Page) (a : ℕ) → IsPage depth p → IsPage depth q → IsTrue (covers p a) → IsTrue (covers q a)
    → look_in_page a (Some p) ≡ look_in_page a (Some q) → p ≡ q
one_look depth p q a fits also over under same =
    let sum : p.phys + (a - p.base) ≡ q.phys + (a - q.base) = cc in
    let size : p.size ≡ q.size = cc in
    let rights : p.rights ≡ q.rights = cc in
    let bytes = ap bytes_of size in
    let aligned : q.base % bytes_of p.size ≡ 0 = subst (λ (n : ℕ). q.base % n ≡ 0) (sym bytes) also.aligned in
    let (p_low, p_high) = (covers_means p a).0 over in
    let (q_low, q_high) = (covers_means q a).0 under in
    let base : p.base ≡ q.base = elim (cases_lt p.base q.base) [
      | inl less ↦ same_aligned p.size q.base p.base aligned fits.aligned (omega arith) (omega arith)
      | inr more ↦ sym (same_aligned p.size p.base q.base fits.aligned aligned more (omega (arith, bytes)))
    ] in
    let phys : p.phys ≡ q.phys = omega (arith, sum, base) in
    λ i. record { base = base i; size = size i; phys = phys i; rights = rights i }

pub same_page : (depth : Depth) (s t : Space) (a : ℕ) → IsSpace depth s → IsSpace depth t → look s a ≡ look t a → page_at s a ≡ page_at t a
same_page depth s t a fits also same = by_pages (page_at s a) (page_at t a) refl refl where
  by_pages : (x y : Option Page) → page_at s a ≡ x → page_at t a ≡ y → page_at s a ≡ page_at t a
  by_pages None None p q = p ∙ sym q
  by_pages None (Some v) p q =
      absurd (let wrong : look_in_page a None ≡ look_in_page a (Some v) = ap (look_in_page a) (sym p) ∙ same ∙ ap (look_in_page a) q in cc)
  by_pages (Some u) None p q =
      absurd (let wrong : look_in_page a (Some u) ≡ look_in_page a None = ap (look_in_page a) (sym p) ∙ same ∙ ap (look_in_page a) q in cc)
  by_pages (Some u) (Some v) p q =
      let left = (page_at_means fits a u).0 p in
      let right = (page_at_means also a v).0 q in
      let one = one_look depth u v a (fits.well_formed u left.0) (also.well_formed v right.0) left.1 right.1
      (ap (look_in_page a) (sym p) ∙ same ∙ ap (look_in_page a) q) in
      p ∙ ap Some one ∙ sym q
