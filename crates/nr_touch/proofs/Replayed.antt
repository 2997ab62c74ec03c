-- The changes that the replay lists, place by place.
use Rattle.std.proofs.Common.{◌≡◌, ℕ, ◌+◌, ◌-◌, ◌<◌, ◌≤◌, ◌*◌, ◌^◌, ◌⊎◌, ◌↔◌, inl, inr, true, false, List, [], ◌∷◌, ◌++◌, length, get_or, take, Option, Some}
use Rattle.std.proofs.Common.{None, IfSome, Contains, ◌≢◌}
use Rattle.std.proofs.Common.{slice_get, refl, sym, ap, ◌∙◌, subst, min, replicate, arith}
use Rattle.std.specs.Prelude.{option_and_then, ◌==◌, if◌then◌else◌}
use Rattle.std.specs.Option.{option_map}
use Rattle.std.specs.List.Sorted.{IsNonDecreasingBy}
use Rattle.std.proofs.lemmas.Bool.{cases_lt, cases_Bool}
use Rattle.std.proofs.lemmas.List.Elements.{Contains-push, Contains-push_cases, Contains-append_left, Contains-get_or}
use Rattle.std.proofs.lemmas.List.Sorted.{IsNonDecreasingBy-push}
use Rattle.std.proofs.lemmas.List.{append-nil, get_or-replicate, length-replicate}
use Rattle.std.proofs.lemmas.Option.{same_Some, slice_get-get_or}
use Rattle.vs_types.specs.declared.addresses.depth.Depth.{Depth}
use Rattle.vs_types.specs.declared.addresses.page.Page.{Page}
use Rattle.vs_types.specs.Page.{bytes_of, covers, level_of, IsPage}
use Rattle.vs_types.specs.Space.{Space}
use Rattle.vs_types.proofs.Pages.{canonical_fits, ends_before, level_at_most, pow_multiple}
use Rattle.nr_trace.specs.Recording.{Recording}
use Rattle.nr_trace.specs.Calls.{Response, reply_of, Answers}
use Rattle.nr_trace.specs.Orders.{space_from}
use Rattle.nr_trace.proofs.LawsOfCalls.{some_or_none, answers_from, answers_within, reply_that_answers}
use Rattle.nr_touch.specs.Replies.{AreReplies}
use Rattle.nr_touch.specs.Touches.{ChangesLook}
use Rattle.nr_touch.specs.inside.Changes.{listed, number_of, AreChangesBelow, AreRepliesBelow, IsChange, IsPlaced, Lists}
use Rattle.nr_touch.specs.declared.changes.change.Change.{Change}
use Rattle.nr_touch.specs.declared.changes.change.PlacedChange.{PlacedChange}

-- ---- replies

pub no_replies : (trace : Recording) (replies : List ℕ) (n : ℕ) → replies ≡ replicate n 4294967295 → n ≡ length trace.events
    → AreRepliesBelow trace replies 0
no_replies trace replies n is e = record {
  one_each = ap length is ∙ length-replicate n 4294967295 ∙ e;
  first = λ call event l fits. (
    λ less.
        let many : length replies ≡ n = ap length is ∙ length-replicate n 4294967295 in
        let most : get_or replies call 0 ≡ 4294967295 =
        ap (λ xs. get_or xs call 0) is ∙ get_or-replicate n call 4294967295 0 (omega (arith, many, l)) in
        absurd (omega (arith, most, less, fits)),
    λ (reply, before, none, answers). absurd (omega (arith, none)),
  );
}

-- the call that an event answers, if it is a reply
abbrev pub answered_at : Recording → ℕ → Option ℕ
answered_at trace i = option_map (λ (reply : Response). reply.call) (reply_of trace i)

answers_means : (trace : Recording) (i call : ℕ) → Answers trace i call ↔ (answered_at trace i ≡ Some call)
answers_means trace i call = (there, back (reply_of trace i) refl) where
  there : Answers trace i call → answered_at trace i ≡ Some call
  there answers =
      let (reply, told, names) = reply_that_answers trace i call answers in
      ap (option_map (λ (reply : Response). reply.call)) told ∙ ap Some names

  back : (o : Option Response) → reply_of trace i ≡ o → option_map (λ (reply : Response). reply.call) o ≡ Some call → Answers trace i call
  back None told is = absurd (cc)
  back (Some reply) told is = answers_from trace i call reply told (same_Some reply.call call is)

-- one event more
pub next_reply : (trace : Recording) (old new : List ℕ) (i : ℕ) (o : Option ℕ) → answered_at trace i ≡ o → AreRepliesBelow trace old i
    → length new ≡ length old → ((call : ℕ) → call < length old → o ≡ Some call → get_or new call 0 ≡ min (get_or old call 0) i)
    → ((call : ℕ) → call < length old → o ≢ Some call → get_or new call 0 ≡ get_or old call 0) → AreRepliesBelow trace new (i + 1)
next_reply trace old new i o is are many here other = record {
  one_each = many ∙ are.one_each;
  first = λ call event l fits. by_case call event (omega (arith, l, many)) fits
      (some_or_none (option_and_then (λ (reply : Response). if reply.call == call then Some reply else None) (reply_of trace i)));
} where
  by_case : (call event : ℕ) → call < length old → event < 2 ^ 32
      → Answers trace i call ⊎ (option_and_then (λ (reply : Response). if reply.call == call then Some reply else None) (reply_of trace i) ≡ None)
      → (get_or new call 0 < event) ↔ ((reply : ℕ) × (reply < event) × (reply < i + 1) × Answers trace reply call)
  by_case call event l fits (inl answers) =
      let at = here call l (sym is ∙ (answers_means trace i call).0 answers) in (
        λ less. elim (cases_lt (get_or old call 0) event) [
          | inl before ↦ let (reply, low, early, known) = (are.first call event l fits).0 before in (reply, low, omega (arith, early), known)
          | inr past ↦ (i, omega (arith, at, less, past), omega arith, answers)
        ],
        λ (reply, low, early, known). elim (cases_lt reply i) [
          | inl before ↦ let less = (are.first call event l fits).1 (reply, low, before, known) in omega (arith, at, less)
          | inr past ↦ omega (arith, at, low, early, past)
        ],
      )
  by_case call event l fits (inr none) =
      let not_here : Answers trace i call → ⊥ = λ answers. cc in
      let at = other call l (λ e. not_here ((answers_means trace i call).1 (is ∙ e))) in (
        λ less. let (reply, low, early, known) = (are.first call event l fits).0 (omega (arith, at, less)) in (reply, low, omega (arith, early), known),
        λ (reply, low, early, known). elim (cases_lt reply i) [
          | inl before ↦ let less = (are.first call event l fits).1 (reply, low, before, known) in omega (arith, at, less)
          | inr past ↦
              let same : reply ≡ i = omega (arith, early, past) in
              absurd (not_here (subst (λ n. Answers trace n call) same known))
        ],
      )

-- the events have all replies
pub all_replies : (trace : Recording) (replies : List ℕ) (end : ℕ) → end ≡ length trace.events → AreRepliesBelow trace replies end → AreReplies trace replies
all_replies trace replies end whole are = record {
  one_each = are.one_each;
  first = λ call event l fits. (
    λ less. let (reply, low, within, answers) = (are.first call event l fits).0 less in (reply, low, answers),
    λ (reply, low, answers).
        let within = answers_within trace reply call answers in (are.first call event l fits).1 (reply, low, omega (arith, within, whole), answers),
  );
}

-- ---- changes

module _ (start : Space) (trace : Recording) (changes : List PlacedChange) (place : ℕ) (are : AreChangesBelow start trace changes place) where
  pub none_more : ((address : ℕ) → ChangesLook start trace address place → ⊥) → AreChangesBelow start trace changes (place + 1)
  none_more none = record {
    each = λ c has. let (is, low) = are.each c has in (is, omega (arith, low));
    all = λ p a l looks. elim (cases_lt p place) [
      | inl before ↦ are.all p a before looks
      | inr past ↦
          let same : p ≡ place = omega (arith, l, past) in
          absurd (none a (subst (λ n. ChangesLook start trace a n) same looks))
    ];
  }

  pub some_more : (c : PlacedChange) → IsPlaced start trace c → c.place ≡ place
      → ((address : ℕ) → covers c.change.page address ≡ false → ChangesLook start trace address place → ⊥)
      → AreChangesBelow start trace (changes ++ c ∷ []) (place + 1)
  some_more c is here others = record {
    each = λ d has. elim (Contains-push_cases changes c d has) [
      | inl old ↦ let (known, low) = are.each d old in (known, omega (arith, low))
      | inr new ↦ (subst (IsPlaced start trace) new is, let at : d.place ≡ place = ap (λ (x : PlacedChange). x.place) (sym new) ∙ here in omega (arith, at))
    ];
    all = λ p a l looks. elim (cases_lt p place) [
      | inl before ↦ let (d, has, at, covered) = are.all p a before looks in (d, Contains-append_left changes (c ∷ []) d has, at, covered)
      | inr past ↦
          let same : p ≡ place = omega (arith, l, past) in
          by_cover p a same (subst (λ n. ChangesLook start trace a n) same looks) (cases_Bool (covers c.change.page a))
    ];
  } where
    by_cover : (p a : ℕ) → p ≡ place → ChangesLook start trace a place → (covers c.change.page a ≡ true) ⊎ (covers c.change.page a ≡ false)
        → Lists (changes ++ c ∷ []) a p
    by_cover p a same looks (inl covered) = (c, Contains-push changes c, here ∙ sym same, covered)
    by_cover p a same looks (inr uncovered) = absurd (others a uncovered looks)

-- what is listed of one place more
pub listed_more : (start : Space) (trace : Recording) (changes : List PlacedChange) (place : ℕ) → AreChangesBelow start trace changes place
    → (change : Option Change) (made answered : ℕ) → slice_get trace.log place ≡ Some made
    → ((event : ℕ) → event < 2 ^ 32 → (answered < event) ↔ ((reply : ℕ) × (reply < event) × Answers trace reply made))
    → IsChange trace.layout.depth (space_from start trace (take place trace.log)) (space_from start trace (take (place + 1) trace.log)) change
    → AreChangesBelow start trace (changes ++ listed change place made answered) (place + 1)
listed_more start trace changes place are None made answered placed replied is =
    subst (λ xs. AreChangesBelow start trace xs (place + 1)) (sym (append-nil changes))
    (none_more start trace changes place are (λ a looks. looks (is a)))
listed_more start trace changes place are (Some change) made answered placed replied is =
    some_more start trace changes place are
    (record { change = change; number = number_of change.page; place = place; made = made; answered = answered })
    (record {
      made = placed;
      well_formed = is.well_formed;
      number = refl;
      was = is.was;
      differs = is.differs;
      takes = is.takes;
      answered = replied;
    })
    refl
    (λ a uncovered looks. looks (is.others a uncovered))

-- places rise, where those that are listed lie below the next one
pub listed_rises : (changes : List PlacedChange) (place : ℕ) → ((c : PlacedChange) → Contains changes c → c.place < place)
    → (change : Option Change) (made answered : ℕ) → IsNonDecreasingBy (λ (x : PlacedChange). x.place) changes
    → IsNonDecreasingBy (λ (x : PlacedChange). x.place) (changes ++ listed change place made answered)
listed_rises changes place below None made answered rising =
    subst (IsNonDecreasingBy (λ (x : PlacedChange). x.place)) (sym (append-nil changes)) rising
listed_rises changes place below (Some change) made answered rising =
    IsNonDecreasingBy-push (λ (x : PlacedChange). x.place) changes
    (record { change = change; number = number_of change.page; place = place; made = made; answered = answered }) rising (λ d some.
    let low = below (get_or changes (length changes - 1) d) (Contains-get_or changes (length changes - 1) d (omega (arith, some))) in
    omega (arith, low))

-- the space that a replay has reached, and the changes on the way
pub record IsReplayed (start : Space) (trace : Recording) (changes : List PlacedChange) (place : ℕ) (now : Space) : Type 0 where
  pub reached : now ≡ space_from start trace (take place trace.log)
  pub are : AreChangesBelow start trace changes place

pub none_listed : (start : Space) (trace : Recording) (changes : List PlacedChange) → changes ≡ [] → AreChangesBelow start trace changes 0
none_listed start trace changes is = record {
  each = λ c (k, l, at). absurd (let none = ap length is in omega (arith, l, none));
  all = λ p a l looks. absurd (omega (arith, l));
}

pub none_rise : (changes : List PlacedChange) → changes ≡ [] → IsNonDecreasingBy (λ (x : PlacedChange). x.place) changes
none_rise changes is = λ i j d low l. absurd (let none = ap length is in omega (arith, l, none))

-- ---- what is read and listed

pub read_log : (trace : Recording) (log : List ℕ) (place : ℕ) → log ≡ trace.log → place < length log → slice_get trace.log place ≡ Some (get_or log place 0)
read_log trace log place same lt = subst (λ (xs : List ℕ). slice_get xs place ≡ Some (get_or log place 0)) same (slice_get-get_or log place 0 lt)

-- a page ends by 2 ^ 64
pub page_ends : (depth : Depth) (page : Page) → IsPage depth page → page.base + bytes_of page.size ≤ 2 ^ 64
page_ends depth page good =
    ends_before page.size page.base (2 ^ 64) good.aligned
    (pow_multiple 64 (3 + 9 * level_of page.size) (let most = level_at_most page.size in omega (arith, most)))
    (canonical_fits depth page.base good.canonical)

pub change_fits : (depth : Depth) (before after : Space) (change : Option Change) → IsChange depth before after change
    → IfSome change (λ c. c.page.base + bytes_of c.page.size ≤ 2 ^ 64)
change_fits depth before after None is = tt
change_fits depth before after (Some change) is = page_ends depth change.page is.well_formed
