-- The moments after which an address leads into memory, one entry further; and what takes that away.
use Rattle.std.proofs.Common.{◌≡◌, ℕ, ◌+◌, ◌<◌, ◌≤◌, inl, inr, List, get_or, length, slice_get, Option, Some, None, Contains, refl, sym, ap, subst, ◌∙◌}
use Rattle.std.proofs.Common.{arith}
use Rattle.std.proofs.lemmas.Bool.{cases_lt}
use Rattle.std.proofs.lemmas.List.Elements.{Contains-get_or}
use Rattle.std.proofs.lemmas.Option.{same_Some, slice_get_within, slice_get-get_or}
use Rattle.vs_types.specs.Space.{Space}
use Rattle.vs_types.specs.declared.requests.answer.Answer.{Answer}
use Rattle.vs_types.specs.declared.requests.answer.Answer.TheVariants.{Mapped}
use Rattle.vs_types.specs.declared.addresses.page.Rights.{Rights}
use Rattle.vs_types.specs.declared.addresses.page.Size.{Size}
use Rattle.nr_trace.specs.Recording.{Recording}
use Rattle.nr_touch.proofs.Lefts.{in_got}
use Rattle.nr_explain.specs.ChainFacts.{LeadsInto}
use Rattle.nr_explain.specs.Facts.{looks_from}
use Rattle.nr_explain.specs.inside.Reaches.{FindsLeadingBelow, FindsLook}
use Rattle.nr_explain.specs.declared.chain.evidence.Moment.{Moment}
use Rattle.nr_explain.specs.declared.chain.evidence.Given.{Given}

-- another look than that of a page leads nowhere
pub leads_not : (given : Given) (look : Answer) → ((phys : ℕ) (size : Size) (rights : Rights) → look ≡ Mapped phys size rights → ⊥) → LeadsInto given look → ⊥
leads_not given (Mapped phys size rights) none h = none phys size rights refl
leads_not given _ none h = h

module _ (start : Space) (segment : Recording) (address first : ℕ) (given : Given) where
  abbrev Leads : ℕ → Type 0
  Leads n = LeadsInto given (looks_from start segment address n)

  pub none_yet : FindsLeadingBelow start segment address first 0 given None
  none_yet n low high leads = omega (arith, high)

  pub found_here : (end : ℕ) (look : Answer) → first ≤ end → look ≡ looks_from start segment address end → LeadsInto given look
      → FindsLeadingBelow start segment address first (end + 1) given (Some (record { entries = end; look = look }))
  found_here end look low looks leads = (low, omega arith, looks, leads, λ k later high more. omega (arith, later, high))

  pub found_stays : (end : ℕ) (found : Option Moment) → (first ≤ end → Leads end → ⊥) → FindsLeadingBelow start segment address first end given found
      → FindsLeadingBelow start segment address first (end + 1) given found
  found_stays end None none old = λ n low high leads. elim (cases_lt n end) [
    | inl less ↦ old n low less leads
    | inr past ↦ (let here : n ≡ end = omega (arith, past, high) in none (omega (arith, low, here)) (subst Leads here leads))
  ]
  found_stays end (Some found) none (low, below, looks, leads, later) = (
    low,
    omega (arith, below),
    looks,
    leads,
    λ k past high more.
        elim (cases_lt k end) [
          | inl less ↦ later k past less more
          | inr beyond ↦ (let here : k ≡ end = omega (arith, beyond, high) in none (omega (arith, low, past, here)) (subst Leads here more))
        ],
  )

-- ---- what takes it away

-- from so many entries on up to a number of them the address leads into the memory
abbrev pub LeadsUpTo : Space → Recording → ℕ → Given → ℕ → ℕ → Type 0
LeadsUpTo start segment address given entries last =
    (n : ℕ) → entries ≤ n → n ≤ last → LeadsInto given (looks_from start segment address n)

module _ (start : Space) (segment : Recording) (address : ℕ) (given : Given) (entries : ℕ) where
  pub leads_first : LeadsInto given (looks_from start segment address entries) → LeadsUpTo start segment address given entries entries
  leads_first leads n low high =
      subst (λ (m : ℕ). LeadsInto given (looks_from start segment address m)) (let same : entries ≡ n = omega (arith, low, high) in same) leads

  pub leads_next : (place : ℕ) → LeadsInto given (looks_from start segment address (place + 1)) → LeadsUpTo start segment address given entries place
      → LeadsUpTo start segment address given entries (place + 1)
  leads_next place leads old n low high = elim (cases_lt n (place + 1)) [
    | inl less ↦ old n low (omega (arith, less))
    | inr past ↦
        subst (λ (m : ℕ). LeadsInto given (looks_from start segment address m)) (let same : place + 1 ≡ n = omega (arith, past, high) in same) leads
  ]

-- ---- looks that are left

-- of the looks below an index, one that leads into the memory, or none
abbrev pub FindsLookBelow : Given → List Answer → ℕ → Option Answer → Type 0
FindsLookBelow given looks end None = (k : ℕ) (look : Answer) → k < end → slice_get looks k ≡ Some look → LeadsInto given look → ⊥
FindsLookBelow given looks end (Some look) = Contains looks look × LeadsInto given look

pub look_here : (given : Given) (looks : List Answer) (index : ℕ) (d : Answer) → index < length looks → LeadsInto given (get_or looks index d)
    → FindsLookBelow given looks (index + 1) (Some (get_or looks index d))
look_here given looks index d l leads = (Contains-get_or looks index d l, leads)

pub look_stays : (given : Given) (looks : List Answer) (index : ℕ) (d : Answer) (found : Option Answer) → index < length looks
    → (LeadsInto given (get_or looks index d) → ⊥) → FindsLookBelow given looks index found → FindsLookBelow given looks (index + 1) found
look_stays given looks index d None l not none = λ k look low at leads. elim (cases_lt k index) [
  | inl earlier ↦ none k look earlier at leads
  | inr past ↦
      let same : k ≡ index = omega (arith, low, past) in
      let one : get_or looks index d ≡ look = same_Some (get_or looks index d) look
      (sym (slice_get-get_or looks index d l) ∙ ap (slice_get looks) (sym same) ∙ at) in
      not (subst (LeadsInto given) (sym one) leads)
]
look_stays given looks index d (Some look) l not found = found

pub all_looks_tried : (given : Given) (looks : List Answer) (end : ℕ) (found : Option Answer) → length looks ≤ end → FindsLookBelow given looks end found
    → FindsLook given looks found
all_looks_tried given looks end None all none = λ look has leads.
    let (k, at) = in_got looks look has in
    let l = slice_get_within looks k look at in
    none k look (omega (arith, l, all)) at leads
all_looks_tried given looks end (Some look) all found = found
