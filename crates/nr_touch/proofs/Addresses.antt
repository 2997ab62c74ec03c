-- The address from which the memory of a release is reached, page by page.
use Rattle.std.proofs.Common.{◌≡◌, ℕ, ◌+◌, ◌*◌, ◌<◌, ◌≤◌, ◌⊎◌, inl, inr, List, get_or, slice_get, length, Option, Some, None, Contains, refl, sym, ap, ◌∙◌, subst, arith}
use Rattle.std.proofs.lemmas.Bool.{cases_lt}
use Rattle.std.proofs.lemmas.Option.{same_Some, slice_get_within, slice_get-get_or}
use Rattle.vs_types.specs.declared.addresses.page.Page.{Page}
use Rattle.nr_touch.specs.Releases.{FindsReached, IsReachable, IsReachedFrom}
use Rattle.nr_touch.specs.inside.Joined.{Behind}
use Rattle.nr_touch.specs.inside.Reached.{probe_at, FindsAddress, IsFirstFrame, IsLower, IsMetAt, LeadsBelow, LeadsSo}
use Rattle.nr_touch.specs.declared.releases.release.Release.{Release}
use Rattle.nr_touch.specs.declared.releases.seen.Seen.{Seen}
use Rattle.nr_touch.specs.declared.touches.joined.Joined.{Joined}
use Rattle.nr_touch.proofs.FirstWrong.{none_leads, nothing_leads, NoneLeadsBelow}
use Rattle.nr_touch.proofs.Lefts.{in_got}

-- the pages below an index lead there at no lower address
abbrev pub IsLeastBelow : {joined : Joined} → Behind joined → Release → List Seen → ℕ → ℕ → Type 0
IsLeastBelow b release seen end address = (k : ℕ) (s : Seen) → k < end → slice_get seen k ≡ Some s
    → (leads : LeadsSo b release s.page) → address ≤ s.page.base + leads.frame * 4096

-- of the pages below an index none leads there, or there is an address from which the memory is reached, and no lower one through these
abbrev pub FindsBelow : {joined : Joined} → Behind joined → Release → List Seen → ℕ → Option ℕ → Type 0
FindsBelow b release seen end None = NoneLeadsBelow b release seen end
FindsBelow b release seen end (Some address) = IsReachedFrom b.before b.start b.segment release address × IsLeastBelow b release seen end address

-- an address that is reached is one of an access that can be made
can_reach : {joined : Joined} (b : Behind joined) (release : Release) (address : ℕ)
    → IsReachedFrom b.before b.start b.segment release address → (can : IsReachable b.before b.start b.segment release) × (can.touch.address ≡ address)
can_reach b release address it = (
  record {
    touch = it.touch;
    made = it.made;
    answered = it.answered;
    phys = it.phys;
    finds = it.finds;
    within = it.within;
    right = it.right;
  },
  it.of_it,
)

module _ {joined : Joined} (b : Behind joined) (release : Release) where
  -- the address of a frame in which the memory is met
  pub reached_in : (page : Page) (frame : ℕ) → IsMetAt b release page (frame * 4096)
      → IsReachedFrom b.before b.start b.segment release (page.base + frame * 4096)
  reached_in page frame met = record {
    touch = probe_at release.made (page.base + frame * 4096) (page.phys + frame * 4096);
    made = refl;
    answered = refl;
    of_it = refl;
    phys = page.phys + frame * 4096;
    finds = refl;
    within = met.has;
    right = met.right;
  }

  module _ (seen : List Seen) (index : ℕ) (d : Seen) (l : index < length seen) where
    abbrev last : Seen
    last = get_or seen index d

    -- a page more, through which no lower address leads there
    least_more : (address lower : ℕ) → lower ≤ address → IsLeastBelow b release seen index address
        → ((leads : LeadsSo b release last.page) → lower ≤ last.page.base + leads.frame * 4096) → IsLeastBelow b release seen (index + 1) lower
    least_more address lower less least here k s within at leads = by (cases_lt k index) where
      by : (k < index) ⊎ (index ≤ k) → lower ≤ s.page.base + leads.frame * 4096
      by (inl early) = let low = least k s early at leads in omega (arith, low, less)
      by (inr past) =
          let same : k ≡ index = omega (arith, past, within) in
          let one : last ≡ s = same_Some last s (sym (slice_get-get_or seen index d l) ∙ ap (slice_get seen) (sym same) ∙ at) in
          (subst (λ (q : Seen). (it : LeadsSo b release q.page) → lower ≤ q.page.base + it.frame * 4096) one here) leads

    -- the first frame of a page has its lowest address
    lowest_in : (frame : ℕ) → IsFirstFrame b release last.page frame → (leads : LeadsSo b release last.page)
        → last.page.base + frame * 4096 ≤ last.page.base + leads.frame * 4096
    lowest_in frame first leads = let up = first.first leads in omega (arith, up)

    -- a page more that leads there, and the lower one of two addresses
    pub lower_reached : (least : Option ℕ) (frame other lower : ℕ) → other ≡ last.page.base + frame * 4096
        → IsFirstFrame b release last.page frame → FindsBelow b release seen index least
        → IsLower least other lower → FindsBelow b release seen (index + 1) (Some lower)
    lower_reached None frame other lower at first none is =
        let same : lower ≡ last.page.base + frame * 4096 = is ∙ at in (
          subst (IsReachedFrom b.before b.start b.segment release) (sym same) (reached_in last.page frame first.met),
          (λ k s within at_k leads. by k s at_k leads within (cases_lt k index) same),
        ) where
          by : (k : ℕ) (s : Seen) → slice_get seen k ≡ Some s → (leads : LeadsSo b release s.page) → k < index + 1
              → (k < index) ⊎ (index ≤ k) → lower ≡ last.page.base + frame * 4096 → lower ≤ s.page.base + leads.frame * 4096
          by k s at_k leads within (inl early) same = absurd (none k s early at_k leads)
          by k s at_k leads within (inr past) same =
              least_more lower lower (omega arith) (λ j t early at_j it. absurd (none j t early at_j it))
              (λ it. let low = lowest_in frame first it in omega (arith, low, same)) k s within at_k leads
    lower_reached (Some address) frame other lower at first (from, least) is = (
      by (cases_lt other address),
      least_more address lower (omega (arith, is)) least (λ it. let low = lowest_in frame first it in omega (arith, low, at, is)),
    ) where
      by : (other < address) ⊎ (address ≤ other) → IsReachedFrom b.before b.start b.segment release lower
      by (inl less) =
          let same : lower ≡ last.page.base + frame * 4096 = omega (arith, is, less, at) in
          subst (IsReachedFrom b.before b.start b.segment release) (sym same) (reached_in last.page frame first.met)
      by (inr more) =
          let same : lower ≡ address = omega (arith, is, more) in
          subst (IsReachedFrom b.before b.start b.segment release) (sym same) from

    -- a page more that doesn't lead there
    pub none_more : (least : Option ℕ) → (LeadsSo b release last.page → ⊥) → FindsBelow b release seen index least → FindsBelow b release seen (index + 1) least
    none_more None not none = none_leads b release seen index d l not none
    none_more (Some address) not (from, least) = (from, least_more address address (omega arith) least (λ leads. absurd (not leads)))

  -- all pages
  pub found_of_all : (seen : List Seen) (end : ℕ) (least : Option ℕ) → length seen ≤ end → FindsBelow b release seen end least
      → FindsAddress b release seen least
  found_of_all seen end None all none = nothing_leads b release seen end all none
  found_of_all seen end (Some address) all (from, least) = record {
    from = from;
    least = λ s has leads.
        let (k, at) = in_got seen s has in
        let low = slice_get_within seen k s at in
        least k s (omega (arith, low, all)) at leads;
  }

  pub finds_reached : (seen : List Seen) (least : Option ℕ) → ((can : IsReachable b.before b.start b.segment release)
      → (s : Seen) × Contains seen s × LeadsBelow b release can.touch.address s.page s.place)
      → FindsAddress b release seen least → FindsReached b.before b.start b.segment release least
  finds_reached seen None leads none = λ can. let (s, has, below) = leads can in none (s, has, below.0)
  finds_reached seen (Some address) leads found = record {
    from = found.from;
    least = λ other reached.
        let (can, of_it) = can_reach b release other reached in
        let (s, has, below) = leads can in
        let low = found.least s has below.0 in
        let up = below.1 in
        omega (arith, low, up, of_it);
  }
