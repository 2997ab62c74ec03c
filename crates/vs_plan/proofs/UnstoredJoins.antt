-- A join that changes something stores something: else its space would have a page of another size at the base than the memory.
use Rattle.std.proofs.Common.{◌≡◌, ℕ, ◌+◌, ◌-◌, true, false, Some, None, ⊎_elim, refl, sym, ap, ◌∙◌}
use Rattle.std.specs.FinMap as finite
use Rattle.vs_types.specs.Depth.{IsCanonical}
use Rattle.vs_types.specs.Page.{covers}
use Rattle.vs_types.specs.Space.{Space, IsSpace, Holds, pages, page_at}
use Rattle.vs_types.specs.Step.{Stepped, look}
use Rattle.vs_types.specs.declared.addresses.depth.Depth.{Depth}
use Rattle.vs_types.specs.declared.addresses.page.Page.{Page}
use Rattle.vs_types.specs.declared.addresses.page.Rights.{Rights}
use Rattle.vs_types.specs.declared.addresses.page.Size.{Size}
use Rattle.vs_types.specs.declared.addresses.page.Size.TheVariants.{G1}
use Rattle.vs_types.proofs.Lists.{find_found, find_nothing}
use Rattle.vs_types.proofs.Pages.{covers_base}
use Rattle.vs_types.proofs.Maps.{get-insert_same}
use Rattle.vs_types.proofs.Spaces.{found_value, insert_cases, page_at_means, value_found}
use Rattle.vs_walk.specs.Walk.{as_walk}
use Rattle.vs_walk.specs.declared.walk.Walk.TheVariants.{Mapped}
use Rattle.vs_plan.specs.declared.plans.plan.Reply.TheVariants as replies
use Rattle.vs_plan.specs.Changes.{larger, whole_of, without_parts, join, join_refusal, not_first}
use Rattle.vs_plan.proofs.Changing.{change_here, why_here}
use Rattle.vs_plan.proofs.Given.{BeginsThere, begins_canonical}
use Rattle.vs_plan.proofs.JoinedSpace.{off_held}

-- ---- what a map of pages has at an address, whether its pages lie apart or not

-- the one page that covers an address
one_at : (space : Space) (a k : ℕ) (w : Page) → finite.get space k ≡ Some w → covers w a ≡ true
    → ((q : ℕ) (p : Page) → finite.get space q ≡ Some p → covers p a ≡ true → p ≡ w) → page_at space a ≡ Some w
one_at space a k w got covered one =
    elim (page_at space a) as (λ o. page_at space a ≡ o → o ≡ Some w) [
      | None ↦ λ e.
          let listed = found_value k (finite.entries space) w (sym (finite.get-entries space k) ∙ got) in
          let off = find_nothing (λ p. covers p a) (pages space) w e listed in
          absurd (cc)
      | Some p ↦ λ e.
          let found = find_found (λ p. covers p a) (pages space) p e in
          let at = value_found (finite.entries space) p (finite.entries_sorted space) found.0 in
          ap Some (one at.0 p (finite.get-entries space at.0 ∙ at.1) found.1)
    ] refl

-- ---- the space of a join

same_sizes : (size : Size) → size ≡ larger size → size ≡ G1
same_sizes G1 e = refl
same_sizes _ e = cc

module _ {depth : Depth} {space : Space} (is : IsSpace depth space) (base : ℕ) (there : BeginsThere space base) where
  first : Page
  first = there.0

  after : Space
  unfolding first
  after = finite.insert (without_parts space (whole_of first)) first.base (whole_of first)

  begins : covers (whole_of first) first.base ≡ true
  begins = covers_base (whole_of first)

  whole_there : page_at after base ≡ Some (whole_of first)
  unfolding first after begins
  whole_there = one_at after base first.base (whole_of first) (get-insert_same (without_parts space (whole_of first)) first.base (whole_of first))
      (ap (covers (whole_of first)) (sym there.2) ∙ begins) (λ k p got covered. ⊎_elim
      (λ new. new.1)
      (λ old.
      let was = off_held space (whole_of first) k p old.1 in
      let under : p.base ≡ k = is.under_base k p was.1 in
      let here = (page_at_means is base first).0 there.1 in
      let held : Holds space p = ap (finite.get space) under ∙ was.1 in
      let same : p ≡ first = is.apart p first base held here.0 covered here.1 in
      let at : k ≡ first.base = sym under ∙ ap (λ (z : Page). z.base) same in
      let off : covers (whole_of first) first.base ≡ false = ap (covers (whole_of first)) (sym at) ∙ was.0 in
      absurd (cc begins))
      (insert_cases (without_parts space (whole_of first)) first.base (whole_of first) k p got))

  -- where all addresses look as before, its size isn't that of the page
  pub not_unstored : ((address : ℕ) → IsCanonical depth address → as_walk (look (join space base).space address) ≡ as_walk (look space address))
      → join_refusal space base ≡ None → ⊥
  unfolding first after
  not_unstored alike due =
      let joined : (join space base).space ≡ after = ap (λ (s : Stepped). s.space)
      (change_here space base (λ page. finite.insert (without_parts space (whole_of page)) page.base (whole_of page)) first there.1 there.2) in
      let here : as_walk (look space base) ≡ Mapped (first.phys + (base - first.base)) first.size first.rights = rw there.1 refl in
      let then : as_walk (look after base) ≡ Mapped (first.phys + (base - first.base)) (larger first.size) first.rights = rw whole_there refl in
      let both : Mapped (first.phys + (base - first.base)) (larger first.size) first.rights
      ≡ Mapped (first.phys + (base - first.base)) first.size first.rights =
      sym then ∙ ap (λ (s : Space). as_walk (look s base)) (sym joined) ∙ alike base (begins_canonical is base there) ∙ here in
      let largest : first.size ≡ G1 = same_sizes first.size (sym (sizes _ _ _ _ both)) in
      let refused : not_first first.base first.phys first.size ≡ None =
      sym (why_here base (λ page. not_first page.base page.phys page.size) first there.1 there.2) ∙ due in
      let shown : Some replies.Largest ≡ None = sym (ap (not_first first.base first.phys) largest) ∙ refused in
      absurd (cc)
    where
      sizes : (a : ℕ) (s t : Size) (r : Rights) → Mapped a s r ≡ Mapped a t r → s ≡ t
      sizes a s t r e = cc
