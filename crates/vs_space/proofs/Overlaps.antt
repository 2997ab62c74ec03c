-- The least base of a page that another page overlaps, by the addresses.
use Rattle.std.proofs.Common.{◌≡◌, ℕ, ◌<◌, ◌≤◌, Some, None, IsTrue, ⊎_elim, sym, ap, ◌∙◌, arith}
use Rattle.std.proofs.lemmas.Bool.{cases_lt}
use Rattle.std.proofs.lemmas.Option.{same_Some}
use Rattle.vs_types.specs.declared.addresses.depth.Depth.{Depth}
use Rattle.vs_types.specs.declared.addresses.page.Page.{Page}
use Rattle.vs_types.specs.Page.{covers}
use Rattle.vs_types.specs.Space.{Space, IsSpace, page_at, least_overlapped}
use Rattle.vs_types.proofs.Overlaps.{overlapped_first, none_overlapped}
use Rattle.vs_types.proofs.Pages.{covers_means, covers_base, overlaps_means, overlaps_shares}
use Rattle.vs_types.proofs.Spaces.{page_at_means}

module _ {depth : Depth} {space : Space} (is : IsSpace depth space) (page : Page) where
  -- where no address of the page is in another, nothing is overlapped
  pub overlapped_none : ((a : ℕ) → IsTrue (covers page a) → page_at space a ≡ None) → least_overlapped space page ≡ None
  overlapped_none none = none_overlapped is page (λ r h o.
      let meet = (overlaps_shares page r).0 o in
      let there = (page_at_means is meet.0 r).1 (h, meet.2) in
      let nothing = none meet.0 meet.1 in
      cc)

  -- a page that begins in this one, with nothing mapped before it, comes first
  pub overlapped_least : (q : Page) → page_at space q.base ≡ Some q → IsTrue (covers page q.base)
      → ((a : ℕ) → page.base ≤ a → a < q.base → page_at space a ≡ None) → least_overlapped space page ≡ Some q.base
  overlapped_least q e inside before =
      let at = (page_at_means is q.base q).0 e in
      let spans = (covers_means page q.base).0 inside in
      overlapped_first is page q at.0 ((overlaps_shares page q).1 (q.base, inside, covers_base q))
      (λ r h o.
      let meet = (overlaps_means page r).0 o in
      ⊎_elim
      (λ (lower : r.base < q.base). absurd (⊎_elim
      (λ (outside : r.base < page.base).
      let covered = (covers_means r page.base).1 (omega (arith, outside), meet.0) in
      let here = (page_at_means is page.base r).1 (h, covered) in
      ⊎_elim
      (λ (strictly : page.base < q.base). let nothing = before page.base (omega arith) strictly in let wrong : None ≡ Some r = sym nothing ∙ here in
      none_some r wrong)
      (λ (le : q.base ≤ page.base).
      let same : page.base ≡ q.base = omega (arith, le, spans.0) in
      let one : r ≡ q = same_Some r q (sym here ∙ ap (page_at space) same ∙ e) in
      omega (arith, lower, ap (λ (z : Page). z.base) one))
      (cases_lt page.base q.base))
      (λ (from : page.base ≤ r.base).
      let here = (page_at_means is r.base r).1 (h, covers_base r) in
      let nothing = before r.base from lower in
      none_some r (sym nothing ∙ here))
      (cases_lt r.base page.base)))
      (λ (le : q.base ≤ r.base). le)
      (cases_lt r.base q.base))
    where
      none_some : (r : Page) → None ≡ Some r → ⊥
      none_some r e = cc
