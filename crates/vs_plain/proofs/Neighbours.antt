-- What the pages next to an address say: what covers it, and what a page there overlaps.
use Rattle.std.proofs.Common.{◌≡◌, ℕ, ◌+◌, ◌*◌, ◌%◌, ◌<◌, ◌≤◌, Option, true, false, Some, None, IsTrue, ⊎_elim, refl, sym, ap, ◌∙◌, subst, arith}
use Rattle.std.proofs.lemmas.Bool.{cases_lt}
use Rattle.vs_types.specs.declared.addresses.depth.Depth.{Depth}
use Rattle.vs_types.specs.declared.addresses.page.Page.{Page}
use Rattle.vs_types.specs.declared.addresses.page.Rights.{Rights}
use Rattle.vs_types.specs.declared.addresses.page.Size.TheVariants.{K4}
use Rattle.vs_types.specs.declared.requests.op.Action.{Action}
use Rattle.vs_types.specs.declared.requests.op.Action.TheVariants.{Unmap, Protect}
use Rattle.vs_types.specs.declared.requests.answer.Answer.{Answer}
use Rattle.vs_types.specs.Page.{level_of, bytes_of, end_of, covers, overlaps, IsPage}
use Rattle.vs_types.specs.Step.{Stepped, step}
use Rattle.vs_types.specs.Space.{Space, Holds, IsSpace, page_at, least_overlapped}
use Rattle.vs_types.proofs.Overlaps.{overlapped_first, none_overlapped}
use Rattle.vs_types.proofs.Pages.{level_some, ends_before as ends_before_next, bytes_positive, covers_means, covers_base, overlaps_means, overlaps_shares}
use Rattle.vs_types.proofs.Steps.{unmap_cases, protect_cases}
use Rattle.vs_types.specs.declared.requests.answer.Answer.TheVariants.{Removed, Changed}
use Rattle.vs_types.proofs.Spaces.{page_at_means, remove_space, remove_cases, put_back}
use Rattle.std.specs.FinMap as finite
use Rattle.vs_plain.proofs.Tables.{aligned_down}
use Rattle.vs_plain.specs.inside.PageMap.{IsLastUpTo, IsFirstFrom}
use Rattle.vs_plain.specs.Plain.{BoundedSpace, IsPlainStep}
use Rattle.vs_plain.specs.inside.Place.{IsPlaceOf, no_page}
use Rattle.vs_plain.specs.declared.place.Place.TheVariants.{Covered, Free}

module _ {depth : Depth} {space : Space} (is : IsSpace depth space) where
  abbrev pub unchanged : ℕ → Stepped
  unchanged base = record { space = space; answer = no_page (page_at space base) }

  -- a page that begins before another does not reach it
  pub ends_before : (p q : Page) → Holds space p → Holds space q → p.base < q.base → end_of p ≤ q.base
  ends_before p q hp hq l =
      ⊎_elim
      (λ reaches.
      let covered : IsTrue (covers p q.base) = (covers_means p q.base).1 (omega arith, reaches) in
      let same : p ≡ q = is.apart p q q.base hp hq covered (covers_base q) in
      absurd (omega (arith, ap (λ (x : Page). x.base) same)))
      (λ fits. fits)
      (cases_lt q.base (end_of p))

  one_page : (p q : Page) → Holds space p → Holds space q → p.base ≡ q.base → p ≡ q
  one_page p q hp hq e = is.apart p q q.base hp hq (subst (λ a. IsTrue (covers p a)) e (covers_base p)) (covers_base q)

  nothing_at : (address : ℕ) → ((q : Page) → Holds space q → IsTrue (covers q address) → ⊥) → None ≡ page_at space address
  nothing_at address none =
      elim (page_at space address) as (λ o. page_at space address ≡ o → None ≡ o) [
        | None ↦ λ e. refl
        | Some p ↦ λ e. let at = (page_at_means is address p).0 e in absurd (none p at.0 at.1)
      ] refl

  -- the last page up to an address covers it, or none does
  pub covered_by_last : (address : ℕ) (p : Page) → IsLastUpTo space address (Some p) → covers p address ≡ true → IsPlaceOf depth space address (Covered p)
  covered_by_last address p last near = ((page_at_means is address p).1 (last.0, near), near, is.well_formed p last.0)

  pub free_by_last : (address : ℕ) (p : Page) → IsLastUpTo space address (Some p) → covers p address ≡ false → IsPlaceOf depth space address (Free (Some p))
  free_by_last address p last far =
      let none : None ≡ page_at space address =
      nothing_at address (λ q holds covered.
      let at = (covers_means q address).0 covered in
      let before : q.base ≤ p.base = last.2 q holds at.0 in
      ⊎_elim
      (λ l. omega (arith, ends_before q p holds last.0 l, last.1))
      (λ l. let same : q ≡ p = one_page q p holds last.0 (omega (arith, before)) in
      let there : covers p address ≡ true = subst (λ x. IsTrue (covers x address)) same covered in cc)
      (cases_lt q.base p.base)) in
      (sym none, last)

  pub free_by_none : (address : ℕ) → IsLastUpTo space address None → IsPlaceOf depth space address (Free None)
  free_by_none address last =
      let none : None ≡ page_at space address =
      nothing_at address (λ q holds covered. let at = (covers_means q address).0 covered in omega (arith, last q holds)) in
      (sym none, last)

  -- the page that begins at an address covers it
  pub begins_at : (base : ℕ) (p : Page) → Some p ≡ finite.get space base → (p.base ≡ base) × (page_at space base ≡ Some p)
  begins_at base p there =
      let at : p.base ≡ base = is.under_base base p (sym there) in
      let held : Holds space p = subst (λ q. finite.get space q ≡ Some p) (sym at) (sym there) in
      (at, (page_at_means is base p).1 (held, subst (λ a. IsTrue (covers p a)) at (covers_base p)))

  -- ---- an unmap and a protect, by the page that begins at the base

  begins_nowhere : (base : ℕ) (p : Page) → finite.get space base ≡ None → page_at space base ≡ Some p → p.base ≡ base → ⊥
  begins_nowhere base p none at same =
      let there : finite.get space base ≡ Some p = subst (λ q. finite.get space q ≡ Some p) same ((page_at_means is base p).0 at).0 in
      cc

  not_at : (base : ℕ) (o : Option Page) → page_at space base ≡ o → record { space = space; answer = no_page o } ≡ unchanged base
  not_at base o at = ap (λ x. record { space = space; answer = no_page x }) (sym at)

  pub unmap_of_none : (limit base : ℕ) → finite.get space base ≡ None → step depth limit space (Unmap base) ≡ unchanged base
  unmap_of_none limit base none =
      unmap_cases (λ s. s ≡ unchanged base) depth limit space base
      (λ at. not_at base None at)
      (λ p at same. absurd (begins_nowhere base p none at same))
      (λ p at differs. not_at base (Some p) at)

  pub protect_of_none : (limit base : ℕ) (rights : Rights) → finite.get space base ≡ None → step depth limit space (Protect base rights) ≡ unchanged base
  protect_of_none limit base rights none =
      protect_cases (λ s. s ≡ unchanged base) depth limit space base rights
      (λ at. not_at base None at)
      (λ p at same. absurd (begins_nowhere base p none at same))
      (λ p at differs. not_at base (Some p) at)

  pub unmap_of_page : (limit base : ℕ) (p : Page) → Some p ≡ finite.get space base
      → step depth limit space (Unmap base) ≡ record { space = finite.remove space base; answer = Removed p.phys p.size p.rights }
  unmap_of_page limit base p there =
      let here = begins_at base p there in
      unmap_cases (λ s. s ≡ record { space = finite.remove space base; answer = Removed p.phys p.size p.rights }) depth limit space base
      (λ at. cc)
      (λ q at same. let one : q ≡ p = cc in ap (λ (x : Page). record { space = finite.remove space base; answer = Removed x.phys x.size x.rights }) one)
      (λ q at differs. let one : q ≡ p = cc in absurd (differs (ap (λ (x : Page). x.base) one ∙ here.0)))

  pub protect_of_page : (limit base : ℕ) (rights : Rights) (p : Page) → Some p ≡ finite.get space base
      → step depth limit space (Protect base rights) ≡ record { space = finite.insert space base (record p { rights = rights }); answer = Changed p.rights }
  protect_of_page limit base rights p there =
      let here = begins_at base p there in
      protect_cases (λ s. s ≡ record { space = finite.insert space base (record p { rights = rights }); answer = Changed p.rights }) depth
      limit space base rights
      (λ at. cc)
      (λ q at same.
      let one : q ≡ p = cc in
      let changed : ℕ → Page → Stepped = λ b x. record { space = finite.insert space b (record x { rights = rights }); answer = Changed x.rights } in
      let first : changed q.base q ≡ changed base q = ap (λ b. changed b q) same in
      let then : changed base q ≡ changed base p = ap (changed base) one in
      first ∙ then)
      (λ q at differs. let one : q ≡ p = cc in absurd (differs (ap (λ (x : Page). x.base) one ∙ here.0)))

-- a step whose answer and space are known
pub plain_step : (old : BoundedSpace) (action : Action) (answer : Answer) (left : Space) (after : Stepped) → step old.depth old.limit old.space action ≡ after
    → answer ≡ after.answer → left ≡ after.space → IsPlainStep old action answer (record old { space = left })
plain_step old action answer left after is told same =
    (told ∙ sym (ap (λ (s : Stepped). s.answer) is), ap (λ x. record old { space = x }) (same ∙ sym (ap (λ (s : Stepped). s.space) is)))

-- each page begins at a frame
whole_frames : {depth : Depth} (p : Page) → IsPage depth p → p.base % 4096 ≡ 0
whole_frames p good = aligned_down p.base (3 + 9 * level_of p.size) 12 (omega (arith, level_some p.size)) good.aligned

-- ---- the least base that is overlapped, by the pages next to the page

module _ {depth : Depth} {space : Space} (is : IsSpace depth space) (page : Page) where
  -- where none covers the base, what is overlapped begins after it
  begins_behind : None ≡ page_at space page.base → (r : Page) → Holds space r → overlaps page r ≡ true → page.base < r.base
  begins_behind none r h o =
      let meet = (overlaps_means page r).0 o in
      ⊎_elim
      (λ l. l)
      (λ l. let at : page_at space page.base ≡ Some r = (page_at_means is page.base r).1 (h, (covers_means r page.base).1 (l, meet.0)) in cc)
      (cases_lt page.base r.base)

  pub overlapped_above : (a : Page) → None ≡ page_at space page.base → IsFirstFrom space page.base (Some a) → covers page a.base ≡ true
      → Some a.base ≡ least_overlapped space page
  overlapped_above a none first near =
      let reached = ((covers_means page a.base).0 near).1 in
      sym (overlapped_first is page a first.0 ((overlaps_means page a).1 (omega (arith, first.1, bytes_positive a.size), reached))
      (λ r h o. let behind = begins_behind none r h o in first.2 r h (omega arith)))

  -- where the first page from the base on is not reached, no page is overlapped
  pub not_overlapped_far : (a : Page) → None ≡ page_at space page.base → IsFirstFrom space page.base (Some a) → covers page a.base ≡ false
      → None ≡ least_overlapped space page
  not_overlapped_far a none first far =
      sym (none_overlapped is page (λ r h o.
      let behind = begins_behind none r h o in
      let meet = (overlaps_means page r).0 o in
      let next = first.2 r h (omega arith) in
      let near : covers page a.base ≡ true = (covers_means page a.base).1 (first.1, omega (arith, next, meet.1)) in
      cc))

  pub not_overlapped_none : None ≡ page_at space page.base → IsFirstFrom space page.base None → None ≡ least_overlapped space page
  not_overlapped_none none first = sym (none_overlapped is page (λ r h o. let behind = begins_behind none r h o in omega (arith, first r h)))

  -- no page begins within 4 KiB above another base
  pub not_overlapped_small : IsPage depth page → page.size ≡ K4 → None ≡ page_at space page.base → None ≡ least_overlapped space page
  not_overlapped_small good small none =
      sym (none_overlapped is page (λ r h o.
      let behind = begins_behind none r h o in
      let meet = (overlaps_means page r).0 o in
      let bytes : bytes_of page.size ≡ 4096 = ap bytes_of small in
      let here : page.base % 4096 ≡ 0 = whole_frames page good in
      let there : r.base % 4096 ≡ 0 = whole_frames r (is.well_formed r h) in
      let next = ends_before_next K4 page.base r.base here there behind in
      omega (arith, bytes)))

-- ---- a page that is taken out

-- a page that is taken out overlaps nothing that is left
pub removed_free : {depth : Depth} {space : Space} → IsSpace depth space → (page : Page) → Holds space page
    → least_overlapped (finite.remove space page.base) page ≡ None
removed_free {depth} {space} is page holds =
    none_overlapped (remove_space is page.base) page (λ r h o.
    let was = remove_cases space page.base r.base r h in
    let meet = (overlaps_shares page r).0 o in
    was.0 (ap (λ (p : Page). p.base) (is.apart r page meet.0 was.1 holds meet.2 meet.1)))

-- what is left where the page that begins at an address is taken out
pub taken_out : {depth : Depth} {space : Space} → IsSpace depth space → (page : Page) (base : ℕ) (left : Space) → Some page ≡ finite.get space base
    → left ≡ finite.remove space base
    → IsSpace depth left × (least_overlapped left page ≡ None) × (finite.insert left page.base page ≡ space)
taken_out {depth} {space} is page base left there e =
    let begins : page.base ≡ base = is.under_base base page (sym there) in
    let holds : Holds space page = subst (λ q. finite.get space q ≡ Some page) (sym begins) (sym there) in
    let out : left ≡ finite.remove space page.base = e ∙ ap (finite.remove space) (sym begins) in (
      subst (IsSpace depth) (sym e) (remove_space is base),
      ap (λ s. least_overlapped s page) out ∙ removed_free is page holds,
      ap (λ s. finite.insert s page.base page) out ∙ put_back space page holds,
    )
