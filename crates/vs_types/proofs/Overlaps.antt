-- The least base of a page that another page overlaps.
use Rattle.std.proofs.Common.{◌≡◌, ℕ, ◌<◌, ◌≤◌, true, List, [], ◌∷◌, min, Some, None, option_map, nat_eq, ⊎_elim, refl, sym, ap, ◌∙◌, subst, arith}
use Rattle.std.proofs.lemmas.Bool.{cases_lt}
use Rattle.std.specs.Set.{is_member}
use Rattle.vs_types.specs.declared.addresses.depth.Depth.{Depth}
use Rattle.vs_types.specs.declared.addresses.page.Page.{Page}
use Rattle.vs_types.specs.Page.{overlaps}
use Rattle.vs_types.specs.Space.{Space, pages, Holds, IsSpace, page_at, least, least_overlapped}
use Rattle.vs_types.proofs.Pages.{bytes_positive, covers_means, overlaps_means}
use Rattle.vs_types.proofs.Spaces.{holds_listed, page_at_means}
use Rattle.vs_types.proofs.Counts.{member_here, member_later, member_cases, member_comes, member_goes}

least_means : (n : ℕ) (ns : List ℕ)
    → (m : ℕ) × (least (n ∷ ns) ≡ Some m) × (is_member nat_eq (n ∷ ns) m ≡ true) × ((k : ℕ) → is_member nat_eq (n ∷ ns) k ≡ true → m ≤ k)
least_means n [] = (n, refl, member_here n [], λ k m. ⊎_elim (λ e. omega arith) (λ h. cc) (member_cases n [] k m))
least_means n (k ∷ ks) =
    let r = least_means k ks in (
      min n r.0,
      ap (option_map (min n)) r.1,
      ⊎_elim
          (λ l. let e : r.0 ≡ min n r.0 = omega arith in subst (λ z. is_member nat_eq (n ∷ k ∷ ks) z ≡ true) e (member_later n (k ∷ ks) r.0 r.2))
          (λ l. let e : n ≡ min n r.0 = omega arith in subst (λ z. is_member nat_eq (n ∷ k ∷ ks) z ≡ true) e (member_here n (k ∷ ks)))
          (cases_lt r.0 n),
      λ j m. ⊎_elim (λ e. omega arith) (λ h. omega (arith, r.3 j h)) (member_cases n (k ∷ ks) j m),
    )

least_is : (ns : List ℕ) (m : ℕ) → is_member nat_eq ns m ≡ true → ((k : ℕ) → is_member nat_eq ns k ≡ true → m ≤ k) → Some m ≡ least ns
least_is [] m h l = cc
least_is (n ∷ ns) m h l =
    let r = least_means n ns in
    let same : m ≡ r.0 = let a = l r.0 r.2 in let b = r.3 m h in omega arith in
    ap Some same ∙ sym r.1

least_none : (ns : List ℕ) → ((k : ℕ) → is_member nat_eq ns k ≡ true → ⊥) → None ≡ least ns
least_none [] none = refl
least_none (n ∷ ns) none = absurd (none n (member_here n ns))

module _ {depth : Depth} {space : Space} (is : IsSpace depth space) (page : Page) where
  -- a page that is overlapped, with no such page before it
  pub overlapped_first : (q : Page) → Holds space q → overlaps page q ≡ true → ((r : Page) → Holds space r → overlaps page r ≡ true → q.base ≤ r.base)
      → least_overlapped space page ≡ Some q.base
  overlapped_first q h o first =
      sym (least_is _ q.base (member_goes (λ (p : Page). p.base) (overlaps page) (pages space) q ((holds_listed is q).1 h) o)
      (λ k m. let found = member_comes (λ (p : Page). p.base) (overlaps page) (pages space) k m in
      let before : q.base ≤ found.0.base = first found.0 ((holds_listed is found.0).0 found.1) found.2 in
      omega (arith, found.3)))

  -- where no page of the space is overlapped
  pub none_overlapped : ((r : Page) → Holds space r → overlaps page r ≡ true → ⊥) → least_overlapped space page ≡ None
  none_overlapped none = sym (least_none _ (λ k m.
      let found = member_comes (λ (p : Page). p.base) (overlaps page) (pages space) k m in
      none found.0 ((holds_listed is found.0).0 found.1) found.2))

  -- a page that has the base comes first
  pub overlapped_below : (b : Page) → page_at space page.base ≡ Some b → least_overlapped space page ≡ Some b.base
  overlapped_below b e =
      let at = (page_at_means is page.base b).0 e in
      let within = (covers_means b page.base).0 at.1 in
      overlapped_first b at.0 ((overlaps_means page b).1 (within.1, omega (arith, within.0, bytes_positive page.size)))
      (λ r h o.
      let meet = (overlaps_means page r).0 o in
      ⊎_elim
      (λ (lower : r.base < b.base).
      let covered = (covers_means r page.base).1 (omega (arith, lower, within.0), meet.0) in
      let same = is.apart r b page.base h at.0 covered at.1 in
      absurd (omega (arith, lower, ap (λ (z : Page). z.base) same)))
      (λ (le : b.base ≤ r.base). le)
      (cases_lt r.base b.base))
