-- Spaces read page by page and address by address.
use Rattle.std.proofs.Common.{◌≡◌, ℕ, ◌<◌, Bool, true, false, ◌&&◌, cond, T, eqb, nat_cmp, List, [], ◌∷◌, map, Some, None, Contains, IsTrue, ◌↔◌, ◌≢◌, ◌⊎◌, inl}
use Rattle.std.proofs.Common.{inr, ⊎_elim, refl, sym, ap, ◌∙◌, subst, arith}
use Rattle.std.proofs.lemmas.Bool.{cases_eq, eq-eqb, eqb-true, ne_eqb}
use Rattle.std.proofs.lemmas.Bool.Decides.{nat_tests}
use Rattle.std.specs.Cmp.{nat_cmp_total}
use Rattle.std.specs.Ordering.{eq_by_cmp, is_lt}
use Rattle.std.specs.FinMap as finite
use Rattle.std.specs.FinMap.Entries as entries
use Rattle.vs_types.specs.declared.addresses.depth.Depth.{Depth}
use Rattle.vs_types.specs.declared.addresses.page.Page.{Page}
use Rattle.vs_types.specs.Page.{covers, IsPage}
use Rattle.vs_types.specs.Space.{Space, no_pages, pages, Holds, IsSpace, page_at}
use Rattle.vs_types.specs.Step.{look}
use Rattle.vs_types.specs.Laws.{as_in}
use Rattle.vs_types.specs.declared.requests.answer.Answer.TheVariants.{NotMapped}
use Rattle.vs_types.specs.declared.addresses.depth.Depth.TheVariants.{Four}
use Rattle.vs_types.proofs.Lists.{Contains-head, Contains-tail, Contains-cases, not_in_nil, find_found, find_nothing}
use Rattle.vs_types.proofs.Maps.{get-insert, get-insert_same, get-insert_other, get-remove_same, get-remove_other}

-- two keys tie where they are equal
pub same_key : (q k : ℕ) → eq_by_cmp nat_cmp q k ≡ eqb q k
same_key q k = grind (arith, nat_tests)

-- the value that is found at a key is among the values
pub found_value : {X : Type 0} (q : ℕ) (es : List (ℕ × X)) (v : X) → entries.find nat_cmp q es ≡ Some v → Contains (map (λ e. e.1) es) v
found_value q [] v e = cc
found_value q (x ∷ es) v e =
    elim (eq_by_cmp nat_cmp q x.0) as (λ b. cond b (Some x.1) (entries.find nat_cmp q es) ≡ Some v → Contains (x.1 ∷ map (λ e. e.1) es) v) [
      | true ↦ λ is. let same : x.1 ≡ v = cc in subst (Contains (x.1 ∷ map (λ e. e.1) es)) same (Contains-head x.1 (map (λ e. e.1) es))
      | false ↦ λ is. Contains-tail x.1 (map (λ e. e.1) es) v (found_value q es v is)
    ] e

pub is_true : (b : Bool) → T b → b ≡ true
is_true true h = refl
is_true false h = absurd h

pub both_true : (a b : Bool) → T (a && b) → T a × T b
both_true true b h = (tt, h)
both_true false b h = absurd h

pub below_key : (low q : ℕ) → is_lt (nat_cmp low q) ≡ true → low < q
below_key low q e = grind (arith, nat_tests)

-- a key that is found lies above what all keys lie above
found_above : (low q : ℕ) (es : List (ℕ × Page)) (v : Page) → T (entries.below_all nat_cmp low es) → entries.find nat_cmp q es ≡ Some v → low < q
found_above low q [] v h e = cc
found_above low q (x ∷ es) v h e =
    let parts = both_true (is_lt (nat_cmp low x.0)) (entries.below_all nat_cmp low es) h in
    let first = below_key low x.0 (is_true _ parts.0) in
    elim (eq_by_cmp nat_cmp q x.0) as (λ b. eq_by_cmp nat_cmp q x.0 ≡ b → cond b (Some x.1) (entries.find nat_cmp q es) ≡ Some v → low < q) [
      | true ↦ λ t is. let same : eqb q x.0 ≡ true = sym (same_key q x.0) ∙ t in omega (arith, eqb-true q x.0 same, first)
      | false ↦ λ t is. found_above low q es v parts.1 is
    ] refl e

-- each value is found at some key
pub value_found : (es : List (ℕ × Page)) (v : Page) → T (entries.is_sorted nat_cmp es) → Contains (map (λ e. e.1) es) v
    → (q : ℕ) × (entries.find nat_cmp q es ≡ Some v)
value_found [] v s h = absurd (not_in_nil v h)
value_found (x ∷ es) v s h =
    let parts = both_true (entries.below_all nat_cmp x.0 es) (entries.is_sorted nat_cmp es) s in
    ⊎_elim
    (λ same. (x.0, ap (λ b. cond b (Some x.1) (entries.find nat_cmp x.0 es)) (same_key x.0 x.0 ∙ eq-eqb x.0 x.0 refl) ∙ ap Some same))
    (λ later.
    let at = value_found es v parts.1 later in
    let above = found_above x.0 at.0 es v parts.0 at.1 in
    (at.0, ap (λ b. cond b (Some x.1) (entries.find nat_cmp at.0 es)) (same_key at.0 x.0 ∙ ne_eqb at.0 x.0 (λ e. omega (arith, e))) ∙ at.1))
    (Contains-cases x.1 (map (λ e. e.1) es) v h)

-- ---- what a space holds is listed

pub holds_listed : {depth : Depth} {space : Space} → IsSpace depth space → (page : Page) → Contains (pages space) page ↔ Holds space page
holds_listed {depth} {space} is page = (
  λ h.
      let at = value_found (finite.entries space) page (finite.entries_sorted space) h in
      let got : finite.get space at.0 ≡ Some page = finite.get-entries space at.0 ∙ at.1 in
      subst (λ q. finite.get space q ≡ Some page) (sym (is.under_base at.0 page got)) got,
  λ h. found_value page.base (finite.entries space) page (sym (finite.get-entries space page.base) ∙ h),
)

-- the page at an address is one that the space holds and that covers it
pub page_at_means : {depth : Depth} {space : Space} → IsSpace depth space → (address : ℕ) (page : Page)
    → (page_at space address ≡ Some page) ↔ (Holds space page × IsTrue (covers page address))
page_at_means {depth} {space} is address page = (
  there page,
  λ h. elim (page_at space address) as (λ o. page_at space address ≡ o → o ≡ Some page) [
    | None ↦ λ e. let other = find_nothing (λ p. covers p address) (pages space) page e ((holds_listed is page).1 h.0) in cc
    | Some other ↦ λ e. let found = there other e in ap Some (is.apart other page address found.0 h.0 found.1 h.1)
  ] refl,
)
  where
    there : (p : Page) → page_at space address ≡ Some p → Holds space p × IsTrue (covers p address)
    there p e = let found = find_found (λ p. covers p address) (pages space) p e in ((holds_listed is p).0 found.0, found.1)

-- where no page is at an address, none that the space holds covers it
pub page_at_nothing : {depth : Depth} {space : Space} → IsSpace depth space → (address : ℕ) (page : Page) → page_at space address ≡ None
    → Holds space page → covers page address ≡ false
page_at_nothing {depth} {space} is address page none holds =
    find_nothing (λ p. covers p address) (pages space) page none ((holds_listed is page).1 holds)

-- two spaces that hold the same pages at an address have the same page there
pub page_at_same : {depth : Depth} {s t : Space} → IsSpace depth s → IsSpace depth t → (address : ℕ)
    → ((p : Page) → IsTrue (covers p address) → Holds s p ↔ Holds t p) → page_at s address ≡ page_at t address
page_at_same {s = s} {t = t} si ti address alike =
    elim (page_at s address) as (λ o. page_at s address ≡ o → o ≡ page_at t address) [
      | None ↦ λ none. elim (page_at t address) as (λ o. page_at t address ≡ o → None ≡ o) [
        | None ↦ λ e. refl
        | Some p ↦ λ e.
            let at = (page_at_means ti address p).0 e in
            let other = page_at_nothing si address p none ((alike p at.1).1 at.0) in
            cc
      ] refl
      | Some p ↦ λ e.
          let at = (page_at_means si address p).0 e in
          sym ((page_at_means ti address p).1 ((alike p at.1).0 at.0, at.1))
    ] refl

-- ---- the empty space

pub none_held : (base : ℕ) (page : Page) → finite.get no_pages base ≡ Some page → ⊥
none_held base page e = let nothing = finite.get-empty {X = Page} nat_cmp base in cc

pub no_pages_space : (depth : Depth) → IsSpace depth no_pages
no_pages_space depth = record {
  under_base = λ base page e. absurd (none_held base page e);
  well_formed = λ page h. absurd (none_held page.base page h);
  apart = λ p q address h k c d. absurd (none_held p.base p h);
}

pub no_pages_at : (depth : Depth) (address : ℕ) → page_at no_pages address ≡ None
no_pages_at depth address =
    elim (page_at no_pages address) as (λ o. page_at no_pages address ≡ o → o ≡ None) [
      | None ↦ λ e. refl
      | Some p ↦ λ e. absurd (none_held p.base p ((page_at_means (no_pages_space depth) address p).0 e).0)
    ] refl

pub look_of_nothing : (address : ℕ) → look no_pages address ≡ NotMapped
look_of_nothing address = rw (no_pages_at Four address)

-- ---- how an address looks

pub look_of_page : {depth : Depth} {space : Space} → IsSpace depth space → (address : ℕ) (page : Page) → Holds space page
    → IsTrue (covers page address) → look space address ≡ as_in page address
look_of_page is address page holds covered = rw ((page_at_means is address page).1 (holds, covered))

pub look_of_none : (space : Space) (address : ℕ) → page_at space address ≡ None → look space address ≡ NotMapped
look_of_none space address e = rw e

-- an address with the same page looks alike
pub look_same : (s t : Space) (address : ℕ) → page_at s address ≡ page_at t address → look s address ≡ look t address
look_same s t address e = rw e

-- ---- a page more, or another in its place

-- what is found after an insert is the page, under its key, or was there under another
pub insert_cases : (space : Space) (k : ℕ) (page : Page) (q : ℕ) (found : Page) → finite.get (finite.insert space k page) q ≡ Some found
    → ((q ≡ k) × (found ≡ page)) ⊎ ((q ≢ k) × (finite.get space q ≡ Some found))
insert_cases space k page q found e =
    ⊎_elim
    (λ same. let t = eq-eqb q k same in let got = get-insert space k page q in
    let is : cond true (Some page) (finite.get space q) ≡ Some found = rw t at (sym got ∙ e) in inl (same, cc))
    (λ differs. let t = ne_eqb q k differs in let got = get-insert space k page q in
    let is : cond false (Some page) (finite.get space q) ≡ Some found = rw t at (sym got ∙ e) in inr (differs, is))
    (cases_eq q k)

-- what is found after a remove was there, under another key
pub remove_cases : (space : Space) (k q : ℕ) (found : Page) → finite.get (finite.remove space k) q ≡ Some found → (q ≢ k) × (finite.get space q ≡ Some found)
remove_cases space k q found e =
    ⊎_elim
    (λ same. let gone = get-remove_same space k in
    let at : finite.get (finite.remove space k) k ≡ Some found = subst (λ z. finite.get (finite.remove space k) z ≡ Some found) same e in cc)
    (λ differs. (differs, sym (get-remove_other space k q differs) ∙ e))
    (cases_eq q k)

-- a page that is put back where it was taken out
pub put_back : (space : Space) (page : Page) → Holds space page → finite.insert (finite.remove space page.base) page.base page ≡ space
put_back space page holds = finite.same_map nat_cmp_total finite.nat_cmp-IsAntisymmetric _ _ (λ q. ⊎_elim
    (λ (same : q ≡ page.base). subst (λ k. finite.get (finite.insert (finite.remove space page.base) page.base page) k ≡ finite.get space k)
    (sym same) (get-insert_same (finite.remove space page.base) page.base page ∙ sym holds))
    (λ (differs : q ≢ page.base). get-insert_other (finite.remove space page.base) page.base page q differs ∙ get-remove_other space page.base q differs)
    (cases_eq q page.base))

-- a well-formed page that has no address of the pages under other bases
pub insert_space : {depth : Depth} {space : Space} → IsSpace depth space → (page : Page) → IsPage depth page
    → ((q : Page) (a : ℕ) → Holds space q → q.base ≢ page.base → IsTrue (covers q a) → IsTrue (covers page a) → ⊥)
    → IsSpace depth (finite.insert space page.base page)
insert_space {depth} {space} is page good alone = record {
  under_base = λ base p e. ⊎_elim (λ new. ap (λ (z : Page). z.base) new.1 ∙ sym new.0) (λ old. is.under_base base p old.1)
      (insert_cases space page.base page base p e);
  well_formed = λ p e. ⊎_elim (λ new. subst (IsPage depth) (sym new.1) good) (λ old. is.well_formed p old.1) (insert_cases space page.base page p.base p e);
  apart = λ p q a h k c d. ⊎_elim
      (λ p_new. ⊎_elim
      (λ q_new. p_new.1 ∙ sym q_new.1)
      (λ q_old. absurd (alone q a q_old.1 q_old.0 d (subst (λ (z : Page). IsTrue (covers z a)) p_new.1 c)))
      (insert_cases space page.base page q.base q k))
      (λ p_old. ⊎_elim
      (λ q_new. absurd (alone p a p_old.1 p_old.0 c (subst (λ (z : Page). IsTrue (covers z a)) q_new.1 d)))
      (λ q_old. is.apart p q a p_old.1 q_old.1 c d)
      (insert_cases space page.base page q.base q k))
      (insert_cases space page.base page p.base p h);
}

pub remove_space : {depth : Depth} {space : Space} → IsSpace depth space → (base : ℕ) → IsSpace depth (finite.remove space base)
remove_space {depth} {space} is base = record {
  under_base = λ k p e. is.under_base k p (remove_cases space base k p e).1;
  well_formed = λ p e. is.well_formed p (remove_cases space base p.base p e).1;
  apart = λ p q a h k. is.apart p q a (remove_cases space base p.base p h).1 (remove_cases space base q.base q k).1;
}

-- a page covers by its base and its size
pub same_covers : (p q : Page) (a : ℕ) → p.base ≡ q.base → p.size ≡ q.size → covers q a ≡ covers p a
same_covers p q a base size = cc

-- the page at an address after an insert: where the page covers it the page, and else the one that was there
pub page_at_after_insert : {depth : Depth} {space : Space} → IsSpace depth space → (page : Page) → IsSpace depth (finite.insert space page.base page)
    → ((q : Page) → Holds space q → q.base ≡ page.base → q.size ≡ page.size) → (a : ℕ)
    → page_at (finite.insert space page.base page) a ≡ cond (covers page a) (Some page) (page_at space a)
page_at_after_insert {depth} {space} is page new sized a =
    elim (covers page a) as (λ b. covers page a ≡ b → page_at (finite.insert space page.base page) a ≡ cond b (Some page) (page_at space a)) [
      | true ↦ λ t. (page_at_means new a page).1 (get-insert_same space page.base page, t)
      | false ↦ λ t. page_at_same new is a (λ p c. (forth t p c, back t p c))
    ] refl
  where
    forth : covers page a ≡ false → (p : Page) → IsTrue (covers p a) → Holds (finite.insert space page.base page) p → Holds space p
    forth t p c h = ⊎_elim (λ fresh. let again = subst (λ (z : Page). IsTrue (covers z a)) fresh.1 c in cc) (λ old. old.1)
        (insert_cases space page.base page p.base p h)

    back : covers page a ≡ false → (p : Page) → IsTrue (covers p a) → Holds space p → Holds (finite.insert space page.base page) p
    back t p c h = ⊎_elim
        (λ same. let size = sized p h same in let again : covers page a ≡ true = same_covers p page a same size ∙ c in cc)
        (λ differs. get-insert_other space page.base page p.base differs ∙ h)
        (cases_eq p.base page.base)

pub page_at_after_remove : {depth : Depth} {space : Space} → IsSpace depth space → (page : Page) → Holds space page → (a : ℕ)
    → page_at (finite.remove space page.base) a ≡ cond (covers page a) None (page_at space a)
page_at_after_remove {depth} {space} is page holds a =
    elim (covers page a) as (λ b. covers page a ≡ b → page_at (finite.remove space page.base) a ≡ cond b None (page_at space a)) [
      | true ↦ λ t. elim (page_at (finite.remove space page.base) a) as (λ o. page_at (finite.remove space page.base) a ≡ o → o ≡ None) [
        | None ↦ λ e. refl
        | Some p ↦ λ e.
            let at = (page_at_means new a p).0 e in
            let was = remove_cases space page.base p.base p at.0 in
            absurd (was.0 (ap (λ (z : Page). z.base) (is.apart p page a was.1 holds at.1 t)))
      ] refl
      | false ↦ λ t. page_at_same new is a (λ p c. (λ h. (remove_cases space page.base p.base p h).1, back t p c))
    ] refl
  where
    new : IsSpace depth (finite.remove space page.base)
    new = remove_space is page.base

    back : covers page a ≡ false → (p : Page) → IsTrue (covers p a) → Holds space p → Holds (finite.remove space page.base) p
    back t p c h = ⊎_elim
        (λ same. let at : finite.get space page.base ≡ Some p = subst (λ z. finite.get space z ≡ Some p) same h in let one : page ≡ p = cc in
        let again = subst (λ (z : Page). covers z a ≡ false) one t in cc)
        (λ differs. get-remove_other space page.base p.base differs ∙ h)
        (cases_eq p.base page.base)
