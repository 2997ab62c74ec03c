-- Pages joined to ranges: the ranges have the pages, and none goes on with the one before it.
use Rattle.std.proofs.Common.{◌≡◌, ℕ, zero, suc, ◌<◌, ◌↔◌, true, false, List, [], ◌∷◌, ◌++◌, All, IsTrue, if◌then◌else◌}
use Rattle.std.proofs.Common.{flat_map, refl, sym, ap, subst, ◌∙◌, arith, append_assoc, eq-eqb, add-one}
use Rattle.std.proofs.lemmas.Bool.{and_parts, and_from, eqb-true, false≢true}
use Rattle.std.proofs.lemmas.List.Elements.{All-nil, All-cons}
use Rattle.vs_types.specs.Codes.{rights_code, size_code}
use Rattle.vs_types.specs.inside.Telling.{rights_in, size_in}
use Rattle.vs_types.specs.declared.addresses.page.Page.{Page}
use Rattle.vs_types.proofs.OneEntry.{rights_back, size_back}
use Rattle.vs_types.proofs.Pages.{same_page as equal_page}
use Rattle.audit_texts.specs.Ranges.{alone, joined, longer, page_after, pages_from, pages_of, ranges_of, same_page, AreParted}
use Rattle.audit_texts.specs.declared.pages.range.PageRange.{PageRange}

-- ---- whether two pages are one

-- pages that the test finds to be one are one
pub one_page : (p q : Page) → same_page p q ≡ true → p ≡ q
one_page p q same =
    let first = and_parts _ _ same in
    let second = and_parts _ _ first.1 in
    let third = and_parts _ _ second.1 in
    equal_page p q (eqb-true p.base q.base first.0)
    (sym (size_back p.size) ∙ ap size_in (eqb-true (size_code p.size) (size_code q.size) second.0) ∙ size_back q.size)
    (eqb-true p.phys q.phys third.1)
    (sym (rights_back p.rights) ∙ ap rights_in (eqb-true (rights_code p.rights) (rights_code q.rights) third.0) ∙ rights_back q.rights)

page_itself : (p : Page) → same_page p p ≡ true
page_itself p = and_from _ _ (eq-eqb p.base p.base refl) (and_from _ _ (eq-eqb (size_code p.size) (size_code p.size) refl)
    (and_from _ _ (eq-eqb (rights_code p.rights) (rights_code p.rights) refl) (eq-eqb p.phys p.phys refl)))

pub same_means : (p q : Page) → IsTrue (same_page p q) ↔ (p ≡ q)
same_means p q = (one_page p q, λ same. subst (λ x. same_page p x ≡ true) same (page_itself p))

-- a page that is the one after a range, and one that is not
pub is_next : (range : PageRange) (page : Page) → page ≡ page_after range → same_page page (page_after range) ≡ true
is_next range page same = (same_means page (page_after range)).1 same

pub not_next : (range : PageRange) (page : Page) → (page ≡ page_after range → ⊥) → same_page page (page_after range) ≡ false
not_next range page other = elim (same_page page (page_after range)) as (λ b. same_page page (page_after range) ≡ b → b ≡ false) [
  | true ↦ λ e. absurd (other (one_page page (page_after range) e))
  | false ↦ λ e. refl
] refl

-- ---- a range with one page more

range_from : Page → ℕ → PageRange
range_from page count = record { first = page; count = count }

-- the page after some, from the second on
after_next : (page : Page) (count : ℕ) → page_after (range_from (page_after (alone page)) count) ≡ page_after (range_from page (suc count))
unfolding range_from
after_next page count = equal_page _ _ (omega arith) refl (omega arith) refl

after_none : (page : Page) → page ≡ page_after (range_from page zero)
unfolding range_from
after_none page = equal_page _ _ (omega arith) refl (omega arith) refl

one_more : (page : Page) (count : ℕ) → pages_from page (suc count) ≡ pages_from page count ++ page_after (range_from page count) ∷ []
one_more page zero = ap (λ (p : Page). p ∷ []) (after_none page)
one_more page (suc count) =
    ap (λ (ps : List Page). page ∷ ps) (one_more (page_after (alone page)) count
    ∙ ap (λ (p : Page). pages_from (page_after (alone page)) count ++ p ∷ []) (after_next page count))

pub pages_of_longer : (range : PageRange) → pages_of (longer range) ≡ pages_of range ++ page_after range ∷ []
unfolding range_from
pages_of_longer range = ap (pages_from range.first) (add-one range.count) ∙ one_more range.first range.count

-- ---- the ranges of pages

-- what is so of the ranges of all pages that come behind an open range, going by whether each goes on with it
joined_together : (range : PageRange) (more : List Page) → flat_map pages_of (joined range more) ≡ pages_of range ++ more
joined_together range [] = refl
joined_together range (page ∷ more) = elim (same_page page (page_after range)) as
    (λ b. same_page page (page_after range) ≡ b → flat_map pages_of (if b then joined (longer range) more else range ∷ joined (alone page) more)
    ≡ pages_of range ++ page ∷ more) [
      | true ↦ λ e.
          joined_together (longer range) more
          ∙ ap (λ (ps : List Page). ps ++ more) (pages_of_longer range)
          ∙ append_assoc (pages_of range) (page_after range ∷ []) more
          ∙ ap (λ (p : Page). pages_of range ++ p ∷ more) (sym (one_page page (page_after range) e))
      | false ↦ λ e. ap (λ (ps : List Page). pages_of range ++ ps) (joined_together (alone page) more)
    ] refl

pub ranges_together : (them : List Page) → flat_map pages_of (ranges_of them) ≡ them
ranges_together [] = refl
ranges_together (page ∷ more) = joined_together (alone page) more

joined_some : (range : PageRange) (more : List Page) → 0 < range.count → All (λ it. 0 < it.count) (joined range more)
joined_some range [] some = All-cons (λ it. 0 < it.count) range [] some (All-nil _)
joined_some range (page ∷ more) some = elim (same_page page (page_after range)) as
    (λ b. All (λ it. 0 < it.count) (if b then joined (longer range) more else range ∷ joined (alone page) more)) [
      | true ↦ joined_some (longer range) more (omega arith)
      | false ↦ All-cons (λ it. 0 < it.count) range (joined (alone page) more) some (joined_some (alone page) more (omega arith))
    ]

pub ranges_some : (them : List Page) → All (λ range. 0 < range.count) (ranges_of them)
ranges_some [] = All-nil _
ranges_some (page ∷ more) = joined_some (alone page) more (omega arith)

-- the first of the ranges begins where the open one does
pub record BeginsAt (first : Page) (ranges : List PageRange) : Type 0 where
  pub head : PageRange
  pub rest : List PageRange
  pub is : ranges ≡ head ∷ rest
  pub begins : head.first ≡ first

joined_begins : (range : PageRange) (more : List Page) → BeginsAt range.first (joined range more)
joined_begins range [] = record { head = range; rest = []; is = refl; begins = refl }
joined_begins range (page ∷ more) = elim (same_page page (page_after range)) as
    (λ b. BeginsAt range.first (if b then joined (longer range) more else range ∷ joined (alone page) more)) [
      | true ↦ joined_begins (longer range) more
      | false ↦ record { head = range; rest = joined (alone page) more; is = refl; begins = refl }
    ]

parted_before : (range : PageRange) (page : Page) (ranges : List PageRange) → (page ≡ page_after range → ⊥) → BeginsAt page ranges → AreParted ranges
    → AreParted (range ∷ ranges)
parted_before range page ranges other begins parted =
    let both : AreParted (range ∷ begins.head ∷ begins.rest) =
    (λ same. other (sym begins.begins ∙ same), subst AreParted begins.is parted) in
    subst (λ (them : List PageRange). AreParted (range ∷ them)) (sym begins.is) both

joined_parted : (range : PageRange) (more : List Page) → AreParted (joined range more)
joined_parted range [] = tt
joined_parted range (page ∷ more) = elim (same_page page (page_after range)) as
    (λ b. same_page page (page_after range) ≡ b → AreParted (if b then joined (longer range) more else range ∷ joined (alone page) more)) [
      | true ↦ λ e. joined_parted (longer range) more
      | false ↦ λ e.
          parted_before range page (joined (alone page) more)
          (λ same. false≢true (sym e ∙ is_next range page same)) (joined_begins (alone page) more) (joined_parted (alone page) more)
    ] refl

pub ranges_parted : (them : List Page) → AreParted (ranges_of them)
ranges_parted [] = tt
ranges_parted (page ∷ more) = joined_parted (alone page) more
