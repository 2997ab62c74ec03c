use Rattle.std.proofs.Common.{◌≡◌, ℕ, ◌%◌, Some, sym, ap, ◌∙◌, subst, arith}
use Rattle.vs_types.specs.Page.{bytes_of}
use Rattle.vs_types.specs.declared.requests.answer.Answer.TheVariants.{Mapped}
use Rattle.vs_types.specs.declared.addresses.page.Page.{Page}
use Rattle.vs_types.specs.declared.addresses.page.Size.{Size}
use Rattle.vs_types.proofs.Pages.{same_page}
use Rattle.nr_touch.proofs.IndexedPages.{aligned_page, begun, looks_begun, roomy_page}
use Rattle.nr_touch.proofs.releases.index.page_from.Goals as goal

pub returns-in_default : goal.returns-in_default
returns-in_default c = record {
  is = λ page holds begins.
      absurd (c.in_default.not-Mapped page.phys page.size page.rights
      (c.resolve.ensures ∙ looks_begun c.pages_are_a_space.ensures page c.args.base holds begins));
  only = tt;
  roomy = tt;
}

pub returns-then-base-bytes-ne0-clause-is : goal.returns-then-base-bytes-ne0-clause-is
returns-then-base-bytes-ne0-clause-is c = λ page holds begins.
    let is_space = c.pages_are_a_space.ensures in
    let looks : Mapped page.phys page.size page.rights ≡ Mapped c.in-Mapped.phys c.in-Mapped.size c.in-Mapped.rights =
    sym (c.resolve.ensures ∙ looks_begun is_space page c.args.base holds begins) ∙ c.in-Mapped.is in
    let size : page.size ≡ c.in-Mapped.size = cc in
    let of_page : c.args.base % bytes_of page.size ≡ 0 = subst (λ (b : ℕ). b % bytes_of page.size ≡ 0) begins (aligned_page is_space page holds) in
    let aligned : c.args.base % c.bytes.result ≡ 0 = subst (λ (n : ℕ). c.args.base % n ≡ 0) (sym c.bytes.ensures)
    (subst (λ (s : Size). c.args.base % bytes_of s ≡ 0) size of_page) in
    absurd (omega (arith, aligned))

pub returns-clause-is : goal.returns-clause-is
returns-clause-is c = λ page holds begins.
    let looks : Mapped page.phys page.size page.rights ≡ Mapped c.in-Mapped.phys c.in-Mapped.size c.in-Mapped.rights =
    sym (c.resolve.ensures ∙ looks_begun c.pages_are_a_space.ensures page c.args.base holds begins) ∙ c.in-Mapped.is in
    let size : page.size ≡ c.in-Mapped.size = cc in
    let phys : page.phys ≡ c.in-Mapped.phys = cc in
    let rights : page.rights ≡ c.in-Mapped.rights = cc in
    let own : Page = record { base = c.args.base; size = c.in-Mapped.size; rights = c.in-Mapped.rights; phys = c.in-Mapped.phys } in
    ap Some (sym (same_page page own begins size phys rights))

pub returns-clause-only : goal.returns-clause-only
returns-clause-only c =
    let own : Page = record { base = c.args.base; size = c.in-Mapped.size; rights = c.in-Mapped.rights; phys = c.in-Mapped.phys } in
    let zero : c.args.base % c.bytes.result ≡ 0 = omega arith in
    begun c.pages_are_a_space.ensures own (sym c.resolve.ensures ∙ c.in-Mapped.is) (subst (λ (n : ℕ). c.args.base % n ≡ 0) c.bytes.ensures zero)

pub returns-clause-roomy : goal.returns-clause-roomy
returns-clause-roomy c =
    let own : Page = record { base = c.args.base; size = c.in-Mapped.size; rights = c.in-Mapped.rights; phys = c.in-Mapped.phys } in
    let zero : c.args.base % c.bytes.result ≡ 0 = omega arith in
    roomy_page c.pages_are_a_space.ensures own
    (begun c.pages_are_a_space.ensures own (sym c.resolve.ensures ∙ c.in-Mapped.is) (subst (λ (n : ℕ). c.args.base % n ≡ 0) c.bytes.ensures zero))
