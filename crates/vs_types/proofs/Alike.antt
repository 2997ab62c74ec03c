-- Spaces in which each address looks the same.
use Rattle.std.proofs.Common.{◌≡◌, ℕ, ◌+◌, ◌-◌, ◌%◌, IsTrue, Some, None, refl, sym, ◌∙◌, subst, arith}
use Rattle.std.specs.Cmp.{nat_cmp_total}
use Rattle.std.specs.FinMap as finite
use Rattle.vs_types.specs.declared.addresses.depth.Depth.{Depth}
use Rattle.vs_types.specs.declared.addresses.page.Page.{Page}
use Rattle.vs_types.specs.declared.requests.answer.Answer.TheVariants.{NotMapped}
use Rattle.vs_types.specs.Depth.{IsCanonical}
use Rattle.vs_types.specs.Laws.{as_in}
use Rattle.vs_types.specs.Page.{bytes_of, covers}
use Rattle.vs_types.specs.Space.{Space, Holds, IsSpace, page_at}
use Rattle.vs_types.specs.Step.{look}
use Rattle.vs_types.proofs.Pages.{covers_base, covers_means, same_page, same_aligned}
use Rattle.vs_types.proofs.Spaces.{page_at_means, look_of_page, look_of_none}

-- two aligned pages, one at the base of the other, that give its base the same look
same_by_look : (p q : Page) → p.base % bytes_of p.size ≡ 0 → q.base % bytes_of q.size ≡ 0 → IsTrue (covers q p.base) → as_in q p.base ≡ as_in p p.base → q ≡ p
same_by_look p q p_aligned q_aligned covered look =
    let size : q.size ≡ p.size = cc in
    let phys : q.phys + (p.base - q.base) ≡ p.phys + (p.base - p.base) = cc in
    let in_q = (covers_means q p.base).0 covered in
    let base : q.base ≡ p.base = same_aligned q.size p.base q.base (subst (λ z. p.base % bytes_of z ≡ 0) (sym size) p_aligned) q_aligned in_q.0 in_q.1 in
    same_page q p base size (omega arith) (cc)

-- a page of one space is in the other
held_too : {depth : Depth} {s t : Space} → IsSpace depth s → IsSpace depth t → ((a : ℕ) → IsCanonical depth a → look s a ≡ look t a) → (p : Page)
    → Holds s p → Holds t p
held_too {depth} {s} {t} si ti alike p holds =
    let good = si.well_formed p holds in
    let here = look_of_page si p.base p holds (covers_base p) in
    let there = alike p.base good.canonical in
    elim (page_at t p.base) as (λ o. page_at t p.base ≡ o → Holds t p) [
      | None ↦ λ e. let nothing = look_of_none t p.base e in let wrong : as_in p p.base ≡ NotMapped = sym here ∙ (there ∙ nothing) in cc
      | Some q ↦ λ e.
          let at = (page_at_means ti p.base q).0 e in
          let looks = look_of_page ti p.base q at.0 at.1 in
          let one : q ≡ p = same_by_look p q good.aligned (ti.well_formed q at.0).aligned at.1 (sym looks ∙ (sym there ∙ here)) in
          subst (Holds t) one at.0
    ] refl

pub alike_equal : {depth : Depth} {s t : Space} → IsSpace depth s → IsSpace depth t → ((a : ℕ) → IsCanonical depth a → look s a ≡ look t a) → s ≡ t
alike_equal {depth} {s} {t} si ti alike = finite.same_map nat_cmp_total finite.nat_cmp-IsAntisymmetric s t each
  where
    forth : (k : ℕ) (p : Page) → finite.get s k ≡ Some p → finite.get t k ≡ Some p
    forth k p e =
        let base = si.under_base k p e in
        subst (λ z. finite.get t z ≡ Some p) base (held_too si ti alike p (subst (λ z. finite.get s z ≡ Some p) (sym base) e))

    back : (k : ℕ) (p : Page) → finite.get t k ≡ Some p → finite.get s k ≡ Some p
    back k p e =
        let base = ti.under_base k p e in
        subst (λ z. finite.get s z ≡ Some p) base (held_too ti si (λ a c. sym (alike a c)) p (subst (λ z. finite.get t z ≡ Some p) (sym base) e))

    each : (k : ℕ) → finite.get s k ≡ finite.get t k
    each k =
        elim (finite.get s k) as (λ o. finite.get s k ≡ o → o ≡ finite.get t k) [
          | None ↦ λ e. elim (finite.get t k) as (λ o. finite.get t k ≡ o → None ≡ o) [ None ↦ λ f. refl | Some q ↦ λ f. let g = back k q f in cc ] refl
          | Some p ↦ λ e. sym (forth k p e)
        ] refl
