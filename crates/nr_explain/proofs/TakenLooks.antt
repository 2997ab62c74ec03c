-- What is taken away from an address, by how it looks before and after.
use Rattle.std.proofs.Common.{◌≡◌, ◌↔◌, ℕ, ◌+◌, ◌-◌, Bool, true, false, take, Option, Some, None, refl, sym, ap, subst, ◌∙◌}
use Rattle.std.specs.Prelude.{IsTrue}
use Rattle.std.proofs.lemmas.Bool.{false≢true}
use Rattle.vs_types.specs.Page.{IsPage}
use Rattle.vs_types.specs.Space.{Space, IsSpace, page_at}
use Rattle.vs_types.specs.Step.{look, look_in_page}
use Rattle.vs_types.specs.declared.requests.answer.Answer.{Answer}
use Rattle.vs_types.specs.declared.requests.answer.Answer.TheVariants.{Mapped}
use Rattle.vs_types.specs.declared.addresses.depth.Depth.{Depth}
use Rattle.vs_types.specs.declared.addresses.page.Page.{Page}
use Rattle.vs_types.specs.declared.addresses.page.Rights.{Rights}
use Rattle.vs_types.proofs.Spaces.{page_at_means}
use Rattle.nr_trace.specs.Recording.{Recording}
use Rattle.nr_trace.specs.Orders.{space_from}
use Rattle.nr_touch.specs.Touches.{Includes, IsTaken, StillHas}
use Rattle.nr_explain.specs.ChainFacts.{is_mapped, EndsFinding}
use Rattle.nr_explain.specs.Facts.{looks_from}
use Rattle.nr_explain.specs.inside.Windows.{EndsBetween, IsTakenLook, StillLooks}
use Rattle.nr_explain.proofs.Windows.{one_look, same_page}

module _ {depth : Depth} {s t : Space} (a : ℕ) (fits : IsSpace depth s) (also : IsSpace depth t) where
  -- a page with more rights looks as one
  look_still : (page : Page) → page_at s a ≡ Some page → StillHas page (page_at t a) → StillLooks (look s a) (look t a)
  look_still page was it = record {
    phys = page.phys + (a - page.base);
    size = page.size;
    old = page.rights;
    new = it.rights;
    was = ap (look_in_page a) was;
    is = ap (look_in_page a) it.is;
    more = it.more;
  }

  -- what looks as one is one
  page_still : (page : Page) → page_at s a ≡ Some page → StillLooks (look s a) (look t a) → StillHas page (page_at t a)
  page_still u p it = of_page (page_at t a) refl where
    of_page : (after : Option Page) → page_at t a ≡ after → StillHas u (page_at t a)
    of_page None q = absurd (let wrong : look_in_page a None ≡ Mapped it.phys it.size it.new = ap (look_in_page a) (sym q) ∙ it.is in cc)
    of_page (Some v) q =
        let before : look_in_page a (Some u) ≡ Mapped it.phys it.size it.old = ap (look_in_page a) (sym p) ∙ it.was in
        let after : look_in_page a (Some v) ≡ Mapped it.phys it.size it.new = ap (look_in_page a) (sym q) ∙ it.is in
        let left = (page_at_means fits a u).0 p in
        let right = (page_at_means also a v).0 q in
        let own = fits.well_formed u left.0 in
        let wide : Page = record u { rights = v.rights } in
        let wide_fits : IsPage depth wide =
        record { canonical = own.canonical; aligned = own.aligned; phys_aligned = own.phys_aligned; phys_range = own.phys_range } in
        let alike : Mapped (u.phys + (a - u.base)) u.size v.rights ≡ Mapped (v.phys + (a - v.base)) v.size v.rights = cc in
        let one : wide ≡ v = one_look depth wide v a wide_fits (also.well_formed v right.0) left.1 right.1 alike in
        let old : it.old ≡ u.rights = (let same : u.rights ≡ it.old = cc in sym same) in
        let new : it.new ≡ v.rights = (let same : v.rights ≡ it.new = cc in sym same) in
        record {
          rights = v.rights;
          is = q ∙ ap Some (sym one);
          more = subst (λ (r : Rights). Includes r v.rights) old (subst (Includes it.old) new it.more);
        }

  look_taken : IsTaken (page_at s a) (page_at t a) → IsTakenLook (look s a) (look t a)
  look_taken it = (
    subst (λ (page : Option Page). IsTrue (is_mapped (look_in_page a page))) (sym it.was) refl,
    λ still. it.gone (page_still it.page it.was still),
  )

  page_taken : IsTakenLook (look s a) (look t a) → IsTaken (page_at s a) (page_at t a)
  page_taken (mapped, gone) = of_page (page_at s a) refl where
    of_page : (before : Option Page) → page_at s a ≡ before → IsTaken (page_at s a) (page_at t a)
    of_page None p = absurd (false≢true (subst (λ (page : Option Page). IsTrue (is_mapped (look_in_page a page))) p mapped))
    of_page (Some u) p = record { page = u; was = p; gone = λ it. gone (look_still u p it) }

pub ends_between : (start : Space) (segment : Recording) (address : ℕ) (with_page : Bool) (place : ℕ)
    → IsSpace segment.layout.depth (space_from start segment (take place segment.log))
    → IsSpace segment.layout.depth (space_from start segment (take (place + 1) segment.log))
    → EndsBetween with_page (looks_from start segment address place) (looks_from start segment address (place + 1))
    ↔ EndsFinding start segment address with_page place
ends_between start segment address true place fits also = (page_taken address fits also, look_taken address fits also)
ends_between start segment address false place fits also = (
  λ other same. other (ap (look_in_page address) same),
  λ other same. other (same_page segment.layout.depth _ _ address fits also same),
)

-- what is tested of two looks
pub ends_here : (start : Space) (segment : Recording) (address : ℕ) (with_page : Bool) (place : ℕ) (before then : Answer)
    → before ≡ looks_from start segment address place → then ≡ looks_from start segment address (place + 1)
    → IsSpace segment.layout.depth (space_from start segment (take place segment.log))
    → IsSpace segment.layout.depth (space_from start segment (take (place + 1) segment.log))
    → (ends : Bool) → IsTrue ends ↔ EndsBetween with_page before then → IsTrue ends ↔ EndsFinding start segment address with_page place
ends_here start segment address with_page place before then looked next fits also ends are = (
  λ t. here.0 (subst (λ (l : Answer). EndsBetween with_page l (looks_from start segment address (place + 1))) looked
      (subst (EndsBetween with_page before) next (are.0 t))),
  λ h. are.1 (subst (EndsBetween with_page before) (sym next)
      (subst (λ (l : Answer). EndsBetween with_page l (looks_from start segment address (place + 1))) (sym looked) (here.1 h))),
) where
  here : EndsBetween with_page (looks_from start segment address place) (looks_from start segment address (place + 1))
      ↔ EndsFinding start segment address with_page place
  here = ends_between start segment address with_page place fits also
