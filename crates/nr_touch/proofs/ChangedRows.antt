-- The rows of a block, from the last one back: which of them lead to the memory of a release.
use Rattle.std.proofs.Common.{◌≡◌, ℕ, ◌+◌, ◌*◌, ◌<◌, ◌≤◌, inl, inr, List, get_or, length, slice_get, Some, sym, ap, ◌∙◌, subst, arith}
use Rattle.std.proofs.lemmas.Bool.{cases_lt}
use Rattle.vs_types.specs.Page.{bytes_of}
use Rattle.vs_types.specs.declared.addresses.page.Page.{Page}
use Rattle.vs_types.specs.declared.addresses.page.Size.{Size}
use Rattle.nr_touch.specs.Releases.{HasPhys}
use Rattle.nr_touch.specs.inside.Bounds.{IsBoundary}
use Rattle.nr_touch.specs.inside.Lives.{AreLives}
use Rattle.nr_touch.specs.inside.Joined.{Behind}
use Rattle.nr_touch.specs.inside.Reached.{FindsAt, IsSamePlace, LeadsBy, LeadsSo}
use Rattle.nr_touch.specs.inside.Stays.{AreStretches}
use Rattle.nr_touch.specs.declared.releases.lives.Lives.{Lives}
use Rattle.nr_touch.specs.declared.releases.release.Release.{Release}
use Rattle.nr_touch.specs.declared.releases.stays.Stay.{Stay}
use Rattle.nr_touch.specs.declared.touches.joined.Joined.{Joined}
use Rattle.nr_touch.proofs.Found.{far_page}

-- no row of the block from an index on whose stay has the event of the release leads to its memory
abbrev pub NoneLeadsFrom : {joined : Joined} → Behind joined → Release → List Stay → Lives → ℕ → ℕ → Type 0
NoneLeadsFrom b release stays lives block end = (k : ℕ) (stay : Stay) → end ≤ k → k < length lives.blocks.items
    → get_or lives.blocks.items k 0 ≡ block → get_or lives.from.items k 0 ≤ release.made → slice_get stays (get_or lives.rows.items k 0) ≡ Some stay
    → release.made ≤ stay.until → LeadsSo b release stay.page → ⊥

module _ {joined : Joined} (b : Behind joined) (release : Release) (stays : List Stay) (lives : Lives) (block : ℕ) where
  -- those behind the boundary begin later
  pub none_begun : (end : ℕ) → IsBoundary lives.blocks.items lives.from.items block (release.made + 1) end → NoneLeadsFrom b release stays lives block end
  none_begun end found k stay past less own from at until leads = let late = found.reached k past less own in omega (arith, late, from)

  pub one_more : (last end : ℕ) → end ≡ last + 1
      → ((stay : Stay) → slice_get stays (get_or lives.rows.items last 0) ≡ Some stay → release.made ≤ stay.until → LeadsSo b release stay.page → ⊥)
      → NoneLeadsFrom b release stays lives block end → NoneLeadsFrom b release stays lives block last
  one_more last end next not none k stay past less own from at until leads = elim (cases_lt last k) [
    | inl behind ↦ none k stay (omega (arith, next, behind)) less own from at until leads
    | inr here ↦
        let same : k ≡ last = omega (arith, past, here) in
        not stay (ap (λ (n : ℕ). slice_get stays (get_or lives.rows.items n 0)) (sym same) ∙ at) until leads
  ]

  -- the stays of a stretch are over behind its last event
  pub stretch_more : (since until : List ℕ) → AreStretches stays lives.rows.items since until (length lives.rows.items)
      → (last end : ℕ) → end ≡ last + 1 → last < length lives.rows.items → get_or until last 0 < release.made → NoneLeadsFrom b release stays lives block end
      → NoneLeadsFrom b release stays lives block (get_or since last 0)
  stretch_more since until are last end next within over none k stay past less own from at is_there leads = elim (cases_lt last k) [
    | inl behind ↦ none k stay (omega (arith, next, behind)) less own from at is_there leads
    | inr here ↦ let ends = are.over last k within past here stay at in omega (arith, ends, over, is_there)
  ]

-- what leads there so does as a page of the same place
pub same_place : {joined : Joined} (b : Behind joined) (release : Release) (page other : Page) (place most : ℕ)
    → IsSamePlace page other → place ≤ most → LeadsBy b release other place → LeadsBy b release page most
same_place b release page other place most same up (leads, low) =
    let offset = leads.frame * 4096 in (
      record {
        frame = leads.frame;
        within = subst (λ (size : Size). offset < bytes_of size) (sym same.size) leads.within;
        has = subst (λ (phys : ℕ). HasPhys release (phys + offset)) (sym same.phys) leads.has;
        own = leads.own;
        same = record { base = same.base ∙ leads.same.base; size = same.size ∙ leads.same.size; phys = same.phys ∙ leads.same.phys };
        finds = (
          leads.finds.0,
          subst (λ (base : ℕ). FindsAt b release.made leads.own (base + offset) leads.finds.0) (sym same.base) leads.finds.1,
        );
      },
      omega (arith, low, up),
    )

-- a row of another block: those before it are of others too
pub other_block : (lives : Lives) → AreLives lives → (block last : ℕ) → last < length lives.blocks.items → get_or lives.blocks.items last 0 ≤ block
    → (get_or lives.blocks.items last 0 ≡ block → ⊥) → (k : ℕ) → k < last + 1 → get_or lives.blocks.items k 0 ≡ block → ⊥
other_block lives are block last within most other k low own =
    let up = far_page lives.blocks.items lives.from.items are.from k last (omega (arith, low)) within in
    other (omega (arith, up, own, most))
