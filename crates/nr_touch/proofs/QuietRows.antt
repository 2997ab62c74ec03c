-- A release beside the pages that the rows of an index name.
use Rattle.std.proofs.Common.{◌≡◌, ℕ, inl, inr, ◌+◌, ◌*◌, ◌%◌, ◌<◌, Bool, false, List, slice_get, Option, Some, IsTrue, sym, ◌∙◌, subst}
use Rattle.std.proofs.Common.{arith}
use Rattle.std.proofs.lemmas.Bool.{false≢true}
use Rattle.std.proofs.lemmas.Option.{same_Some}
use Rattle.vs_types.specs.Page.{bytes_of}
use Rattle.vs_types.specs.Space.{Holds}
use Rattle.vs_types.specs.declared.addresses.page.Page.{Page}
use Rattle.nr_trace.specs.Recording.{IsMemory}
use Rattle.nr_touch.specs.Releases.{HasPhys}
use Rattle.nr_touch.specs.declared.releases.release.Release.{Release}
use Rattle.nr_touch.specs.declared.touches.joined.Joined.{Joined}
use Rattle.nr_touch.specs.inside.Blocks.{IsBlockFor, IsBlockOf}
use Rattle.nr_touch.specs.inside.Joined.{Behind}
use Rattle.nr_touch.specs.inside.Met.{LeadsFrom}
use Rattle.nr_touch.specs.inside.Reached.{LeadsSo}
use Rattle.nr_touch.specs.declared.releases.changed.Changed.{Changed}
use Rattle.nr_touch.specs.declared.releases.index.Index.{Index}
use Rattle.nr_touch.proofs.Blocks.{shares_block}

module _ (joined : Joined) (release : Release) where
  -- no access that begins with the release could reach its memory through the page of this number
  abbrev pub NoneAt : List Page → ℕ → Type 0
  NoneAt pages number = (b : Behind joined) (page : Page) → slice_get pages number ≡ Some page → LeadsSo b release page → ⊥

  -- no access that begins with the release could reach its memory through a page that begins at the base
  abbrev pub NoneFrom : ℕ → Type 0
  NoneFrom base = (b : Behind joined) (page : Page) → Holds joined.space.space page → page.base ≡ base → LeadsSo b release page → ⊥

  module _ (base : ℕ) (found : Option Page) (is : (page : Page) → Holds joined.space.space page → page.base ≡ base → found ≡ Some page) where
    pub none_begins : ((own : Page) → found ≡ Some own → ⊥) → NoneFrom base
    none_begins not b page holds begins leads = not page (is page holds begins)

    pub none_leads : (own : Page) (leads : Bool) → found ≡ Some own → leads ≡ false → ((b : Behind joined) → LeadsSo b release own → IsTrue leads)
        → NoneFrom base
    none_leads own leads some not says b page holds begins there =
        let same : page ≡ own = same_Some page own (sym (is page holds begins) ∙ some) in
        false≢true (sym not ∙ says b (subst (LeadsSo b release) same there))

-- a page that leads into the memory of a release leads into a block that the release is about
block_at : (release : Release) (page : Page) (frame : ℕ) → IsMemory release.size release.phys → page.phys % bytes_of page.size ≡ 0
    → frame * 4096 < bytes_of page.size → HasPhys release (page.phys + frame * 4096) → (block : ℕ) × IsBlockOf page block × IsBlockFor release block
block_at release page frame memory aligned within has =
    shares_block page release (page.phys + frame * 4096) aligned memory.0 (omega arith) (omega (arith, within)) has

pub block_met : {joined : Joined} (b : Behind joined) (quiet : Index) (changed : Changed) (release : Release) (page : Page)
    → IsMemory release.size release.phys → page.phys % bytes_of page.size ≡ 0 → LeadsFrom b quiet changed release page
    → (block : ℕ) × IsBlockOf page block × IsBlockFor release block
block_met b quiet changed release page memory aligned (inl (holds, indexed, leads)) = block_at release page leads.frame memory aligned leads.within leads.has
block_met b quiet changed release page memory aligned (inr (inl it)) = block_at release page it.leads.0.frame memory aligned it.leads.0.within it.leads.0.has
block_met b quiet changed release page memory aligned (inr (inr (frame, there))) = block_at release page frame memory aligned there.within there.has
