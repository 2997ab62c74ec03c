-- What the end of a way says of the space that a memory translates as.
use Rattle.std.proofs.Common.{◌≡◌, ℕ, ◌-◌, ◌≤◌, [], Some, None, refl, ap, ◌∙◌}
use Rattle.vs_types.specs.Depth.{index_at, IsCanonical}
use Rattle.vs_types.specs.Entry.{meaning}
use Rattle.vs_types.specs.Page.{intersection}
use Rattle.vs_types.specs.Space.{Space, page_at}
use Rattle.vs_types.specs.declared.addresses.depth.Depth.{Depth}
use Rattle.vs_types.specs.declared.addresses.page.Page.{Page}
use Rattle.vs_types.specs.declared.addresses.page.Rights.{Rights}
use Rattle.vs_types.specs.declared.entries.entry.Meaning.{Meaning}
use Rattle.vs_types.specs.declared.entries.entry.Meaning.TheVariants as entry
use Rattle.vs_walk.specs.Memory.{Memory}
use Rattle.vs_walk.specs.Walk.{walk, walk_entry, walk_from}
use Rattle.vs_walk.proofs.Walks.{leaf_level}
use Rattle.vs_walk.proofs.LawsOfTranslations.{not_reserved}
use Rattle.vs_space.specs.Held.{word_at}
use Rattle.vs_space.specs.Table.{PageTable, IsTableOf}
use Rattle.vs_space.proofs.Regions.{IsLeafPage, nothing_at, mapped_page}
use Rattle.vs_plan.specs.Way.{IsWay}
use Rattle.vs_plan.proofs.Ways.{walk_at}
use Rattle.vs_plan.proofs.Stored.{found_word}
use Rattle.vs_plan.specs.Premise.{IsPremise}

-- a memory's tables as a page table, of which no more is asked
abbrev pub table_from : Depth → Memory → ℕ → PageTable
table_from depth memory root = record { depth = depth; base = 0; limit = 0; root = root; memory = memory; lenders = [] }

pub premise_table : {depth : Depth} {m : Memory} {root base : ℕ} {space : Space} → IsPremise depth m root base space
    → IsTableOf (table_from depth m root) space
premise_table premise = record { is_space = premise.is_space; translates = premise.translates }

module _ {depth : Depth} {m : Memory} {root a : ℕ} {level n : ℕ} {rights : Rights} (way : IsWay depth m root a level n rights) (some : 1 ≤ level)
    {word : ℕ} (word_is : word_at m n (index_at level a) ≡ Some word) where
  -- how the address is walked, by its entry
  pub walk_end : (e : Meaning) → meaning level word ≡ e
      → walk depth m root a ≡ walk_entry level rights a (λ next own. walk_from m (level - 1) next own a) e
  walk_end e says = walk_at way some e (found_word level m n a word word_is ∙ ap Some says) a (λ i from to. refl)

  module _ {space : Space} {base : ℕ} (premise : IsPremise depth m root base space) (canonical : IsCanonical depth a) where
    -- nothing is mapped
    pub absent_here : meaning level word ≡ entry.Absent → page_at space a ≡ None
    absent_here says = nothing_at (premise_table premise) a canonical (walk_end entry.Absent says)

    -- no reserved bit is met
    pub reserved_never : meaning level word ≡ entry.Reserved → ⊥
    reserved_never says = not_reserved depth m root space a premise.translates canonical (walk_end entry.Reserved says)

    -- the page of a leaf
    pub page_here : {phys : ℕ} {own : Rights} → meaning level word ≡ entry.Leaf phys own
        → (q : Page) × IsLeafPage depth space a level phys (intersection rights own) q
    page_here {phys} {own} says = mapped_page (premise_table premise) a level phys (intersection rights own) canonical some
        (leaf_level level word phys own says).0 (walk_end (entry.Leaf phys own) says)
