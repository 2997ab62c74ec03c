-- What a page table is after the rights of a page have changed.
use Rattle.std.proofs.Common.{◌≡◌, ◌≢◌, ℕ, ◌%◌, ◌≤◌, Some, None, refl, sym, ap, subst, ◌∙◌, arith}
use Rattle.vs_types.specs.Depth.{levels, entry_bytes, index_at, IsCanonical}
use Rattle.vs_types.specs.Entry.{meaning, size_at, leaf_word}
use Rattle.vs_types.specs.Operation.{IsBase}
use Rattle.vs_types.specs.Page.{bytes_of}
use Rattle.vs_types.specs.Space.{Space, page_at, table_count}
use Rattle.vs_types.specs.Step.{step, Stepped}
use Rattle.vs_types.specs.declared.addresses.depth.Depth.{Depth}
use Rattle.vs_types.specs.declared.requests.op.Action.{Action}
use Rattle.vs_types.specs.declared.requests.op.Action.TheVariants.{Unmap, Protect}
use Rattle.vs_types.specs.declared.addresses.page.Page.{Page}
use Rattle.vs_types.specs.declared.addresses.page.Rights.{Rights}
use Rattle.vs_types.specs.declared.entries.entry.Meaning.{Meaning}
use Rattle.vs_types.specs.declared.entries.entry.Meaning.TheVariants as entry
use Rattle.vs_types.specs.declared.requests.answer.Answer.{Answer}
use Rattle.vs_types.specs.declared.requests.answer.Answer.TheVariants as answers
use Rattle.vs_types.proofs.Steps.{protect_cases, unmap_cases, step_space}
use Rattle.vs_types.proofs.Tables.{protect_tables}
use Rattle.vs_walk.specs.declared.walk.Walk.TheVariants.{Reserved}
use Rattle.vs_walk.proofs.LawsOfTranslations.{one_space, not_reserved}
use Rattle.vs_space.specs.Footprint.{ClearsPage}
use Rattle.vs_space.specs.Held.{with_word}
use Rattle.vs_space.specs.Path.{found_at, table_at, table_in}
use Rattle.vs_space.specs.Table.{PageTable, IsTableOf, IsTableStep}
use Rattle.vs_space.specs.Invariant.{IsSpaceOf, IsPageTable}
use Rattle.vs_space.proofs.Paths.{walk_absent, walk_reserved}
use Rattle.vs_space.proofs.Writes.{IsTreeAt, walk_off_path, len_write}
use Rattle.vs_space.proofs.Trees.{tree_write, walk_to_leaf, but_none, but_write, filled_by}
use Rattle.vs_space.proofs.Reached.{reached_write, whole_write}
use Rattle.vs_space.proofs.Written.{written_leaf}
use Rattle.vs_space.proofs.Plain.{adds_none}
use Rattle.vs_space.proofs.Footprints.{keeps_none}
use Rattle.vs_space.proofs.Regions.{walk_in, IsLeafPage, leaf_page, nothing_at}
use Rattle.vs_space.proofs.LeafSteps.{changed_answer, changed_translates}

-- the space that a page table is of
pub own_space : {t : PageTable} → IsPageTable t → (space : Space) × IsTableOf t space
own_space table = (table.some_space.0, table.some_space.1.is_of)

-- it is that of just one space, which has as many tables as there are
pub space_of : {t : PageTable} {space : Space} → IsPageTable t → IsTableOf t space → IsSpaceOf t space
space_of {t} {space} table is =
    let own = table.some_space.1 in
    let same : table.some_space.0 ≡ space =
    one_space t.depth t.memory t.root table.some_space.0 space own.is_of.is_space is.is_space own.is_of.translates is.translates in
    record { is_of = is; counted = own.counted ∙ ap (table_count t.depth) same }

-- no address is walked to a reserved bit
pub faultless : {t : PageTable} → IsPageTable t → (b : ℕ) → IsCanonical t.depth b → walk_in t b ≢ Reserved
faultless {t} table b canonical = not_reserved t.depth t.memory t.root table.some_space.0 b table.some_space.1.is_of.translates canonical

-- ---- what is met in the table of a level on the path of an address

pub record IsMet (t : PageTable) (a level n : ℕ) (e : Meaning) : Type 0 where
  pub some : 1 ≤ level
  pub at : table_at (levels t.depth) t.memory t.root level a ≡ Some n
  pub found : found_at level t.memory n a ≡ Some e

module _ {t : PageTable} (table : IsPageTable t) {base level n : ℕ} where
  pub tree_at : {e : Meaning} → IsMet t base level n e → IsTreeAt (levels t.depth) t.memory t.root level base n
  tree_at met = record { tree = table.tree; whole = table.whole; at = met.at }

  -- an absent entry: nothing is mapped there
  pub absent_none : {space : Space} → IsTableOf t space → IsCanonical t.depth base → IsMet t base level n entry.Absent → page_at space base ≡ None
  absent_none of canonical met = nothing_at of base canonical (walk_absent table.tree base level n met.some met.at met.found)

  -- no entry has a reserved bit set
  pub never_reserved : IsCanonical t.depth base → IsMet t base level n entry.Reserved → ⊥
  never_reserved canonical met = faultless table base canonical (walk_reserved table.tree base level n met.some met.at met.found)

  -- a leaf: its page
  pub page_here : {space : Space} → IsTableOf t space → IsCanonical t.depth base → {phys : ℕ} {own : Rights} → IsMet t base level n (entry.Leaf phys own)
      → (q : Page) × IsLeafPage t.depth space base level phys own q
  page_here of canonical {phys} {own} met = leaf_page table.tree of base level n phys own canonical met.some met.at met.found

-- ---- the answers that change nothing

pub unmap_none : (depth : Depth) (limit : ℕ) (space : Space) (base : ℕ) → page_at space base ≡ None
    → step depth limit space (Unmap base) ≡ record { space = space; answer = answers.NotMapped }
unmap_none depth limit space base none = unmap_cases (λ s. s ≡ record { space = space; answer = answers.NotMapped }) depth limit space base (λ e. refl)
    (λ q e same. absurd (cc)) (λ q e differs. absurd (cc))

pub protect_none : (depth : Depth) (limit : ℕ) (space : Space) (base : ℕ) (rights : Rights) → page_at space base ≡ None
    → step depth limit space (Protect base rights) ≡ record { space = space; answer = answers.NotMapped }
protect_none depth limit space base rights none = protect_cases (λ s. s ≡ record { space = space; answer = answers.NotMapped }) depth limit space base rights
    (λ e. refl) (λ q e same. absurd (cc)) (λ q e differs. absurd (cc))

pub unmap_inside : (depth : Depth) (limit : ℕ) (space : Space) (base : ℕ) (q : Page) → page_at space base ≡ Some q → q.base ≢ base
    → step depth limit space (Unmap base) ≡ record { space = space; answer = answers.Inside q.base }
unmap_inside depth limit space base q here apart = unmap_cases (λ s. s ≡ record { space = space; answer = answers.Inside q.base }) depth limit space base
    (λ e. absurd (cc))
    (λ p e same. let one : p ≡ q = cc in absurd (apart (sym (ap (λ (z : Page). z.base) one) ∙ same)))
    (λ p e differs. let one : p ≡ q = cc in ap (λ (z : Page). let s : Stepped = record { space = space; answer = answers.Inside z.base } in s) one)

pub protect_inside : (depth : Depth) (limit : ℕ) (space : Space) (base : ℕ) (rights : Rights) (q : Page) → page_at space base ≡ Some q → q.base ≢ base
    → step depth limit space (Protect base rights) ≡ record { space = space; answer = answers.Inside q.base }
protect_inside depth limit space base rights q here apart =
    protect_cases (λ s. s ≡ record { space = space; answer = answers.Inside q.base }) depth limit space base rights (λ e. absurd (cc))
    (λ p e same. let one : p ≡ q = cc in absurd (apart (sym (ap (λ (z : Page). z.base) one) ∙ same)))
    (λ p e differs. let one : p ≡ q = cc in ap (λ (z : Page). let s : Stepped = record { space = space; answer = answers.Inside z.base } in s) one)

-- a table that doesn't change makes a step whose space stays
pub stays : {t : PageTable} {action : Action} {answer : Answer} → IsPageTable t
    → ClearsPage t.depth t.root action answer t.memory t.memory → ((space : Space) → IsTableOf t space → step t.depth t.limit space action
    ≡ record { space = space; answer = answer }) → IsTableStep t action answer t
stays {t} {action} table cleared says = record {
  some_space = own_space table;
  same = refl;
  unchanged = λ refused. refl;
  kept = keeps_none t.depth t.root action t.memory;
  plain = adds_none t.memory;
  cleared = cleared;
  steps = λ space is.
      let e = says space is in
      (sym (ap (λ (s : Stepped). s.answer) e), subst (IsTableOf t) (sym (ap (λ (s : Stepped). s.space) e)) is);
}

-- ---- the rights of a leaf change

module _ {t : PageTable} (table : IsPageTable t) {base : ℕ} (good : IsBase t.depth base) {level n phys : ℕ} {own rights : Rights}
    (met : IsMet t base level n (entry.Leaf phys own)) {w : ℕ} (leads : meaning level w ≡ entry.Leaf phys rights)
    (is_word : w ≡ leaf_word (size_at level) phys rights) (aligned : base % entry_bytes level ≡ 0) where
  here : IsTreeAt (levels t.depth) t.memory t.root level base n
  here = tree_at table met

  abbrev new : PageTable
  new = record t { memory = with_word t.memory n (index_at level base) w }

  ends : table_in (Some (meaning level w)) ≡ None
  ends = ap (λ e. table_in (Some e)) leads

  module _ {space : Space} (of : IsSpaceOf t space) (limit : ℕ) where
    abbrev next : Space
    next = (step t.depth limit space (Protect base rights)).space

    leaf : (q : Page) × IsLeafPage t.depth space base level phys own q
    leaf = page_here table of.is_of good.canonical met

    begins : leaf.0.base ≡ base
    begins =
        let zero_here : base % bytes_of leaf.0.size ≡ 0 = subst (λ l. base % entry_bytes l ≡ 0) (sym leaf.1.level_is) aligned in
        omega (arith, leaf.1.base)

    pub answer_is : (step t.depth limit space (Protect base rights)).answer ≡ answers.Changed own
    answer_is = changed_answer limit of.is_of leaf.1 begins rights

    pub space_is : IsSpaceOf new next
    space_is = record {
      is_of = record {
        is_space = step_space limit of.is_of.is_space (Protect base rights) good;
        translates = changed_translates limit of.is_of leaf.1 begins rights new.memory (walk_to_leaf here w leads met.some) (walk_off_path here w);
      };
      counted = len_write here w ∙ of.counted ∙ sym (protect_tables limit of.is_of.is_space base rights);
    }

  pub table_new : IsPageTable new
  table_new = record {
    tree = tree_write here w ends;
    filled = filled_by (but_write (but_none base table.filled) here w ends) good.canonical
        (λ none. let walked = walk_to_leaf here w leads met.some base (λ i from to. refl) in cc);
    reached = reached_write here w (ap table_in met.found) (written_leaf level w phys rights met.some leads is_word) table.reached;
    whole = whole_write here w;
    root_fits = table.root_fits;
    some_space = ((step t.depth 0 table.some_space.0 (Protect base rights)).space, space_is table.some_space.1 0);
  }
