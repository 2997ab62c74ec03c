-- What a descent meets, as the code reads it, and the steps of a page table that follow.
use Rattle.std.proofs.Common.{◌≡◌, ◌≢◌, ℕ, ◌+◌, ◌-◌, ◌%◌, ◌^◌, ◌<◌, ◌≤◌, List, Some, None, ⊎_elim, refl, sym, ap, subst, ◌∙◌, arith}
use Rattle.std.specs.Prelude.{IsSome, slice_index}
use Rattle.std.specs.FinMap as finite
use Rattle.std.proofs.lemmas.Bool.{cases_lt}
use Rattle.vs_types.specs.Depth.{entry_bytes, index_at, IsCanonical}
use Rattle.vs_types.specs.Entry.{meaning, size_at, leaf_word}
use Rattle.vs_types.specs.Operation.{IsBase}
use Rattle.vs_types.specs.Page.{level_of, bytes_of}
use Rattle.vs_types.specs.Space.{Space, page_at}
use Rattle.vs_types.specs.Step.{look, Stepped}
use Rattle.vs_types.proofs.Pages.{bytes_positive}
use Rattle.vs_types.specs.declared.addresses.depth.Depth.{Depth}
use Rattle.vs_types.specs.declared.requests.op.Action.{Action}
use Rattle.vs_types.specs.declared.requests.op.Action.TheVariants.{Unmap, Protect}
use Rattle.vs_types.specs.declared.addresses.page.Page.{Page}
use Rattle.vs_types.specs.declared.addresses.page.Rights.{Rights}
use Rattle.vs_types.specs.declared.addresses.page.Size.{Size}
use Rattle.vs_types.specs.declared.entries.entry.Meaning.{Meaning}
use Rattle.vs_types.specs.declared.entries.entry.Meaning.TheVariants as entry
use Rattle.vs_types.specs.declared.requests.answer.Answer.{Answer}
use Rattle.vs_types.specs.declared.requests.answer.Answer.TheVariants as answers
use Rattle.vs_walk.specs.Memory.{Memory}
use Rattle.vs_space.specs.declared.descent.Descent.{Descent}
use Rattle.vs_space.specs.Held.{Held, with_word}
use Rattle.vs_space.specs.Path.{found_at, table_in}
use Rattle.vs_types.specs.Bits.{IsWritten}
use Rattle.vs_space.specs.inside.Descent.{IsDescent, EndsAt, HasEnded, HasMet}
use Rattle.vs_space.specs.Table.{PageTable, IsTableOf, IsTableStep}
use Rattle.vs_space.specs.Invariant.{IsPageTable, table_in_store}
use Rattle.vs_space.proofs.Paths.{words_found}
use Rattle.vs_space.proofs.Regions.{IsLeafPage}
use Rattle.vs_space.proofs.Plain.{adds_written, plain_leaf}
use Rattle.vs_space.proofs.Footprints.{page_changed, word_here}
use Rattle.vs_space.proofs.Protects.{IsMet, own_space, space_of, absent_none, never_reserved, page_here, unmap_none, protect_none, unmap_inside, protect_inside}
use Rattle.vs_space.proofs.Protects.{stays, tree_at, answer_is, space_is, table_new}

-- the end of a path, by the level that was asked for and the entry that was matched
pub descended : {depth : Depth} {memory : Memory} {root address asked lowest level : ℕ} {path : List ℕ} {met found : Meaning} → asked ≡ lowest → met ≡ found
    → IsDescent depth memory root address asked level path met → IsDescent depth memory root address lowest level path found
descended {depth} {memory} {root} {address} {asked} {lowest} {level} {path} {met} {found} lowest_is is descent =
    subst (λ l. IsDescent depth memory root address l level path found) lowest_is
    (subst (λ (e : Meaning). IsDescent depth memory root address asked level path e) is descent)

-- a descent that has ended, at a level that is named, in the page table as it is seen
pub ended : {depth : Depth} {root : ℕ} {held : Held} {old : PageTable} {address level here number word : ℕ} {path : List ℕ}
    → table_in_store depth held root ≡ old → IsPageTable (table_in_store depth held root) → level ≡ here
    → IsDescent depth held.memory root address 1 level path (meaning level word)
    → number ≡ slice_index path level → IsWritten level word → HasEnded old address here number word path
ended {depth} {root} {held} {old} {address} {level} {here} {number} {word} {path} view_is table same descent last written =
    subst (λ (t : PageTable). HasEnded t address here number word path) view_is
    (subst (λ l. HasEnded (table_in_store depth held root) address l number word path) same
    (record { table = table; descent = descent; last = last; written = written }))

-- and in what is inside
pub ended_inside : {depth : Depth} {root : ℕ} {held : Held} {old : PageTable} {address level number word : ℕ} {path : List ℕ}
    → table_in_store depth held root ≡ old → HasEnded old address level number word path
    → HasEnded (table_in_store depth held root) address level number word path
ended_inside {address = address} {level} {number} {word} {path} view_is is =
    subst (λ (t : PageTable). HasEnded t address level number word path) (sym view_is) is

-- a descent for a page that has met this entry, in the page table as it is seen
pub met_by : {depth : Depth} {root : ℕ} {held : Held} {old : PageTable} {page : Page} {lowest : ℕ} {end : Descent} {met : Meaning}
    → table_in_store depth held root ≡ old → IsPageTable (table_in_store depth held root) → lowest ≡ level_of page.size → meaning end.level end.word ≡ met
    → EndsAt depth held.memory root page.base lowest end → HasMet old page end.level end.number met
met_by {page = page} {end = end} {met} view_is table lowest_is is ends = subst (λ (t : PageTable). HasMet t page end.level end.number met) view_is
    (record { path = end.path; table = table; descent = descended lowest_is is ends.descent; last = ends.last })

-- and in what is inside
pub met_inside : {depth : Depth} {root : ℕ} {held : Held} {old : PageTable} {page : Page} {level number : ℕ} {met : Meaning}
    → table_in_store depth held root ≡ old → HasMet old page level number met → HasMet (table_in_store depth held root) page level number met
met_inside {page = page} {level} {number} {met} view_is is = subst (λ (t : PageTable). HasMet t page level number met) (sym view_is) is

pub met_of : {t : PageTable} {a lowest level : ℕ} {path : List ℕ} {e : Meaning} → 1 ≤ lowest → IsDescent t.depth t.memory t.root a lowest level path e
    → IsMet t a level (slice_index path level) e
met_of {level = level} some descent = record {
  some = omega (arith, descent.above);
  at = descent.reached level (omega arith) descent.below;
  found = descent.is;
}

-- the last table on the path is in use
pub used_met : {t : PageTable} → IsPageTable t → {a lowest level n : ℕ} {path : List ℕ} {e : Meaning} → IsDescent t.depth t.memory t.root a lowest level path e
    → n ≡ slice_index path level → IsSome (finite.get t.memory n)
used_met {t} table {a} {level = level} descent is =
    subst (λ q. IsSome (finite.get t.memory q)) (sym is) (table.tree.in_use level a _ (descent.reached level (omega arith) descent.below))

-- an entry of the lowest level leads to no table
pub never_table : (word n : ℕ) (own : Rights) → meaning 1 word ≡ entry.Table n own → ⊥
never_table word n own is = grind arith

-- what is no leaf at the end of the path is absent
absent_end : {t : PageTable} → IsPageTable t → {base level : ℕ} {path : List ℕ} → IsCanonical t.depth base → (e : Meaning)
    → IsDescent t.depth t.memory t.root base 1 level path e → ((phys : ℕ) (own : Rights) → e ≢ entry.Leaf phys own) → e ≡ entry.Absent
absent_end table canonical entry.Absent descent other = refl
absent_end table canonical entry.Reserved descent other = absurd (never_reserved table canonical (met_of (omega arith) descent))
absent_end table canonical (entry.Leaf phys own) descent other = absurd (other phys own refl)
absent_end {t} table {base} {level} {path} canonical (entry.Table n own) descent other = ⊎_elim
    (λ (deep : 1 < level). let none : table_in (Some (entry.Table n own)) ≡ None = descent.ends deep in cc)
    (λ (last : level ≤ 1).
    let one : level ≡ 1 = omega (arith, descent.above) in
    let words = words_found 1 t.memory (slice_index path level) base (entry.Table n own)
    (subst (λ l. found_at l t.memory (slice_index path level) base ≡ Some (entry.Table n own)) one descent.is) in
    absurd (never_table (slice_index words.0 (index_at 1 base)) n own words.2))
    (cases_lt 1 level)

-- ---- no leaf is met: nothing is mapped

module _ {t : PageTable} (table : IsPageTable t) {base level : ℕ} {path : List ℕ} {e : Meaning} (canonical : IsCanonical t.depth base)
    (descent : IsDescent t.depth t.memory t.root base 1 level path e) (other : (phys : ℕ) (own : Rights) → e ≢ entry.Leaf phys own) where
  none_here : {space : Space} → IsTableOf t space → page_at space base ≡ None
  none_here of = absent_none table of canonical
      (subst (IsMet t base level (slice_index path level)) (absent_end table canonical e descent other) (met_of (omega arith) descent))

  pub resolve_absent : (space : Space) → IsTableOf t space → answers.NotMapped ≡ look space base
  resolve_absent space of = let none = none_here of in rw none refl

  pub unmap_absent : IsTableStep t (Unmap base) answers.NotMapped t
  unmap_absent = stays table tt (λ space of. unmap_none t.depth t.limit space base (none_here of))

  pub protect_absent : (rights : Rights) → IsTableStep t (Protect base rights) answers.NotMapped t
  protect_absent rights = stays table tt (λ space of. protect_none t.depth t.limit space base rights (none_here of))

-- ---- a leaf is met

module _ {t : PageTable} (table : IsPageTable t) {base level phys : ℕ} {path : List ℕ} {own : Rights} (canonical : IsCanonical t.depth base)
    (descent : IsDescent t.depth t.memory t.root base 1 level path (entry.Leaf phys own)) where
  pub met : IsMet t base level (slice_index path level) (entry.Leaf phys own)
  met = met_of (omega arith) descent

  pub page_met : {space : Space} → IsTableOf t space → (q : Page) × IsLeafPage t.depth space base level phys own q
  page_met of = page_here table of canonical met

  own_page : (q : Page) × IsLeafPage t.depth table.some_space.0 base level phys own q
  own_page = page_met table.some_space.1.is_of

  -- by the leaf's size, as it is read
  module _ {size : Size} (size_is : size ≡ size_at level) where
    -- what may be written in the place of the leaf
    pub leaf_again : (level_of size ≡ level) × (phys % bytes_of size ≡ 0) × (phys < 2 ^ 52)
    leaf_again =
        let leaf = own_page in
        let same : leaf.0.size ≡ size = leaf.1.size ∙ sym size_is in
        let aligned : phys % bytes_of size ≡ 0 =
        subst (λ z. phys % bytes_of z ≡ 0) same (subst (λ p. p % bytes_of leaf.0.size ≡ 0) leaf.1.phys_is leaf.1.good.phys_aligned) in
        (ap level_of (sym same) ∙ leaf.1.level_is, aligned, omega (arith, leaf.1.good.phys_range, leaf.1.phys_is))

    module _ {bytes : ℕ} (are : bytes ≡ bytes_of size) where
      size_met : {space : Space} {q : Page} → IsLeafPage t.depth space base level phys own q → bytes_of q.size ≡ bytes
      size_met leaf = ap bytes_of (leaf.size ∙ sym size_is) ∙ sym are

      offset_met : {space : Space} {q : Page} → IsLeafPage t.depth space base level phys own q → base % bytes_of q.size ≡ base % bytes
      offset_met leaf = ap (λ n. base % n) (size_met leaf)

      -- an address of the page
      pub resolve_fits : phys + base % bytes < 2 ^ 64
      resolve_fits =
          let leaf = own_page in
          let positive : 0 < bytes = subst (λ n. 0 < n) (size_met leaf.1) (bytes_positive leaf.0.size) in
          let range : phys + bytes ≤ 2 ^ 51 = omega (arith, leaf.1.good.phys_range, leaf.1.phys_is, size_met leaf.1) in
          omega arith

      pub resolve_leaf : (space : Space) → IsTableOf t space → answers.Mapped (phys + base % bytes) size own ≡ look space base
      resolve_leaf space of =
          let leaf = page_met of in
          let phys_is : leaf.0.phys + (base - leaf.0.base) ≡ phys + base % bytes = omega (arith, leaf.1.base, leaf.1.phys_is, offset_met leaf.1) in
          let looks : look space base ≡ answers.Mapped (leaf.0.phys + (base - leaf.0.base)) leaf.0.size leaf.0.rights = rw leaf.1.here refl in
          sym (looks ∙ cc (phys_is, leaf.1.size, size_is, leaf.1.rights))

      -- an address inside of the page
      module _ (inside : base % bytes ≢ 0) where
        apart_met : {space : Space} {q : Page} → IsLeafPage t.depth space base level phys own q → q.base ≢ base
        apart_met leaf = λ e. inside (omega (arith, leaf.base, offset_met leaf))

        inside_met : {space : Space} {q : Page} → IsLeafPage t.depth space base level phys own q → (let s : Stepped =
            record { space = space; answer = answers.Inside q.base } in s) ≡ record { space = space; answer = answers.Inside (base - base % bytes) }
        inside_met {space} {q} leaf =
            ap (λ b. let s : Stepped = record { space = space; answer = answers.Inside b } in s) (omega (arith, leaf.base, offset_met leaf))

        pub unmap_in : IsTableStep t (Unmap base) (answers.Inside (base - base % bytes)) t
        unmap_in = stays table tt (λ space of.
            let leaf = page_met of in
            unmap_inside t.depth t.limit space base leaf.0 leaf.1.here (apart_met leaf.1) ∙ inside_met leaf.1)

        pub protect_in : (rights : Rights) → IsTableStep t (Protect base rights) (answers.Inside (base - base % bytes)) t
        protect_in rights = stays table tt (λ space of.
            let leaf = page_met of in
            protect_inside t.depth t.limit space base rights leaf.0 leaf.1.here (apart_met leaf.1) ∙ inside_met leaf.1)

      -- the table after the leaf has other rights
      pub protected : {rights : Rights} {w index : ℕ} → base % 4096 ≡ 0 → meaning (level_of size) w ≡ entry.Leaf phys rights → w ≡ leaf_word size phys rights
          → index ≡ index_at level base → base % bytes ≡ 0
          → IsPageTable (record t { memory = with_word t.memory (slice_index path level) index w })
          × IsTableStep t (Protect base rights) (answers.Changed own) (record t { memory = with_word t.memory (slice_index path level) index w })
      protected {rights} {w} {index} aligned leads is_word at begins =
          subst (λ i. IsPageTable (record t { memory = with_word t.memory (slice_index path level) i w })
          × IsTableStep t (Protect base rights) (answers.Changed own) (record t { memory = with_word t.memory (slice_index path level) i w })) (sym at) (
            table_new table good met leads_here written_here begins_here,
            record {
              some_space = own_space table;
              same = refl;
              unchanged = λ refused. absurd (cc);
              kept = page_changed t.depth (tree_at table met) descent.is w;
              plain = adds_written t.memory (slice_index path level) (index_at level base) w table.whole (used_met table descent refl) (omega arith)
                  (plain_leaf level w phys rights descent.above leads_here written_here);
              cleared = record {
                number = slice_index path level;
                index = index_at level base;
                page = record {
                  at = record { level = level; reached = met.at; is = refl };
                  phys = phys;
                  own = own;
                  page = descent.is;
                };
                word = w;
                there = word_here t.memory (slice_index path level) (index_at level base) w table.whole (used_met table descent refl) (omega arith);
                clear = plain_leaf level w phys rights descent.above leads_here written_here;
              };
              steps = λ space is. let of = space_of table is in (
                sym (answer_is table good met leads_here written_here begins_here of t.limit),
                (space_is table good met leads_here written_here begins_here of t.limit).is_of,
              );
            },
          )
        where
          good : IsBase t.depth base
          good = record { canonical = canonical; aligned = aligned }

          leads_here : meaning level w ≡ entry.Leaf phys rights
          leads_here = ap (λ l. meaning l w) (sym leaf_again.0) ∙ leads

          written_here : w ≡ leaf_word (size_at level) phys rights
          written_here = is_word ∙ ap (λ z. leaf_word z phys rights) size_is

          begins_here : base % entry_bytes level ≡ 0
          begins_here = ap (λ l. base % entry_bytes l) (sym leaf_again.0) ∙ ap (λ n. base % n) (sym are) ∙ begins

-- ---- the step of a page table, as it is seen, by what is inside

pub seen : {depth : Depth} {root : ℕ} {before now after : Held} {old : PageTable} {action : Action} {answer : Answer} → table_in_store depth before root ≡ old
    → after ≡ now → IsTableStep (table_in_store depth before root) action answer (table_in_store depth now root)
    → IsTableStep old action answer (table_in_store depth after root)
seen {depth} {root} {before} {now} {after} {old} {action} {answer} view_is is stepped =
    subst (λ (h : Held). IsTableStep old action answer (table_in_store depth h root)) (sym is)
    (subst (λ (t : PageTable). IsTableStep t action answer (table_in_store depth now root)) view_is stepped)
