-- What a page table is after a page was taken out.
use Rattle.std.proofs.Common.{◌≡◌, ◌≢◌, ℕ, ◌+◌, ◌-◌, ◌%◌, List, None, ⊎_elim, refl, sym, ap, subst, ◌∙◌, arith}
use Rattle.std.specs.Prelude.{slice_index}
use Rattle.std.specs.FinMap as finite
use Rattle.vs_types.specs.Depth.{levels, index_at, IsCanonical}
use Rattle.vs_types.specs.Entry.{size_at}
use Rattle.vs_types.specs.Page.{bytes_of}
use Rattle.vs_types.specs.Space.{Space, Holds, IsSpace, page_at, table_count}
use Rattle.vs_types.specs.Step.{step, Stepped}
use Rattle.vs_types.specs.declared.requests.op.Action.TheVariants.{Unmap}
use Rattle.vs_types.specs.declared.addresses.page.Page.{Page}
use Rattle.vs_types.specs.declared.addresses.page.Rights.{Rights}
use Rattle.vs_types.specs.declared.addresses.page.Size.{Size}
use Rattle.vs_types.specs.declared.entries.entry.Meaning.TheVariants as entry
use Rattle.vs_types.specs.declared.requests.answer.Answer.TheVariants as answers
use Rattle.vs_types.proofs.Steps.{step_space}
use Rattle.vs_types.proofs.Spaces.{remove_cases, put_back}
use Rattle.vs_walk.specs.Memory.{Memory}
use Rattle.vs_walk.specs.Walk.{walk}
use Rattle.vs_walk.specs.declared.walk.Walk.TheVariants.{NotMapped, Reserved}
use Rattle.vs_space.specs.Flags.{AddsNoFlags}
use Rattle.vs_space.specs.Held.{with_word}
use Rattle.vs_space.specs.Path.{table_in, SamePath}
use Rattle.vs_space.specs.Tree.{NothingUnder}
use Rattle.vs_space.specs.inside.Prune.{IsCut, IsPruned}
use Rattle.vs_space.specs.inside.Descent.{IsDescent}
use Rattle.vs_space.specs.Table.{PageTable, IsTableOf, IsTableStep}
use Rattle.vs_space.specs.Invariant.{IsSpaceOf, IsPageTable}
use Rattle.vs_space.proofs.Writes.{IsTreeAt, used_at, table_above, found_on_path, walk_off_path, len_write, same_or_not}
use Rattle.vs_space.proofs.Trees.{tree_write, walk_to_absent, but_none, but_write}
use Rattle.vs_space.proofs.Reached.{reached_write, whole_write}
use Rattle.vs_space.proofs.Written.{written_zero}
use Rattle.vs_space.proofs.Plain.{adds_then, adds_written}
use Rattle.vs_space.proofs.Footprints.{more_then, more_cleared}
use Rattle.vs_space.proofs.Regions.{walk_in, IsLeafPage, nothing_at}
use Rattle.vs_space.proofs.LeafSteps.{removed_answer, removed_translates, unmap_removes}
use Rattle.vs_space.proofs.Protects.{faultless, own_space, space_of, tree_at}
use Rattle.vs_space.proofs.TableCounts.{count_added}
use Rattle.vs_space.proofs.Meets.{met, page_met}

module _ {t : PageTable} (table : IsPageTable t) {base level phys : ℕ} {path : List ℕ} {own : Rights} (canonical : IsCanonical t.depth base)
    (descent : IsDescent t.depth t.memory t.root base 1 level path (entry.Leaf phys own)) where
  here : IsTreeAt (levels t.depth) t.memory t.root level base (slice_index path level)
  here = tree_at table (met table canonical descent)

  abbrev cut : PageTable
  cut = record t { memory = with_word t.memory (slice_index path level) (index_at level base) 0 }

  walk_on : (b : ℕ) → SamePath (levels t.depth) level base b → walk_in cut b ≡ NotMapped
  walk_on b same = walk_to_absent here 0 refl descent.above b same

  faultless_cut : (b : ℕ) → IsCanonical t.depth b → walk_in cut b ≢ Reserved
  faultless_cut b is_b reserved = ⊎_elim
      (λ same. let wrong : NotMapped ≡ Reserved = sym (walk_on b same) ∙ reserved in cc)
      (λ apart. faultless table b is_b (sym (walk_off_path here 0 b apart) ∙ reserved))
      (same_or_not (levels t.depth) level base b)

  is_cut : IsCut t.depth cut.memory t.root base level path
  is_cut = record {
    tree = tree_write here 0 refl;
    filled = but_write (but_none base table.filled) here 0 refl;
    all_reached = reached_write here 0 (ap table_in descent.is) (written_zero level) table.reached;
    whole = whole_write here 0;
    some = descent.above;
    below = descent.below;
    reached = λ j from to. table_above here 0 base j from ∙ descent.reached j from to;
    absent = found_on_path here 0 base (λ i from to. refl);
  }

  plain_cut : AddsNoFlags t.memory cut.memory
  plain_cut = adds_written t.memory (slice_index path level) (index_at level base) 0 table.whole (used_at here) (omega arith) refl

  -- as the code has it: the entry at this index is cleared, and the highest table on the path is the root
  pub cut_here : {index top : ℕ} → index ≡ index_at level base → top ≡ t.root
      → IsCut t.depth (with_word t.memory (slice_index path level) index 0) top base level path
      × ((b : ℕ) → IsCanonical t.depth b → walk t.depth (with_word t.memory (slice_index path level) index 0) top b ≢ Reserved)
  cut_here at top_is = rw (at, top_is) (is_cut, faultless_cut)

  pub pruned_here : {before m' : Memory} {index top up : ℕ} → before ≡ with_word t.memory (slice_index path level) index 0 → index ≡ index_at level base
      → top ≡ t.root → IsPruned t.depth before m' top base level up → IsPruned t.depth cut.memory m' t.root base level up
  pruned_here {before} {m'} {index} {top} {up} is at top_is pruned = subst (λ r. IsPruned t.depth cut.memory m' r base level up) top_is
      (subst (λ (n : Memory). IsPruned t.depth n m' top base level up) (is ∙ ap (λ i. with_word t.memory (slice_index path level) i 0) at) pruned)

  -- ---- the tables after what is left empty was freed

  module _ {m' : Memory} {up : ℕ} (pruned : IsPruned t.depth cut.memory m' t.root base level up) (aligned : base % 4096 ≡ 0)
      {size : Size} (size_is : size ≡ size_at level) {bytes : ℕ} (are : bytes ≡ bytes_of size) (begins : base % bytes ≡ 0) where
    abbrev new : PageTable
    new = record t { memory = m' }

    module _ {space : Space} (of : IsSpaceOf t space) (limit : ℕ) where
      abbrev next : Space
      next = (step t.depth limit space (Unmap base)).space

      leaf : (q : Page) × IsLeafPage t.depth space base level phys own q
      leaf = page_met table canonical descent of.is_of

      begins_here : leaf.0.base ≡ base
      begins_here =
          let bytes_are : bytes_of leaf.0.size ≡ bytes = ap bytes_of (leaf.1.size ∙ sym size_is) ∙ sym are in
          let offset : base % bytes_of leaf.0.size ≡ base % bytes = ap (λ n. base % n) bytes_are in
          omega (arith, leaf.1.base)

      answer_is : (step t.depth limit space (Unmap base)).answer ≡ answers.Removed phys size own
      answer_is = removed_answer limit of.is_of leaf.1 begins_here ∙ ap (λ s. answers.Removed phys s own) (sym size_is)

      after : IsTableOf new next
      after = record {
        is_space = step_space limit of.is_of.is_space (Unmap base) (record { canonical = canonical; aligned = aligned });
        translates = removed_translates limit of.is_of leaf.1 begins_here new.memory
            (λ b is_b same. pruned.walks b is_b ∙ walk_on b same) (λ b is_b apart. pruned.walks b is_b ∙ walk_off_path here 0 b apart);
      }

      removed_is : next ≡ finite.remove space leaf.0.base
      removed_is = ap (λ (s : Stepped). s.space) (unmap_removes t.depth limit space base leaf.0 leaf.1.here begins_here)
          ∙ ap (finite.remove space) (sym begins_here)

      again : finite.insert next leaf.0.base leaf.0 ≡ space
      again = ap (λ (s : Space). finite.insert s leaf.0.base leaf.0) removed_is ∙ put_back space leaf.0 leaf.1.held

      nothing_now : page_at next leaf.0.base ≡ None
      nothing_now = subst (λ a. page_at next a ≡ None) (sym begins_here)
          (nothing_at after base canonical (pruned.walks base canonical ∙ walk_on base (λ i from to. refl)))

      added : table_count t.depth space ≡ (up - level) + table_count t.depth next
      added =
          ap (table_count t.depth) (sym again)
          ∙ count_added after leaf.0 up leaf.1.good (subst (IsSpace t.depth) (sym again) of.is_of.is_space)
          (λ r held same. (remove_cases space leaf.0.base r.base r (subst (λ (s : Space). Holds s r) removed_is held)).0 same)
          nothing_now (omega (arith, leaf.1.level_is, pruned.above)) pruned.below
          (subst (λ a. NothingUnder t.depth m' t.root up a) (sym begins_here) pruned.nothing)
          (λ j over le nothing. pruned.something j over le (subst (λ a. NothingUnder t.depth m' t.root j a) begins_here nothing))
          ∙ ap (λ l. (up - l) + table_count t.depth next) leaf.1.level_is

      space_is : IsSpaceOf new next
      space_is = record { is_of = after; counted = omega (arith, len_write here 0, pruned.fewer, added, of.counted) }

    pub unmapped : IsPageTable new × IsTableStep t (Unmap base) (answers.Removed phys size own) new
    unmapped = (
      record {
        tree = pruned.tree;
        filled = pruned.filled;
        reached = pruned.all_reached;
        whole = pruned.whole;
        root_fits = table.root_fits;
        some_space = ((step t.depth 0 table.some_space.0 (Unmap base)).space, space_is table.some_space.1 0);
      },
      record {
        some_space = own_space table;
        same = refl;
        unchanged = λ refused. absurd (cc);
        kept = more_then pruned.less (more_cleared t.depth here);
        plain = adds_then plain_cut pruned.plain;
        cleared = tt;
        steps = λ space is. let of = space_of table is in (sym (answer_is of t.limit), after of t.limit);
      },
    )
