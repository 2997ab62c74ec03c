-- A run that removes pages is right, where another word of the table is not 0.
use Rattle.std.proofs.Common.{◌≡◌, ◌≢◌, ℕ, suc, ◌+◌, ◌-◌, ◌*◌, ◌/◌, ◌%◌, ◌^◌, ◌<◌, ◌≤◌, List, [], ◌∷◌, Option, Some, None, inl, inr, ⊎_elim, refl, sym, ap, subst, ◌∙◌, arith}
use Rattle.std.specs.Prelude.{slice_index, unwrap_or}
use Rattle.std.specs.FinMap as finite
use Rattle.std.proofs.lemmas.Bool.{cases_lt, cases_eq}
use Rattle.vs_types.specs.Depth.{levels, index_at, entry_bytes}
use Rattle.vs_types.specs.Entry.{meaning, size_at, rights_of}
use Rattle.vs_types.specs.Page.{level_of, bytes_of, intersection}
use Rattle.vs_types.specs.Space.{Space}
use Rattle.vs_types.specs.declared.addresses.depth.Depth.{Depth}
use Rattle.vs_types.specs.declared.addresses.page.Rights.{Rights}
use Rattle.vs_types.specs.declared.addresses.page.Size.{Size}
use Rattle.vs_types.specs.declared.requests.answer.Answer.TheVariants as answers
use Rattle.vs_types.specs.declared.entries.entry.Meaning.TheVariants as entry
use Rattle.vs_walk.specs.Memory.{Memory}
use Rattle.vs_space.specs.Held.{word_at}
use Rattle.vs_space.specs.Path.{table_in, table_at}
use Rattle.vs_space.proofs.Paths.{words_found}
use Rattle.vs_space.proofs.Written.{size_same, word_of}
use Rattle.vs_plan.specs.declared.plans.plan.Flush.{Flush}
use Rattle.vs_plan.specs.declared.plans.plan.Flush.TheVariants as flushes
use Rattle.vs_plan.specs.declared.plans.plan.Reply.{Reply}
use Rattle.vs_plan.specs.declared.plans.plan.Reply.TheVariants as replies
use Rattle.vs_plan.specs.declared.plans.plan.Store.{Store}
use Rattle.vs_plan.specs.declared.plans.request.Request.TheVariants.{Unmap}
use Rattle.vs_plan.specs.declared.plans.target.Target.{Target}
use Rattle.vs_types.specs.Bits.{bits_in}
use Rattle.vs_plan.specs.Request.{IsRequest}
use Rattle.vs_plan.specs.Shown.{IsTableMet}
use Rattle.vs_plan.specs.Target.{highest_link}
use Rattle.vs_plan.specs.Way.{IsWay, Begins, Leads}
use Rattle.vs_plan.proofs.Parts.{Parts, EndAt, store_at}
use Rattle.vs_plan.proofs.Stored.{even_absent}
use Rattle.vs_plan.proofs.Unlinks.{cuts, cut_off}
use Rattle.vs_plan.proofs.Unmapping.{IsFoundPage, flush_of, unmap_parts}
use Rattle.vs_plan.proofs.Ways.{way_table}
use Rattle.vs_range.specs.Planner.{HasOther, unmap_run}
use Rattle.vs_range.specs.Run.{pages_flushed, IsRunRight}
use Rattle.vs_range.proofs.OnTable.{page_on, is_page_on, asked_on, canonical_on, level_few, IsAtTable}
use Rattle.vs_range.proofs.PageFlushes.{one_of, whole_base, leaf_says}
use Rattle.vs_range.proofs.RunRight.{is_new, run_right}
use Rattle.vs_range.proofs.Sequence.{IsPaged, AreOld}

-- ---- the tables of a way, by level

module _ (depth : Depth) (m : Memory) (root a : ℕ) where
  abbrev pub number_at : ℕ → ℕ
  number_at level = unwrap_or (table_at (levels depth) m root level a) 0

  abbrev pub word_in : ℕ → ℕ
  word_in level = unwrap_or (word_at m (number_at level) (index_at level a)) 0

  number_is : (level number : ℕ) (rights : Rights) → IsWay depth m root a level number rights → number_at level ≡ number
  number_is level number rights way = ap (λ (o : Option ℕ). unwrap_or o 0) (way_table level number rights way)

  met_here : (level number word : ℕ) (rights : Rights) → IsWay depth m root a level number rights → word_at m number (index_at level a) ≡ Some word
      → IsTableMet depth m root a level (number_at level) (word_in level)
  met_here level number word rights way told =
      let same = number_is level number rights way in
      let here : word_at m (number_at level) (index_at level a) ≡ Some word = ap (λ n. word_at m n (index_at level a)) same ∙ told in
      record {
        rights = rights;
        way = subst (λ n. IsWay depth m root a level n rights) (sym same) way;
        word_is = here ∙ ap Some (sym (ap (λ (o : Option ℕ). unwrap_or o 0) here));
      }

  pub all_met : (level number word : ℕ) (rights : Rights) → IsWay depth m root a level number rights → word_at m number (index_at level a) ≡ Some word
      → (j : ℕ) → level ≤ j → j ≤ levels depth → IsTableMet depth m root a j (number_at j) (word_in j)
  all_met level number word rights Begins told j from to =
      let same : levels depth ≡ j = omega arith in
      subst (λ l. IsTableMet depth m root a l (number_at l) (word_in l)) same (met_here (levels depth) root word _ Begins told)
  all_met level number word rights (Leads below above next given own way found) told j from to =
      let words = words_found (suc below) m above a (entry.Table next own) found in
      ⊎_elim
      (λ (same : below ≡ j). subst (λ l. IsTableMet depth m root a l (number_at l) (word_in l)) same
      (met_here below next word _ (Leads below above next given own way found) told))
      (λ (other : below ≢ j). all_met (suc below) above (slice_index words.0 (index_at (suc below) a)) given way
      (word_of m above (index_at (suc below) a) (Some words.0) words.1) j (omega arith) to)
      (cases_eq below j)

module _ (target : Target) (size : Size) (base count frame index : ℕ) (given : Rights) (words : List ℕ) (asked : IsRequest target (Unmap base))
    (aligned : base % bytes_of size ≡ 0) (here : index ≡ index_at (level_of size) base) (room : index + count ≤ 512)
    (leaf : (number : ℕ) → number < count → (phys : ℕ) × (own : Rights) × (meaning (level_of size) (slice_index words (index + number)) ≡ entry.Leaf phys own))
    (busy : level_of size < highest_link target → HasOther words index count) where
  abbrev level : ℕ
  level = level_of size

  abbrev old : ℕ → ℕ
  old number = slice_index words (index + number)

  abbrev reply : ℕ → Reply
  reply number = replies.Answer (answers.Removed (old number % 2 ^ 52 / entry_bytes level * entry_bytes level) (size_at level)
      (intersection given (rights_of (old number))))

  abbrev bits : ℕ → ℕ
  bits number = bits_in (size_at level) (old number)

  abbrev flush : ℕ → Flush
  flush number = flushes.Page (page_on size base number) (size_at level)

  module _ (number : ℕ) (lt : number < count) where
    says : meaning level (old number) ≡ entry.Leaf (old number % 2 ^ 52 / entry_bytes level * entry_bytes level) (rights_of (old number))
    says = let is = leaf number lt in leaf_says level (old number) is.0 is.1 is.2

    index_is : index_at level (page_on size base number) ≡ index + number
    index_is = (is_page_on size base number aligned (omega (arith, here, room, lt))).index ∙ ap (λ i. i + number) (sym here)

    module _ (memory : Memory) (space : Space) (end : EndAt target memory space level frame given (old number) (page_on size base number))
        (begins : page_on size base number % bytes_of (size_at level) ≡ 0)
        (old_words : AreOld target (Unmap base) base given (pages_flushed base size 0 count) (unmap_run size base count frame index) words reply bits flush
        memory number) where
      abbrev numbers : ℕ → ℕ
      numbers = number_at target.depth memory target.root (page_on size base number)

      abbrev met_words : ℕ → ℕ
      met_words = word_in target.depth memory target.root (page_on size base number)

      met : (j : ℕ) → level ≤ j → j ≤ levels target.depth
          → IsTableMet target.depth memory target.root (page_on size base number) j (numbers j) (met_words j)
      met = all_met target.depth memory target.root (page_on size base number) level frame (old number) given end.way end.word_is

      table_is : numbers level ≡ frame
      table_is = number_is target.depth memory target.root (page_on size base number) level frame given end.way

      found_low : highest_link target < level → IsFoundPage target memory space (page_on size base number) level frame (old number) (highest_link target)
          (old number % 2 ^ 52 / entry_bytes level * entry_bytes level) given (rights_of (old number)) numbers met_words
      found_low lower = record {
        end = end;
        some = (level_few size).0;
        leaf = says;
        begins = begins;
        highest = omega arith;
        tables = met;
        alone = λ j le below. absurd (omega arith);
        busy = λ below. absurd (omega arith);
      }

      found_high : level ≤ highest_link target → IsFoundPage target memory space (page_on size base number) level frame (old number) level
          (old number % 2 ^ 52 / entry_bytes level * entry_bytes level) given (rights_of (old number)) numbers met_words
      found_high higher = record {
        end = end;
        some = (level_few size).0;
        leaf = says;
        begins = begins;
        highest = higher;
        tables = met;
        alone = λ j le below. absurd (omega arith);
        busy = λ below.
            let is = busy below in (
              omega arith,
              record {
                other = is.other;
                apart = λ same. ⊎_elim (λ (under : is.other < index). omega (arith, index_is)) (λ (over : index + count ≤ is.other). omega (arith, index_is))
                    is.apart;
                word = slice_index words is.other;
                there = ap (λ n. word_at memory n is.other) table_is
                    ∙ old_words is.other is.low (⊎_elim (λ under. inl under) (λ over. inr (omega arith)) is.apart);
                some = is.some;
              },
            );
      }

      none_cut : (stop : ℕ) → stop ≤ level
          → IsFoundPage target memory space (page_on size base number) level frame (old number) stop
          (old number % 2 ^ 52 / entry_bytes level * entry_bytes level) given (rights_of (old number)) numbers met_words
          → Parts target (Unmap (page_on size base number)) memory space [] (reply number) (bits number) None
          (store_at frame (index + number) (old number) 0 ∷ []) (flush number) []
      none_cut stop low found =
          let none : stop - level ≡ 0 = omega arith in
          subst (λ i. Parts target (Unmap (page_on size base number)) memory space [] (reply number) (bits number) None
          (store_at frame i (old number) 0 ∷ []) (flush number) []) index_is
          (subst (λ n. Parts target (Unmap (page_on size base number)) memory space [] (reply number) (bits number) None
          (store_at frame (index_at level (page_on size base number)) (old number) 0 ∷ cuts numbers met_words (page_on size base number) level n)
          (flush_of n (page_on size base number) (size_at level)) (cut_off numbers level n)) none (unmap_parts found))

      parts : Parts target (Unmap (page_on size base number)) memory space [] (reply number) (bits number) None
          (store_at frame (index + number) (old number) 0 ∷ []) (flush number) []
      parts = ⊎_elim
          (λ (lower : highest_link target < level). none_cut (highest_link target) (omega arith) (found_low lower))
          (λ (higher : level ≤ highest_link target). none_cut level (omega arith) (found_high higher))
          (cases_lt (highest_link target) level)

    paged : IsPaged target (Unmap base) base given (pages_flushed base size 0 count) (unmap_run size base count frame index) words reply bits flush number
    paged =
        let on = is_page_on size base number aligned (omega (arith, here, room, lt)) in
        let begins : page_on size base number % bytes_of (size_at level) ≡ 0 =
        ap (λ z. page_on size base number % bytes_of z) (size_same size) ∙ on.aligned in
        let absent = even_absent level 0 refl in
        record {
          place = refl;
          good = asked_on target (Unmap base) (Unmap (page_on size base number)) asked
              (canonical_on target.depth size base number asked.canonical on) (whole_base size (page_on size base number) on.aligned);
          ends_old = ap (λ e. table_in (Some e)) says;
          ends_new = ap (λ e. table_in (Some e)) absent;
          changed = λ no. cc;
          dropped = λ kept is. one_of base size (size_at level) number count 0 (omega arith) (omega arith) kept is;
          right = λ memory space end old_words.
              let apart : old number ≢ 0 = λ same. let both = sym says ∙ ap (meaning level) same ∙ absent in cc in
              subst (λ (stores : List Store). Parts target (Unmap (page_on size base number)) memory space [] (reply number) (bits number) None stores
              (flush number) [])
              (sym (is_new (store_at frame (index + number) (old number) 0) apart))
              (parts memory space end begins old_words);
        }

  pub unmap_run_right : (memory : Memory) (space : Space) → finite.get memory frame ≡ Some words
      → IsAtTable target memory space size base frame given
      → IsRunRight target (Unmap base) memory space (unmap_run size base count frame index)
  unmap_run_right memory space got at = run_right target (Unmap base) base given (unmap_run size base count frame index) words
      reply bits flush asked.canonical aligned here room paged memory space got at
