-- A run that maps pages is right.
use Rattle.std.proofs.Common.{◌≡◌, ◌≢◌, ℕ, ◌+◌, ◌*◌, ◌%◌, ◌^◌, ◌<◌, ◌≤◌, List, [], ◌∷◌, Some, None, refl, sym, ap, subst, ◌∙◌, arith}
use Rattle.std.specs.Prelude.{slice_index}
use Rattle.std.specs.FinMap as finite
use Rattle.vs_types.specs.Depth.{index_at}
use Rattle.vs_types.specs.Entry.{meaning, leaf_word}
use Rattle.vs_types.specs.Page.{level_of, bytes_of, intersection, IsPage}
use Rattle.vs_types.specs.Space.{Space}
use Rattle.vs_types.specs.declared.addresses.page.Page.{Page}
use Rattle.vs_types.specs.declared.addresses.page.Rights.{Rights}
use Rattle.vs_types.specs.declared.addresses.page.Size.{Size}
use Rattle.vs_types.specs.declared.addresses.page.Size.TheVariants.{K4, M2, G1}
use Rattle.vs_types.specs.declared.requests.answer.Answer.TheVariants as answers
use Rattle.vs_types.specs.declared.entries.entry.Meaning.TheVariants as entry
use Rattle.vs_walk.specs.Memory.{Memory}
use Rattle.vs_space.specs.Path.{table_in}
use Rattle.vs_plan.specs.declared.plans.plan.Flush.TheVariants as flushes
use Rattle.vs_plan.specs.declared.plans.plan.Reply.TheVariants as replies
use Rattle.vs_plan.specs.declared.plans.plan.Store.{Store}
use Rattle.vs_plan.specs.declared.plans.request.Request.TheVariants.{Map}
use Rattle.vs_plan.specs.declared.plans.target.Target.{Target}
use Rattle.vs_types.specs.Bits.{page_word, placed}
use Rattle.vs_plan.specs.Request.{IsRequest}
use Rattle.vs_plan.proofs.Mapping.{alone_parts}
use Rattle.vs_plan.proofs.Parts.{Parts, store_at}
use Rattle.vs_plan.proofs.Stored.{even_absent}
use Rattle.vs_types.proofs.BitWords.{page_reads}
use Rattle.vs_range.specs.declared.run.Run.{Run}
use Rattle.vs_range.specs.Planner.{map_run}
use Rattle.vs_range.specs.Run.{IsRunRight}
use Rattle.vs_range.proofs.OnTable.{is_page_on, asked_on, canonical_on, level_few, IsAtTable}
use Rattle.vs_range.proofs.RunRight.{is_new, run_right}
use Rattle.vs_range.proofs.Sequence.{IsPaged}

-- the page so many pages on
abbrev later_page : Page → ℕ → Page
later_page page number = record page { base = page.base + number * bytes_of page.size; phys = page.phys + number * bytes_of page.size }

ends_within : (size : Size) (phys number count limit : ℕ) → number < count → phys + count * bytes_of size ≤ limit
    → phys + number * bytes_of size + bytes_of size ≤ limit
ends_within K4 phys number count limit lt fits = omega arith
ends_within M2 phys number count limit lt fits = omega arith
ends_within G1 phys number count limit lt fits = omega arith

multiple_on : (size : Size) (phys number : ℕ) → phys % bytes_of size ≡ 0 → (phys + number * bytes_of size) % bytes_of size ≡ 0
multiple_on K4 phys number whole = omega (arith, whole)
multiple_on M2 phys number whole = omega (arith, whole)
multiple_on G1 phys number whole = omega (arith, whole)

below_end : (size : Size) (phys : ℕ) → phys + bytes_of size ≤ 2 ^ 51 → phys < 2 ^ 52
below_end K4 phys fits = omega arith
below_end M2 phys fits = omega arith
below_end G1 phys fits = omega arith

module _ (target : Target) (page : Page) (bits count frame index : ℕ) (words : List ℕ) (given : Rights) (asked : IsRequest target (Map page bits))
    (here : index ≡ index_at (level_of page.size) page.base) (room : index + count ≤ 512) (allows : intersection given page.rights ≡ page.rights)
    (absent : (number : ℕ) → number < count → slice_index words (index + number) % 2 ≡ 0)
    (low : page.phys + count * bytes_of page.size ≤ 2 ^ 51) (within : page.phys + count * bytes_of page.size ≤ 2 ^ target.phys_bits) where
  abbrev run : Run
  run = map_run page bits count frame index

  module _ (number : ℕ) (lt : number < count) where
    good : IsPage target.depth (later_page page number)
    good =
        let on = is_page_on page.size page.base number asked.whole.good.aligned (omega (arith, here, room, lt)) in
        record {
          canonical = canonical_on target.depth page.size page.base number asked.canonical on;
          aligned = on.aligned;
          phys_aligned = multiple_on page.size page.phys number asked.whole.good.phys_aligned;
          phys_range = ends_within page.size page.phys number count (2 ^ 51) lt low;
        }

    reads : meaning (level_of page.size) (page_word (later_page page number) bits) ≡ entry.Leaf (later_page page number).phys page.rights
    reads = page_reads page.size (later_page page number).phys bits page.rights good.phys_aligned
        (below_end page.size (later_page page number).phys good.phys_range) asked.whole.bits

    word_is : page_word page bits + number * bytes_of page.size ≡ page_word (later_page page number) bits
    word_is = by page.size page.phys page.rights number bits where
      by : (size : Size) (phys : ℕ) (rights : Rights) (number bits : ℕ)
          → leaf_word size phys rights + placed size bits + number * bytes_of size ≡ leaf_word size (phys + number * bytes_of size) rights + placed size bits
      by K4 phys rights number bits = omega arith
      by M2 phys rights number bits = omega arith
      by G1 phys rights number bits = omega arith

    paged : IsPaged target (Map page bits) page.base given [] run words (λ n. replies.Answer answers.Done) (λ n. 0) (λ n. flushes.Nothing) number
    paged =
        let on = is_page_on page.size page.base number asked.whole.good.aligned (omega (arith, here, room, lt)) in
        let says : meaning (level_of page.size) (slice_index words (index + number)) ≡ entry.Absent =
        even_absent (level_of page.size) (slice_index words (index + number)) (absent number lt) in
        let leads : meaning (level_of page.size) (page_word page bits + number * bytes_of page.size)
        ≡ entry.Leaf (page.phys + number * bytes_of page.size) page.rights = ap (meaning (level_of page.size)) word_is ∙ reads in
        record {
          place = refl;
          good = asked_on target (Map page bits) (Map (later_page page number) bits) asked good.canonical (record {
            good = good;
            within = ends_within page.size page.phys number count (2 ^ target.phys_bits) lt within;
            bits = asked.whole.bits;
          });
          ends_old = ap (λ e. table_in (Some e)) says;
          ends_new = ap (λ e. table_in (Some e)) leads;
          changed = λ no. cc;
          dropped = λ kept no. absurd no;
          right = λ memory space end old_words.
              let apart : slice_index words (index + number) ≢ page_word page bits + number * bytes_of page.size =
              λ same. let both = sym says ∙ ap (meaning (level_of page.size)) same ∙ leads in cc in
              subst (λ (stores : List Store). Parts target (Map (later_page page number) bits) memory space [] (replies.Answer answers.Done) 0 None stores
              flushes.Nothing [])
              (sym (is_new (store_at frame (index + number) (slice_index words (index + number)) (page_word page bits + number * bytes_of page.size)) apart))
              (subst (λ i. Parts target (Map (later_page page number) bits) memory space [] (replies.Answer answers.Done) 0 None
              (store_at frame i (slice_index words (index + number)) (page_word page bits + number * bytes_of page.size) ∷ []) flushes.Nothing [])
              (on.index ∙ ap (λ i. i + number) (sym here))
              (alone_parts target bits end (level_few page.size).0 good says (omega arith) allows [] refl
              (page_word page bits + number * bytes_of page.size) word_is leads));
        }

  pub map_run_right : (memory : Memory) (space : Space) → finite.get memory frame ≡ Some words
      → IsAtTable target memory space page.size page.base frame given → IsRunRight target (Map page bits) memory space (map_run page bits count frame index)
  map_run_right memory space got at = run_right target (Map page bits) page.base given (map_run page bits count frame index) words
      (λ n. replies.Answer answers.Done) (λ n. 0) (λ n. flushes.Nothing) asked.canonical asked.whole.good.aligned here room paged memory space got at
