-- A run that changes the rights of pages is right.
use Rattle.std.proofs.Common.{◌≡◌, ◌≢◌, ℕ, ◌+◌, ◌*◌, ◌/◌, ◌%◌, ◌^◌, ◌<◌, ◌≤◌, List, [], ◌∷◌, Some, None, Bool, true, false, refl, sym, ap, subst, ◌∙◌, arith, eqb-true}
use Rattle.std.specs.Prelude.{slice_index, nat_eq, if◌then◌else◌}
use Rattle.std.specs.FinMap as finite
use Rattle.std.proofs.lemmas.Bool.{eq-eqb}
use Rattle.vs_types.specs.Depth.{index_at, entry_bytes}
use Rattle.vs_types.specs.Entry.{meaning, size_at, rights_of}
use Rattle.vs_types.specs.Page.{level_of, bytes_of, intersection}
use Rattle.vs_types.specs.Space.{Space}
use Rattle.vs_types.specs.declared.addresses.page.Rights.{Rights}
use Rattle.vs_types.specs.declared.addresses.page.Size.{Size}
use Rattle.vs_types.specs.declared.requests.answer.Answer.TheVariants as answers
use Rattle.vs_types.specs.declared.entries.entry.Meaning.TheVariants as entry
use Rattle.vs_walk.specs.Memory.{Memory}
use Rattle.vs_space.specs.Path.{table_in}
use Rattle.vs_space.proofs.Written.{size_same}
use Rattle.vs_plan.specs.declared.plans.plan.Flush.{Flush}
use Rattle.vs_plan.specs.declared.plans.plan.Flush.TheVariants as flushes
use Rattle.vs_plan.specs.declared.plans.plan.Reply.{Reply}
use Rattle.vs_plan.specs.declared.plans.plan.Reply.TheVariants as replies
use Rattle.vs_plan.specs.declared.plans.request.Request.TheVariants.{Protect}
use Rattle.vs_plan.specs.declared.plans.target.Target.{Target}
use Rattle.vs_types.specs.Bits.{bits_in, with_rights}
use Rattle.vs_plan.specs.Processor.{Kept, IsDropped}
use Rattle.vs_plan.specs.Request.{IsRequest}
use Rattle.vs_plan.proofs.Parts.{Parts, EndAt, store_at}
use Rattle.vs_plan.proofs.Protecting.{same_parts, written_parts}
use Rattle.vs_types.proofs.BitWords.{with_rights_reads}
use Rattle.vs_range.specs.Planner.{protect_run}
use Rattle.vs_range.specs.Run.{pages_flushed, IsRunRight}
use Rattle.vs_range.specs.Several.{IsDroppedByOne}
use Rattle.vs_range.proofs.OnTable.{page_on, is_page_on, asked_on, canonical_on, level_few, IsAtTable}
use Rattle.vs_range.proofs.PageFlushes.{one_of, whole_base, leaf_says}
use Rattle.vs_range.proofs.RunRight.{run_right}
use Rattle.vs_range.proofs.Sequence.{IsPaged}

module _ (target : Target) (size : Size) (base count frame index : ℕ) (rights given : Rights) (words : List ℕ) (asked : IsRequest target (Protect base rights))
    (aligned : base % bytes_of size ≡ 0) (here : index ≡ index_at (level_of size) base) (room : index + count ≤ 512)
    (allows : intersection given rights ≡ rights)
    (leaf : (number : ℕ) → number < count
    → (phys : ℕ) × (own : Rights) × (meaning (level_of size) (slice_index words (index + number)) ≡ entry.Leaf phys own)) where
  abbrev level : ℕ
  level = level_of size

  abbrev old : ℕ → ℕ
  old number = slice_index words (index + number)

  abbrev reply : ℕ → Reply
  reply number = replies.Answer (answers.Changed (intersection given (rights_of (old number))))

  abbrev bits : ℕ → ℕ
  bits number = bits_in (size_at level) (old number)

  abbrev flush_if : ℕ → Bool → Flush
  flush_if number b = if b then flushes.Nothing else flushes.Page (page_on size base number) (size_at level)

  abbrev flush : ℕ → Flush
  flush number = flush_if number (nat_eq (old number) (with_rights (old number) rights))

  module _ (number : ℕ) (lt : number < count) where
    phys : ℕ
    phys = old number % 2 ^ 52 / entry_bytes level * entry_bytes level

    says : meaning level (old number) ≡ entry.Leaf (old number % 2 ^ 52 / entry_bytes level * entry_bytes level) (rights_of (old number))
    says = let is = leaf number lt in leaf_says level (old number) is.0 is.1 is.2

    leads : meaning level (with_rights (old number) rights)
        ≡ entry.Leaf (old number % 2 ^ 52 / entry_bytes level * entry_bytes level) rights
    leads = with_rights_reads level (old number) rights (old number % 2 ^ 52 / entry_bytes level * entry_bytes level) (rights_of (old number))
        (level_few size).0 says

    dropped : (b : Bool) (kept : Kept) → IsDropped (flush_if number b) kept → IsDroppedByOne (pages_flushed base size 0 count) kept
    dropped true kept never = absurd never
    dropped false kept is = one_of base size (size_at level) number count 0 (omega arith) (omega arith) kept is

    paged : IsPaged target (Protect base rights) base given (pages_flushed base size 0 count) (protect_run size base rights count frame index) words
        reply bits flush number
    paged =
        let on = is_page_on size base number aligned (omega (arith, here, room, lt)) in
        let begins : page_on size base number % bytes_of (size_at level) ≡ 0 =
        ap (λ z. page_on size base number % bytes_of z) (size_same size) ∙ on.aligned in
        record {
          place = refl;
          good = asked_on target (Protect base rights) (Protect (page_on size base number) rights) asked
              (canonical_on target.depth size base number asked.canonical on) (whole_base size (page_on size base number) on.aligned);
          ends_old = ap (λ e. table_in (Some e)) says;
          ends_new = ap (λ e. table_in (Some e)) leads;
          changed = λ no. cc;
          dropped = dropped (nat_eq (old number) (with_rights (old number) rights));
          right = λ memory space end old_words. parts memory space (on.index ∙ ap (λ i. i + number) (sym here)) begins end
              (nat_eq (old number) (with_rights (old number) rights)) refl;
        }
      where
        parts : (memory : Memory) (space : Space) → index_at level (page_on size base number) ≡ index + number
            → page_on size base number % bytes_of (size_at level) ≡ 0
            → EndAt target memory space level frame given (old number) (page_on size base number) → (b : Bool)
            → nat_eq (old number) (with_rights (old number) rights) ≡ b
            → Parts target (Protect (page_on size base number) rights) memory space [] (reply number) (bits number) None
            (if b then [] else store_at frame (index + number) (old number) (with_rights (old number) rights) ∷ []) (flush_if number b) []
        parts memory space at begins end true same =
            same_parts target end (level_few size).0 says begins allows (eqb-true (old number) (with_rights (old number) rights) same) leads
        parts memory space at begins end false same =
            let apart : old number ≢ with_rights (old number) rights =
            λ e. let yes = eq-eqb (old number) (with_rights (old number) rights) e in cc in
            subst (λ i. Parts target (Protect (page_on size base number) rights) memory space [] (reply number) (bits number) None
            (store_at frame i (old number) (with_rights (old number) rights) ∷ []) (flushes.Page (page_on size base number) (size_at level)) []) at
            (written_parts target end (level_few size).0 says begins allows apart leads)

  pub protect_run_right : (memory : Memory) (space : Space) → finite.get memory frame ≡ Some words
      → IsAtTable target memory space size base frame given
      → IsRunRight target (Protect base rights) memory space (protect_run size base rights count frame index)
  protect_run_right memory space got at = run_right target (Protect base rights) base given (protect_run size base rights count frame index) words
      reply bits flush asked.canonical aligned here room paged memory space got at
