-- The flushes of a run have those of its pages.
use Rattle.std.proofs.Common.{◌≡◌, ◌≢◌, refl, [], ℕ, zero, suc, ◌+◌, ◌*◌, ◌%◌, ◌/◌, ◌^◌, ◌<◌, ◌≤◌, inl, inr, ⊎_elim, sym, ap, subst, ◌∙◌, arith}
use Rattle.std.proofs.lemmas.Bool.{cases_eq}
use Rattle.vs_types.specs.Depth.{entry_bytes}
use Rattle.vs_types.specs.Entry.{meaning, rights_of}
use Rattle.vs_types.specs.Page.{bytes_of}
use Rattle.vs_types.specs.declared.addresses.page.Rights.{Rights}
use Rattle.vs_types.specs.declared.addresses.page.Size.{Size}
use Rattle.vs_types.specs.declared.addresses.page.Size.TheVariants.{K4, M2, G1}
use Rattle.vs_types.specs.declared.entries.entry.Meaning.TheVariants as entry
use Rattle.vs_plan.specs.declared.plans.plan.Flush.TheVariants.{Page}
use Rattle.vs_plan.specs.Processor.{Kept, Translation, PagingEntry, IsDropped}
use Rattle.vs_plan.proofs.RunWords.{leaf_parts}
use Rattle.vs_range.specs.Run.{pages_flushed}
use Rattle.vs_range.specs.Several.{IsDroppedByOne, from_tables}

-- what the flush of a page drops doesn't depend on its size
any_size : (base : ℕ) (size other : Size) (kept : Kept) → IsDropped (Page base other) kept → IsDropped (Page base size) kept
any_size base size other (Translation level page frame rights) dropped = dropped
any_size base size other (PagingEntry level region number rights) dropped = absurd dropped

pub one_of : (base : ℕ) (size other : Size) (number count from : ℕ) → from ≤ number → number < from + count → (kept : Kept)
    → IsDropped (Page (base + number * bytes_of size) other) kept → IsDroppedByOne (pages_flushed base size from count) kept
one_of base size other number zero from low high kept dropped = absurd (omega arith)
one_of base size other number (suc count) from low high kept dropped = ⊎_elim
    (λ (same : number ≡ from). inl (subst (λ k. IsDropped (Page (base + k * bytes_of size) size) kept) same
    (any_size (base + number * bytes_of size) size other kept dropped)))
    (λ (more : number ≢ from). inr (one_of base size other number count (suc from) (omega arith) (omega arith) kept dropped))
    (cases_eq number from)

-- none drops what is kept of tables
pub pages_leave : (base : ℕ) (size : Size) (from count : ℕ) → from_tables (pages_flushed base size from count) ≡ []
pages_leave base size from zero = refl
pages_leave base size from (suc count) = pages_leave base size (suc from) count

-- a page begins at a multiple of 4 KiB
pub whole_base : (size : Size) (base : ℕ) → base % bytes_of size ≡ 0 → base % 4096 ≡ 0
whole_base K4 base aligned = omega (arith, aligned)
whole_base M2 base aligned = omega (arith, aligned)
whole_base G1 base aligned = omega (arith, aligned)

-- what a leaf says, by its word
pub leaf_says : (level word phys : ℕ) (own : Rights) → meaning level word ≡ entry.Leaf phys own
    → meaning level word ≡ entry.Leaf (word % 2 ^ 52 / entry_bytes level * entry_bytes level) (rights_of word)
leaf_says level word phys own says =
    let parts = leaf_parts level word phys own says in
    says ∙ ap (λ p. entry.Leaf p own) (sym parts.address) ∙ ap (entry.Leaf (word % 2 ^ 52 / entry_bytes level * entry_bytes level)) (sym parts.rights)
