-- An entry with another physical address.
use Rattle.std.proofs.Common.{◌≡◌, ℕ, zero, suc, ◌+◌, ◌*◌, ◌/◌, ◌%◌, ◌^◌, ◌≤◌, refl, arith}
use Rattle.vs_types.specs.Entry.{meaning, size_at}
use Rattle.vs_types.specs.Depth.{entry_bytes}
use Rattle.vs_types.specs.Page.{bytes_of}
use Rattle.vs_types.specs.declared.addresses.page.Rights.{Rights}
use Rattle.vs_types.specs.declared.entries.entry.Meaning.TheVariants as entry
use Rattle.vs_walk.proofs.Walks.{leaf_level}
use Rattle.vs_types.specs.Bits.{with_address}
use Rattle.vs_plan.proofs.RunWords.{HasNewAddress, leaf_moved}

-- a word with another address
written_is : (level word phys new : ℕ) → 1 ≤ level → level ≤ 3 → phys % bytes_of (size_at level) ≡ 0 → phys + bytes_of (size_at level) ≤ 2 ^ 52
    → new ≡ with_address (size_at level) word phys → HasNewAddress level word new × (new % 2 ^ 52 / entry_bytes level * entry_bytes level ≡ phys)
written_is zero word phys new some few aligned within is = absurd (omega (arith, some))
written_is (suc (suc (suc (suc level)))) word phys new some few aligned within is = absurd (omega (arith, few))
written_is _ word phys new some few aligned within is = (
  record { bottom = omega (arith, is, aligned, within); low = omega (arith, is, aligned, within); high = omega (arith, is, within) },
  omega (arith, is, aligned, within),
)

-- a page's entry leads to the physical address that it was given
pub with_address_reads : (level word phys other : ℕ) (own : Rights) → 1 ≤ level → meaning level word ≡ entry.Leaf other own
    → phys % bytes_of (size_at level) ≡ 0 → phys + bytes_of (size_at level) ≤ 2 ^ 52
    → meaning level (with_address (size_at level) word phys) ≡ entry.Leaf phys own
with_address_reads level word phys other own some says aligned within =
    let at = written_is level word phys (with_address (size_at level) word phys) some (leaf_level level word other own says).0 aligned within refl in
    leaf_moved level word (with_address (size_at level) word phys) phys other own some says at.0 at.1
