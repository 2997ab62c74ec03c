-- The words of entries that follow on from the first one of a table, and the bits of the page in their place.
use Rattle.std.proofs.Common.{◌≡◌, ℕ, zero, suc, ◌+◌, ◌*◌, ◌%◌, ◌^◌, ◌<◌, ◌≤◌, ap, ◌∙◌, arith}
use Rattle.vs_types.specs.Depth.{entry_bytes}
use Rattle.vs_types.specs.Entry.{meaning, size_at}
use Rattle.vs_types.specs.declared.addresses.page.Rights.{Rights}
use Rattle.vs_types.specs.declared.entries.entry.Meaning.TheVariants as entry
use Rattle.vs_walk.proofs.Walks.{leaf_level}
use Rattle.vs_space.proofs.FlaggedWords.{flagged_meaning}
use Rattle.vs_space.proofs.Regions.{level_back}
use Rattle.vs_types.specs.Bits.{AreBits, HasFlagsSet, flagged, unflagged}
use Rattle.vs_plan.specs.Answered.{Follows}
use Rattle.vs_plan.proofs.OtherFlags.{flags_set}
use Rattle.vs_plan.proofs.RunWords.{leaf_parts, leaf_later}

-- ---- the first entry

-- in a word of a page at an aligned physical address, the bits are clear in which the pages that follow on differ
pub room_of : (level word phys : ℕ) (own : Rights) → meaning level word ≡ entry.Leaf phys own → 1 ≤ level → level ≤ 2 → phys % entry_bytes (suc level) ≡ 0
    → word % entry_bytes (suc level) < entry_bytes level
room_of zero word phys own says some few aligned = absurd (omega (arith, some))
room_of (suc zero) word phys own says some few aligned = let at = (leaf_parts 1 word phys own says).address in omega (arith, at, aligned)
room_of (suc (suc zero)) word phys own says some few aligned = let at = (leaf_parts 2 word phys own says).address in omega (arith, at, aligned)
room_of (suc (suc (suc level))) word phys own says some few aligned = absurd (omega (arith, few))

-- and all pages that follow on lie below 2^52
within : (level phys index : ℕ) → 1 ≤ level → level ≤ 2 → phys < 2 ^ 52 → phys % entry_bytes (suc level) ≡ 0 → index < 512
    → phys + index * entry_bytes level < 2 ^ 52
within zero phys index some few below aligned low = absurd (omega (arith, some))
within (suc (suc (suc level))) phys index some few below aligned low = absurd (omega (arith, few))
within _ phys index some few below aligned low = omega (arith, below, aligned, low)

-- ---- an entry that follows on is that of the next page

-- flags don't matter
unflagged_same : (word : ℕ) → word % 2 ≡ 1 → HasFlagsSet word (unflagged word)
unflagged_same word present = record { present = present; below = omega arith; above = omega arith }

flagged_same : (word : ℕ) → unflagged word % 2 ≡ 1 → HasFlagsSet (unflagged word) word
flagged_same word present = record { present = present; below = omega arith; above = omega arith }

-- nor does an even number that is added
still_odd : (level first index sum : ℕ) → 1 ≤ level → level ≤ 2 → first % 2 ≡ 1 → sum ≡ unflagged first + index * entry_bytes level → sum % 2 ≡ 1
still_odd zero first index sum some few odd is = absurd (omega (arith, some))
still_odd (suc (suc (suc level))) first index sum some few odd is = absurd (omega (arith, few))
still_odd _ first index sum some few odd is = omega (arith, odd, is)

pub follows_reads : (level first index word phys : ℕ) (own : Rights) → 1 ≤ level → level ≤ 2 → meaning level first ≡ entry.Leaf phys own
    → phys % entry_bytes (suc level) ≡ 0 → index < 512 → Follows (size_at level) first index word
    → meaning level word ≡ entry.Leaf (phys + index * entry_bytes level) own
follows_reads level first index word phys own some few says aligned low is =
    let present = (leaf_parts level first phys own says).present in
    let odd : first % 2 ≡ 1 = omega (arith, present) in
    let sum : unflagged word ≡ unflagged first + index * entry_bytes level =
    is ∙ ap (λ n. unflagged first + index * n) (ap entry_bytes (level_back level (omega (arith, some)) (omega (arith, few)))) in
    let plain : meaning level (unflagged first) ≡ entry.Leaf phys own =
    flagged_meaning (flags_set first (unflagged first) (unflagged_same first odd)) level some ∙ says in
    flagged_meaning (flags_set (unflagged word) word (flagged_same word (still_odd level first index (unflagged word) some few odd sum))) level some
    ∙ ap (meaning level) sum
    ∙ leaf_later level (unflagged first) phys own index some plain
    (within level phys index some few (leaf_level level first phys own says).1 aligned low)

-- ---- the bits of an entry

pub flagged_are : (bits : ℕ) → AreBits bits → AreBits (flagged bits)
flagged_are bits are = record {
  above = omega (arith, are.above);
  low = omega (arith, are.above, are.low);
  high = omega (arith, are.above, are.low, are.high);
}
