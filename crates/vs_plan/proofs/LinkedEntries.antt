-- Entries that lead to a table: which words don't, and which stores change one.
use Rattle.std.proofs.Common.{◌≡◌, ℕ, zero, suc, ◌+◌, ◌*◌, ◌/◌, ◌%◌, ◌^◌, ◌<◌, ◌≤◌, List, [], ◌∷◌, All, Some, Bool, true, false, ◌⊎◌}
use Rattle.std.proofs.Common.{inl, inr, ⊎_elim, refl, sym, ap, subst, ◌∙◌, arith}
use Rattle.std.specs.Prelude.{◌==◌, ◌||◌, ◌&&◌, nat_le}
use Rattle.std.specs.Int.{bit_at}
use Rattle.std.proofs.lemmas.List.Elements.{All-head, All-tail}
use Rattle.std.proofs.lemmas.Option.{same_Some}
use Rattle.vs_types.specs.Depth.{entry_bytes, index_at}
use Rattle.vs_types.specs.Entry.{has_reserved, is_leaf, meaning, rights_of, size_at}
use Rattle.vs_types.specs.declared.entries.entry.Meaning.{Meaning}
use Rattle.vs_types.specs.declared.entries.entry.Meaning.TheVariants as entry
use Rattle.vs_types.specs.declared.addresses.page.Rights.{Rights}
use Rattle.vs_types.specs.declared.addresses.page.Size.TheVariants.{M2}
use Rattle.vs_walk.specs.Memory.{Memory}
use Rattle.vs_space.specs.Path.{found_at}
use Rattle.vs_space.specs.Held.{word_at}
use Rattle.vs_types.proofs.Placed.{said}
use Rattle.vs_plan.specs.declared.plans.plan.Store.{Store}
use Rattle.vs_plan.specs.Answered.{Follows, IsLike}
use Rattle.vs_types.specs.Bits.{unflagged}
use Rattle.vs_plan.specs.Stores.{stored, stored_all, FindTheirWords}
use Rattle.vs_plan.proofs.RunWords.{leaf_parts}
use Rattle.vs_plan.proofs.Stored.{found_word, used_word}
use Rattle.vs_plan.proofs.WordOrders.{elsewhere_or_here}

-- ---- words of pages

leaf_leads : (p r : Bool) (x own : Rights) (a n next : ℕ) → said p r true x a n ≡ entry.Table next own → ⊥
leaf_leads true true x own a n next e = cc
leaf_leads true false x own a n next e = cc
leaf_leads false r x own a n next e = cc

-- a word that maps a page leads to no table
pub no_link : (level word next : ℕ) (own : Rights) → is_leaf level word ≡ true → meaning level word ≡ entry.Table next own → ⊥
no_link level word next own leaf says =
    leaf_leads (bit_at word 0 == 1) (has_reserved level word) (rights_of word) own (word % 2 ^ 52 / entry_bytes level * entry_bytes level)
    (word % 2 ^ 52 / 2 ^ 12) next
    (subst (λ (l : Bool). said (bit_at word 0 == 1) (has_reserved level word) l (rights_of word) (word % 2 ^ 52 / entry_bytes level * entry_bytes level)
    (word % 2 ^ 52 / 2 ^ 12) ≡ entry.Table next own) leaf says)

follows_bit : (first index word : ℕ) → Follows M2 first index word → bit_at word 7 ≡ bit_at first 7
follows_bit first index word is = omega (arith, is)

unflagged_bit : (x y : ℕ) → unflagged x ≡ unflagged y → bit_at x 7 ≡ bit_at y 7
unflagged_bit x y is = omega (arith, is)

moved_bit : (word : ℕ) → bit_at (word % 2 ^ 21 + 0 + word / 2 ^ 52 * 2 ^ 52) 7 ≡ bit_at word 7
moved_bit word = omega arith

like_bit : (first word : ℕ) → IsLike M2 first word → bit_at word 7 ≡ bit_at first 7
like_bit first word is =
    sym (moved_bit word)
    ∙ unflagged_bit (word % 2 ^ 21 + 0 + word / 2 ^ 52 * 2 ^ 52) (first % 2 ^ 21 + 0 + first / 2 ^ 52 * 2 ^ 52) is
    ∙ moved_bit first

large_leaf : (first word phys : ℕ) (own : Rights) → meaning 2 first ≡ entry.Leaf phys own → bit_at word 7 ≡ bit_at first 7 → is_leaf 2 word ≡ true
large_leaf first word phys own says same = ap (λ (b : ℕ). (2 == 1) || (nat_le 2 3 && (b == 1))) same ∙ (leaf_parts 2 first phys own says).leaf

-- a word that follows on from that of a page, or is like it, maps a page
pub follows_leaf : (level first index word phys : ℕ) (own : Rights) → 1 ≤ level → level < 3 → meaning level first ≡ entry.Leaf phys own
    → Follows (size_at level) first index word → is_leaf level word ≡ true
follows_leaf zero first index word phys own some few says is = absurd (omega (arith, some))
follows_leaf (suc zero) first index word phys own some few says is = refl
follows_leaf (suc (suc zero)) first index word phys own some few says is = large_leaf first word phys own says (follows_bit first index word is)
follows_leaf (suc (suc (suc level))) first index word phys own some few says is = absurd (omega (arith, few))

pub like_leaf : (level first word phys : ℕ) (own : Rights) → 1 ≤ level → level < 3 → meaning level first ≡ entry.Leaf phys own
    → IsLike (size_at level) first word → is_leaf level word ≡ true
like_leaf zero first word phys own some few says is = absurd (omega (arith, some))
like_leaf (suc zero) first word phys own some few says is = refl
like_leaf (suc (suc zero)) first word phys own some few says is = large_leaf first word phys own says (like_bit first word is)
like_leaf (suc (suc (suc level))) first word phys own some few says is = absurd (omega (arith, few))

-- ---- stores one after another

-- a store into the entry for an address in a table finds this there
pub record IsInto (level number address : ℕ) (e : Meaning) (s : Store) : Type 0 where
  pub frame : number ≡ s.frame
  pub index : index_at level address ≡ s.index
  pub says : meaning level s.old ≡ e

-- what is found stays, or one of the stores is into it
pub found_still : (P : Store → Type 0) (level number address : ℕ) (e : Meaning) (memory : Memory) (stores : List Store) → FindTheirWords memory stores
    → All P stores → found_at level memory number address ≡ Some e
    → (found_at level (stored_all memory stores) number address ≡ Some e) ⊎ ((s : Store) × P s × IsInto level number address e s)
found_still P level number address e memory [] found all is = inl is
found_still P level number address e memory (s ∷ later) found all is = ⊎_elim
    (λ same. found_still P level number address e (stored memory s) later found.1 (All-tail P s later all) (same ∙ is))
    (λ here.
    let there : found_at level memory s.frame address ≡ Some (meaning level s.old) =
    found_word level memory s.frame address s.old (ap (word_at memory s.frame) here.1 ∙ found.0) in
    inr (
      s,
      All-head P s later all,
      record {
        frame = here.0;
        index = here.1;
        says = same_Some (meaning level s.old) e (sym there ∙ subst (λ (n : ℕ). found_at level memory n address ≡ Some e) here.0 is);
      },
    ))
    (elsewhere_or_here level memory s.frame s.index s.new number address (used_word memory s.frame s.index s.old found.0))
