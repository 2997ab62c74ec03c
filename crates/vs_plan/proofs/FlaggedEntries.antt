-- Entries, ways and stores of a memory in which flags were set.
use Rattle.std.proofs.Common.{◌≡◌, ◌≢◌, ℕ, zero, suc, ◌+◌, ◌*◌, ◌/◌, ◌%◌, ◌^◌, ◌≤◌, List, [], ◌∷◌, take, length, All, Option, Some, None, IsSome, cond, Bool}
use Rattle.std.proofs.Common.{⊎_elim, refl, sym, ap, subst, ◌∙◌, arith}
use Rattle.std.specs.Prelude.{is_some, option_map, slice_index}
use Rattle.std.specs.FinMap as finite
use Rattle.std.specs.Int.{bit_at}
use Rattle.std.specs.List.{AllZip}
use Rattle.std.proofs.lemmas.Bool.{cases_eq, ne_eqb}
use Rattle.std.proofs.lemmas.List.Elements.{All-nil, All-cons, All-head, All-tail, length_all_zip}
use Rattle.std.proofs.lemmas.Nat.Bits.{same_from_bits}
use Rattle.std.proofs.lemmas.Option.{same_Some}
use Rattle.vs_types.specs.Depth.{levels, index_at}
use Rattle.vs_types.specs.Entry.{meaning}
use Rattle.vs_types.specs.Page.{bytes_of}
use Rattle.vs_types.specs.declared.addresses.depth.Depth.{Depth}
use Rattle.vs_types.specs.declared.addresses.frame.TheConstants.{FRAME_WORDS}
use Rattle.vs_types.specs.declared.addresses.page.Rights.{Rights}
use Rattle.vs_types.specs.declared.addresses.page.Size.{Size}
use Rattle.vs_types.specs.declared.addresses.page.Size.TheVariants.{K4, M2, G1}
use Rattle.vs_types.specs.declared.entries.entry.Meaning.TheVariants as entry
use Rattle.vs_arena.specs.Store.{zeros}
use Rattle.vs_walk.specs.Memory.{Memory}
use Rattle.vs_space.specs.Flags.{IsSameButFlags, AreSameButFlags}
use Rattle.vs_space.specs.Held.{word_at}
use Rattle.vs_space.specs.Path.{table_at, entry_in}
use Rattle.vs_space.proofs.Flagged.{both, flagged_found}
use Rattle.vs_space.proofs.FlaggedWords.{bit_above, flagged_at, flagged_meaning, flagged_zeros}
use Rattle.vs_space.proofs.Prunes.{word_in}
use Rattle.vs_plan.specs.declared.plans.plan.Store.{Store}
use Rattle.vs_plan.specs.declared.plans.target.Target.{Target}
use Rattle.vs_types.specs.Bits.{HasFlagsSet, flags_into, unflagged, with_address, with_flags_of, with_rights}
use Rattle.vs_plan.specs.Premise.{IsSpare, HasOwnWay}
use Rattle.vs_plan.specs.Answered.{AreLikeBelow, FollowBelow}
use Rattle.vs_plan.specs.Right.{IsEntryOf, HasWord}
use Rattle.vs_plan.specs.Stores.{stored, stored_all, FindTheirWords}
use Rattle.vs_plan.specs.Way.{IsWay}
use Rattle.vs_plan.proofs.FlagsKept.{flags_table}
use Rattle.vs_plan.proofs.OtherFlags.{protect_again, remap_again, same_stored}
use Rattle.vs_plan.proofs.PlansSuffice.{some_level}
use Rattle.vs_plan.proofs.Ways.{way_kept}
use Rattle.vs_plan.proofs.Stored.{even_absent, used_word}

-- ---- words

module _ {old new : ℕ} (is : IsSameButFlags old new) where
  pub alike_low : old % 2 ^ 5 ≡ new % 2 ^ 5
  alike_low = omega (
    arith,
    is.bits 0 (λ e. omega arith) (λ e. omega arith),
    is.bits 1 (λ e. omega arith) (λ e. omega arith),
    is.bits 2 (λ e. omega arith) (λ e. omega arith),
    is.bits 3 (λ e. omega arith) (λ e. omega arith),
    is.bits 4 (λ e. omega arith) (λ e. omega arith),
  )

  pub alike_high : old / 2 ^ 7 ≡ new / 2 ^ 7
  alike_high = same_from_bits (old / 2 ^ 7) (new / 2 ^ 7)
      (λ i. bit_above old 7 i ∙ sym (is.bits (7 + i) (λ e. omega arith) (λ e. omega arith)) ∙ sym (bit_above new 7 i))

  pub set_flags : old % 2 ≡ 1 → HasFlagsSet old new
  set_flags odd = record { present = odd; below = alike_low; above = alike_high }

  pub alike_back : IsSameButFlags new old
  alike_back = record {
    absent = λ none. sym (is.absent (sym (is.bits 0 (λ e. omega arith) (λ e. omega arith)) ∙ none));
    bits = λ bit apart other. sym (is.bits bit apart other);
  }

  pub alike_unflagged : unflagged new ≡ unflagged old
  alike_unflagged = omega (arith, alike_low, alike_high)

  pub alike_like : (size : Size) → unflagged (with_address size new 0) ≡ unflagged (with_address size old 0)
  alike_like K4 = omega (arith, alike_low, alike_high)
  alike_like M2 = omega (arith, alike_low, alike_high)
  alike_like G1 = omega (arith, alike_low, alike_high)

  pub alike_even : old % 2 ≡ 0 → new ≡ old
  alike_even even = is.absent (omega (arith, even))

  pub alike_zero : old ≡ 0 → new ≡ 0
  alike_zero none = is.absent (ap (λ n. bit_at n 0) none) ∙ none

pub same_word : (word : ℕ) → IsSameButFlags word word
same_word word = record { absent = λ none. refl; bits = λ bit apart other. refl }

pub leaf_odd : (level word phys : ℕ) (own : Rights) → meaning level word ≡ entry.Leaf phys own → word % 2 ≡ 1
leaf_odd level word phys own says = ⊎_elim
    (λ (even : word % 2 ≡ 0). let both = sym says ∙ even_absent level word even in absurd (cc))
    (λ (odd : word % 2 ≢ 0). omega (arith, odd))
    (cases_eq (word % 2) 0)

own_flags : (a b : ℕ) → HasFlagsSet b a → with_flags_of a b ≡ a
own_flags a b is = ap (λ (none : Bool). cond none b (flags_into a b)) (ne_eqb (b % 2) 0 (λ none. omega (arith, is.present, none)))
    ∙ omega (arith, is.below, is.above)

-- what has just these rights has them with other flags
pub rights_stay : (a b : ℕ) (rights : Rights) → HasFlagsSet b a → b ≡ with_rights b rights → a ≡ with_rights a rights
rights_stay a b rights is same = sym (own_flags a b is) ∙ ap (with_flags_of a) same ∙ protect_again a b rights is

pub place_stays : (size : Size) (a b phys : ℕ) (rights : Rights) → phys % 2 ^ 12 ≡ 0 → HasFlagsSet b a
    → b ≡ with_rights (with_address size b phys) rights → a ≡ with_rights (with_address size a phys) rights
place_stays size a b phys rights at is same = sym (own_flags a b is) ∙ ap (with_flags_of a) same ∙ remap_again size a b phys rights at is

-- ---- what is found

module _ {old new : Memory} (is : AreSameButFlags old new) where
  pub word_flags : (number index word : ℕ) → word_at old number index ≡ Some word
      → (now : ℕ) × (word_at new number index ≡ Some now) × IsSameButFlags word now
  word_flags number index word told =
      let here = both is number (used_word old number index word told) in
      let first : slice_index here.0 index ≡ word = same_Some _ _ (sym (word_in old number index here.0 here.2) ∙ told) in (
        slice_index here.1 index,
        word_in new number index here.1 here.3,
        subst (λ w. IsSameButFlags w (slice_index here.1 index)) first (flagged_at here.0 here.1 here.4 index),
      )

  pub zeros_flags : (number : ℕ) → finite.get old number ≡ Some zeros → finite.get new number ≡ Some zeros
  zeros_flags number clear =
      let here = both is number (ap is_some clear) in
      here.3 ∙ ap Some (flagged_zeros FRAME_WORDS here.1
      (subst (λ (b : List ℕ). AllZip IsSameButFlags b here.1) (same_Some here.0 zeros (sym here.2 ∙ clear)) here.4))

  pub has_word : (number : ℕ) → HasWord old number → HasWord new number
  has_word number has =
      let now = word_flags number has.index has.word has.there in
      record { index = has.index; word = now.0; there = now.1; some = λ none. has.some (alike_zero (alike_back now.2) none) }

  -- ---- ways and entries

  module _ (depth : Depth) (root : ℕ) where
    pub at_flags : (level address number : ℕ) → table_at (levels depth) old root level address ≡ Some number
        → table_at (levels depth) new root level address ≡ Some number
    at_flags level address number at = flags_table is depth root level address ∙ at

    pub at_before : (level address number : ℕ) → table_at (levels depth) new root level address ≡ Some number
        → table_at (levels depth) old root level address ≡ Some number
    at_before level address number at = sym (flags_table is depth root level address) ∙ at

    pub way_flags : (address level number : ℕ) (rights : Rights) → IsWay depth old root address level number rights
        → IsWay depth new root address level number rights
    way_flags address level number rights way =
        way_kept new level number rights way (λ j q over at. flagged_found is j q address (omega (arith, over)))

    pub own_before : (address : ℕ) → HasOwnWay depth new root address → HasOwnWay depth old root address
    own_before address own = record {
      once = λ level number other b at there. own.once level number other b (at_flags level address number at) (at_flags other b number there);
    }

    pub spare_flags : (number : ℕ) → IsSpare depth old root number → IsSpare depth new root number
    spare_flags number spare = record {
      clear = zeros_flags number spare.clear;
      unreached = λ level b at. spare.unreached level b (at_before level b number at);
    }

  abbrev pub entry_as : (target : Target) {address word now : ℕ} {size : Size} (here : IsEntryOf target old address size word)
      → word_at new here.number (index_at here.level address) ≡ Some now → IsSameButFlags word now → IsEntryOf target new address size now
  entry_as target {address} here there alike = record {
    level = here.level;
    number = here.number;
    reached = at_flags target.depth target.root here.level address here.number here.reached;
    word_is = there;
    leaf = (
      here.leaf.0,
      here.leaf.1,
      flagged_meaning alike here.level (some_level target.depth old target.root here.level address here.number here.reached) ∙ here.leaf.2,
    );
    size_is = here.size_is;
  }

  pub entry_flags : (target : Target) (address word : ℕ) (size : Size) → IsEntryOf target old address size word
      → (now : ℕ) × IsEntryOf target new address size now × IsSameButFlags word now
  entry_flags target address word size here =
      let now = word_flags here.number (index_at here.level address) word here.word_is in (now.0, entry_as target here now.1 now.2, now.2)

  pub absent_flags : (level number index : ℕ) → 1 ≤ level → entry_in level old number index ≡ Some entry.Absent
      → entry_in level new number index ≡ Some entry.Absent
  unfolding entry_in
  absent_flags level number index some absent = by (word_at old number index) refl absent where
    by : (o : Option ℕ) → word_at old number index ≡ o → option_map (meaning level) o ≡ Some entry.Absent
        → option_map (meaning level) (word_at new number index) ≡ Some entry.Absent
    by None told says = absurd (cc)
    by (Some word) told says =
        let now = word_flags number index word told in
        ap (option_map (meaning level)) now.1 ∙ ap Some (flagged_meaning now.2 level some) ∙ says

  -- ---- entries that follow on

  pub follow_flags : (number : ℕ) (size : Size) (first now index : ℕ) → IsSameButFlags first now → FollowBelow old number size first index
      → FollowBelow new number size now index
  follow_flags number size first now index alike follow i low =
      let was = follow i low in
      let word = word_flags number i was.0 was.1 in
      (word.0, word.1, alike_unflagged word.2 ∙ was.2 ∙ ap (λ n. n + i * bytes_of size) (sym (alike_unflagged alike)))

  -- ---- entries that are like the first one

  pub like_flags : (number : ℕ) (size : Size) (first now index : ℕ) → IsSameButFlags first now → AreLikeBelow old number size first index
      → AreLikeBelow new number size now index
  like_flags number size first now index alike like i low =
      let was = like i low in
      let word = word_flags number i was.0 was.1 in
      (word.0, word.1, alike_like word.2 size ∙ was.2 ∙ sym (alike_like alike size))

-- ---- stores

pub record ArePaired (s t : Store) : Type 0 where
  pub frame : t.frame ≡ s.frame
  pub index : t.index ≡ s.index
  pub old : IsSameButFlags s.old t.old
  pub new : IsSameButFlags s.new t.new

pub same_store : (s : Store) → ArePaired s s
same_store s = record { frame = refl; index = refl; old = same_word s.old; new = same_word s.new }

pub same_stores : (xs : List Store) → AllZip ArePaired xs xs
same_stores [] = tt
same_stores (s ∷ xs) = (same_store s, same_stores xs)

pub zip_none : (xs ys : List Store) → AllZip ArePaired xs ys → xs ≡ [] → ys ≡ []
zip_none [] [] zip none = refl
zip_none [] (t ∷ ys) zip none = absurd zip
zip_none (s ∷ xs) ys zip none = absurd (cc)

pub zip_all : (P Q : Store → Type 0) → ((s t : Store) → ArePaired s t → P s → Q t) → (xs ys : List Store) → AllZip ArePaired xs ys → All P xs → All Q ys
zip_all P Q each [] [] zip all = All-nil Q
zip_all P Q each (s ∷ xs) (t ∷ ys) zip all = All-cons Q t ys (each s t zip.0 (All-head P s xs all)) (zip_all P Q each xs ys zip.1 (All-tail P s xs all))
zip_all P Q each _ _ zip all = absurd zip

-- what holds by two facts
pub zip_both : (P R Q : Store → Type 0) → ((s t : Store) → ArePaired s t → P s → R s → Q t) → (xs ys : List Store) → AllZip ArePaired xs ys
    → All P xs → All R xs → All Q ys
zip_both P R Q each [] [] zip all other = All-nil Q
zip_both P R Q each (s ∷ xs) (t ∷ ys) zip all other = All-cons Q t ys (each s t zip.0 (All-head P s xs all) (All-head R s xs other))
    (zip_both P R Q each xs ys zip.1 (All-tail P s xs all) (All-tail R s xs other))
zip_both P R Q each _ _ zip all other = absurd zip

pub zip_length : (xs ys : List Store) → AllZip ArePaired xs ys → length xs ≡ length ys
zip_length = length_all_zip ArePaired

pub stored_flags : {old new : Memory} → AreSameButFlags old new → (s t : Store) → ArePaired s t → IsSome (finite.get old s.frame)
    → AreSameButFlags (stored old s) (stored new t)
stored_flags {old} {new} is s t pair used =
    subst (λ (n : ℕ). AreSameButFlags (stored old s) (stored new (record t { frame = n }))) (sym pair.frame)
    (subst (λ (i : ℕ). AreSameButFlags (stored old s) (stored new (record { frame = s.frame; index = i; old = t.old; new = t.new }))) (sym pair.index)
    (same_stored is s.frame s.index s.new t.new used pair.new))

pub all_stored : {old new : Memory} → AreSameButFlags old new → (xs ys : List Store) → AllZip ArePaired xs ys → FindTheirWords old xs
    → AreSameButFlags (stored_all old xs) (stored_all new ys)
all_stored is [] [] zip found = is
all_stored is [] (t ∷ ys) zip found = absurd zip
all_stored is (s ∷ xs) [] zip found = absurd zip
all_stored {old = old} {new = new} is (s ∷ xs) (t ∷ ys) zip found =
    all_stored {old = stored old s} {new = stored new t} (stored_flags is s t zip.0 (used_word old s.frame s.index s.old found.0)) xs ys zip.1 found.1

pub some_stored : {old new : Memory} → AreSameButFlags old new → (n : ℕ) (xs ys : List Store) → AllZip ArePaired xs ys → FindTheirWords old xs
    → AreSameButFlags (stored_all old (take n xs)) (stored_all new (take n ys))
some_stored is zero xs ys zip found = is
some_stored is (suc n) [] [] zip found = is
some_stored is (suc n) [] (t ∷ ys) zip found = absurd zip
some_stored is (suc n) (s ∷ xs) [] zip found = absurd zip
some_stored {old = old} {new = new} is (suc n) (s ∷ xs) (t ∷ ys) zip found =
    some_stored {old = stored old s} {new = stored new t} (stored_flags is s t zip.0 (used_word old s.frame s.index s.old found.0)) n xs ys zip.1 found.1
