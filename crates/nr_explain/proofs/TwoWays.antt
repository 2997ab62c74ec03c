-- A frame that is visited twice is at the end of two ways.
use Rattle.std.proofs.Common.{◌≡◌, ℕ, zero, suc, ◌+◌, ◌*◌, ◌<◌, ◌⊎◌, inl, inr, List, [], ◌∷◌, ◌++◌, Some, None, length, get_or, flat_map, refl, sym, ap}
use Rattle.std.proofs.Common.{subst, ⊎_elim, arith, Contains}
use Rattle.std.specs.FinMap as finite
use Rattle.std.specs.List.{enumerate_from}
use Rattle.std.proofs.lemmas.List.Elements.{Contains-append_cases, Contains-append_right}
use Rattle.vs_types.specs.Depth.{levels, entry_bytes}
use Rattle.vs_types.specs.Page.{intersection}
use Rattle.vs_types.specs.Entry.{meaning}
use Rattle.vs_types.specs.declared.addresses.depth.Depth.{Depth}
use Rattle.vs_types.specs.declared.entries.entry.Meaning.{Meaning}
use Rattle.vs_types.specs.declared.entries.entry.Meaning.TheVariants as entry
use Rattle.vs_types.proofs.Lists.{Contains-cases, Contains-head, Contains-tail, not_in_nil}
use Rattle.vs_walk.specs.Memory.{Memory}
use Rattle.vs_walk.specs.Walk.{all_rights}
use Rattle.vs_walk.specs.Traversal.{Visit, OfFrame, OfLeaf, OfReservedBit, ReachedTable, entry_visits, table_visits, traversal, reached, walk_fault}
use Rattle.vs_walk.specs.declared.walk.WalkFault.TheVariants as walks
use Rattle.vs_walk.proofs.LawsOfLists.{contained_at_some_word}
use Rattle.vs_walk.proofs.LawsOfTraversals.{shared_reached}
use Rattle.vs_walk.proofs.LawsOfVisits.{at_word_met, table_met, missing_met, nothing_met, reached_is_met}
use Rattle.nr_explain.specs.Facts.{IsPath, LeadsOn}
use Rattle.nr_explain.specs.inside.Ways.{HasTwoWays}
use Rattle.nr_explain.specs.declared.trace.evidence.TableEntry.{TableEntry}
use Rattle.nr_explain.proofs.Searches.{entry_of}
use Rattle.nr_explain.proofs.Ways.{lower, page_by, table_way}

-- ---- twice in a list

abbrev Twice : Visit → List Visit → Type 0
Twice v [] = ⊥
Twice v (m ∷ ms) = ((m ≡ v) × Contains ms v) ⊎ Twice v ms

abbrev TwiceAmong : ℕ → List ℕ → Type 0
TwiceAmong n [] = ⊥
TwiceAmong n (m ∷ ms) = ((m ≡ n) × Contains ms n) ⊎ TwiceAmong n ms

twice_split : (n : ℕ) (before after : List ℕ) → Contains before n → TwiceAmong n (before ++ n ∷ after)
twice_split n [] after h = absurd (not_in_nil n h)
twice_split n (m ∷ before) after h = ⊎_elim
    (λ same. inl (same, Contains-append_right before (n ∷ after) n (Contains-head n after)))
    (λ later. inr (twice_split n before after later))
    (Contains-cases m before n h)

twice_reached : (n : ℕ) (ms : List Visit) → TwiceAmong n (reached ms) → Twice (OfFrame n) ms
twice_reached n [] h = h
twice_reached n (OfFrame m ∷ ms) (inl h) = inl (ap (λ k. OfFrame k) h.0, reached_is_met ms n h.1)
twice_reached n (OfFrame m ∷ ms) (inr h) = inr (twice_reached n ms h)
twice_reached n (OfLeaf page ∷ ms) h = inr (twice_reached n ms h)
twice_reached n (OfReservedBit number index ∷ ms) h = inr (twice_reached n ms h)

abbrev InParts : Visit → List Visit → List Visit → Type 0
InParts v xs ys = Twice v xs ⊎ ((Contains xs v × Contains ys v) ⊎ Twice v ys)

one_more : (v x : Visit) (xs ys : List Visit) → InParts v xs ys → InParts v (x ∷ xs) ys
one_more v x xs ys (inl h) = inl (inr h)
one_more v x xs ys (inr (inl h)) = inr (inl (Contains-tail x xs v h.0, h.1))
one_more v x xs ys (inr (inr h)) = inr (inr h)

twice_append : (v : Visit) (xs ys : List Visit) → Twice v (xs ++ ys) → InParts v xs ys
twice_append v [] ys h = inr (inr h)
twice_append v (x ∷ xs) ys (inl h) = ⊎_elim
    (λ here. inl (inl (h.0, here)))
    (λ there. inr (inl (subst (λ m. Contains (x ∷ xs) m) h.0 (Contains-head x xs), there)))
    (Contains-append_cases xs ys v h.1)
twice_append v (x ∷ xs) ys (inr h) = one_more v x xs ys (twice_append v xs ys h)

-- at one word twice, or at two words
abbrev AtOneWord : (ℕ × ℕ → List Visit) → Visit → List ℕ → ℕ → Type 0
AtOneWord f v words from = (k : ℕ) × (k < length words) × Twice v (f (from + k, get_or words k 0))

record AtTwoWords (f : ℕ × ℕ → List Visit) (v : Visit) (words : List ℕ) (from : ℕ) : Type 0 where
  j : ℕ
  k : ℕ
  order : j < k
  within : k < length words
  first : Contains (f (from + j, get_or words j 0)) v
  second : Contains (f (from + k, get_or words k 0)) v

abbrev AtWords : (ℕ × ℕ → List Visit) → Visit → List ℕ → ℕ → Type 0
AtWords f v words from = AtOneWord f v words from ⊎ AtTwoWords f v words from

one_word_more : (f : ℕ × ℕ → List Visit) (v : Visit) (word : ℕ) (words : List ℕ) (from : ℕ) → AtWords f v words (from + 1)
    → AtWords f v (word ∷ words) from
one_word_more f v word words from (inl one) =
    let within = one.1 in
    inl (suc one.0, omega arith, subst (λ i. Twice v (f (i, get_or words one.0 0))) (omega arith) one.2)
one_word_more f v word words from (inr two) =
    let order = two.order in
    let within = two.within in
    inr (record {
      j = suc two.j;
      k = suc two.k;
      order = omega arith;
      within = omega arith;
      first = subst (λ i. Contains (f (i, get_or words two.j 0)) v) (omega arith) two.first;
      second = subst (λ i. Contains (f (i, get_or words two.k 0)) v) (omega arith) two.second;
    })

by_parts : (f : ℕ × ℕ → List Visit) (v : Visit) (word : ℕ) (words : List ℕ) (from : ℕ)
    → (Twice v (flat_map f (enumerate_from (from + 1) words)) → AtWords f v words (from + 1))
    → InParts v (f (from, word)) (flat_map f (enumerate_from (from + 1) words)) → AtWords f v (word ∷ words) from
by_parts f v word words from later (inl here) = inl (0, omega arith, subst (λ i. Twice v (f (i, word))) (omega arith) here)
by_parts f v word words from later (inr (inl both)) =
    let at = contained_at_some_word f words (from + 1) v both.1 in
    let within = at.1 in
    inr (record {
      j = 0;
      k = suc at.0;
      order = omega arith;
      within = omega arith;
      first = subst (λ i. Contains (f (i, word)) v) (omega arith) both.0;
      second = subst (λ i. Contains (f (i, get_or words at.0 0)) v) (omega arith) at.2;
    })
by_parts f v word words from later (inr (inr there)) = one_word_more f v word words from (later there)

at_words : (f : ℕ × ℕ → List Visit) (v : Visit) (words : List ℕ) (from : ℕ) → Twice v (flat_map f (enumerate_from from words)) → AtWords f v words from
at_words f v [] from h = absurd h
at_words f v (word ∷ words) from h = by_parts f v word words from (λ there. at_words f v words (from + 1) there)
    (twice_append v (f (from, word)) (flat_map f (enumerate_from (from + 1) words)) h)

-- ---- ways by their first entries

record BeginsBy (memory : Memory) (level number target : ℕ) (step : TableEntry) : Type 0 where
  rest : List TableEntry
  end : ℕ
  leads : IsPath memory level number end target (step ∷ rest)

frame_met : (depth : Depth) (memory : Memory) (level : ℕ) (table : ReachedTable) (words : List ℕ) (index target : ℕ) (means : Meaning)
    → finite.get memory table.number ≡ Some words → index < length words → meaning (suc level) (get_or words index 0) ≡ means
    → Contains (entry_visits depth (suc level) table index (λ next. table_visits depth memory level next) means) (OfFrame target)
    → BeginsBy memory (suc level) table.number target (entry_of (suc level) table.number words index)
frame_met depth memory level table words index target entry.Absent is within says met = absurd (not_in_nil (OfFrame target) met)
frame_met depth memory level table words index target entry.Reserved is within says met = ⊎_elim
    (λ same. absurd cc)
    (λ later. absurd (not_in_nil (OfFrame target) later))
    (Contains-cases (OfReservedBit table.number index) [] (OfFrame target) met)
frame_met depth memory level table words index target (entry.Leaf phys own) is within says met = ⊎_elim
    (λ same. absurd cc)
    (λ later. absurd (not_in_nil (OfFrame target) later))
    (Contains-cases (OfLeaf (page_by depth (suc level) table index phys own)) [] (OfFrame target) met)
frame_met depth memory level table words index target (entry.Table number own) is within says met =
    let next : ReachedTable = record { number = number; start = table.start + index * entry_bytes (suc level); rights = intersection table.rights own } in
    let has = table_way depth memory level next (OfFrame target) met in
    record {
      rest = has.way;
      end = has.end;
      leads = (
        refl,
        refl,
        (
          number,
          record { words = words; own = own; there = is; within = within; read = refl; leads = says },
          subst (λ l. IsPath memory l number has.end target has.way) (lower level)
              (subst (λ n. IsPath memory level number has.end n has.way) (sym has.visited) has.leads),
        ),
      );
    }

begins_at : (depth : Depth) (memory : Memory) (level : ℕ) (table : ReachedTable) (words : List ℕ) (index target : ℕ)
    → finite.get memory table.number ≡ Some words → index < length words
    → Contains (at_word_met depth memory level table (index, get_or words index 0)) (OfFrame target)
    → BeginsBy memory (suc level) table.number target (entry_of (suc level) table.number words index)
begins_at depth memory level table words index target is within met =
    frame_met depth memory level table words index target (meaning (suc level) (get_or words index 0)) is within refl met

-- ---- two ways

abbrev LowerTwo : Depth → Memory → ℕ → ℕ → Type 0
LowerTwo depth memory level target = (next : ReachedTable) → Twice (OfFrame target) (table_visits depth memory level next)
    → HasTwoWays memory level next.number target

twice_below : (depth : Depth) (memory : Memory) (level : ℕ) (table : ReachedTable) (words : List ℕ) (index target : ℕ) (means : Meaning)
    → LowerTwo depth memory level target
    → finite.get memory table.number ≡ Some words → index < length words → meaning (suc level) (get_or words index 0) ≡ means
    → Twice (OfFrame target) (entry_visits depth (suc level) table index (λ next. table_visits depth memory level next) means)
    → HasTwoWays memory (suc level) table.number target
twice_below depth memory level table words index target entry.Absent two is within says met = absurd met
twice_below depth memory level table words index target (entry.Table number own) two is within says met =
    let below = two (record { number = number; start = table.start + index * entry_bytes (suc level); rights = intersection table.rights own }) met in
    let step : TableEntry = entry_of (suc level) table.number words index in
    let on : LeadsOn memory step number = record { words = words; own = own; there = is; within = within; read = refl; leads = says } in
    record {
      first = step ∷ below.first;
      second = step ∷ below.second;
      first_end = below.first_end;
      second_end = below.second_end;
      first_leads = (refl, refl, (number, on, subst (λ l. IsPath memory l number below.first_end target below.first) (lower level) below.first_leads));
      second_leads = (refl, refl, (number, on, subst (λ l. IsPath memory l number below.second_end target below.second) (lower level) below.second_leads));
      apart = λ same. below.apart cc;
    }
twice_below depth memory level table words index target _ two is within says (inl met) = absurd (not_in_nil (OfFrame target) met.1)
twice_below depth memory level table words index target _ two is within says (inr met) = absurd met

at_some : (depth : Depth) (memory : Memory) (level : ℕ) (table : ReachedTable) (target : ℕ) (words : List ℕ) → LowerTwo depth memory level target
    → finite.get memory table.number ≡ Some words → AtWords (at_word_met depth memory level table) (OfFrame target) words 0
    → HasTwoWays memory (suc level) table.number target
at_some depth memory level table target words lower_two is (inl one) =
    twice_below depth memory level table words one.0 target (meaning (suc level) (get_or words one.0 0)) lower_two is one.1 refl
    (subst (λ i. Twice (OfFrame target) (at_word_met depth memory level table (i, get_or words one.0 0))) (omega arith) one.2)
at_some depth memory level table target words lower_two is (inr two) =
    let order = two.order in
    let first = begins_at depth memory level table words two.j target is (omega (arith, two.within))
    (subst (λ i. Contains (at_word_met depth memory level table (i, get_or words two.j 0)) (OfFrame target)) (omega arith) two.first) in
    let second = begins_at depth memory level table words two.k target is two.within
    (subst (λ i. Contains (at_word_met depth memory level table (i, get_or words two.k 0)) (OfFrame target)) (omega arith) two.second) in
    record {
      first = entry_of (suc level) table.number words two.j ∷ first.rest;
      second = entry_of (suc level) table.number words two.k ∷ second.rest;
      first_end = first.end;
      second_end = second.end;
      first_leads = first.leads;
      second_leads = second.leads;
      apart = λ same. let equal : two.j ≡ two.k = cc in omega arith;
    }

of_words : (depth : Depth) (memory : Memory) (level : ℕ) (table : ReachedTable) (target : ℕ) (words : List ℕ) → LowerTwo depth memory level target
    → finite.get memory table.number ≡ Some words
    → Twice (OfFrame target) (OfFrame table.number ∷ flat_map (at_word_met depth memory level table) (enumerate_from 0 words))
    → HasTwoWays memory (suc level) table.number target
of_words depth memory level table target words lower_two is (inl h) =
    let frame = h.0 in
    let at = contained_at_some_word (at_word_met depth memory level table) words 0 (OfFrame target) h.1 in
    let second = begins_at depth memory level table words at.0 target is at.1
    (subst (λ i. Contains (at_word_met depth memory level table (i, get_or words at.0 0)) (OfFrame target)) (omega arith) at.2) in
    record {
      first = [];
      second = entry_of (suc level) table.number words at.0 ∷ second.rest;
      first_end = suc level;
      second_end = second.end;
      first_leads = (refl, cc);
      second_leads = second.leads;
      apart = λ same. cc;
    }
of_words depth memory level table target words lower_two is (inr h) =
    at_some depth memory level table target words lower_two is (at_words (at_word_met depth memory level table) (OfFrame target) words 0 h)

alone : (memory : Memory) (level number target : ℕ) → Twice (OfFrame target) (OfFrame number ∷ []) → HasTwoWays memory level number target
alone memory level number target (inl h) = absurd (not_in_nil (OfFrame target) h.1)
alone memory level number target (inr h) = absurd h

two_ways : (depth : Depth) (memory : Memory) (level : ℕ) (table : ReachedTable) (target : ℕ)
    → Twice (OfFrame target) (table_visits depth memory level table) → HasTwoWays memory level table.number target
two_ways depth memory zero table target met =
    let none : Twice (OfFrame target) [] = subst (λ ms. Twice (OfFrame target) ms) (nothing_met depth memory table) met in
    absurd none
two_ways depth memory (suc level) table target met =
    elim (finite.get memory table.number) as (λ o. finite.get memory table.number ≡ o → HasTwoWays memory (suc level) table.number target) [
      | None ↦ λ is. alone memory (suc level) table.number target
          (subst (λ ms. Twice (OfFrame target) ms) (missing_met depth memory level table is) met)
      | Some words ↦ λ is. of_words depth memory level table target words (λ next. two_ways depth memory level next target) is
          (subst (λ ms. Twice (OfFrame target) ms) (table_met depth memory level table words is) met)
    ] refl

-- where a frame is reached twice, two ways lead to it from the root
pub shared_has_two : (depth : Depth) (memory : Memory) (root frame : ℕ) → walk_fault depth memory root ≡ Some (walks.Shared frame)
    → HasTwoWays memory (levels depth) root frame
shared_has_two depth memory root frame fault =
    let split = shared_reached depth memory root frame fault in
    two_ways depth memory (levels depth) (record { number = root; start = 0; rights = all_rights }) frame
    (twice_reached frame (traversal depth memory root)
    (subst (λ ns. TwiceAmong frame ns) (sym split.2) (twice_split frame split.0 split.1 split.3)))
