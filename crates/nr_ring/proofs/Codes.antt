-- The code of the value of the cell determines the tails, and each event raises it.
use Rattle.std.proofs.Common.{◌≡◌, ℕ, zero, suc, ◌+◌, ◌-◌, ◌*◌, ◌/◌, ◌%◌, ◌^◌, ◌<◌, ◌≤◌, Bool, true, false, nat_le, nat_lt, if◌then◌else◌, List, [], ◌∷◌}
use Rattle.std.proofs.Common.{length, get_or, set, take, refl, ap, sym, ◌∙◌, subst, arith, le_trans}
use Rattle.std.proofs.Common.{length-append, length-set, get_or-set_other, get_or-set_same}
use Rattle.std.proofs.Math.Nat.{le-max_left, le-max_right, max-le, le_antisymm}
use Rattle.std.proofs.lemmas.Bool.{le-leb, leb-false, leb-true}
use Rattle.std.specs.Prelude.{◌++◌, All, slice_index}
use mathlib.Core.Logic.{dite}
use native.Mathlib.Decide.{dec_le, ℕ_discrete}
use Rattle.vs_types.specs.declared.addresses.depth.Depth.{Depth}
use Rattle.vs_types.specs.declared.log_entry.LogEntry.{LogEntry}
use Rattle.version_cell.specs.inside.Heads.{IsHead}
use Rattle.nr_ring.specs.Laws.{FitsTheRing, HasSameTails}
use Rattle.nr_ring.specs.LogHistory.{Log, MayFollow, completed, greatest, local_of, log_after_event, tail}
use Rattle.nr_ring.specs.declared.ring.log_event.LogEvent.{LogEvent}
use Rattle.nr_ring.specs.declared.ring.log_event.LogEvent.TheVariants.{Append, Advance}
use Rattle.nr_ring.specs.inside.Batch.{AreSmall}
use Rattle.nr_ring.specs.inside.Held.{IsHeadOf}
use Rattle.nr_ring.specs.inside.Codes.{above, code_of, code_of_log, for_each, local_in, locals_in, most_in, packed, room_of, rooms_of, tails_word, word_in}
use Rattle.nr_ring.proofs.LocalTails.{below_greatest, greatest_least}
use Rattle.nr_ring.proofs.Packing.{Small, above_packed, few_low, field_packed, listed, packed_after, packed_end, packed_raised, room_in, rooms_long}
use Rattle.nr_ring.proofs.Packing.{same_listed, set_listed}

beyond : (xs : List ℕ) (i : ℕ) → length xs ≤ i → get_or xs i 0 ≡ 0
beyond [] i le = refl
beyond (x ∷ xs) zero le = absurd (omega arith)
beyond (x ∷ xs) (suc i) le = beyond xs i (omega arith)

-- how much room a replica has, which is one of so many or absent
record Room (tail local room n r : ℕ) : Type 0 where
  few : room ≤ 16
  here : r < n → local + 16 ≡ tail + room
  absent : n ≤ r → room ≡ 0

room_at : (log : Log) → FitsTheRing log → (r : ℕ) (b : Bool) → nat_le (r + 1) (length log.locals) ≡ b
    → Room (tail log) (local_of log r) (room_of (tail log) (local_of log r) b) (length log.locals) r
room_at log fits r true e =
    let lt = leb-true (r + 1) (length log.locals) e in
    let low = fits.written r in
    let up = fits.kept_up r (omega (arith, lt)) in
    record { few = omega (arith, low); here = λ _. omega (arith, up); absent = λ le. absurd (omega (arith, lt, le)) }
room_at log fits r false e =
    let gt = leb-false (r + 1) (length log.locals) e in
    record { few = omega arith; here = λ lt. absurd (omega (arith, lt, gt)); absent = λ _. refl }

room_is : (log : Log) → FitsTheRing log → (r : ℕ)
    → Room (tail log) (local_of log r) (room_of (tail log) (local_of log r) (nat_le (r + 1) (length log.locals))) (length log.locals) r
room_is log fits r = room_at log fits r (nat_le (r + 1) (length log.locals)) refl

-- the first places are those of the tails
pub word_early : (code place : ℕ) → place < 7 → word_in code place ≡ tails_word (code / 128) place
word_early code place lt = ap (λ (b : Bool). if b then tails_word (code / 128) place else code % 128) (le-leb (place + 1) 7 (omega arith))

-- the local tail is what a tail and its room say
local_at : (c x y t room l n r : ℕ) → c ≡ n → x ≡ t → y ≡ room → Room t l room n r → (n ≤ r → l ≡ 0) → (b : Bool) → nat_le (r + 1) c ≡ b
    → (if b then x + y - 16 else 0) ≡ l
local_at c x y t room l n r count tail has is none true e =
    let lt = leb-true (r + 1) c e in
    let here : l + 16 ≡ t + room = is.here (omega (arith, lt, count)) in
    omega (arith, tail, has, here)
local_at c x y t room l n r count tail has is none false e = let gt = leb-false (r + 1) c e in sym (none (omega (arith, gt, count)))

-- the greatest that a code has is that of a list
most_high : (code n m : ℕ) → ((r : ℕ) → r < n → local_in code r ≤ m) → most_in code n ≤ m
most_high code zero m low = omega arith
most_high code (suc n) m low = max-le (most_high code n m (λ r lt. low r (omega arith))) (low n (omega arith))

most_low : (code n r : ℕ) → r < n → local_in code r ≤ most_in code n
most_low code zero r lt = absurd (omega arith)
most_low code (suc n) r lt = dite (ℕ_discrete r n)
    (λ e. let P : ℕ → Type 0 = λ k. local_in code k ≤ most_in code (suc n) in subst P (sym e) (le-max_right (most_in code n) (local_in code n)))
    (λ other. le_trans (most_low code n r (omega (arith, other))) (le-max_left (most_in code n) (local_in code n)))

most_is : (code n : ℕ) (xs : List ℕ) → length xs ≤ n → ((r : ℕ) → r < n → local_in code r ≡ get_or xs r 0) → most_in code n ≡ greatest xs
most_is code n xs few same = le_antisymm
    (most_high code n (greatest xs) (λ r lt. omega (arith, same r lt, below_greatest xs r)))
    (greatest_least xs (most_in code n)
    (λ r. dite (dec_le n r) (λ high. let none = beyond xs r (omega (arith, few, high)) in omega (arith, none))
    (λ low. let lt : r < n = omega (arith, low) in omega (arith, same r lt, most_low code n r lt))))

-- the local tails of a log, and their rooms
abbrev pub locals_of : Log → List ℕ
locals_of log = for_each (local_of log) 0 4

abbrev rooms : Log → List ℕ
rooms log = rooms_of (tail log) (locals_of log) 0 (length log.locals)

room_at_place : (log : Log) (r : ℕ) → r < 4 → get_or (rooms log) r 0 ≡ room_of (tail log) (local_of log r) (nat_le (r + 1) (length log.locals))
room_at_place log r lt =
    let at : 0 + r ≡ r = omega arith in
    room_in (tail log) (locals_of log) 0 (length log.locals) r lt
    ∙ (λ i. room_of (tail log) ((listed (local_of log) 0 4 r lt ∙ ap (local_of log) at) i) (nat_le (at i + 1) (length log.locals)))

room_here : (log : Log) → FitsTheRing log → (r : ℕ) → r < 4 → Room (tail log) (local_of log r) (get_or (rooms log) r 0) (length log.locals) r
room_here log fits r lt =
    let P : ℕ → Type 0 = λ room. Room (tail log) (local_of log r) room (length log.locals) r in
    subst P (sym (room_at_place log r lt)) (room_is log fits r)

small_rooms : (log : Log) → FitsTheRing log → Small (rooms log)
small_rooms log fits k = dite (dec_le 4 k) (λ high. let none = beyond (rooms log) k high in omega (arith, none))
    (λ low. let few = (room_here log fits k (omega (arith, low))).few in omega (arith, few))

in_parts : (p n : ℕ) → n ≤ 4 → ((p * 8 + n) / 8 ≡ p) × ((p * 8 + n) % 8 ≡ n)
in_parts p n few = (omega arith, omega arith)

module _ (log : Log) (fits : FitsTheRing log) (few : length log.locals ≤ 4) where
  abbrev pub code : ℕ
  code = code_of_log log

  parts : (code / 8 ≡ packed (tail log) (rooms log)) × (code % 8 ≡ length log.locals)
  parts = in_parts (packed (tail log) (rooms log)) (length log.locals) few

  pub tells_count : code % 8 ≡ length log.locals
  tells_count = parts.1

  pub tells_tail : above (code / 8) 4 ≡ tail log
  tells_tail = ap (λ (z : ℕ). above z 4) parts.0 ∙ above_packed (tail log) (rooms log) (small_rooms log fits)

  tells_room : (r : ℕ) → r < 4 → above (code / 8) (4 - (r + 1)) % 32 ≡ get_or (rooms log) r 0
  tells_room r lt =
      ap (λ (z : ℕ). above z (4 - (r + 1)) % 32) parts.0 ∙ field_packed (tail log) (rooms log) r (small_rooms log fits) lt

  tells_local : (r : ℕ) → r < 4 → local_in code r ≡ local_of log r
  tells_local r lt =
      local_at (code % 8) (above (code / 8) 4) (above (code / 8) (4 - (r + 1)) % 32) (tail log) (get_or (rooms log) r 0) (local_of log r)
      (length log.locals) r tells_count tells_tail (tells_room r lt) (room_here log fits r lt) (beyond log.locals r)
      (nat_le (r + 1) (code % 8)) refl

  pub completed_told : tails_word code 1 ≡ completed log
  completed_told = most_is code 4 log.locals few tells_local

  pub local_told : (r : ℕ) → r < 4 → tails_word code (2 + r) ≡ local_of log r
  local_told r lt = local_word code r lt ∙ tells_local r lt where
    local_word : (code r : ℕ) → r < 4 → tails_word code (2 + r) ≡ local_in code r
    local_word code r lt =
        let at : 2 + r ≡ suc (suc r) = omega arith in
        ap (tails_word code) at ∙ ap (λ (b : Bool). if b then local_in code r else code % 8) (le-leb (r + 1) 4 (omega arith))

  -- what the code of a log says, with a ring, is that log's
  pub head_of_code : (last : ℕ) (head : List ℕ) → last < 128 → IsHead word_in (code * 128 + last) 8 head → IsHeadOf log last head
  head_of_code last head lt is =
      let tails : (code * 128 + last) / 128 ≡ code = omega arith in
      let rest : (code * 128 + last) % 128 ≡ last = omega arith in
      record {
        tail_is = is 0 (omega arith) ∙ (ap (λ (z : ℕ). tails_word z 0) tails ∙ tells_tail);
        completed_is = is 1 (omega arith) ∙ (ap (λ (z : ℕ). tails_word z 1) tails ∙ completed_told);
        locals_are = λ r low. is (2 + r) (omega arith) ∙ (early (code * 128 + last) r low ∙ ap (λ (z : ℕ). tails_word z (2 + r)) tails ∙ local_told r low);
        replicas_are = is 6 (omega arith) ∙ (ap (λ (z : ℕ). tails_word z 6) tails ∙ tells_count);
        last_is = is 7 (omega arith) ∙ rest;
      } where
        early : (code r : ℕ) → r < 4 → word_in code (2 + r) ≡ tails_word (code / 128) (2 + r)
        early code r low = word_early code (2 + r) (omega arith)

pub same_tails : (p q : Log) → FitsTheRing p → FitsTheRing q → length p.locals ≤ 4 → length q.locals ≤ 4 → code_of_log p ≡ code_of_log q → HasSameTails p q
same_tails p q fits fits' few few' same = record {
  tail = sym (tells_tail p fits few) ∙ (ap (λ (z : ℕ). above (z / 8) 4) same ∙ tells_tail q fits' few');
  locals = λ r. dite (dec_le 4 r) (λ high. beyond p.locals r (omega (arith, few, high)) ∙ sym (beyond q.locals r (omega (arith, few', high))))
      (λ not_high. let low : r < 4 = omega arith in
      sym (local_told p fits few r low) ∙ (ap (λ (z : ℕ). tails_word z (2 + r)) same ∙ local_told q fits' few' r low));
}

-- each event raises the code
eighth : (a b n m : ℕ) → a < b → m ≡ n → a * 8 + n < b * 8 + m
eighth a b n m lt same = omega arith

pub event_raises : (depth : Depth) (log : Log) (event : LogEvent) → FitsTheRing log → FitsTheRing (log_after_event log event)
    → length log.locals ≤ 4 → MayFollow depth log event
    → code_of_log log < code_of_log (log_after_event log event)
event_raises depth log (Append batch) fits after few may =
    let next = log_after_event log (Append batch) in
    let longer : tail log < tail next = omega (arith, length-append log.entries batch, may.some) in
    eighth (packed (tail log) (rooms log)) (packed (tail next) (rooms next)) (length log.locals) (length next.locals)
    (packed_after (tail log) (tail next) (rooms log) (rooms next) longer refl (small_rooms log fits)) refl
event_raises depth log (Advance replica to) fits after few may =
    let next = log_after_event log (Advance replica to) in
    let many : length next.locals ≡ length log.locals = length-set log.locals replica to in
    let there : replica < 4 = omega (arith, may.there, few) in
    let rises : local_of log replica < local_of next replica = omega (arith, get_or-set_same log.locals replica to 0 may.there, may.some) in
    let before = (room_here log fits replica there).here may.there in
    let now = (room_here next after replica there).here (omega (arith, many, may.there)) in
    let up : get_or (rooms log) replica 0 < get_or (rooms next) replica 0 = omega (arith, before, now, rises) in
    let same : (k : ℕ) → k < replica → get_or (rooms log) k 0 ≡ get_or (rooms next) k 0 =
    λ k lt. room_at_place log k (omega (arith, lt, there))
    ∙ (λ i. room_of (tail log) (sym (get_or-set_other log.locals replica k to 0 (λ e. omega (arith, e, lt))) i) (nat_le (k + 1) (sym many i)))
    ∙ sym (room_at_place next k (omega (arith, lt, there))) in
    eighth (packed (tail log) (rooms log)) (packed (tail log) (rooms next)) (length log.locals) (length next.locals)
    (packed_raised (tail log) (rooms log) (rooms next) replica there refl (small_rooms log fits) same up) many

locals_are : (log : Log) (last : ℕ) (head : List ℕ) → IsHeadOf log last head → locals_in head ≡ locals_of log
locals_are log last head is = same_listed (λ r. slice_index head (2 + r)) (local_of log) 0 4 (λ r low lt. is.locals_are r (omega (arith, lt)))

-- the local tails after an advance
advanced_locals : (log : Log) (replica to : ℕ) → replica < length log.locals → length log.locals ≤ 4
    → set (locals_of log) replica to ≡ locals_of (log_after_event log (Advance replica to))
advanced_locals log replica to there few =
    let at : 0 + replica ≡ replica = omega arith in
    let next = log_after_event log (Advance replica to) in
    set_listed (local_of log) (local_of next) 0 4 replica to (omega (arith, there, few))
    (sym (ap (local_of next) at ∙ get_or-set_same log.locals replica to 0 there))
    (λ k other. sym (get_or-set_other log.locals replica k to 0 (λ e. other (e ∙ sym at))))

pub append_code : (log : Log) (last : ℕ) (head : List ℕ) (batch : List LogEntry) (t : ℕ) → IsHeadOf log last head → t ≡ slice_index head 0 + length batch
    → code_of t (locals_in head) (slice_index head 6) ≡ code_of_log (log_after_event log (Append batch))
append_code log last head batch t is tail_is =
    let longer : t ≡ length (log.entries ++ batch) = omega (arith, tail_is, is.tail_is, length-append log.entries batch) in
    λ i. code_of (longer i) (locals_are log last head is i) (is.replicas_are i)

-- the code after an advance of a log with these local tails
raised_code : (log : Log) (replica to t n : ℕ) (locals : List ℕ) → replica < length log.locals → length log.locals ≤ 4 → t ≡ tail log
    → locals ≡ locals_of log → n ≡ length log.locals
    → code_of t (set locals replica to) n ≡ code_of_log (log_after_event log (Advance replica to))
raised_code log replica to t n locals there few tail_is same count =
    let moved = ap (λ (l : List ℕ). set l replica to) same ∙ advanced_locals log replica to there few in
    λ i. code_of (tail_is i) (moved i) ((count ∙ sym (length-set log.locals replica to)) i)

pub advance_code : (log : Log) (last : ℕ) (head : List ℕ) (replica to t : ℕ) → IsHeadOf log last head → replica < length log.locals → length log.locals ≤ 4
    → t ≡ tail log
    → code_of t (set (locals_in head) replica to) (slice_index head 6) ≡ code_of_log (log_after_event log (Advance replica to))
advance_code log last head replica to t is there few tail_is =
    raised_code log replica to t (slice_index head 6) (locals_in head) there few tail_is (locals_are log last head is) is.replicas_are

-- and after an append and then an advance
pub both_code : (log : Log) (last : ℕ) (head : List ℕ) (batch : List LogEntry) (replica to t : ℕ) → IsHeadOf log last head → replica < length log.locals
    → length log.locals ≤ 4
    → t ≡ tail log + length batch
    → code_of t (set (locals_in head) replica to) (slice_index head 6)
    ≡ code_of_log (log_after_event (log_after_event log (Append batch)) (Advance replica to))
both_code log last head batch replica to t is there few tail_is =
    raised_code (log_after_event log (Append batch)) replica to t (slice_index head 6) (locals_in head) there few
    (tail_is ∙ sym (length-append log.entries batch)) (locals_are log last head is) is.replicas_are

-- the local tails that a head has are small, and stay so where one is raised to a small one
pub small_locals : (head locals : List ℕ) → AreSmall head → locals ≡ locals_in head → All (λ local. local ≤ 16106127360) locals
small_locals head locals small is = subst (λ (l : List ℕ). All (λ local. local ≤ 16106127360) l) (sym is) each where
  each : All (λ local. local ≤ 16106127360) (locals_in head)
  each zero d lt = small.tails 2 (omega arith)
  each (suc zero) d lt = small.tails 3 (omega arith)
  each (suc (suc zero)) d lt = small.tails 4 (omega arith)
  each (suc (suc (suc zero))) d lt = small.tails 5 (omega arith)
  each (suc (suc (suc (suc k)))) d lt = absurd (omega arith)

pub small_still : (locals : List ℕ) (replica to : ℕ) → replica < length locals → All (λ local. local ≤ 16106127360) locals → to ≤ 16106127360
    → All (λ local. local ≤ 16106127360) (set locals replica to)
small_still locals replica to inside all le k d lt = dite (ℕ_discrete k replica)
    (λ e. omega (arith, le, ap (λ (z : ℕ). get_or (set locals replica to) z d) e ∙ get_or-set_same locals replica to d inside))
    (λ other. omega (arith, all k d (omega (arith, lt, length-set locals replica to)), get_or-set_other locals replica k to d other))

-- the code of small tails is small
item_small : (locals : List ℕ) (k : ℕ) → All (λ local. local ≤ 16106127360) locals → get_or locals k 0 ≤ 16106127360
item_small [] k all = omega arith
item_small (x ∷ xs) zero all = all 0 0 (omega arith)
item_small (x ∷ xs) (suc k) all = item_small xs k (λ i d lt. all (suc i) d (omega arith))

room_small : (tail local : ℕ) (b : Bool) → local ≤ 16106127360 → room_of tail local b ≤ 16106127376
room_small tail local true le = omega arith
room_small tail local false le = omega arith

rooms_small : (tail count first : ℕ) (locals : List ℕ) (k : ℕ) → All (λ local. local ≤ 16106127360) locals
    → get_or (rooms_of tail locals first count) k 0 ≤ 16106127376
rooms_small tail count first locals k all = dite (dec_le (length locals) k)
    (λ high. let none = beyond (rooms_of tail locals first count) k (omega (arith, rooms_long tail locals first count, high)) in omega (arith, none))
    (λ low.
    let lt : k < length locals = omega (arith, low) in
    let b = nat_le (first + k + 1) count in
    omega (arith, room_in tail locals first count k lt, room_small tail (get_or locals k 0) b (item_small locals k all)))

pub low_codes : (tail count first : ℕ) (locals : List ℕ) → tail ≤ 16106127360 → length locals ≤ 4 → All (λ local. local ≤ 16106127360) locals
    → packed tail (rooms_of tail locals first count) < 2 ^ 54
low_codes tail count first locals low few all =
    few_low tail (rooms_of tail locals first count) low (omega (arith, rooms_long tail locals first count, few))
    (λ k. rooms_small tail count first locals k all)

pub small_codes : (tail count : ℕ) (locals : List ℕ) → tail ≤ 16106127360 → count ≤ 4 → length locals ≤ 4 → All (λ local. local ≤ 16106127360) locals
    → code_of tail locals count < 2 ^ 57
small_codes tail count locals low few long all =
    let packed_low = low_codes tail count 0 locals low long all in
    eight (packed tail (rooms_of tail locals 0 count)) count packed_low few where
      eight : (p count : ℕ) → p < 2 ^ 54 → count ≤ 4 → p * 8 + count < 2 ^ 57
      eight p count low few = omega arith

pub all_taken : (n : ℕ) (xs : List ℕ) → All (λ local. local ≤ 16106127360) xs → All (λ local. local ≤ 16106127360) (take n xs)
all_taken zero xs all k d lt = absurd (omega arith)
all_taken (suc n) [] all k d lt = absurd (omega arith)
all_taken (suc n) (x ∷ xs) all zero d lt = all 0 d (omega arith)
all_taken (suc n) (x ∷ xs) all (suc k) d lt = all_taken n xs (λ j e le. all (suc j) e (omega arith)) k d (omega arith)

few_taken : (n : ℕ) (xs : List ℕ) → length (take n xs) ≤ n
few_taken zero xs = omega arith
few_taken (suc n) [] = omega arith
few_taken (suc n) (x ∷ xs) = let rest = few_taken n xs in omega arith

-- and so is that of the first local tails, so many
pub low_start : (tail count n : ℕ) (locals : List ℕ) → tail ≤ 16106127360 → n ≤ 4 → All (λ local. local ≤ 16106127360) locals
    → packed tail (rooms_of tail (take n locals) 0 count) < 2 ^ 54
low_start tail count n locals low few all = low_codes tail count 0 (take n locals) low (omega (arith, few_taken n locals, few)) (all_taken n locals all)

pub low_room : (tail count k : ℕ) (locals : List ℕ) → All (λ local. local ≤ 16106127360) locals → room_of tail (get_or locals k 0)
    (nat_le (k + 1) count) ≤ 16106127376
low_room tail count k locals all = room_small tail (get_or locals k 0) (nat_le (k + 1) count) (item_small locals k all)

-- one local tail more
pub one_room_more : (tail count n : ℕ) (locals : List ℕ) → n < length locals
    → packed tail (rooms_of tail (take (n + 1) locals) 0 count)
    ≡ packed tail (rooms_of tail (take n locals) 0 count) * 32 + room_of tail (get_or locals n 0) (nat_le (n + 1) count)
one_room_more tail count n locals lt =
    let at : 0 + n + 1 ≡ n + 1 = omega arith in
    let Rooms : ℕ → List ℕ = λ k. rooms_of tail (take n locals) 0 count ++ room_of tail (get_or locals n 0) (nat_le k count) ∷ [] in
    ap (packed tail) (rooms_more tail count n 0 locals lt ∙ ap Rooms at)
    ∙ packed_end tail (rooms_of tail (take n locals) 0 count) (room_of tail (get_or locals n 0) (nat_le (n + 1) count)) where
      rooms_more : (tail count n first : ℕ) (locals : List ℕ) → n < length locals
          → rooms_of tail (take (n + 1) locals) first count
          ≡ rooms_of tail (take n locals) first count ++ room_of tail (get_or locals n 0) (nat_le (first + n + 1) count) ∷ []
      rooms_more tail count n first [] lt = absurd (omega arith)
      rooms_more tail count zero first (l ∷ ls) lt = ap (λ (k : ℕ). room_of tail l (nat_le k count) ∷ []) (omega arith)
      rooms_more tail count (suc n) first (l ∷ ls) lt =
          let room = room_of tail l (nat_le (first + 1) count) in
          let at : suc n + 1 ≡ suc (n + 1) = omega arith in
          ap (λ (k : ℕ). rooms_of tail (take k (l ∷ ls)) first count) at
          ∙ ap (λ (r : List ℕ). room ∷ r) (rooms_more tail count n (first + 1) ls (omega arith))
          ∙ ap (λ (k : ℕ). room ∷ (rooms_of tail (take n ls) (first + 1) count ++ room_of tail (get_or ls n 0) (nat_le k count) ∷ [])) (omega arith)

pub test_same : (n count : ℕ) → nat_lt n count ≡ nat_le (n + 1) count
test_same n count = let at : suc n ≡ n + 1 = omega arith in ap (λ (k : ℕ). nat_le k count) at
