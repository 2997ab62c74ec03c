-- What each step keeps of the words, the log and those who work at the nodes.
use Rattle.std.proofs.Common.{◌≡◌, ℕ, suc, ◌+◌, ◌-◌, ◌*◌, ◌/◌, ◌%◌, ◌<◌, ◌≤◌, ◌==◌, nat_lt, Bool, true, false, cond, Option, Some, None, List, [], ◌∷◌, length, refl, ap, sym, subst, ◌∙◌, ◌⊎◌, inl, inr, arith}
use Rattle.std.specs.Prelude.{min, max, drop, IsSome, IsNone}
use Rattle.std.proofs.lemmas.Bool.Decides.{nat_tests}
use Rattle.nr_machine.specs.declared.words.Update.{Update}
use Rattle.nr_machine.specs.declared.words.Operation.TheVariants.{Load, Store, Exchange, Max}
use Rattle.nr_machine.specs.declared.words.Word.TheVariants.{Head, Completed, Local, Done, First, Second}
use Rattle.nr_machine.specs.Words.{Words, packed, stored, with_at, with_word}
use Rattle.nr_machine.specs.Actor.{Actor, MayAppend, MayApply, MayBegin, MayDo, MayLoad, applies, begins, ends, got_entry, learned, link_of, sees, update_at}
use Rattle.nr_machine.specs.World.{Log, appended, maker}
use Rattle.nr_machine.proofs.Cases.{at_cases, below_cases, clash, elsewhere, at_it, high, low, near, not_last, same_high, same_low, word_cases}
use Rattle.nr_machine.proofs.Kept.{AreEntries, IsActor, IsKept, IsLater, Lies, others_stay, with_actor}

-- only one who works at a node changed
pub actor_alone : (nodes : ℕ) (words : Words) (log : Log) (actor : ℕ → Actor) (n : ℕ) (new : Actor) → IsKept nodes words log actor
    → IsActor words log n new → IsKept nodes words log (with_at actor n new)
actor_alone nodes words log actor n new kept is = record {
  head = kept.head;
  small = kept.small;
  makers = kept.makers;
  near = kept.near;
  there = kept.there;
  actors = with_actor (λ m a. IsActor words log m a) nodes actor n new is (λ m lt apart. kept.actors m lt);
}

-- it sees the tail
pub sees_tail : (words : Words) (log : Log) (n : ℕ) (a : Actor) → IsActor words log n a → log.link log.tail < 128
    → IsActor words log n (sees a log.tail (log.link log.tail))
sees_tail words log n a k lt = record {
  seen = omega arith;
  alone = λ p from to. absurd (omega (arith, from, to));
  scan = k.scan;
  wrote = λ i none. absurd (omega (arith, none));
  linked = λ i none. absurd (omega (arith, none));
  few = (omega arith, omega arith, k.few.2);
  local = k.local;
  order = let one = k.order.1 in let two = k.seen in (k.order.0, omega (arith, one, two));
  count = omega arith;
  got = tt;
  ring = λ some. refl;
  last = refl;
  half = λ v some is. absurd (cc);
}

pub sees_head : (words : Words) (log : Log) (n : ℕ) (a : Actor) (value : ℕ) → IsActor words log n a → log.link log.tail < 128
    → value ≡ packed log.tail (log.link log.tail) → IsActor words log n (sees a (value / 128) (value % 128))
sees_head words log n a value k lt is =
    let one : value / 128 ≡ log.tail = ap (λ (v : ℕ). v / 128) is ∙ high log.tail (log.link log.tail) lt in
    let two : value % 128 ≡ log.link log.tail = ap (λ (v : ℕ). v % 128) is ∙ low log.tail (log.link log.tail) lt in
    subst (λ t. IsActor words log n (sees a t (value % 128))) (sym one)
    (subst (λ l. IsActor words log n (sees a log.tail l)) (sym two) (sees_tail words log n a k lt))

pub loads_completed : (words : Words) (log : Log) (n : ℕ) (a : Actor) (value : ℕ) → IsActor words log n a
    → IsActor words log n (record a { published = value })
loads_completed words log n a value k = record {
  seen = k.seen;
  alone = k.alone;
  scan = k.scan;
  wrote = k.wrote;
  linked = k.linked;
  few = k.few;
  local = k.local;
  order = k.order;
  count = k.count;
  got = k.got;
  ring = k.ring;
  last = k.last;
  half = k.half;
}

pub loads_local : (words : Words) (log : Log) (n : ℕ) (a : Actor) (r : ℕ) → IsActor words log n a → r ≤ a.asked
    → IsActor words log n (learned n a (Load (Local r)) (words.local r))
loads_local words log n a r k le = record {
  seen = k.seen;
  alone = k.alone;
  wrote = k.wrote;
  linked = k.linked;
  few = k.few;
  local = k.local;
  order = k.order;
  count = k.count;
  got = k.got;
  ring = k.ring;
  last = k.last;
  half = k.half;
  scan = λ s lt. least s lt (r == 0) refl (nat_lt s r) refl;
} where
  both : (x y z : ℕ) → (x ≤ z) ⊎ (y ≤ z) → min x y ≤ z
  both x y z (inl le) = omega (arith, le)
  both x y z (inr le) = omega (arith, le)

  least : (s : ℕ) → s < r + 1 → (b : Bool) → (r == 0) ≡ b → (c : Bool) → nat_lt s r ≡ c
      → cond b (words.local r) (min a.least (words.local r)) ≤ words.local s
  least s lt true e c f = let one : s ≡ r = grind (arith, nat_tests, e, lt) in let same = ap words.local one in omega (arith, same)
  least s lt false e true f =
      both a.least (words.local r) (words.local s)
      (inl (k.scan s (let lt : s < r = grind (arith, nat_tests, f) in omega (arith, lt, le))))
  least s lt false e false f = let one : s ≡ r = grind (arith, nat_tests, f, lt) in let same = ap words.local one in
      both a.least (words.local r) (words.local s) (inr (omega (arith, same)))

-- what it loads is the entry below those that it has
pub lies_below : (nodes : ℕ) (words : Words) (log : Log) (actor : ℕ → Actor) (n : ℕ) → IsKept nodes words log actor → n < nodes
    → (actor n).taken < (actor n).from → Lies words log ((actor n).from - 1)
lies_below nodes words log actor n kept lt some =
    let k = kept.actors n lt in
    let local = k.local in
    let count = k.count in
    let seen = k.seen in
    kept.there n ((actor n).from - 1) lt (omega (arith, local, some)) (omega (arith, count, seen, some))

pub ring_below : (log : Log) (a : Actor) (r : ℕ) → 0 < a.from → a.ring ≡ log.link a.from → r ≡ a.ring → r ≡ maker log (a.from - 1)
ring_below log a r some ring is = is ∙ ring ∙ ap log.link (let e : a.from ≡ a.from - 1 + 1 = omega (arith, some) in e)

pub loads_first : (nodes : ℕ) (words : Words) (log : Log) (actor : ℕ → Actor) (n r i : ℕ) → IsKept nodes words log actor → n < nodes
    → MayLoad (actor n) r i → IsActor words log n (learned n (actor n) (Load (First r i)) (words.first r i))
loads_first nodes words log actor n r i kept lt may =
    let a = actor n in
    let k = kept.actors n lt in
    let some = may.0 in
    let lies = lies_below nodes words log actor n kept lt may.0 in
    let ring = ring_below log a r (omega (arith, some)) (k.ring may.0) may.1 in
    record {
      seen = k.seen;
      alone = k.alone;
      scan = k.scan;
      wrote = k.wrote;
      linked = k.linked;
      few = k.few;
      local = k.local;
      order = k.order;
      count = k.count;
      got = k.got;
      ring = k.ring;
      last = k.last;
      half = λ v has is. sym (some_of is) ∙ ap (λ (q : ℕ). words.first q i) ring
          ∙ ap (λ (j : ℕ). words.first (maker log (a.from - 1)) j) may.2 ∙ lies.0;
    } where
      value_of : Option ℕ → ℕ
      value_of None = 0
      value_of (Some x) = x

      some_of : {x y : ℕ} → Some x ≡ Some y → x ≡ y
      some_of {x} {y} e = ap value_of e

pub loads_second : (nodes : ℕ) (words : Words) (log : Log) (actor : ℕ → Actor) (n r i : ℕ) → IsKept nodes words log actor → n < nodes
    → MayLoad (actor n) r i → IsSome (actor n).half → IsActor words log n (learned n (actor n) (Load (Second r i)) (words.second r i))
loads_second nodes words log actor n r i kept lt may has = by_half (actor n).half refl has where
  by_half : (h : Option ℕ) → (actor n).half ≡ h → IsSome h → IsActor words log n (got_entry (actor n) h (words.second r i))
  by_half None is none = absurd (cc)
  by_half (Some first) is some =
      let a = actor n in
      let k = kept.actors n lt in
      let below = may.0 in
      let lies = lies_below nodes words log actor n kept lt may.0 in
      let ring = ring_below log a r (omega (arith, below)) (k.ring may.0) may.1 in
      let value = words.second r i in
      let same : value ≡ packed (log.entry (a.from - 1)).second (log.link (a.from - 1)) =
      ap (λ (q : ℕ). words.second q i) ring ∙ ap (λ (j : ℕ). words.second (maker log (a.from - 1)) j) may.2 ∙ lies.1 in
      let small = kept.small (a.from - 1) in
      let two : value / 128 ≡ (log.entry (a.from - 1)).second = ap (λ (v : ℕ). v / 128) same
      ∙ high (log.entry (a.from - 1)).second (log.link (a.from - 1)) small in
      let three : value % 128 ≡ log.link (a.from - 1) = ap (λ (v : ℕ). v % 128) same
      ∙ low (log.entry (a.from - 1)).second (log.link (a.from - 1)) small in
      let one = k.half first may.0 is in
      let next : a.from - 1 + 1 ≡ a.from = omega (arith, below) in
      let entry : log.entry (a.from - 1) ≡ record { first = first; second = value / 128 } =
      λ j. record { first = sym one j; second = sym two j } in
      record {
        seen = k.seen;
        alone = k.alone;
        scan = k.scan;
        wrote = k.wrote;
        linked = k.linked;
        few = k.few;
        local = k.local;
        order = k.order;
        count = let c = k.count in omega (arith, c, below);
        got = (sym entry, subst (λ p. AreEntries log.entry p a.got) (sym next) k.got);
        ring = λ past. three;
        last = k.last;
        half = λ v has is. absurd (cc);
      }

pub applies_next : (words : Words) (log : Log) (n : ℕ) (a : Actor) → IsActor words log n a → MayApply a → IsActor words log n (applies a)
applies_next words log n a k may = by_got a.got refl may.some where
  by_got : (us : List Update) → a.got ≡ us → 0 < length us
      → IsActor words log n (record a { applied = a.applied + 1; from = a.from + 1; got = drop 1 us })
  by_got [] is some = absurd (omega (arith, some))
  by_got (u ∷ us) is some =
      let taken = may.taken in
      let next = may.next in
      let count : a.from + suc (length us) ≡ a.seen = ap (λ (xs : List Update). a.from + length xs) (sym is) ∙ k.count in
      let are = subst (λ (xs : List Update). AreEntries log.entry a.from xs) is k.got in
      record {
        seen = k.seen;
        alone = k.alone;
        scan = k.scan;
        wrote = k.wrote;
        linked = k.linked;
        few = k.few;
        local = k.local;
        order = (omega (arith, taken, next, count), k.order.1);
        count = omega (arith, count);
        got = are.1;
        ring = λ past. absurd (omega (arith, past, taken, count));
        last = k.last;
        half = λ v past. absurd (omega (arith, past, taken, count));
      }

pub begins_call : (words : Words) (log : Log) (n : ℕ) (a : Actor) (batch : List Update) → IsActor words log n a → length batch ≤ 16
    → IsActor words log n (begins a batch)
begins_call words log n a batch k few = record {
  seen = k.seen;
  alone = k.alone;
  scan = k.scan;
  local = k.local;
  order = k.order;
  count = k.count;
  got = k.got;
  ring = k.ring;
  last = k.last;
  half = k.half;
  wrote = λ i none. absurd (omega (arith, none));
  linked = λ i none. absurd (omega (arith, none));
  few = (omega arith, omega arith, few);
}
