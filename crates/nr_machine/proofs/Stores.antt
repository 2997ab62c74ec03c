-- What the operations that change words keep.
use Rattle.std.proofs.Common.{◌≡◌, ℕ, suc, ◌+◌, ◌-◌, ◌*◌, ◌/◌, ◌%◌, ◌<◌, ◌≤◌, ◌==◌, nat_lt, Bool, true, false, cond, Option, Some, None, List, [], ◌∷◌, length, refl, ap, sym, subst, ◌∙◌, arith}
use Rattle.std.proofs.lemmas.Bool.Decides.{nat_tests}
use Rattle.nr_machine.specs.declared.words.Update.{Update}
use Rattle.nr_machine.specs.declared.words.Operation.TheVariants.{Load, Store, Exchange, Max}
use Rattle.nr_machine.specs.declared.words.Word.TheVariants.{Head, Completed, Local, Done, First, Second}
use Rattle.nr_machine.specs.Words.{Words, packed, stored, with_at, with_word}
use Rattle.nr_machine.specs.Actor.{Actor, MayAppend, MayStore, learned, link_of, sees, update_at}
use Rattle.nr_machine.specs.World.{Log, appended, maker}
use Rattle.nr_machine.proofs.Cases.{at_cases, below_cases, clash, elsewhere, at_it, near, not_last, same_high, same_low, word_cases}
use Rattle.nr_machine.proofs.Kept.{AreEntries, IsActor, IsKept, IsLater, Lies, entries_stay, last_small, others_stay, with_actor}

-- words that say nothing of the entries may change
pub other_words : (nodes : ℕ) (words : Words) (log : Log) (actor : ℕ → Actor) (completed : ℕ) (done : ℕ → ℕ) → IsKept nodes words log actor
    → IsKept nodes (record words { completed = completed; done = done }) log actor
other_words nodes words log actor completed done kept = record {
  head = kept.head;
  small = kept.small;
  makers = kept.makers;
  near = kept.near;
  there = kept.there;
  actors = λ n lt. let k = kept.actors n lt in record {
    seen = k.seen;
    alone = k.alone;
    scan = k.scan;
    wrote = k.wrote;
    linked = k.linked;
    few = k.few;
    local = k.local;
    order = k.order;
    count = k.count;
    got = k.got;
    ring = k.ring;
    last = k.last;
    half = k.half;
  };
}

same_log : (words : Words) (log : Log) (words' : Words) (n : ℕ) → ((r : ℕ) → words.local r ≤ words'.local r)
    → ((m : ℕ) → (m ≡ n → ⊥) → words'.local m ≡ words.local m)
    → ((m i : ℕ) → (m ≡ n → ⊥) → words'.first m i ≡ words.first m i)
    → ((m i : ℕ) → (m ≡ n → ⊥) → words'.second m i ≡ words.second m i) → IsLater words log words' log n
same_log words log words' n grows own first second = record {
  tail = omega arith;
  entry = λ p lt. refl;
  link = λ p le. refl;
  new = λ p from to. absurd (omega (arith, from, to));
  local = grows;
  own = own;
  first = first;
  second = second;
}

pub stores_local : (nodes : ℕ) (words : Words) (log : Log) (actor : ℕ → Actor) (n : ℕ) → IsKept nodes words log actor → n < nodes
    → (actor n).from ≡ (actor n).taken → (actor n).applied ≡ (actor n).taken
    → IsKept nodes (stored words (Local n) (actor n).seen) log (with_at actor n (record (actor n) { taken = (actor n).seen }))
stores_local nodes words log actor n kept lt from applied =
    let a = actor n in
    let k = kept.actors n lt in
    let local = k.local in
    let order = k.order in
    let taken = order.1 in
    let grows : (r : ℕ) → words.local r ≤ with_at words.local n a.seen r =
    λ r. at_cases (λ x. words.local r ≤ x) words.local n a.seen r
    (λ e. let same : words.local r ≡ words.local n = ap words.local e in omega (arith, same, local, taken)) (λ e. omega arith) in
    let later = same_log words log (stored words (Local n) a.seen) n grows (λ m apart. elsewhere words.local n a.seen m apart)
    (λ m i apart. refl) (λ m i apart. refl) in
    record {
      head = kept.head;
      small = kept.small;
      makers = kept.makers;
      near = λ r there. let one = kept.near r there in let two = grows r in omega (arith, one, two);
      there = λ r p there from to. let two = grows r in kept.there r p there (omega (arith, two, from)) to;
      actors = with_actor (λ m b. IsActor (stored words (Local n) a.seen) log m b) nodes actor n (record a { taken = a.seen })
          (record {
            seen = k.seen;
            alone = k.alone;
            wrote = k.wrote;
            linked = k.linked;
            few = k.few;
            scan = λ r below. let one = k.scan r below in let two = grows r in omega (arith, one, two);
            local = at_it words.local n a.seen;
            order = let one = order.0 in (omega (arith, one, taken), omega arith);
            count = k.count;
            got = k.got;
            last = k.last;
            ring = λ past. let c = k.count in absurd (omega (arith, past, c));
            half = λ v past. let c = k.count in absurd (omega (arith, past, c));
          })
          (λ m there apart. others_stay words log (stored words (Local n) a.seen) log n m (actor m) later apart (kept.actors m there));
    }

-- the heart: an entry that is stored ahead, at a place that was hoped for, overwrites none that somebody needs
clashes : (nodes : ℕ) (words : Words) (log : Log) (actor : ℕ → Actor) (n count i r p : ℕ) → IsKept nodes words log actor → n < nodes
    → MayStore nodes n (actor n) count n i → r < nodes → words.local r ≤ p → p < log.tail → maker log p ≡ n → p % 16 ≡ i → ⊥
clashes nodes words log actor n count i r p kept lt may there from to mine same =
    let a = actor n in
    let k = kept.actors n lt in
    let room = may.2 in
    let asked = room.0 in
    let fits = room.1 in
    let least = k.scan r (omega (arith, asked, there)) in
    clash p a.seen count (length a.batch) (words.local r) (same ∙ may.4) (omega (arith, fits, least)) from may.3
    (λ behind. k.alone p behind to mine)

pub stores_first : (nodes : ℕ) (words : Words) (log : Log) (actor : ℕ → Actor) (n i : ℕ) → IsKept nodes words log actor → n < nodes
    → MayStore nodes n (actor n) (actor n).firsts n i
    → IsKept nodes (stored words (First n i) (update_at (actor n).batch (actor n).firsts).first) log
    (with_at actor n (record (actor n) { firsts = (actor n).firsts + 1 }))
stores_first nodes words log actor n i kept lt may =
    let a = actor n in
    let k = kept.actors n lt in
    let value = (update_at a.batch a.firsts).first in
    let words' = stored words (First n i) value in
    let below = may.3 in
    let few = k.few in
    let most = few.2 in
    let later = same_log words log words' n (λ r. omega arith) (λ m apart. refl)
    (λ m j apart. word_cases (λ x. x ≡ words.first m j) words.first n i value m j (λ e same. absurd (apart e)) (λ other. refl))
    (λ m j apart. refl) in
    record {
      head = kept.head;
      small = kept.small;
      makers = kept.makers;
      near = kept.near;
      there = λ r p there from to. let lies = kept.there r p there from to in (
        word_cases (λ x. x ≡ (log.entry p).first) words.first n i value (maker log p) (p % 16)
            (λ mine same. absurd (clashes nodes words log actor n a.firsts i r p kept lt may there from to mine same)) (λ other. lies.0),
        lies.1,
      );
      actors = with_actor (λ m b. IsActor words' log m b) nodes actor n (record a { firsts = a.firsts + 1 })
          (record {
            seen = k.seen;
            alone = k.alone;
            scan = k.scan;
            linked = k.linked;
            local = k.local;
            order = k.order;
            count = k.count;
            got = k.got;
            ring = k.ring;
            last = k.last;
            half = k.half;
            few = (omega (arith, below), few.1, few.2);
            wrote = λ j lt. word_cases (λ x. x ≡ (update_at a.batch j).first) words.first n i value n ((a.seen + j) % 16)
                (λ one same. let e : a.firsts ≡ j = near a.seen j a.firsts (same ∙ may.4) (omega (arith, lt))
                (omega (arith, below, most)) in
                ap (λ (x : ℕ). (update_at a.batch x).first) e)
                (λ other. k.wrote j (not_last j a.firsts lt (λ e. other refl (ap (λ (x : ℕ). (a.seen + x) % 16) e ∙ sym may.4))));
          })
          (λ m there apart. others_stay words log words' log n m (actor m) later apart (kept.actors m there));
    }

pub stores_second : (nodes : ℕ) (words : Words) (log : Log) (actor : ℕ → Actor) (n i : ℕ) → IsKept nodes words log actor → n < nodes
    → MayStore nodes n (actor n) (actor n).seconds n i
    → IsKept nodes (stored words (Second n i)
    (packed (update_at (actor n).batch (actor n).seconds).second (link_of n (actor n) (actor n).seconds))) log
    (with_at actor n (record (actor n) { seconds = (actor n).seconds + 1 }))
stores_second nodes words log actor n i kept lt may =
    let a = actor n in
    let k = kept.actors n lt in
    let value = packed (update_at a.batch a.seconds).second (link_of n a a.seconds) in
    let words' = stored words (Second n i) value in
    let below = may.3 in
    let few = k.few in
    let most = few.2 in
    let later = same_log words log words' n (λ r. omega arith) (λ m apart. refl) (λ m j apart. refl)
    (λ m j apart. word_cases (λ x. x ≡ words.second m j) words.second n i value m j (λ e same. absurd (apart e)) (λ other. refl)) in
    record {
      head = kept.head;
      small = kept.small;
      makers = kept.makers;
      near = kept.near;
      there = λ r p there from to. let lies = kept.there r p there from to in (
        lies.0,
        word_cases (λ x. x ≡ packed (log.entry p).second (log.link p)) words.second n i value (maker log p) (p % 16)
            (λ mine same. absurd (clashes nodes words log actor n a.seconds i r p kept lt may there from to mine same)) (λ other. lies.1),
      );
      actors = with_actor (λ m b. IsActor words' log m b) nodes actor n (record a { seconds = a.seconds + 1 })
          (record {
            seen = k.seen;
            alone = k.alone;
            scan = k.scan;
            wrote = k.wrote;
            local = k.local;
            order = k.order;
            count = k.count;
            got = k.got;
            ring = k.ring;
            last = k.last;
            half = k.half;
            few = (few.0, omega (arith, below), few.2);
            linked = λ j lt. word_cases (λ x. x ≡ packed (update_at a.batch j).second (link_of n a j)) words.second n i value n
                ((a.seen + j) % 16)
                (λ one same. let e : a.seconds ≡ j = near a.seen j a.seconds (same ∙ may.4) (omega (arith, lt))
                (omega (arith, below, most)) in
                ap (λ (x : ℕ). packed (update_at a.batch x).second (link_of n a x)) e)
                (λ other. k.linked j (not_last j a.seconds lt (λ e. other refl (ap (λ (x : ℕ). (a.seen + x) % 16) e ∙ sym may.4))));
          })
          (λ m there apart. others_stay words log words' log n m (actor m) later apart (kept.actors m there));
    }

-- an exchange that finds the head as it was seen appends just the updates that were stored
pub appends : (nodes : ℕ) (words : Words) (log : Log) (actor : ℕ → Actor) (n call old new : ℕ) → IsKept nodes words log actor → n < nodes
    → nodes ≤ 64
    → MayAppend nodes n (actor n) old new → words.head ≡ old
    → IsKept nodes (stored words Head new) (appended log n call (actor n).batch)
    (with_at actor n (record (sees (actor n) ((actor n).seen + length (actor n).batch) n) { standing = Some (actor n).seen }))
appends nodes words log actor n call old new kept lt most may found =
    let a = actor n in
    let k = kept.actors n lt in
    let order = k.order in
    let taken = order.1 in
    let later : IsLater words log words' log' n = record {
      tail = omega arith;
      entry = old_entry;
      link = old_link;
      new = λ p from to. new_link (p + 1) (omega (arith, from));
      local = λ r. omega arith;
      own = λ m apart. refl;
      first = λ m i apart. refl;
      second = λ m i apart. refl;
    } in
    record {
      head = may.becomes ∙ ap (λ (t : ℕ). packed (t + length a.batch) n) is_tail
          ∙ ap (λ (l : ℕ). packed (log.tail + length a.batch) l)
          (sym (new_link (log.tail + length a.batch) (let some = may.some in omega (arith, some))));
      small = λ p. below_cases (λ x. x < 128) log.tail p n (log.link p) (λ past. omega (arith, lt, most)) (λ before. kept.small p);
      makers = λ p some. below_cases (λ x. x < nodes) log.tail p n (log.link p) (λ past. lt) (λ before. kept.makers p some);
      near = λ r there. let room = may.room in let asked = room.0 in let fits = room.1 in
          let least = k.scan r (omega (arith, asked, there)) in
          omega (arith, fits, least, is_tail);
      there = λ r p there from to. by_place r p there from to (nat_lt p log.tail) refl;
      actors = with_actor (λ m b. IsActor words' log' m b) nodes actor n done
          (record {
            seen = omega (arith, is_tail);
            alone = λ p from to. absurd (omega (arith, from, to, is_tail));
            scan = k.scan;
            wrote = λ i none. absurd (omega (arith, none));
            linked = λ i none. absurd (omega (arith, none));
            few = (omega arith, omega arith, k.few.2);
            local = k.local;
            order = (k.order.0, omega (arith, taken));
            count = omega arith;
            got = tt;
            ring = λ some. sym (new_link (a.seen + length a.batch) (let some = may.some in omega (arith, some, is_tail)));
            last = sym (new_link (a.seen + length a.batch) (let some = may.some in omega (arith, some, is_tail)));
            half = λ v some is. absurd (cc);
          })
          (λ m there apart. others_stay words log words' log' n m (actor m) later apart (kept.actors m there));
    } where
      words' : Words
      words' = stored words Head new

      log' : Log
      log' = appended log n call (actor n).batch

      done : Actor
      done = record (sees (actor n) ((actor n).seen + length (actor n).batch) n) { standing = Some (actor n).seen }

      same : packed (actor n).seen (actor n).last ≡ packed log.tail (log.link log.tail)
      same = sym may.expects ∙ sym found ∙ kept.head

      is_tail : (actor n).seen ≡ log.tail
      is_tail = same_high (actor n).seen (actor n).last log.tail (log.link log.tail) (last_small nodes words log actor n kept lt)
          (kept.small log.tail) same

      is_last : (actor n).last ≡ log.link log.tail
      is_last = same_low (actor n).seen (actor n).last log.tail (log.link log.tail) (last_small nodes words log actor n kept lt)
          (kept.small log.tail) same

      old_entry : (p : ℕ) → p < log.tail → (appended log n call (actor n).batch).entry p ≡ log.entry p
      old_entry p lt = below_cases (λ x. x ≡ log.entry p) p log.tail (log.entry p) (update_at (actor n).batch (p - log.tail))
          (λ before. refl) (λ past. absurd (omega (arith, lt, past)))

      old_link : (p : ℕ) → p ≤ log.tail → (appended log n call (actor n).batch).link p ≡ log.link p
      old_link p le =
          below_cases (λ x. x ≡ log.link p) log.tail p n (log.link p) (λ past. absurd (omega (arith, le, past))) (λ before. refl)

      new_link : (p : ℕ) → log.tail < p → (appended log n call (actor n).batch).link p ≡ n
      new_link p gt = below_cases (λ x. x ≡ n) log.tail p n (log.link p) (λ past. refl) (λ before. absurd (omega (arith, gt, before)))

      new_entry : (p : ℕ) → log.tail ≤ p → (appended log n call (actor n).batch).entry p ≡ update_at (actor n).batch (p - log.tail)
      new_entry p le = below_cases (λ x. x ≡ update_at (actor n).batch (p - log.tail)) p log.tail (log.entry p)
          (update_at (actor n).batch (p - log.tail)) (λ before. absurd (omega (arith, le, before))) (λ past. refl)

      link_there : (p : ℕ) → log.tail ≤ p → (b : Bool) → (p - log.tail == 0) ≡ b
          → cond b (actor n).last n ≡ (appended log n call (actor n).batch).link p
      link_there p le true e =
          let at : p ≡ log.tail = grind (arith, nat_tests, e, le) in is_last ∙ ap log.link (sym at) ∙ sym (old_link p (omega (arith, at)))
      link_there p le false e = sym (new_link p (grind (arith, nat_tests, e, le)))

      by_place : (r p : ℕ) → r < nodes → words.local r ≤ p → p < log.tail + length (actor n).batch → (b : Bool) → nat_lt p log.tail ≡ b
          → Lies (stored words Head new) (appended log n call (actor n).batch) p
      by_place r p there from to true t =
          let lt : p < log.tail = grind (arith, nat_tests, t) in
          let lies = kept.there r p there from lt in
          let ring : maker (appended log n call (actor n).batch) p ≡ maker log p = old_link (p + 1) (omega (arith, lt)) in (
            ap (λ (q : ℕ). words.first q (p % 16)) ring ∙ lies.0 ∙ ap (λ (u : Update). u.first) (sym (old_entry p lt)),
            ap (λ (q : ℕ). words.second q (p % 16)) ring ∙ lies.1 ∙ ap (λ (u : Update). packed u.second (log.link p)) (sym (old_entry p lt))
                ∙ ap (λ (l : ℕ). packed ((appended log n call (actor n).batch).entry p).second l) (sym (old_link p (omega (arith, lt)))),
          )
      by_place r p there from to false t =
          let k = kept.actors n lt in
          let past : log.tail ≤ p = grind (arith, nat_tests, t) in
          let here : (actor n).seen + (p - log.tail) ≡ p = omega (arith, is_tail, past) in
          let ring : maker (appended log n call (actor n).batch) p ≡ n = new_link (p + 1) (omega (arith, past)) in
          let firsts = may.firsts in
          let seconds = may.seconds in (
            ap (λ (q : ℕ). words.first q (p % 16)) ring ∙ ap (λ (q : ℕ). words.first n (q % 16)) (sym here)
                ∙ k.wrote (p - log.tail) (omega (arith, past, to, firsts)) ∙ ap (λ (u : Update). u.first) (sym (new_entry p past)),
            ap (λ (q : ℕ). words.second q (p % 16)) ring ∙ ap (λ (q : ℕ). words.second n (q % 16)) (sym here)
                ∙ k.linked (p - log.tail) (omega (arith, past, to, seconds))
                ∙ ap (λ (u : Update). packed u.second (link_of n (actor n) (p - log.tail))) (sym (new_entry p past))
                ∙ ap (λ (l : ℕ). packed ((appended log n call (actor n).batch).entry p).second l)
                (link_there p past (p - log.tail == 0) refl),
          )
