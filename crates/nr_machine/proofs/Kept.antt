-- What holds of the words, the log and those who work at the nodes, whatever the schedule.
use Rattle.std.proofs.Common.{◌≡◌, ℕ, suc, ◌+◌, ◌-◌, ◌%◌, ◌<◌, ◌≤◌, nat_lt, Bool, true, false, Option, Some, None, List, [], ◌∷◌, length, refl, ap, sym, subst, ◌∙◌, arith}
use Rattle.std.specs.Prelude.{⊤}
use Rattle.std.proofs.lemmas.Bool.Decides.{nat_tests}
use Rattle.nr_machine.specs.declared.words.Update.{Update}
use Rattle.nr_machine.specs.Words.{Words, packed, with_at}
use Rattle.nr_machine.specs.Actor.{Actor, link_of, update_at}
use Rattle.nr_machine.specs.World.{Log, maker}
use Rattle.nr_machine.proofs.Cases.{at_cases}

-- these are the entries from a place on
abbrev pub AreEntries : (ℕ → Update) → ℕ → List Update → Type 0
AreEntries entry from [] = ⊤
AreEntries entry from (update ∷ updates) = (update ≡ entry from) × AreEntries entry (from + 1) updates

-- of whoever works at node n
pub record IsActor (words : Words) (log : Log) (n : ℕ) (a : Actor) : Type 0 where
  pub seen : a.seen ≤ log.tail
  pub alone : (p : ℕ) → a.seen ≤ p → p < log.tail → maker log p ≡ n → ⊥
  pub scan : (r : ℕ) → r < a.asked → a.least ≤ words.local r
  pub wrote : (i : ℕ) → i < a.firsts → words.first n ((a.seen + i) % 16) ≡ (update_at a.batch i).first
  pub linked : (i : ℕ) → i < a.seconds → words.second n ((a.seen + i) % 16) ≡ packed (update_at a.batch i).second (link_of n a i)
  pub few : (a.firsts ≤ length a.batch) × (a.seconds ≤ length a.batch) × (length a.batch ≤ 16)
  pub local : words.local n ≡ a.taken
  pub order : (a.applied ≤ a.taken) × (a.taken ≤ a.seen)
  pub count : a.from + length a.got ≡ a.seen
  pub got : AreEntries log.entry a.from a.got
  pub ring : a.taken < a.from → a.ring ≡ log.link a.from
  pub last : a.last ≡ log.link a.seen
  pub half : (v : ℕ) → a.taken < a.from → a.half ≡ Some v → v ≡ (log.entry (a.from - 1)).first

abbrev pub Lies : Words → Log → ℕ → Type 0
Lies words log p = (words.first (maker log p) (p % 16) ≡ (log.entry p).first)
    × (words.second (maker log p) (p % 16) ≡ packed (log.entry p).second (log.link p))

pub record IsKept (nodes : ℕ) (words : Words) (log : Log) (actor : ℕ → Actor) : Type 0 where
  pub head : words.head ≡ packed log.tail (log.link log.tail)
  pub small : (p : ℕ) → log.link p < 128
  pub makers : (p : ℕ) → 0 < nodes → log.link p < nodes
  pub near : (r : ℕ) → r < nodes → log.tail ≤ words.local r + 16
  pub there : (r p : ℕ) → r < nodes → words.local r ≤ p → p < log.tail → Lies words log p
  pub actors : (n : ℕ) → n < nodes → IsActor words log n (actor n)

-- who had appended last before the tail that it saw has a number of 7 bits
pub last_small : (nodes : ℕ) (words : Words) (log : Log) (actor : ℕ → Actor) (n : ℕ) → IsKept nodes words log actor → n < nodes
    → (actor n).last < 128
last_small nodes words log actor n kept lt = subst (λ (l : ℕ). l < 128) (sym (kept.actors n lt).last) (kept.small (actor n).seen)

-- who works at one node changed, and the others didn't
pub with_actor : (P : ℕ → Actor → Type 0) (nodes : ℕ) (actor : ℕ → Actor) (n : ℕ) (new : Actor) → P n new
    → ((m : ℕ) → m < nodes → (m ≡ n → ⊥) → P m (actor m)) → (m : ℕ) → m < nodes → P m (with_at actor n new m)
with_actor P nodes actor n new one others m lt =
    at_cases (λ a. P m a) actor n new m (λ e. subst (λ k. P k new) (sym e) one) (λ apart. others m lt apart)

-- words and log changed: they grow, and what is a node's own stays
pub record IsLater (words : Words) (log : Log) (words' : Words) (log' : Log) (n : ℕ) : Type 0 where
  pub tail : log.tail ≤ log'.tail
  pub entry : (p : ℕ) → p < log.tail → log'.entry p ≡ log.entry p
  pub link : (p : ℕ) → p ≤ log.tail → log'.link p ≡ log.link p
  pub new : (p : ℕ) → log.tail ≤ p → p < log'.tail → maker log' p ≡ n
  pub local : (r : ℕ) → words.local r ≤ words'.local r
  pub own : (m : ℕ) → (m ≡ n → ⊥) → words'.local m ≡ words.local m
  pub first : (m i : ℕ) → (m ≡ n → ⊥) → words'.first m i ≡ words.first m i
  pub second : (m i : ℕ) → (m ≡ n → ⊥) → words'.second m i ≡ words.second m i

pub entries_stay : (entry entry' : ℕ → Update) (tail : ℕ) → ((p : ℕ) → p < tail → entry' p ≡ entry p) → (from : ℕ) (got : List Update)
    → from + length got ≤ tail → AreEntries entry from got → AreEntries entry' from got
entries_stay entry entry' tail same from [] fits are = tt
entries_stay entry entry' tail same from (update ∷ updates) fits are =
    (are.0 ∙ sym (same from (omega (arith, fits))), entries_stay entry entry' tail same (from + 1) updates (omega (arith, fits)) are.1)

-- what the others do changes nothing for a node
pub others_stay : (words : Words) (log : Log) (words' : Words) (log' : Log) (n m : ℕ) (a : Actor) → IsLater words log words' log' n
    → (m ≡ n → ⊥)
    → IsActor words log m a → IsActor words' log' m a
others_stay words log words' log' n m a later apart k = record {
  seen = let one = k.seen in let two = later.tail in omega (arith, one, two);
  alone = λ p from to is. older p from to is (nat_lt p log.tail) refl;
  scan = λ r lt. let one = k.scan r lt in let two = later.local r in omega (arith, one, two);
  wrote = λ i lt. later.first m ((a.seen + i) % 16) apart ∙ k.wrote i lt;
  linked = λ i lt. later.second m ((a.seen + i) % 16) apart ∙ k.linked i lt;
  few = k.few;
  local = later.own m apart ∙ k.local;
  order = k.order;
  count = k.count;
  got = entries_stay log.entry log'.entry log.tail later.entry a.from a.got
      (let one = k.count in let two = k.seen in omega (arith, one, two)) k.got;
  ring = λ some. k.ring some ∙ sym (later.link a.from (let one = k.count in let two = k.seen in omega (arith, one, two)));
  last = k.last ∙ sym (later.link a.seen (let one = k.seen in omega (arith, one)));
  half = λ v some is. let at = below some in k.half v some is ∙ ap (λ (u : Update). u.first) (sym (later.entry (a.from - 1) at));
} where
  below : a.taken < a.from → a.from - 1 < log.tail
  below some = let one = k.count in let two = k.seen in omega (arith, one, two, some)

  older : (p : ℕ) → a.seen ≤ p → p < log'.tail → maker log' p ≡ m → (b : Bool) → nat_lt p log.tail ≡ b → ⊥
  older p from to is true e =
      let lt : p < log.tail = grind (arith, nat_tests, e) in k.alone p from lt (sym (later.link (p + 1) (omega (arith, lt))) ∙ is)
  older p from to is false e = let le : log.tail ≤ p = grind (arith, nat_tests, e) in apart (sym is ∙ later.new p le to)
