-- The events of each step follow those before it.
use Rattle.std.proofs.Common.{◌≡◌, ℕ, zero, suc, ◌+◌, ◌-◌, ◌<◌, ◌≤◌, ◌==◌, nat_lt, Bool, true, false, cond, List, [], ◌∷◌, ◌++◌, map, length, get_or, set, refl, ap, sym, subst, ◌∙◌, arith}
use Rattle.std.specs.Prelude.{All, ⊤}
use Rattle.std.proofs.lemmas.Bool.Decides.{nat_tests}
use Rattle.std.proofs.lemmas.List.{append_assoc, append-nil, get_or-replicate, get_or-set_other, get_or-set_same, length-map, length-replicate, length-set, length-append}
use Rattle.std.proofs.lemmas.List.Elements.{All-nil}
use Rattle.vs_types.specs.LogEntry.{IsLogEntry}
use Rattle.vs_types.specs.declared.addresses.depth.Depth.{Depth}
use Rattle.vs_types.specs.declared.log_entry.LogEntry.{LogEntry}
use Rattle.nr_ring.specs.LogHistory.{Log, MayGoOn, log_after_event, log_after_events, new_log}
use Rattle.nr_ring.specs.declared.cells.words.TheConstants.{MOST_PLACES}
use Rattle.nr_ring.specs.declared.ring.log_event.LogEvent.{LogEvent}
use Rattle.nr_ring.specs.declared.ring.log_event.LogEvent.TheVariants.{Append, Advance}
use Rattle.nr_machine.specs.declared.words.Operation.TheVariants.{Load, Store, Exchange, Max}
use Rattle.nr_machine.specs.declared.words.Word.TheVariants.{Head, Completed, Local, Done, First, Second}
use Rattle.nr_machine.specs.declared.words.Update.{Update}
use Rattle.nr_machine.specs.Actor.{MayAppend as MayAppendAs, learned, update_at}
use Rattle.nr_machine.specs.Words.{stored, told_by, with_at}
use Rattle.nr_machine.specs.World.{Act, Log as Machine, World, MayAct, Plays, acted, appended, opening, played}
use Rattle.nr_machine.specs.World.Act.{Begins, Does, Applies, Ends, ReadBegins, ReadEnds}
use Rattle.nr_machine.proofs.Cases.{at_cases, below_cases}
use Rattle.nr_machine.proofs.Ending.{acts_hold, opening_held}
use Rattle.nr_machine.proofs.Held.{IsBeginning, IsHeld, operation_holds, same_log}
use Rattle.nr_machine.proofs.Stated.{goes_on}
use Rattle.nr_machine_runs.specs.History.{AreMeant, IsLogOf, IsScheduleFor, entries_to, events_of, history, history_from, values_to}

-- ---- entries of a log

pub length-values_to : {X : Type 0} (f : ℕ → X) (n : ℕ) → length (values_to f n) ≡ n
length-values_to {X} f zero = refl
length-values_to {X} f (suc n) =
    let so_far = length-values_to f n in
    let more : length (values_to f n ++ f n ∷ []) ≡ length (values_to f n) + 1 = length-append (values_to f n) (f n ∷ []) in
    omega (arith, so_far, more)

pub same_entries : (means : Update → LogEntry) (e f : ℕ → Update) (count : ℕ) → ((p : ℕ) → p < count → e p ≡ f p)
    → entries_to means e count ≡ entries_to means f count
same_entries means e f zero same = refl
same_entries means e f (suc count) same =
    ap (λ (xs : List LogEntry). xs ++ means (e count) ∷ []) (same_entries means e f count (λ p lt. same p (omega (arith, lt))))
    ∙ ap (λ (u : Update). entries_to means f count ++ means u ∷ []) (same count (omega arith))

-- a batch at the end
pub entries_more : (means : Update → LogEntry) (entry : ℕ → Update) (from : ℕ) (batch : List Update)
    → ((i : ℕ) → i < length batch → entry (from + i) ≡ update_at batch i)
    → entries_to means entry (from + length batch) ≡ entries_to means entry from ++ map means batch
entries_more means entry from [] is =
    ap (entries_to means entry) (let e : from + 0 ≡ from = omega arith in e) ∙ sym (append-nil (entries_to means entry from))
entries_more means entry from (update ∷ batch) is =
    let at : from + suc (length batch) ≡ from + 1 + length batch = omega arith in
    let next : from + 1 ≡ suc from = omega arith in
    let here : entry from ≡ update = ap entry (let e : from ≡ from + 0 = omega arith in e) ∙ is 0 (omega arith) in
    ap (entries_to means entry) at
    ∙ entries_more means entry (from + 1) batch
    (λ i lt. ap entry (let e : from + 1 + i ≡ from + suc i = omega arith in e) ∙ is (suc i) (omega (arith, lt)))
    ∙ ap (λ (p : ℕ). entries_to means entry p ++ map means batch) next
    ∙ ap (λ (u : Update). (entries_to means entry from ++ means u ∷ []) ++ map means batch) here
    ∙ append_assoc (entries_to means entry from) (means update ∷ []) (map means batch)

-- a batch is appended
pub record IsAppended (log log' : Machine) (batch : List Update) : Type 0 where
  pub tail : log'.tail ≡ log.tail + length batch
  pub old : (p : ℕ) → p < log.tail → log'.entry p ≡ log.entry p
  pub new : (i : ℕ) → i < length batch → log'.entry (log.tail + i) ≡ update_at batch i

pub appended_is : (log : Machine) (n call : ℕ) (batch : List Update) → IsAppended log (appended log n call batch) batch
appended_is log n call batch = record {
  tail = refl;
  old = λ p below. below_cases (λ x. x ≡ log.entry p) p log.tail (log.entry p) (update_at batch (p - log.tail)) (λ before. refl)
      (λ past. absurd (omega (arith, below, past)));
  new = λ i below. below_cases (λ x. x ≡ update_at batch i) (log.tail + i) log.tail (log.entry (log.tail + i))
      (update_at batch (log.tail + i - log.tail)) (λ before. absurd (omega (arith, before)))
      (λ past. ap (update_at batch) (let e : log.tail + i - log.tail ≡ i = omega arith in e));
}

-- ---- a step

-- what an entry of the machine's log means stays while the log grows
pub log_grows : (nodes : ℕ) (w : World) (act : Act) → nodes ≤ 64 → IsHeld nodes w → MayAct nodes w act → IsBeginning w.log (acted w act).log
log_grows nodes w (Does n operation) most held may = (operation_holds nodes w n operation held may.0 most may.1).later
log_grows nodes w (Begins n batch) most held may = same_log w.log
log_grows nodes w (Applies n) most held may = same_log w.log
log_grows nodes w (Ends n) most held may = same_log w.log
log_grows nodes w (ReadBegins n) most held may = same_log w.log
log_grows nodes w (ReadEnds c) most held may = same_log w.log

-- the updates of each call mean entries
abbrev BatchesAreMeant : Depth → (Update → LogEntry) → World → Type 0
BatchesAreMeant depth means w = (n : ℕ) → All (IsLogEntry depth) (map means (w.actor n).batch)

abbrev IsMeant : Depth → (Update → LogEntry) → Act → Type 0
IsMeant depth means (Begins n batch) = All (IsLogEntry depth) (map means batch)
IsMeant depth means act = ⊤

batches_meant : (depth : Depth) (means : Update → LogEntry) (nodes : ℕ) (w : World) (act : Act) → MayAct nodes w act
    → IsMeant depth means act
    → BatchesAreMeant depth means w → BatchesAreMeant depth means (acted w act)
batches_meant depth means nodes w (Does n operation) may is all m =
    at_cases (λ a. All (IsLogEntry depth) (map means a.batch)) w.actor n (learned n (w.actor n) operation (told_by w.words operation)) m
    (λ e. subst (λ (us : List Update). All (IsLogEntry depth) (map means us))
    (sym (goes_on nodes n (w.actor n) operation (told_by w.words operation) may.1).batch) (all n)) (λ apart. all m)
batches_meant depth means nodes w (Begins n batch) may is all m =
    at_cases (λ a. All (IsLogEntry depth) (map means a.batch)) w.actor n _ m (λ e. is) (λ apart. all m)
batches_meant depth means nodes w (Applies n) may is all m =
    at_cases (λ a. All (IsLogEntry depth) (map means a.batch)) w.actor n _ m (λ e. all n) (λ apart. all m)
batches_meant depth means nodes w (Ends n) may is all m =
    at_cases (λ a. All (IsLogEntry depth) (map means a.batch)) w.actor n _ m (λ e. All-nil (IsLogEntry depth)) (λ apart. all m)
batches_meant depth means nodes w (ReadBegins n) may is all m = all m
batches_meant depth means nodes w (ReadEnds c) may is all m = all m

record IsStep (depth : Depth) (means : Update → LogEntry) (nodes : ℕ) (log : Log) (events : List LogEvent) (w : World) : Type 0 where
  pub may : MayGoOn depth log events
  pub is : IsLogOf means nodes w (log_after_events log events)

-- nothing of the log was changed
still : (depth : Depth) (means : Update → LogEntry) (nodes : ℕ) (log : Log) (w v : World) → v.log ≡ w.log
    → ((r : ℕ) → r < nodes → v.words.local r ≡ w.words.local r)
    → IsLogOf means nodes w log → IsStep depth means nodes log [] v
still depth means nodes log w v same locals of = record {
  may = tt;
  is = record {
    entries = of.entries ∙ ap (λ (l : Machine). entries_to means l.entry l.tail) (sym same);
    one_each = of.one_each;
    locals = λ r lt. of.locals r lt ∙ sym (locals r lt);
  };
}

-- a node advances, or what it stores is there already
advances : (depth : Depth) (means : Update → LogEntry) (nodes : ℕ) (log : Log) (w : World) (n r value : ℕ) → IsHeld nodes w → n < nodes
    → r ≡ n
    → value ≡ (w.actor n).seen → IsLogOf means nodes w log → (b : Bool) → nat_lt (w.words.local r) value ≡ b
    → IsStep depth means nodes log (cond b (Advance r value ∷ []) [])
    (record w { words = stored w.words (Local r) value; actor = with_at w.actor n (record (w.actor n) { taken = value }) })
advances depth means nodes log w n r value held lt own seen of true e =
    let k = held.kept.actors n lt in
    let most = k.seen in
    let one = of.one_each in
    let long = ap (λ (xs : List LogEntry). length xs) of.entries ∙ length-values_to (λ p. means (w.log.entry p)) w.log.tail in
    let more : w.words.local r < value = grind (arith, nat_tests, e) in
    let same = of.locals r (omega (arith, own, lt)) in
    let within : r < length log.locals = omega (arith, own, lt, one) in
    record {
      may = (record { there = within; some = omega (arith, same, more); written = omega (arith, seen, most, long) }, tt);
      is = record {
        entries = of.entries;
        one_each = length-set log.locals r value ∙ of.one_each;
        locals = λ s there. at_cases (λ (x : ℕ). get_or (set log.locals r value) s 0 ≡ x) w.words.local r value s
            (λ e. ap (λ (i : ℕ). get_or (set log.locals r value) i 0) e ∙ get_or-set_same log.locals r value 0 within)
            (λ apart. get_or-set_other log.locals r s value 0 apart ∙ of.locals s there);
      };
    }
advances depth means nodes log w n r value held lt own seen of false e =
    let k = held.kept.actors n lt in
    let local = k.local in
    let order = k.order in
    let taken = order.1 in
    let here : w.words.local r ≡ w.words.local n = ap w.words.local own in
    let most : value ≤ w.words.local r = grind (arith, nat_tests, e) in
    still depth means nodes log w _ refl
    (λ s there. at_cases (λ (x : ℕ). x ≡ w.words.local s) w.words.local r value s
    (λ e. let same : w.words.local s ≡ w.words.local r = ap w.words.local e in omega (arith, same, here, local, taken, seen, most))
    (λ apart. refl)) of

-- an exchange appends, or nothing happens
appends_or_not : (depth : Depth) (means : Update → LogEntry) (nodes : ℕ) (log : Log) (w : World) (n old new : ℕ) → nodes ≤ 64
    → IsHeld nodes w → n < nodes
    → MayAppendAs nodes n (w.actor n) old new → All (IsLogEntry depth) (map means (w.actor n).batch) → IsLogOf means nodes w log
    → (acted w (Does n (Exchange Head old new))).log.tail ≤ MOST_PLACES → (b : Bool) → (w.words.head == old) ≡ b
    → IsStep depth means nodes log (cond b (Append (map means (w.actor n).batch) ∷ []) []) (acted w (Does n (Exchange Head old new)))
appends_or_not depth means nodes log w n old new most held lt may meant of ends b e = by_test b e where
  after : World
  after = acted w (Does n (Exchange Head old new))

  held_after : IsHeld nodes after
  held_after = acts_hold nodes w (Does n (Exchange Head old new)) most held (lt, may)

  batch : List Update
  batch = (w.actor n).batch

  log_is : (b : Bool) → (w.words.head == old) ≡ b → after.log ≡ cond b (appended w.log n (w.call n) batch) w.log
  log_is b e = ap (λ (c : Bool). cond c (appended w.log n (w.call n) batch) w.log) e

  local_is : (b : Bool) (r : ℕ) → (cond b (stored w.words Head new) w.words).local r ≡ w.words.local r
  local_is true r = refl
  local_is false r = refl

  by_test : (b : Bool) → (w.words.head == old) ≡ b
      → IsStep depth means nodes log (cond b (Append (map means batch) ∷ []) []) after
  by_test false e = still depth means nodes log w after (log_is false e) (λ r there. local_is (w.words.head == old) r) of
  by_test true e =
      let long = ap (λ (xs : List LogEntry). length xs) of.entries ∙ length-values_to (λ p. means (w.log.entry p)) w.log.tail in
      let count = length-map batch means in
      let some = may.some in
      let few = (held.kept.actors n lt).few.2 in
      let tail : after.log.tail ≡ w.log.tail + length batch = ap (λ (l : Machine). l.tail) (log_is true e) in
      record {
        may = (
          record {
            some = omega (arith, some, count);
            few = omega (arith, few, count);
            entries = meant;
            room = omega (arith, long, count, tail, ends);
            kept_up = λ r there.
                let one = of.one_each in
                let within : r < nodes = omega (arith, there, one) in
                let near = held_after.kept.near r within in
                let now = local_is (w.words.head == old) r in
                let same = of.locals r within in
                omega (arith, near, now, same, long, count, tail);
          },
          tt,
        );
        is = record {
          entries =
              ap (λ (xs : List LogEntry). xs ++ map means batch)
              (of.entries ∙ same_entries means w.log.entry (appended w.log n (w.call n) batch).entry w.log.tail
              (λ p below. sym ((appended_is w.log n (w.call n) batch).old p below)))
              ∙ sym (entries_more means (appended w.log n (w.call n) batch).entry w.log.tail batch
              (appended_is w.log n (w.call n) batch).new)
              ∙ ap (λ (l : Machine). entries_to means l.entry l.tail) (sym (log_is true e));
          one_each = of.one_each;
          locals = λ r there. of.locals r there ∙ sym (local_is (w.words.head == old) r);
        };
      }

step : (depth : Depth) (means : Update → LogEntry) (nodes : ℕ) (log : Log) (w : World) (act : Act) → nodes ≤ 64 → IsHeld nodes w
    → MayAct nodes w act
    → BatchesAreMeant depth means w → IsLogOf means nodes w log → (acted w act).log.tail ≤ MOST_PLACES
    → IsStep depth means nodes log (events_of means w act) (acted w act)
step depth means nodes log w (Does n (Load word)) most held may meant of ends = still depth means nodes log w _ refl (λ r there. refl) of
step depth means nodes log w (Does n (Store (Local r) value)) most held may meant of ends =
    advances depth means nodes log w n r value held may.0 may.1.0 may.1.1 of (nat_lt (w.words.local r) value) refl
step depth means nodes log w (Does n (Store (Done r) value)) most held may meant of ends =
    still depth means nodes log w _ refl (λ s there. refl) of
step depth means nodes log w (Does n (Store (First r i) value)) most held may meant of ends =
    still depth means nodes log w _ refl (λ s there. refl) of
step depth means nodes log w (Does n (Store (Second r i) value)) most held may meant of ends =
    still depth means nodes log w _ refl (λ s there. refl) of
step depth means nodes log w (Does n (Store word value)) most held may meant of ends = absurd may.1
step depth means nodes log w (Does n (Exchange Head old new)) most held may meant of ends =
    appends_or_not depth means nodes log w n old new most held may.0 may.1 (meant n) of ends (w.words.head == old) refl
step depth means nodes log w (Does n (Exchange word old new)) most held may meant of ends = absurd may.1
step depth means nodes log w (Does n (Max Completed value)) most held may meant of ends =
    still depth means nodes log w _ refl (λ r there. refl) of
step depth means nodes log w (Does n (Max word value)) most held may meant of ends = absurd may.1
step depth means nodes log w (Begins n batch) most held may meant of ends = still depth means nodes log w _ refl (λ r there. refl) of
step depth means nodes log w (Applies n) most held may meant of ends = still depth means nodes log w _ refl (λ r there. refl) of
step depth means nodes log w (Ends n) most held may meant of ends = still depth means nodes log w _ refl (λ r there. refl) of
step depth means nodes log w (ReadBegins n) most held may meant of ends = still depth means nodes log w _ refl (λ r there. refl) of
step depth means nodes log w (ReadEnds c) most held may meant of ends = still depth means nodes log w _ refl (λ r there. refl) of

-- ---- a schedule

go_on : (depth : Depth) (log : Log) (first more : List LogEvent) → MayGoOn depth log first → MayGoOn depth (log_after_events log first) more
    → MayGoOn depth log (first ++ more)
go_on depth log [] more one two = two
go_on depth log (event ∷ first) more one two = (one.0, go_on depth (log_after_event log event) first more one.1 two)

after_both : (log : Log) (first more : List LogEvent)
    → log_after_events log (first ++ more) ≡ log_after_events (log_after_events log first) more
after_both log [] more = refl
after_both log (event ∷ first) more = after_both (log_after_event log event) first more

tail_grows : (nodes : ℕ) (w : World) (acts : List Act) → nodes ≤ 64 → IsHeld nodes w → Plays nodes w acts
    → w.log.tail ≤ (played w acts).log.tail
tail_grows nodes w [] most held plays = omega arith
tail_grows nodes w (act ∷ acts) most held plays =
    let one = (log_grows nodes w act most held plays.0).tail in
    let two = tail_grows nodes (acted w act) acts most (acts_hold nodes w act most held plays.0) plays.1 in
    omega (arith, one, two)

head_meant : (depth : Depth) (means : Update → LogEntry) (act : Act) (acts : List Act) → AreMeant depth means (act ∷ acts)
    → IsMeant depth means act × AreMeant depth means acts
head_meant depth means (Begins n batch) acts are = (are.0, are.1)
head_meant depth means (Does n operation) acts are = (tt, are)
head_meant depth means (Applies n) acts are = (tt, are)
head_meant depth means (Ends n) acts are = (tt, are)
head_meant depth means (ReadBegins n) acts are = (tt, are)
head_meant depth means (ReadEnds c) acts are = (tt, are)

goes : (depth : Depth) (means : Update → LogEntry) (nodes : ℕ) (log : Log) (w : World) (acts : List Act) → nodes ≤ 64 → IsHeld nodes w
    → Plays nodes w acts
    → AreMeant depth means acts → BatchesAreMeant depth means w → IsLogOf means nodes w log → (played w acts).log.tail ≤ MOST_PLACES
    → IsStep depth means nodes log (history_from means w acts) (played w acts)
goes depth means nodes log w [] most held plays are meant of ends = record { may = tt; is = of }
goes depth means nodes log w (act ∷ acts) most held plays are meant of ends =
    let held_next = acts_hold nodes w act most held plays.0 in
    let grows = tail_grows nodes (acted w act) acts most held_next plays.1 in
    let head = head_meant depth means act acts are in
    let now = step depth means nodes log w act most held plays.0 meant of (omega (arith, grows, ends)) in
    let rest = goes depth means nodes (log_after_events log (events_of means w act)) (acted w act) acts most held_next plays.1 head.1
    (batches_meant depth means nodes w act plays.0 head.0 meant) now.is ends in
    record {
      may = go_on depth log (events_of means w act) (history_from means (acted w act) acts) now.may rest.may;
      is = subst (λ (l : Log). IsLogOf means nodes (played (acted w act) acts) l)
          (sym (after_both log (events_of means w act) (history_from means (acted w act) acts))) rest.is;
    }

whole : (depth : Depth) (means : Update → LogEntry) (nodes : ℕ) (acts : List Act) → IsScheduleFor depth means nodes acts
    → IsStep depth means nodes (new_log nodes) (history means nodes acts) (played (opening nodes) acts)
whole depth means nodes acts is =
    goes depth means nodes (new_log nodes) (opening nodes) acts is.few (opening_held nodes) is.plays is.meant
    (λ n. All-nil (IsLogEntry depth)) first is.ends where
      first : IsLogOf means nodes (opening nodes) (new_log nodes)
      first = record {
        entries = refl;
        one_each = length-replicate nodes 0;
        locals = λ r lt. get_or-replicate nodes r 0 0 lt;
      }

pub is_history : (depth : Depth) (means : Update → LogEntry) (nodes : ℕ) (acts : List Act) → IsScheduleFor depth means nodes acts
    → MayGoOn depth (new_log nodes) (history means nodes acts)
is_history depth means nodes acts is = (whole depth means nodes acts is).may

pub is_log : (depth : Depth) (means : Update → LogEntry) (nodes : ℕ) (acts : List Act) → IsScheduleFor depth means nodes acts
    → IsLogOf means nodes (played (opening nodes) acts) (log_after_events (new_log nodes) (history means nodes acts))
is_log depth means nodes acts is = (whole depth means nodes acts is).is
