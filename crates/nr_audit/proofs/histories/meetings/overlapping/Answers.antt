use Rattle.std.proofs.Common.{◌≡◌, ◌↔◌, ◌⊎◌, ℕ, ◌+◌, ◌<◌, ◌≤◌, cond, Option, Some, length, get_or, IsTrue, sym, ap, subst, ◌∙◌, arith}
use Rattle.std.specs.Prelude.{IsSomeAnd, max, nat_lt}
use Rattle.std.proofs.lemmas.Bool.{lt-ltb, ltb-true, true≢false}
use Rattle.std.proofs.lemmas.List.{get_or_read}
use Rattle.nr_audit.specs.inside.Meetings.{Asks, IsCountedTo, IsReachOf}
use Rattle.nr_audit.specs.declared.histories.meetings.Latest.{Latest}
use Rattle.nr_touch.proofs.Overs.{no_more, one_more}
use Rattle.nr_audit.proofs.Overlaps.{all_counted, next_call, no_call, reach_grows, reach_stays}
use Rattle.nr_audit.proofs.histories.meetings.overlapping.Goals as goal
use Rattle.nr_audit.proofs.histories.meetings.overlapping.Goals.{then-is_asked, then-meets, else-meets, else-is_asked, then-meets-2, else-meets-2}

pub index-reply-requires : goal.index-reply-requires
index-reply-requires c =
    let each = c.in_ok-replies.ensures.one_each in
    let all = ap length c.events.ensures.reads in
    omega (arith, each, all, c.in_ok-replies.replies.ok.0, c.loop-call-test.true)

pub loop-call-preserved : goal.loop-call-preserved
loop-call-preserved c =
    let trace = c.args.trace.now in
    let replies = c.in_ok-replies.replies.items in
    let are = c.in_ok-replies.ensures in
    let call = c.loop-call.call in
    let old = c.loop-call.invariant in
    let all : length c.events.result.now ≡ length trace.events = ap length c.events.ensures.reads in
    let few : length trace.events < 4294967296 = omega (arith, all, c.events.ensures.in_range) in
    let within : call < length trace.events = omega (arith, all, c.loop-call-test.true) in
    elim c.if-is_asked.branch [
      | then-is_asked w ↦
          let asks : Asks trace call = sym c.is_asked.ensures ∙ w.if-is_asked.true in
          let low : call < length replies = let each = are.one_each in omega (arith, each, within) in
          let read = get_or_read replies call w.index-reply.result.now low w.index-reply.ensures 0 in
          let sum : w.if-meets.count ≡ c.loop-call.count + cond w.meets.result 1 0 = elim w.if-meets.branch [
            | then-meets m ↦ one_more w.meets.result c.loop-call.count w.if-meets.count m.if-meets.true m.count-is
            | else-meets m ↦ no_more w.meets.result c.loop-call.count w.if-meets.count m.if-meets.false m.count-is
          ] in
          let has : IsTrue (nat_lt w.from.result c.loop-call.end) ↔ (call < c.loop-call.end) = (
            (λ t. subst (λ (n : ℕ). n < c.loop-call.end) w.from.ensures (ltb-true w.from.result c.loop-call.end t)),
            (λ less. lt-ltb w.from.result c.loop-call.end (subst (λ (n : ℕ). n < c.loop-call.end) (sym w.from.ensures) less)),
          ) in
          let says = subst (λ (n : ℕ). IsTrue w.meets.result
          ↔ IsSomeAnd c.loop-call.last (λ latest. (latest.reply < n) × (IsTrue latest.has_met ⊎ (call ≤ latest.reply)))) all w.meets.ensures in
          let grown : w.max-end.result ≡ max c.loop-call.end (get_or replies call 0 + 1) =
          w.max-end.ensures ∙ ap (λ (n : ℕ). max c.loop-call.end (n + 1)) (w.from-then-is_asked.ensures ∙ read) in
          record {
            reach = subst (IsReachOf trace replies (call + 1)) (sym w.end-is)
                (reach_grows trace replies call c.loop-call.end w.max-end.result asks grown old.reach);
            counted = subst (λ (l : Option Latest). IsCountedTo trace replies (call + 1) l c.if-is_asked.count) (sym w.last-is)
                (subst (IsCountedTo trace replies (call + 1) (Some (record {
                  call = call;
                  reply = w.index-reply.result.now;
                  has_met = nat_lt w.from.result c.loop-call.end;
                }))) (sym w.count-is)
                (next_call trace replies are few call c.loop-call.last c.loop-call.count w.if-meets.count c.loop-call.end w.index-reply.result.now
                (nat_lt w.from.result c.loop-call.end) w.meets.result within asks old.counted old.reach has says sum read));
            few = elim w.if-meets.branch [
              | then-meets m ↦ (let same = w.count-is in let more = m.count-is in let before = old.few in omega (arith, same, more, before))
              | else-meets m ↦ (let same = w.count-is in let more = m.count-is in let before = old.few in omega (arith, same, more, before))
            ];
          }
      | else-is_asked w ↦
          let none : Asks trace call → ⊥ = λ asks. true≢false (sym asks ∙ sym c.is_asked.ensures ∙ w.if-is_asked.false) in
          record {
            reach = subst (IsReachOf trace replies (call + 1)) (sym w.end-is) (reach_stays trace replies call c.loop-call.end none old.reach);
            counted = subst (λ (l : Option Latest). IsCountedTo trace replies (call + 1) l c.if-is_asked.count) (sym w.last-is)
                (subst (IsCountedTo trace replies (call + 1) c.loop-call.last) (sym w.count-is)
                (no_call trace replies are few call c.loop-call.last c.loop-call.count none old.counted));
            few = let same = w.count-is in let before = old.few in omega (arith, same, before);
          }
    ]

pub returns : goal.returns
returns c =
    let trace = c.args.trace.now in
    let replies = c.in_ok-replies.replies.items in
    let all : length c.events.result.now ≡ length trace.events = ap length c.events.ensures.reads in
    let few : length trace.events < 4294967296 = omega (arith, all, c.events.ensures.in_range) in
    let end : c.loop-call.call ≡ length trace.events = omega (arith, all, c.loop-call-test.false, c.loop-call.auto.call-end) in
    let sum : c.if-meets-2.count ≡ c.loop-call.count + cond c.meets-2.result 1 0 = elim c.if-meets-2.branch [
      | then-meets-2 m ↦ one_more c.meets-2.result c.loop-call.count c.if-meets-2.count m.if-meets-2.true m.count-is
      | else-meets-2 m ↦ no_more c.meets-2.result c.loop-call.count c.if-meets-2.count m.if-meets-2.false m.count-is
    ] in
    let says =
    subst (λ (n : ℕ). IsTrue c.meets-2.result ↔ IsSomeAnd c.loop-call.last (λ latest. (latest.reply < n) × (IsTrue latest.has_met ⊎ (n ≤ latest.reply))))
    all c.meets-2.ensures in
    all_counted trace replies c.in_ok-replies.ensures few c.loop-call.last c.loop-call.count c.if-meets-2.count c.meets-2.result
    (subst (λ (n : ℕ). IsCountedTo trace replies n c.loop-call.last c.loop-call.count) end c.loop-call.invariant.counted) says sum
