use Rattle.std.proofs.Common.{◌≡◌, ⊎_elim, ◌<◌, ◌+◌, ◌++◌, ◌∷◌, [], List, Some, length, drop, get_or, ap, sym, subst, ◌∙◌, arith, append_assoc, length-append}
use Rattle.std.specs.Prelude.{slice_get}
use Rattle.std.proofs.lemmas.Option.{slice_get-get_or, slice_get_within}
use Rattle.nr_slots.specs.Updates.{Answered, Waiting}
use Rattle.nr_node.specs.Calls.{answered_from, entry_of}
use Rattle.nr_node.proofs.Lists.{drop_here}
use Rattle.nr_node.proofs.Replicas.{answered_one}
use Rattle.nr_node.proofs.replica.Replica.answer_from.Goals as goal

pub unreachable-requires : goal.unreachable-requires
unreachable-requires g c =
    let batch = c.args.batch.now.items in
    let i = c.loop-waiting.waiting-index in
    let is = c.loop-waiting.invariant in
    let same = c.as_slice-waiting-items.ensures.value in
    let within : i < length batch = omega (arith, c.loop-waiting-test.true, ap (λ (l : List Waiting). length l) same) in
    let stands = c.requires.stand i (get_or batch i c.waiting-item.result) (slice_get-get_or batch i c.waiting-item.result within) in
    let below = slice_get_within c.args.self.now.entries (c.args.first + i) _ stands in
    ⊎_elim (λ low. omega (arith, is.0, low, c.requires.above)) (λ behind. omega (arith, is.0, below, behind)) c.in_default.ensures.so

pub loop-waiting-preserved : goal.loop-waiting-preserved
loop-waiting-preserved g c =
    let self = c.args.self.now in
    let batch = c.args.batch.now.items in
    let i = c.loop-waiting.waiting-index in
    let place = c.loop-waiting.place in
    let x = c.waiting-item.result in
    let is = c.loop-waiting.invariant in
    let same = c.as_slice-waiting-items.ensures.value in
    let within : i < length batch = omega (arith, c.loop-waiting-test.true, ap (λ (l : List Waiting). length l) same) in
    let Here : List Waiting → Type 0 = λ l. x ≡ get_or l i x in
    let here : x ≡ get_or batch i x = subst Here same c.waiting-item.is in
    let stands : slice_get self.entries (c.args.first + i) ≡ Some (entry_of x) =
    c.requires.stand i x (slice_get-get_or batch i x within ∙ ap Some (sym here)) in
    let so = c.in-Some.ensures.so (entry_of x) (ap (slice_get self.entries) is.0 ∙ stands) in
    let made = answered_one self.depth self.tables self.entries place x c.in-Some.answer so in
    let rest = answered_from self.depth self.tables self.entries (place + 1) (drop (i + 1) batch) in (
      omega (arith, is.0),
      ap (λ (l : List Answered). length l) c.push.ensures.items ∙ length-append c.loop-waiting.answers.items _ ∙ ap (λ k. k + 1) is.1,
      is.2
          ∙ ap (λ l. c.loop-waiting.answers.items ++ answered_from self.depth self.tables self.entries place l) (drop_here batch i x within here)
          ∙ ap (λ a. c.loop-waiting.answers.items ++ a ∷ rest) (made ∙ sym c.new.ensures)
          ∙ sym (append_assoc c.loop-waiting.answers.items (_ ∷ []) rest)
          ∙ ap (λ l. l ++ rest) (sym c.push.ensures.items),
    )
