use Rattle.std.proofs.Common.{◌≡◌, ◌+◌, sym, ap, ◌∙◌, arith}
use Rattle.std.specs.FinMap as finite
use Rattle.vs_arena.specs.Store.{StorePlace, zeros}
use Rattle.vs_arena.proofs.Stores.{IsInUse-insert_same}
use Rattle.vs_space.specs.Held.{Held, numbered}
use Rattle.vs_space.proofs.Numbered.{held, stored, numbers_stored, numbers_insert, whole-zeros, numbered-insert, get_numbered, len_numbered}
use Rattle.vs_space.proofs.Counts.{counted_insert, count_zeros}
use Rattle.vs_space.proofs.tables.Tables.take.Goals as goal

pub returns-in_err-frame-clause-all_in_use : goal.returns-in_err-frame-clause-all_in_use
returns-in_err-frame-clause-all_in_use g c =
    rw c.from_residual.ensures (ap (λ (h : Held). finite.len h.memory) (sym c.self.view_is) ∙ len_numbered _ _ ∙ c.in_err-frame.ensures.all_in_use
    ∙ ap (λ (h : Held). h.limit) c.self.view_is)

pub number-requires : goal.number-requires
number-requires g c = rw c.in_ok-frame.ensures.cleared (IsInUse-insert_same _ c.in_ok-frame.frame zeros)

pub invariant_of-self-2 : goal.invariant_of-self-2
invariant_of-self-2 g c = (
  rw c.in_ok-frame.ensures.cleared (whole-zeros _ _ c.self.invariant.0),
  numbers_stored _ c.take.ensures.same_place
      (ap (numbered (g.S.FrameStore.place c.self.inside.store).base) c.in_ok-frame.ensures.cleared ∙ numbered-insert _ _ _ zeros)
      (numbers_insert c.self.invariant.1 _ zeros (omega arith) (omega (arith, c.in_ok-frame.ensures.within))),
  rw (c.in_ok-frame.ensures.cleared, c.in_ok-frame.ensures.noted) (counted_insert c.self.invariant.2 c.in_ok-frame.frame zeros 0 (sym (count_zeros 512))),
)

pub returns-clause-numbers : goal.returns-clause-numbers
returns-clause-numbers g c =
    numbers_stored _ c.take.ensures.same_place
    (ap (numbered (g.S.FrameStore.place c.self.inside.store).base) c.in_ok-frame.ensures.cleared ∙ numbered-insert _ _ _ zeros)
    (numbers_insert c.self.invariant.1 _ zeros (omega arith) (omega (arith, c.in_ok-frame.ensures.within)))

pub returns-clause-was_free : goal.returns-clause-was_free
returns-clause-was_free g c =
    let named : c.number.result ≡ (g.S.FrameStore.place c.self.inside.store).base + c.in_ok-frame.frame = c.number.ensures.numbered
    ∙ ap (λ (p : StorePlace). p.base + c.in_ok-frame.frame) c.take.ensures.same_place in
    ap (λ (h : Held). finite.get h.memory c.number.result) (sym c.self.view_is)
    ∙ ap (finite.get _) named ∙ get_numbered _ _ c.in_ok-frame.frame ∙ c.in_ok-frame.ensures.was_free

pub returns-clause-taken : goal.returns-clause-taken
returns-clause-taken g c =
    let named : c.number.result ≡ (g.S.FrameStore.place c.self.inside.store).base + c.in_ok-frame.frame = c.number.ensures.numbered
    ∙ ap (λ (p : StorePlace). p.base + c.in_ok-frame.frame) c.take.ensures.same_place in
    stored _ c.take.ensures.same_place
    (ap (numbered (g.S.FrameStore.place c.self.inside.store).base) c.in_ok-frame.ensures.cleared ∙ numbered-insert _ _ _ zeros
    ∙ ap (λ n. finite.insert (numbered (g.S.FrameStore.place c.self.inside.store).base (g.S.FrameStore.frames c.self.inside.store)) n zeros) (sym named))
    ∙ ap (λ (h : Held). held h.lenders h.base h.limit (finite.insert h.memory c.number.result zeros)) c.self.view_is
