use Rattle.std.proofs.Common.{◌≡◌, ◌∙◌, ℕ, ◌-◌, ◌==◌, ◌⊎◌, inr, refl, true, false, length, take_all, drop, ap, sym, subst, arith}
use Rattle.std.proofs.lemmas.Bool.{eqb-true}
use Rattle.std.proofs.lemmas.List.{length-drop, nil_from_length}
use Rattle.nr_chain.specs.Verdict.{EndsWithin, FeedsChain}
use Rattle.audit_readers.specs.inside.Going.{TakesSome}
use Rattle.audit_readers.specs.declared.fault.ProgFault.{ProgFault}
use Rattle.audit_readers.specs.declared.fault.ProgFault.TheVariants.{CannotWrite, Memory}
use Rattle.audit_texts.specs.ChainText.{shown_lines}
use Rattle.audit_readers.proofs.Growing.{grows_on}
use Rattle.audit_readers.proofs.Going.{block_begins, block_grows, block_left, block_taken, block_wrong, next_segment, passed_on, some_taken, still_counted, unwritten_lines}
use Rattle.audit_readers.proofs.chain.audit.take_block.Goals as goal

pub segments-init : goal.segments-init
segments-init g c = λ run kept short.
    block_begins run c.args.style c.args.begun c.args.right c.args.block.now (g.W.Write.contents c.args.writer.now) kept short

pub returns-in-More-clause-ok : goal.returns-in-More-clause-ok
returns-in-More-clause-ok g c = λ run kept short.
    let under = c.segments.invariant run kept short in
    block_taken run c.args.style c.args.begun c.segments.chain c.in-More.next c.args.right c.segments.number c.args.block.now c.segments.rest.now _ _
    under (subst (FeedsChain under.last c.segments.chain c.segments.rest.now) c.in-More.is (c.in_ok-next.ensures.feeds under.last under.kept))

pub segments-preserved : goal.segments-preserved
segments-preserved g c = λ run kept short.
    let under = c.segments.invariant run kept short in
    let long = length-drop c.in-Right.count c.segments.rest.now in
    let within = subst (EndsWithin c.is_some-counts.result c.segments.rest.now) c.in-Right.is c.in_ok-next.ensures.within in
    next_segment run c.args.style c.args.begun c.segments.chain c.in-Right.next c.args.right c.segments.number c.in-Right.count c.args.block.now
    c.segments.rest.now _ c.in-Right.order c.in-Right.met _ _ _ _ under
    (subst (FeedsChain under.last c.segments.chain c.segments.rest.now) c.in-Right.is (c.in_ok-next.ensures.feeds under.last under.kept))
    (within.2 ∙ c.is_some-counts.ensures ∙ sym (still_counted _ _ run under.last _ _ under.taken.orders under.taken.goes_on)) c.totals_if-totals.ensures
    c.in_ok-write_right-in-Right.ensures.ok
    (take_all (length c.segments.rest.now - c.in-Right.count) (drop c.in-Right.count c.segments.rest.now) (omega arith))

pub overflow_add-number : goal.overflow_add-number
overflow_add-number g c =
    let known = c.requires.known in
    let under = c.segments.invariant known.0 known.1 known.2 in
    let within = subst (EndsWithin c.is_some-counts.result c.segments.rest.now) c.in-Right.is c.in_ok-next.ensures.within in
    let few = under.few in
    let room = c.requires.room in
    omega (arith, few, within.0, within.1, room)

pub returns-in-Wrong-clause-ok : goal.returns-in-Wrong-clause-ok
returns-in-Wrong-clause-ok g c = λ run kept short.
    let under = c.segments.invariant run kept short in
    block_wrong run c.args.style c.args.begun c.segments.chain c.args.right c.segments.number c.args.block.now c.segments.rest.now _ _ c.in-Wrong.fault
    under (subst (FeedsChain under.last c.segments.chain c.segments.rest.now) c.in-Wrong.is (c.in_ok-next.ensures.feeds under.last under.kept))
    (λ none. absurd (
    let zero : length c.segments.rest.now ≡ 0 = ap length none in
    let empty : c.is_empty.result ≡ true = c.is_empty.ensures ∙ ap (λ (n : ℕ). n == 0) zero in
    let some : c.is_empty.result ≡ false = c.segments-test.true in cc))

pub returns-clause-ok : goal.returns-clause-ok
returns-clause-ok g c = λ run kept short.
    let none = nil_from_length c.segments.rest.now (eqb-true (length c.segments.rest.now) 0 (sym c.is_empty.ensures ∙ c.segments-test.false)) in
    block_left run c.args.style c.args.begun c.segments.chain c.args.right c.segments.number c.args.block.now c.segments.rest.now _ _
    (c.segments.invariant run kept short) none

pub returns-in_err-write_right-in-Right-clause-err : goal.returns-in_err-write_right-in-Right-clause-err
returns-in_err-write_right-in-Right-clause-err g c = λ run kept short.
    let contents = g.W.Write.contents in
    passed_on c.from_residual-in_err-write_right-in-Right.result c.in_err-write_right-in-Right.field-0.0
    (λ (fault : ProgFault). (fault ≡ CannotWrite) ⊎ ((fault ≡ Memory)
    × TakesSome run c.args.style c.args.begun c.args.right c.args.block.now (contents c.args.writer.now) (contents c.write_right.new.writer) c.args.counted))
    c.from_residual-in_err-write_right-in-Right.ensures.1
    (unwritten_lines run c.args.style c.args.begun c.segments.chain c.args.right c.segments.number c.args.block.now c.segments.rest.now
    (contents c.args.writer.now) contents c.segments.writer c.write_right.new.writer c.in_err-write_right-in-Right.field-0.0
    (c.segments.invariant run kept short) c.in_err-write_right-in-Right.ensures.err)

pub returns-in_err-write_right-in-Right-clause-grown : goal.returns-in_err-write_right-in-Right-clause-grown
returns-in_err-write_right-in-Right-clause-grown g c =
    let contents = g.W.Write.contents in
    let known = c.requires.known in
    let taken = (c.segments.invariant known.0 known.1 known.2).taken in
    grows_on (contents c.args.writer.now) (contents c.segments.writer) (contents c.write_right.new.writer)
    (shown_lines c.args.style c.args.right taken.orders, taken.written) c.in_err-write_right-in-Right.ensures.grown

pub returns-in_err-next-clause-err : goal.returns-in_err-next-clause-err
returns-in_err-next-clause-err g c = λ run kept short.
    let contents = g.W.Write.contents in
    passed_on c.from_residual.result Memory
    (λ (fault : ProgFault). (fault ≡ CannotWrite) ⊎ ((fault ≡ Memory)
    × TakesSome run c.args.style c.args.begun c.args.right c.args.block.now (contents c.args.writer.now) (contents c.segments.writer) c.args.counted))
    c.from_residual.ensures.1
    (inr (
      refl,
      some_taken run c.args.style c.args.begun c.segments.chain c.args.right c.segments.number c.args.block.now c.segments.rest.now
          (contents c.args.writer.now) (contents c.segments.writer) (contents c.segments.writer) (c.segments.invariant run kept short) refl,
    ))

pub returns-in_err-next-clause-grown : goal.returns-in_err-next-clause-grown
returns-in_err-next-clause-grown g c =
    let known = c.requires.known in
    block_grows known.0 c.args.style c.args.begun c.segments.chain c.args.right c.segments.number c.args.block.now c.segments.rest.now _ _
    (c.segments.invariant known.0 known.1 known.2)

pub returns-in-More-clause-grown : goal.returns-in-More-clause-grown
returns-in-More-clause-grown g c =
    let known = c.requires.known in
    block_grows known.0 c.args.style c.args.begun c.segments.chain c.args.right c.segments.number c.args.block.now c.segments.rest.now _ _
    (c.segments.invariant known.0 known.1 known.2)

pub returns-in-Wrong-clause-grown : goal.returns-in-Wrong-clause-grown
returns-in-Wrong-clause-grown g c =
    let known = c.requires.known in
    block_grows known.0 c.args.style c.args.begun c.segments.chain c.args.right c.segments.number c.args.block.now c.segments.rest.now _ _
    (c.segments.invariant known.0 known.1 known.2)

pub returns-clause-grown : goal.returns-clause-grown
returns-clause-grown g c =
    let known = c.requires.known in
    block_grows known.0 c.args.style c.args.begun c.segments.chain c.args.right c.segments.number c.args.block.now c.segments.rest.now _ _
    (c.segments.invariant known.0 known.1 known.2)
