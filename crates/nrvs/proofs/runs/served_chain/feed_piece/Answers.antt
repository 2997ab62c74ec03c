use Rattle.std.proofs.Common.{◌≡◌, ◌≢◌, ◌∙◌, ◌-◌, ◌<◌, ◌++◌, ℕ, List, Option, length, ap, drop, sym, subst, take, arith}
use Rattle.std.proofs.lemmas.Bool.{eqb-false, eqb-true}
use Rattle.std.proofs.lemmas.List.{length-drop, take_rest}
use Rattle.audit_readers.proofs.Going.{passed_on}
use Rattle.audit_readers.specs.declared.fault.ProgFault.{ProgFault}
use Rattle.audit_readers.specs.declared.fault.ProgFault.TheVariants.{CannotWrite}
use Rattle.nrvs.specs.inside.ChainGoing.{HasRunSegment, HasWrittenSome, IsLastingFault}
use Rattle.nrvs.proofs.ServedBlocks.{whatever_fault}
use Rattle.nrvs.proofs.ServedFaults.{run_fault}
use Rattle.nrvs.proofs.ServedPieces.{emptied_few, under_begins, under_done, under_ends, under_fault, under_goes, under_more, under_scripts, under_written}
use Rattle.nrvs.proofs.runs.served_chain.feed_piece.Goals as goal

pub segments-init : goal.segments-init
segments-init g c =
    (under_begins c.args.setup c.args.chain c.args.piece.now (g.W.Write.contents c.args.writer.now) c.args.run c.args.portion.now, c.requires.few)

pub feed-requires : goal.feed-requires
feed-requires g c = omega (arith, c.segments.invariant.1)

-- a line of the piece is bad
pub returns-in-Err-clause-err : goal.returns-in-Err-clause-err
returns-in-Err-clause-err g c = λ bytes old come.
    subst (IsLastingFault c.args.setup.depth (bytes ++ c.args.piece.now)) (sym c.script_fault.ensures)
    (under_fault c.args.setup c.args.chain c.args.piece.now c.segments.rest.now _ _ c.args.run c.segments.going c.args.portion.now c.segments.portion
    c.in-Err.fail c.segments.invariant.0 c.in-Err.ensures.bad bytes old come)

pub returns-in-Err-clause-first : goal.returns-in-Err-clause-first
returns-in-Err-clause-first g c = λ bytes old come written.
    under_written c.args.setup c.args.chain c.args.piece.now c.segments.rest.now _ _ c.args.run c.segments.going c.args.portion.now c.segments.portion
    c.segments.invariant.0 (omega (arith, c.segments.invariant.1)) bytes old come

-- the segment is not full with it
pub segments-preserved-then-asked-most : goal.segments-preserved-then-asked-most
segments-preserved-then-asked-most g c = (
  under_more c.args.setup c.args.chain c.args.piece.now c.segments.rest.now _ c.in-Ok.taken _ _ c.args.run c.segments.going c.args.portion.now
      c.segments.portion c.feed.new.self c.segments.invariant.0 c.in-Ok.ensures.takes (take_rest c.segments.rest.now c.in-Ok.taken),
  subst (λ (n : ℕ). n < c.args.chain.most) c.asked.ensures.count c.if-asked-most.true,
)

pub segments-smaller-then-asked-most : goal.segments-smaller-then-asked-most
segments-smaller-then-asked-most g c =
    let rest = c.segments.rest.now in
    let taken = c.in-Ok.taken in
    let left : length (take (length rest - taken) (drop taken rest)) ≡ length (drop taken rest) = ap (λ (l : List ℕ). length l) (take_rest rest taken) in
    let long = length-drop taken rest in
    let some = c.in-Ok.ensures.some c.segments.invariant.1
    (omega (arith, eqb-false (length rest) 0 (sym c.is_empty.ensures ∙ c.segments-test.true))) in
    omega (arith, left, long, some, c.in-Ok.ensures.within)

-- memory is refused
pub returns-in_err-scripts-clause-first : goal.returns-in_err-scripts-clause-first
returns-in_err-scripts-clause-first g c = λ bytes old come.
    whatever_fault c.from_residual.result _
    (under_written c.args.setup c.args.chain c.args.piece.now _ _ _ c.args.run c.segments.going c.args.portion.now c.feed.new.self
    (under_more c.args.setup c.args.chain c.args.piece.now c.segments.rest.now _ c.in-Ok.taken _ _ c.args.run c.segments.going c.args.portion.now
    c.segments.portion c.feed.new.self c.segments.invariant.0 c.in-Ok.ensures.takes (take_rest c.segments.rest.now c.in-Ok.taken))
    c.in-Ok.ensures.few bytes old come)

pub run_segment-requires-clause-scripts : goal.run_segment-requires-clause-scripts
run_segment-requires-clause-scripts g c κs within =
    under_scripts c.args.setup c.args.chain c.args.piece.now _ _ _ c.args.run c.segments.going c.args.portion.now c.feed.new.self _
    (under_more c.args.setup c.args.chain c.args.piece.now c.segments.rest.now _ c.in-Ok.taken _ _ c.args.run c.segments.going c.args.portion.now
    c.segments.portion c.feed.new.self c.segments.invariant.0 c.in-Ok.ensures.takes (take_rest c.segments.rest.now c.in-Ok.taken)) c.requires.come
    (omega (arith, c.in-Ok.ensures.few, c.args.chain.in_range.1)) c.in_ok-scripts.ensures.lists

-- the segment is not run, or not written
pub returns-in_err-next-clause-err : goal.returns-in_err-next-clause-err
returns-in_err-next-clause-err g c = λ bytes old come.
    let whole = bytes ++ c.args.piece.now in
    passed_on c.from_residual-in_err-next.result c.in_err-next.field-0.0 (IsLastingFault c.args.setup.depth whole) c.from_residual-in_err-next.ensures.1
    (run_fault c.args.setup.depth whole c.in_err-next.field-0.0 c.in_err-next.ensures.err)

pub returns-in_err-next-clause-first : goal.returns-in_err-next-clause-first
returns-in_err-next-clause-first g c = λ bytes old come.
    let contents = g.W.Write.contents in
    let piece = c.args.piece.now in
    let Written = λ (now : Option (List ℕ)). HasWrittenSome c.args.setup c.args.chain (length piece) (bytes ++ piece) old now in
    passed_on c.from_residual-in_err-next.result c.in_err-next.field-0.0
    (λ (fault : ProgFault). fault ≢ CannotWrite → Written (contents c.run_segment.new.writer)) c.from_residual-in_err-next.ensures.1
    (λ written. subst Written (sym (ap contents (c.in_err-next.ensures.alone written)))
    (under_written c.args.setup c.args.chain piece _ _ _ c.args.run c.segments.going c.args.portion.now c.feed.new.self
    (under_more c.args.setup c.args.chain piece c.segments.rest.now _ c.in-Ok.taken _ _ c.args.run c.segments.going c.args.portion.now
    c.segments.portion c.feed.new.self c.segments.invariant.0 c.in-Ok.ensures.takes (take_rest c.segments.rest.now c.in-Ok.taken))
    c.in-Ok.ensures.few bytes old come))

-- the run goes on, or ends
pub segments-preserved : goal.segments-preserved
segments-preserved g c = (
  under_goes c.args.setup c.args.chain c.args.piece.now _ _ _ _ c.args.run c.segments.going c.in-GoesOn.next c.args.portion.now c.feed.new.self
      c.hand_out.new.self _
      (under_more c.args.setup c.args.chain c.args.piece.now c.segments.rest.now _ c.in-Ok.taken _ _ c.args.run c.segments.going c.args.portion.now
      c.segments.portion c.feed.new.self c.segments.invariant.0 c.in-Ok.ensures.takes (take_rest c.segments.rest.now c.in-Ok.taken))
      (omega (arith, c.in-Ok.ensures.few, c.asked.ensures.count, c.if-asked-most.false)) c.in_ok-scripts.ensures.lists
      (subst (HasRunSegment c.args.chain.as_trace c.segments.going _ _ _) c.in-GoesOn.is c.in_ok-next.ensures.ok) c.in_ok-scripts.ensures.rest,
  emptied_few c.feed.new.self c.hand_out.new.self c.args.chain.most c.args.chain.in_range.0 c.in_ok-scripts.ensures.rest,
)

pub segments-smaller : goal.segments-smaller
segments-smaller g c =
    let rest = c.segments.rest.now in
    let taken = c.in-Ok.taken in
    let left : length (take (length rest - taken) (drop taken rest)) ≡ length (drop taken rest) = ap (λ (l : List ℕ). length l) (take_rest rest taken) in
    let long = length-drop taken rest in
    let some = c.in-Ok.ensures.some c.segments.invariant.1
    (omega (arith, eqb-false (length rest) 0 (sym c.is_empty.ensures ∙ c.segments-test.true))) in
    omega (arith, left, long, some, c.in-Ok.ensures.within)

pub returns-in-Ends-clause-ok : goal.returns-in-Ends-clause-ok
returns-in-Ends-clause-ok g c = λ bytes old come.
    under_ends c.args.setup c.args.chain c.args.piece.now _ _ _ _ c.args.run c.segments.going c.args.portion.now c.feed.new.self _ c.in-Ends.status
    (under_more c.args.setup c.args.chain c.args.piece.now c.segments.rest.now _ c.in-Ok.taken _ _ c.args.run c.segments.going c.args.portion.now
    c.segments.portion c.feed.new.self c.segments.invariant.0 c.in-Ok.ensures.takes (take_rest c.segments.rest.now c.in-Ok.taken))
    (omega (arith, c.in-Ok.ensures.few, c.asked.ensures.count, c.if-asked-most.false)) c.in_ok-scripts.ensures.lists
    (subst (HasRunSegment c.args.chain.as_trace c.segments.going _ _ _) c.in-Ends.is c.in_ok-next.ensures.ok) bytes old come

-- the whole piece is taken
pub returns-clause-ok : goal.returns-clause-ok
returns-clause-ok g c = λ bytes old come.
    under_done c.args.setup c.args.chain c.args.piece.now c.segments.rest.now _ _ c.args.run c.segments.going c.args.portion.now c.segments.portion
    c.segments.invariant.0 (eqb-true (length c.segments.rest.now) 0 (sym c.is_empty.ensures ∙ c.segments-test.false)) bytes old come

pub returns-clause-few : goal.returns-clause-few
returns-clause-few g c = c.segments.invariant.1
