use Rattle.std.proofs.Common.{◌-◌, [], length, drop, sym, subst, take_all, ◌∙◌, arith}
use Rattle.std.proofs.lemmas.Bool.{eqb-true}
use Rattle.std.proofs.lemmas.List.{length-drop, nil_from_length}
use Rattle.audit_readers.proofs.Writing.{IsWritten, at_any_error, writing_begins, writing_ends, writing_fails, writing_goes_on}
use Rattle.audit_readers.specs.Ends.{AppendsPart}
use Rattle.audit_readers.proofs.ends.write_whole.Goals as goal

pub loop-init : goal.loop-init
loop-init g c = writing_begins (g.W.Write.contents c.args.writer.now) c.args.text.now

pub loop-preserved : goal.loop-preserved
loop-preserved g c =
    let long = length-drop c.in_ok-count.count c.loop.rest.now in
    subst (IsWritten (g.W.Write.contents c.args.writer.now) (g.W.Write.contents c.write_some.new.writer) c.args.text.now)
    (sym (take_all (length c.loop.rest.now - c.in_ok-count.count) (drop c.in_ok-count.count c.loop.rest.now) (omega arith)))
    (writing_goes_on c.in_ok-count.count c.loop.invariant c.in_ok-count.ensures.ok)

pub returns-then-is_empty-clause-ok : goal.returns-then-is_empty-clause-ok
returns-then-is_empty-clause-ok g c =
    writing_ends c.loop.invariant (nil_from_length c.loop.rest.now (eqb-true (length c.loop.rest.now) 0 (sym c.is_empty.ensures ∙ c.if-is_empty.true)))

pub returns-in_err-count-clause-part : goal.returns-in_err-count-clause-part
returns-in_err-count-clause-part g c =
    let contents = g.W.Write.contents in
    at_any_error c.from_residual.result (AppendsPart (contents c.args.writer.now) (contents c.write_some.new.writer) c.args.text.now)
    (writing_fails c.loop.invariant c.in_err-count.ensures.nothing)
