use Rattle.std.proofs.Common.{ℕ, List, [], Option, Some, refl, subst, arith}
use Rattle.std.specs.Borrow.{Bor}
use Rattle.std.proofs.lemmas.Result.{err_from_is_err_and}
use Rattle.vs_types.specs.Refusal.{IfRefused}
use Rattle.nr_script.specs.Script.{IsBadLine}
use Rattle.nr_script.specs.inside.Reading.{IsReadUpTo}
use Rattle.nr_script.proofs.Gathered.{all_lists, line_more, next_number, number_fits, refused_at}
use Rattle.nr_script.proofs.script.read_lines.Goals as goal

pub loop-left-init : goal.loop-left-init
loop-left-init c = record {
  done = [];
  lines_are = refl;
  number_is = refl;
  said = [];
  each_says = tt;
  kept = c.in_ok-reading.ensures;
}

pub overflow_add-number : goal.overflow_add-number
overflow_add-number c =
    let fits = number_fits c.args.depth c.args.bytes.now c.loop-left.left c.loop-left.number c.loop-left.reading c.loop-left.invariant in
    omega arith

pub take_line-requires : goal.take_line-requires
take_line-requires c = record { lists = all_lists c.loop-left.invariant.said c.loop-left.reading c.loop-left.invariant.kept }

pub returns-in_err-take_line-clause-err : goal.returns-in_err-take_line-clause-err
returns-in_err-take_line-clause-err c =
    let bytes = c.args.bytes.now in
    let number = c.loop-left.number in
    let up = subst (λ (left : Option (Bor (List ℕ))). IsReadUpTo c.args.depth bytes left number c.loop-left.reading) c.in-Some.is c.loop-left.invariant in
    let next = next_number c.args.depth bytes (Some c.in-Some.text) number c.loop-left.reading up in
    let bad : IfRefused (λ bad. IsBadLine c.args.depth bytes bad.0) c.in_err-take_line.field-0.0 =
    refused_at c.args.depth bytes _ c.in-Some.text c.cut.result.1 number c.loop-left.reading up c.cut.ensures c.in_err-take_line.field-0.0
    (c.in_err-take_line.ensures up.said up.kept next) in
    let p = err_from_is_err_and c.from_residual-in_err-take_line.result c.from_residual-in_err-take_line.ensures.1 in
    rw (p.1, p.2) bad

pub loop-left-preserved : goal.loop-left-preserved
loop-left-preserved c =
    let bytes = c.args.bytes.now in
    let number = c.loop-left.number in
    let up = subst (λ (left : Option (Bor (List ℕ))). IsReadUpTo c.args.depth bytes left number c.loop-left.reading) c.in-Some.is c.loop-left.invariant in
    let next = next_number c.args.depth bytes (Some c.in-Some.text) number c.loop-left.reading up in
    let taken = c.in_ok-take_line.ensures up.said up.kept next in
    line_more c.args.depth bytes _ c.in-Some.text c.cut.result.1 number c.loop-left.reading c.take_line.new.self up c.cut.ensures taken.0 taken.1 taken.2
