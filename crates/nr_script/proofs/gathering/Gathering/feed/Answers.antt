use Rattle.std.proofs.Common.{ℕ, ◌-◌, List, drop, length, refl, subst, take, arith}
use Rattle.std.proofs.lemmas.List.{length-drop, take_rest}
use Rattle.std.proofs.lemmas.Result.{err_from_is_err_and}
use Rattle.nr_script.specs.Fed.{FeedsLine, GoesOn}
use Rattle.nr_script.specs.declared.line_feed.Fed.{Fed}
use Rattle.nr_script.specs.inside.Gathering.{state_of}
use Rattle.nr_script.proofs.Portions.{ended_line, fed_line, fed_refused, fed_whole, takes_none}
use Rattle.nr_script.proofs.gathering.Gathering.feed.Goals as goal

pub loop-taken-init : goal.loop-taken-init
loop-taken-init c = record {
  within = omega arith;
  counted = c.requires.counted;
  few = c.requires.few;
  takes = takes_none (state_of c.args.depth c.args.lines.now c.args.self.now) c.requires.counted.fits;
  some = λ none. refl;
}

pub returns-in-More-clause-takes : goal.returns-in-More-clause-takes
returns-in-More-clause-takes c =
    let piece = c.args.piece.now in
    let taken = c.loop-taken.taken in
    let rest = take (length piece - taken) (drop taken piece) in
    let goes = subst (λ (fed : Fed). FeedsLine c.args.depth c.loop-taken.lines rest c.feed.new.self fed) c.in-More.is c.in_ok-feed.ensures.fed in
    fed_whole c.args.depth c.args.lines.now c.loop-taken.lines c.feed.new.self piece c.args.self.now c.loop-taken.self c.args.most taken
    c.loop-taken.invariant (subst (λ (rest : List ℕ). GoesOn c.loop-taken.lines rest c.feed.new.self) (take_rest piece taken) goes)

pub returns-in_err-take-in-Ended-clause-bad : goal.returns-in_err-take-in-Ended-clause-bad
returns-in_err-take-in-Ended-clause-bad c =
    let piece = c.args.piece.now in
    let taken = c.loop-taken.taken in
    let count = c.in-Ended.count in
    let said = c.in-Ended.said in
    let begun = c.loop-taken.lines in
    let new = c.feed.new.self in
    let ends = ended_line c.args.depth begun new piece taken count said _ c.in-Ended.is c.in_ok-feed.ensures.fed in
    let bad = fed_refused c.args.depth c.args.lines.now begun new piece c.args.self.now c.loop-taken.self c.args.most taken count said
    c.in_err-take-in-Ended.field-0.0 c.loop-taken.invariant c.if-self-most.false ends c.in_err-take-in-Ended.ensures.bad in
    let p = err_from_is_err_and c.from_residual-in_err-take-in-Ended.result c.from_residual-in_err-take-in-Ended.ensures.1 in
    rw (p.1, p.2) bad

pub loop-taken-preserved : goal.loop-taken-preserved
loop-taken-preserved c =
    let piece = c.args.piece.now in
    let taken = c.loop-taken.taken in
    let count = c.in-Ended.count in
    let said = c.in-Ended.said in
    let begun = c.loop-taken.lines in
    let new = c.feed.new.self in
    let ends = ended_line c.args.depth begun new piece taken count said _ c.in-Ended.is c.in_ok-feed.ensures.fed in
    let within = ends.within in
    let some = ends.some in
    let long = length-drop taken piece in
    let more = c.in_ok-take-in-Ended.ensures.few in
    let room = c.if-self-most.false in
    record {
      within = omega (arith, within, long, c.loop-taken.invariant.within);
      counted = c.in_ok-take-in-Ended.ensures.counted;
      few = omega (arith, more, room);
      takes = fed_line c.args.depth c.args.lines.now begun new piece c.args.self.now c.loop-taken.self c.take.new.self c.args.most taken count said
          c.loop-taken.invariant ends c.in_ok-take-in-Ended.ensures.taken;
      some = λ none. absurd (omega (arith, none, some));
    }
