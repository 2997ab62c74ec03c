use Rattle.std.proofs.Common.{refl, ◌∙◌, arith, length-append}
use Rattle.nr_explain.specs.declared.ends.TheConstants.{TAIL_BYTES}
use Rattle.nr_explain.specs.declared.units.TheConstants.{HEADER_BYTES}
use Rattle.nr_explain.proofs.TwoEnds.{more_first, more_last}
use Rattle.nr_explain.proofs.ends.Ends.keep.Goals as goal

pub returns : goal.returns
returns c = λ bytes are.
    let piece = c.args.piece.now in
    record {
      count = omega (arith, are.count, length-append bytes piece);
      header = c.in_ok-keep_header.ensures ∙ more_first bytes piece c.args.self.now.header.items HEADER_BYTES _ are.header refl;
      tail = c.in_ok-keep_tail.ensures ∙ more_last bytes piece c.args.self.now.tail.items TAIL_BYTES are.tail;
    }
