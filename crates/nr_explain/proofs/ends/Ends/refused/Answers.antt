use Rattle.std.proofs.Common.{◌+◌, length, refl, ◌∙◌}
use Rattle.nr_explain.proofs.TwoEnds.{refused_of}
use Rattle.nr_explain.proofs.ends.Ends.refused.Goals as goal

pub returns : goal.returns
returns c = λ form bytes are given.
    let piece = c.args.piece.now in
    refused_of form bytes piece c.args.self c.args.refusal c.deref.result.now c.extend_from_slice.new.self.items (c.args.self.count + length piece)
    c.bad_unit.result are given c.requires.within (c.deref.ensures.value ∙ c.in_ok-keep_header.ensures) c.in_ok-extend_from_slice.ensures.items refl
    c.bad_unit.ensures
