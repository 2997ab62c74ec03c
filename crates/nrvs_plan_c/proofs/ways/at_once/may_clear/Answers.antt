use Rattle.std.proofs.Common.{inr, sym, ◌∙◌}
use Rattle.std.specs.Prelude.{slice_index}
use Rattle.vs_space.proofs.Prunes.{word_in}
use Rattle.nrvs_plan_c.specs.Kept.{target_of}
use Rattle.nrvs_plan_c.proofs.Walking.{frame_shown}
use Rattle.nrvs_plan_c.proofs.ways.at_once.may_clear.Goals as goal

pub returns-in-Some : goal.returns-in-Some
returns-in-Some c = λ true memory address has at odd.
    let other = c.has_other.ensures.other true in
    let words = c.in-Some.words.now in
    inr (record {
      other = other.0;
      apart = λ e. other.1 (e ∙ sym at);
      word = slice_index words.word other.0;
      there =
          word_in memory c.args.end.number other.0 words.word
          (frame_shown (target_of c.args.target.now) memory c.args.first c.args.end.number c.args.frames.now has c.requires.within words
          c.in-Some.ensures.there);
      some = other.2;
    })
