use Rattle.std.proofs.Common.{◌≡◌, ◌+◌, ◌-◌, take, drop, sym, ap, ◌∙◌, arith}
use Rattle.vs_types.specs.declared.addresses.frame.TheConstants.{FRAME_WORDS}
use Rattle.vs_walk.specs.inside.Kept.{words_at}
use Rattle.vs_walk.proofs.dump.frame_at.Goals as goal

pub returns-in-Whole : goal.returns-in-Whole
returns-in-Whole c =
    let start = c.in-Whole.start in
    let long : start + FRAME_WORDS - start ≡ FRAME_WORDS = omega arith in
    c.lent.ensures ∙ ap (λ n. take n (drop start c.args.words.now)) long ∙ ap (words_at c.args.places.now c.args.words.now) (sym c.in-Whole.is)
