use Rattle.std.proofs.Common.{sym, arith}
use Rattle.std.proofs.lemmas.List.{get_or_past}
use Rattle.vs_walk.proofs.frame_words.FrameWords.word.Goals as goal

pub returns-then-index-ge-FRAME_WORDS : goal.returns-then-index-ge-FRAME_WORDS
returns-then-index-ge-FRAME_WORDS c =
    sym (get_or_past c.args.self.now c.args.index 0 (omega (arith, c.has_512.ensures, c.if-index-ge-FRAME_WORDS.true)))
