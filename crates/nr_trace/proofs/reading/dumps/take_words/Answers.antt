use Rattle.std.proofs.Common.{refl, arith}
use Rattle.nr_trace.proofs.Frames.{run_taken, words_taken}
use Rattle.nr_trace.proofs.reading.dumps.take_words.Goals as goal

pub returns-then-words_come-eq-FRAME_WORDS : goal.returns-then-words_come-eq-FRAME_WORDS
returns-then-words_come-eq-FRAME_WORDS c =
    words_taken c.args.parts c.args.frame
    (record { dump = c.push_words.new.dump; index = c.args.frame.index; left = c.args.frame.left; owner = c.args.frame.owner })
    c.args.run.now c.in_ok-reader.reader
    c.push_words.ensures refl refl refl c.in_ok-reader.ensures

pub returns : goal.returns
returns c =
    run_taken c.args.parts c.args.frame
    (record { dump = c.push_words.new.dump; index = c.args.frame.index; left = c.args.frame.left; owner = c.args.frame.owner })
    c.args.run.now c.requires.ready
    c.push_words.ensures refl refl refl (omega (arith, c.if-words_come-eq-FRAME_WORDS.false, c.words_come.ensures.reads, c.words_come.ensures.few))
