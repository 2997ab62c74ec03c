use Rattle.std.proofs.Common.{below_more, sym, ◌∙◌, ap, option_copied}
use Rattle.vs_types.specs.Entry.{meaning}
use Rattle.vs_space.proofs.Prunes.{word_in, entry_word, first_here}
use Rattle.vs_space.proofs.tables.Tables.first_present.Goals as goal

pub returns-in_default-read : goal.returns-in_default-read
returns-in_default-read g c = record {
  none = tt;
  first = first_here c.args.level _ c.args.number c.loop-index.index _ _ c.loop-index-test.true c.loop-index.invariant
      (word_in _ c.args.number c.loop-index.index c.in-Some.words.now (sym c.words.ensures ∙ ap option_copied c.in-Some.is))
      (c.read.ensures ∙ ap (meaning c.args.level) c.new.ensures) c.in_default-read.not-Absent;
}

pub loop-index-preserved : goal.loop-index-preserved
loop-index-preserved g c = below_more _ _ c.loop-index.invariant
    (entry_word c.args.level _ c.args.number c.loop-index.index _ _
    (word_in _ c.args.number c.loop-index.index c.in-Some.words.now (sym c.words.ensures ∙ ap option_copied c.in-Some.is))
    (c.in-Absent.ensures ∙ ap (meaning c.args.level) c.new.ensures))
