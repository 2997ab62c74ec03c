use Rattle.std.proofs.Common.{◌≡◌, true, subst, sym}
use Rattle.std.proofs.lemmas.List.Elements.{All-more}
use Rattle.nr_trace.specs.Recording.{IsImage}
use Rattle.nr_trace.proofs.Images.{image_of}
use Rattle.nr_trace.proofs.formats.ranges.all_have_frames.Goals as goal

pub returns-then-not-has_frames-clause-no : goal.returns-then-not-has_frames-clause-no
returns-then-not-has_frames-clause-no c =
    λ _. (
      c.loop-dump.dump-index,
      c.dump-item.result,
      c.loop-dump-test.true,
      sym c.dump-item.is,
      λ has. let yes : c.has_frames.result ≡ true = c.has_frames.ensures.count.1 has in cc,
    )

pub loop-dump-preserved : goal.loop-dump-preserved
loop-dump-preserved c =
    All-more (IsImage c.args.version) c.args.dumps.now c.loop-dump.dump-index c.dump-item.result c.loop-dump-test.true c.loop-dump.invariant
    (subst (IsImage c.args.version) c.dump-item.is
    (image_of c.args.version c.dump-item.result c.has_frames.ensures.is_dump (c.has_frames.ensures.count.0 c.if-not-has_frames.false)))
