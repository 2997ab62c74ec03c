use Rattle.std.proofs.Common.{ℕ, ◌-◌, List, ◌++◌, Some, subst, sym, arith}
use Rattle.vs_walk.specs.Dump.{Image}
use Rattle.nr_trace.specs.inside.Progress.{AtWords, BehindFrames, Belongs, HasRead, frame_begun, opened_spelling, whole_of, words_begun}
use Rattle.nr_trace.specs.declared.refusals.refusal.Refusal.{Refusal}
use Rattle.nr_trace.specs.declared.reading.reader.Reader.TheVariants.{Frame}
use Rattle.nr_trace.proofs.Frames.{dump_taken, frame_taken, grown, grown_belongs}
use Rattle.nr_trace.proofs.reading.dumps.end_frame.Goals as goal

pub put_dump-requires : goal.put_dump-requires
put_dump-requires c =
    let parts = c.args.parts in
    let frame = c.args.frame in
    record {
      in_range = c.requires.opened.in_range;
      belongs = subst (λ (d : Image). Belongs parts frame.owner d) (sym c.end_frame-dump.ensures.made)
          (grown_belongs parts frame c.requires.opened c.requires.in_range c.requires.above c.requires.whole c.if-left-eq0.true);
    }

pub returns-then-left-eq0 : goal.returns-then-left-eq0
returns-then-left-eq0 c =
    let parts = c.args.parts in
    let frame = c.args.frame in
    let reader = c.in_ok-reader.reader in
    dump_taken parts frame c.requires.opened c.requires.in_range c.requires.above c.requires.whole c.if-left-eq0.true reader
    (subst (λ (d : Image). HasRead parts.form (opened_spelling parts (whole_of frame.owner d)) (BehindFrames parts frame.owner) reader)
    c.end_frame-dump.ensures.made c.in_ok-reader.ensures)

pub returns : goal.returns
returns c =
    let parts = c.args.parts in
    let frame = c.args.frame in
    let bytes = frame_begun parts frame ++ words_begun frame in
    let Behind : List ℕ → Refusal → Type 0 = λ rest fault. AtWords parts frame (words_begun frame ++ rest) fault in
    subst (λ (d : Image). HasRead parts.form bytes Behind
    (Frame parts (record { dump = d; left = frame.left - 1; owner = frame.owner }) (Some c.number-number.result)))
    (sym c.end_frame-dump.ensures.made)
    (subst (λ (n : ℕ). HasRead parts.form bytes Behind (Frame parts (grown frame) (Some n))) (sym c.number-number.ensures)
    (frame_taken parts frame c.requires.opened c.requires.in_range c.requires.above c.requires.whole (omega (arith, c.if-left-eq0.false))))
