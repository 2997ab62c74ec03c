use Rattle.std.proofs.Common.{sym, ap, subst, ◌∙◌}
use Rattle.vs_walk.specs.Dump.{Image, IsDump}
use Rattle.vs_walk.specs.inside.Kept.{paired}
use Rattle.vs_walk.proofs.Dumps.{entries_stand, frame_count, IsStanding}
use Rattle.vs_walk.proofs.Kept.{as_many_frames}
use Rattle.vs_walk.proofs.dump.Dump.count.Goals as goal

pub returns-clause-reads : goal.returns-clause-reads
returns-clause-reads c =
    let numbers = c.self.inside.numbers.items in
    let spans = c.self.inside.spans.items in
    let places = c.self.inside.places.items in
    let words = c.self.inside.words.items in
    let stands : IsStanding (paired numbers spans places words) c.args.self.now.frames =
    record { is = ap (λ (d : Image). d.frames) c.self.view_is; rising = c.self.invariant.parts.rising } in
    c.len.ensures ∙ c.self.inside.numbers.ok.0 ∙ sym (frame_count _ _ _ (as_many_frames numbers spans places words c.self.invariant.as_many) stands)

pub returns-clause-is_dump : goal.returns-clause-is_dump
returns-clause-is_dump c = subst IsDump c.self.view_is (rw (entries_stand _ c.self.invariant.parts.rising) c.self.invariant.parts)
