use Rattle.std.proofs.Common.{◌≡◌, ◌<◌, length, map, sym, ap, subst, ◌∙◌}
use Rattle.vs_walk.specs.Dump.{Image}
use Rattle.vs_walk.specs.inside.Kept.{paired, words_at}
use Rattle.vs_walk.proofs.Dumps.{number_at, IsStanding, frame_count}
use Rattle.vs_walk.proofs.Kept.{as_many_frames}
use Rattle.vs_walk.proofs.dump.Dump.number.Goals as goal

stands : (c : goal.After-self)
    → IsStanding (paired c.self.inside.numbers.items c.self.inside.spans.items c.self.inside.places.items c.self.inside.words.items) c.args.self.now.frames
stands c = record { is = ap (λ (d : Image). d.frames) c.self.view_is; rising = c.self.invariant.parts.rising }

as_many : (c : goal.After-self) → length c.self.inside.numbers.items
    ≡ length (map (words_at c.self.inside.places.items c.self.inside.words.items) c.self.inside.spans.items)
as_many c = as_many_frames c.self.inside.numbers.items c.self.inside.spans.items c.self.inside.places.items c.self.inside.words.items c.self.invariant.as_many

within : (c : goal.After-self) → c.args.k < length c.self.inside.numbers.items
within c = subst (λ n. c.args.k < n) (frame_count _ _ _ (as_many c) (stands c)) c.requires

pub index-requires : goal.index-requires
index-requires c = subst (λ n. c.args.k < n) (sym c.self.inside.numbers.ok.0) (within c)

pub returns : goal.returns
returns c =
    let numbers = c.self.inside.numbers.items in
    let spans = c.self.inside.spans.items in
    let places = c.self.inside.places.items in
    let words = c.self.inside.words.items in
    let standing : IsStanding (paired numbers spans places words) c.args.self.now.frames =
    record { is = ap (λ (d : Image). d.frames) c.self.view_is; rising = c.self.invariant.parts.rising } in
    let many = as_many_frames numbers spans places words c.self.invariant.as_many in
    let fits : c.args.k < length numbers = subst (λ n. c.args.k < n) (frame_count _ _ _ many standing) c.requires in
    c.index.ensures ∙ sym (number_at _ _ _ c.args.k c.index.result.now many standing fits)
