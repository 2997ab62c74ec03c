use Rattle.std.proofs.Common.{◌≡◌, ℕ, ◌+◌, ◌-◌, ◌<◌, List, Some, [], Ok, Err, length, get_or, map, take, drop, sym, ap, ◌∙◌, arith}
use Rattle.std.proofs.lemmas.List.{get_or-map}
use Rattle.vs_types.specs.declared.addresses.frame.TheConstants.{FRAME_WORDS}
use Rattle.vs_walk.specs.Dump.{Image}
use Rattle.vs_walk.specs.inside.Kept.{paired, filled, words_at}
use Rattle.vs_walk.proofs.Dumps.{get_of, searched, IsStanding}
use Rattle.vs_walk.proofs.Kept.{as_many_frames}
use Rattle.vs_walk.proofs.dump.DumpFrames.words.Goals as goal

pub returns-in-Err : goal.returns-in-Err
returns-in-Err c =
    let numbers = c.self.inside.numbers.items in
    let spans = c.self.inside.spans.items in
    let places = c.self.inside.places.items in
    let words = c.self.inside.words.items in
    let stands : IsStanding (paired numbers spans places words) c.args.self.now.frames =
    record { is = ap (λ (d : Image). d.frames) c.self.view_is; rising = c.self.invariant.parts.rising } in
    let none = searched numbers (map (words_at places words) spans) c.args.number (Err c.in-Err.field-0)
    (as_many_frames numbers spans places words c.self.invariant.as_many) c.self.invariant.parts.rising
    (rw (sym c.deref.ensures.value) c.in-Err.ensures.bound) (rw (sym c.deref.ensures.value) c.in-Err.ensures.position) in
    sym none ∙ sym (get_of _ _ c.args.number stands)

pub returns-in-Ok : goal.returns-in-Ok
returns-in-Ok c =
    let numbers = c.self.inside.numbers.items in
    let spans = c.self.inside.spans.items in
    let places = c.self.inside.places.items in
    let words = c.self.inside.words.items in
    let span = c.index.result.now in
    let stands : IsStanding (paired numbers spans places words) c.args.self.now.frames =
    record { is = ap (λ (d : Image). d.frames) c.self.view_is; rising = c.self.invariant.parts.rising } in
    let bound : c.in-Ok.k < length numbers = rw (sym c.deref.ensures.value) c.in-Ok.ensures.bound in
    let found = searched numbers (map (words_at places words) spans) c.args.number (Ok c.in-Ok.k)
    (as_many_frames numbers spans places words c.self.invariant.as_many) c.self.invariant.parts.rising bound
    (rw (sym c.deref.ensures.value) c.in-Ok.ensures.position) [] in
    let at : get_or (map (words_at places words) spans) c.in-Ok.k [] ≡ words_at places words span =
    get_or-map (words_at places words) spans c.in-Ok.k span [] (omega (arith, bound, c.self.invariant.as_many))
    ∙ ap (words_at places words) (sym c.index.ensures) in
    let lent : c.frame_at.result ≡ words_at places words span =
    c.frame_at.ensures ∙ ap (λ (ps : List ℕ). words_at ps c.deref-in-Ok-2.result.now span) c.deref-in-Ok.ensures.value
    ∙ ap (λ (ws : List ℕ). words_at places ws span) c.deref-in-Ok-2.ensures.value in
    ap (λ (ws : List ℕ). Some ws) (lent ∙ sym at) ∙ sym found ∙ sym (get_of _ _ c.args.number stands)
