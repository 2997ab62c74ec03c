use Rattle.std.proofs.Common.{◌≡◌, ◌^◌, ◌<◌, length, map, sym, ap, subst, ◌∙◌, arith}
use Rattle.std.specs.Prelude.{All}
use Rattle.std.specs.FinMap as finite
use Rattle.std.proofs.lemmas.List.Elements.{All-nil}
use Rattle.vs_types.specs.declared.limits.TheConstants.{FRAMES}
use Rattle.vs_walk.specs.inside.Kept.{paired}
use Rattle.vs_walk.proofs.Dumps.{entries_stand}
use Rattle.vs_walk.proofs.dump.Dump.begin_frame.Goals as goal

pub invariant_of-result : goal.invariant_of-result
invariant_of-result c =
    let held : finite.entries c.args.self.frames
    ≡ paired c.self.inside.numbers.items c.self.inside.spans.items c.self.inside.places.items c.self.inside.words.items =
    ap (λ d. finite.entries d.frames) (sym c.self.view_is) ∙ entries_stand _ c.self.invariant.parts.rising in
    let none = c.in_ok-reserve.ensures.items ∙ c.clear.ensures.items in
    record {
      open_for = record {
        before = rw (c.in_ok-reserve-2.ensures.items, c.in_ok-reserve-3.ensures.items, c.in_ok-reserve-4.ensures.items, c.in_ok-reserve-5.ensures.items)
            c.self.invariant;
        above = rw (c.in_ok-reserve-2.ensures.items, c.in_ok-reserve-3.ensures.items, c.in_ok-reserve-4.ensures.items, c.in_ok-reserve-5.ensures.items)
            (subst (λ es. All (λ n. n < c.args.number) (map (λ e. e.0) es)) held c.requires.above);
        in_range = c.requires.in_range;
        one_more = rw (c.in_ok-reserve-2.ensures.items, c.in_ok-reserve-3.ensures.items, c.in_ok-reserve-4.ensures.items, c.in_ok-reserve-5.ensures.items)
            (subst (λ es. length es < FRAMES) held (subst (λ n. n < FRAMES) (finite.len-entries c.args.self.frames) c.requires.room));
        room_for_number = omega (arith, c.in_ok-reserve-2.ensures.ok);
        room_for_span = omega (arith, c.in_ok-reserve-3.ensures.ok);
        room_for_places = omega (arith, c.in_ok-reserve-4.ensures.ok);
        room_for_words = omega (arith, c.in_ok-reserve-5.ensures.ok);
      };
      few = omega (arith, ap length none);
      fit = subst (All (λ word. word < 2 ^ 64)) (sym none) (All-nil (λ word. word < 2 ^ 64));
      room = omega (arith, c.in_ok-reserve.ensures.ok);
    }
