use Rattle.std.proofs.Common.{subst, refl, true, sym, ◌∙◌, ◌≡◌}
use Rattle.std.proofs.lemmas.List.Elements.{All-more}
use Rattle.std.proofs.lemmas.Option.{slice_get_read}
use Rattle.nr_trace.specs.Recording.{IsEvent}
use Rattle.nr_trace.proofs.formats.ranges.first_out_of_range.Goals as goal

pub returns-then-not-is_in_range : goal.returns-then-not-is_in_range
returns-then-not-is_in_range c = record {
  before = c.loop-index.invariant;
  recorded = c.index-events-index.result;
  stands = slice_get_read c.args.events.now _ c.loop-index.index c.index-events-index.result refl c.loop-index-test.true c.index-events-index.is;
  out = λ within. let kept = subst (IsEvent c.args.version c.args.layout) (sym c.event.ensures) within in
      let yes : c.is_in_range.result ≡ true = c.is_in_range.ensures.1 kept in absurd cc;
}

pub loop-index-preserved : goal.loop-index-preserved
loop-index-preserved c =
    All-more (IsEvent c.args.version c.args.layout) c.args.events.now c.loop-index.index c.index-events-index.result c.loop-index-test.true
    c.loop-index.invariant
    (subst (IsEvent c.args.version c.args.layout) (c.event.ensures ∙ c.index-events-index.is) (c.is_in_range.ensures.0 c.if-not-is_in_range.false))
