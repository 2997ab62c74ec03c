use Rattle.std.proofs.Common.{◌++◌, List, map, ap, ◌∙◌}
use Rattle.nr_touch.specs.inside.Levels.{left_in}
use Rattle.nr_touch.specs.inside.Reached.{seen_left}
use Rattle.nr_touch.specs.declared.changes.history.History.{History}
use Rattle.nr_touch.proofs.SeenPages.{all_seen}
use Rattle.nr_touch.proofs.releases.seen.seen_of.Goals as goal

pub returns : goal.returns
returns c = all_seen c.args.joined.now (left_in c.args.joined.now.earlier.items) c.args.present.now c.requires.built.earlier.numbered _ _ c.in_ok-own.ensures
    (c.in_ok-seen.ensures ∙ ap (λ xs. c.in_ok-own.own.items ++ xs)
    (c.deref-2.ensures.value ∙ c.in_ok-left.ensures ∙ ap (λ (levels : List History). map seen_left (left_in levels)) c.deref.ensures.value))
