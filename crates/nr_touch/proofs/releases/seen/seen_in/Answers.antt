use Rattle.std.proofs.Common.{map, ap, ◌∙◌}
use Rattle.nr_touch.specs.inside.Reached.{seen_before}
use Rattle.nr_touch.proofs.SeenPages.{own_seen}
use Rattle.nr_touch.proofs.releases.seen.seen_in.Goals as goal

pub returns : goal.returns
returns c =
    let before = c.deref-2.ensures.value ∙ c.in_ok-before.ensures ∙ ap (map seen_before) c.deref.ensures.value in
    own_seen c.requires.built c.args.present.now c.requires.roomy _ _ _ c.in_ok-now.ensures before c.in_ok-seen.ensures
