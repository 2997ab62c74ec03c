use Rattle.std.proofs.Common.{◌≡◌, ◌∙◌, Some, ap, subst, sym}
use Rattle.std.specs.Prelude.{IfSome, Option, None, option_map}
use Rattle.vs_types.specs.Space.{Space}
use Rattle.vs_plain.specs.Plain.{BoundedSpace}
use Rattle.nr_touch.specs.Tails.{HasIndexes, KeepsChanges}
use Rattle.nr_touch.specs.declared.touches.tail.Tail.{Tail}
use Rattle.nr_audit.specs.Start.{first_space}
use Rattle.nr_explain.specs.Progress.{sums_after}
use Rattle.nr_explain.specs.inside.Reading.{all_states, space_seen}
use Rattle.nr_explain.specs.declared.chain.progress.Progress.{Progress}
use Rattle.nr_explain.specs.declared.chain.progress.Sums.{Sums}
use Rattle.nr_explain.proofs.GoneOn.{same_end}
use Rattle.nr_explain.proofs.chain.progress.go_on.Goals as goal

-- what is kept of what there was is kept of its copy
keeps : (last : Option Progress) (tail : Option Tail) (after : Tail) → tail ≡ option_map (λ (came : Progress). came.tail) last
    → IfSome last (λ came. KeepsChanges came.tail after) → IfSome tail (λ before. KeepsChanges before after)
keeps None tail after is kept = subst (λ (t : Option Tail). IfSome t (λ before. KeepsChanges before after)) (sym is) tt
keeps (Some came) tail after is kept = subst (λ (t : Option Tail). IfSome t (λ before. KeepsChanges before after)) (sym is) kept

pub copy-requires : goal.copy-requires
copy-requires c = keeps c.args.last c.in_ok-before.before.tail c.args.after.tail c.in_ok-before.ensures.tail c.requires.kept

pub returns-clause-space : goal.returns-clause-space
returns-clause-space c =
    let is = c.in_ok-space.ensures in
    same_end c.args.segment.now (first_space (space_seen (all_states c.args.last)) c.args.segment.now) c.in_ok-before.before.space
    c.in_ok-space.space c.args.after.space
    c.in_ok-before.ensures.space (is.space c.requires.clean) is.depth is.limit c.requires.after

pub returns-clause-tail : goal.returns-clause-tail
returns-clause-tail c = record { left = c.in_ok-left.ensures.changes; of_run = λ run of_run. c.in_ok-left.ensures.tail (Some run) of_run }

pub returns-clause-twice : goal.returns-clause-twice
returns-clause-twice c =
    let is = c.in_ok-space.ensures in
    let same : c.in_ok-space.space ≡ c.args.after.space =
    same_end c.args.segment.now (first_space (space_seen (all_states c.args.last)) c.args.segment.now) c.in_ok-before.before.space c.in_ok-space.space
    c.args.after.space c.in_ok-before.ensures.space (is.space c.requires.clean) is.depth is.limit c.requires.after in
    record {
      space = sym same;
      left = sym c.in_ok-left.ensures.changes;
      tail = λ run ends of_run.
          c.in_ok-left.ensures.back run
          (subst (HasIndexes c.args.after.tail) (ap (λ (s : BoundedSpace). s.space) (sym same) ∙ ends) c.requires.index) of_run;
      sound = c.requires.sound;
    }

pub returns-clause-sums : goal.returns-clause-sums
returns-clause-sums c =
    c.sums_after-sums.ensures ∙ ap (λ (s : Sums). sums_after s c.args.segment.now c.args.met c.args.size) c.sums_of-sums.ensures
