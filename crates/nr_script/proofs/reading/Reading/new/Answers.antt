use Rattle.std.proofs.Common.{◌≡◌, ◌∙◌, ℕ, [], ap, map, refl, arith}
use Rattle.std.specs.List.{range_with_len}
use Rattle.nr_script.specs.Script.{requests_by}
use Rattle.nr_script.proofs.Gathered.{lists_more}
use Rattle.nr_script.proofs.reading.Reading.new.Goals as goal

pub loop-thread-preserved : goal.loop-thread-preserved
loop-thread-preserved c =
    lists_more (requests_by []) c.loop-thread.lists.items c.push.new.self.items c.new.result c.loop-thread.thread c.in_ok-push.ensures.items
    c.loop-thread.invariant c.new.ensures.items

pub returns : goal.returns
returns c =
    let all : c.loop-thread.thread ≡ 64 = omega arith in
    record {
      threads_are = refl;
      asked_is = refl;
      lists_are = c.loop-thread.invariant ∙ ap (λ (count : ℕ). map (requests_by []) (range_with_len 0 count)) all;
      steps_are = c.new-2.ensures.items;
      first_step_is = refl;
      within_limits = record { requests = omega arith; steps = omega arith };
    }
