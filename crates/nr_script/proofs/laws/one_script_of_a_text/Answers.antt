use Rattle.std.proofs.Common.{◌≡◌, ℕ, List, sym, ap, map, ◌∙◌}
use Rattle.std.specs.List.{range_with_len}
use Rattle.vs_types.specs.declared.addresses.depth.Depth.{Depth}
use Rattle.nr_script.specs.Script.{first_step_in, requests_by, steps_of, thread_count, IsScript}
use Rattle.nr_script.specs.Lines.{lines}
use Rattle.nr_script.specs.declared.line.Line.{Line}
use Rattle.nr_script.specs.declared.script.Script.{Script}
use Rattle.nr_script.proofs.OneScript.{same_lines}
use Rattle.nr_script.proofs.laws.one_script_of_a_text.Goals as goal

same_said : (depth : Depth) (bytes : List ℕ) (a b : Script) (p : IsScript depth bytes a) (q : IsScript depth bytes b) → p.said ≡ q.said
same_said depth bytes a b p q = same_lines depth (lines bytes) p.said q.said p.each_says q.each_says

pub returns-clause-threads : goal.returns-clause-threads
returns-clause-threads c = λ depth bytes a b p q.
    p.threads_are ∙ ap (λ (said : List Line). thread_count said) (same_said depth bytes a b p q) ∙ sym q.threads_are

pub returns-clause-requests : goal.returns-clause-requests
returns-clause-requests c = λ depth bytes a b p q.
    p.requests_are ∙ ap (λ (said : List Line). map (requests_by said) (range_with_len 0 (thread_count said))) (same_said depth bytes a b p q)
    ∙ sym q.requests_are

pub returns-clause-steps : goal.returns-clause-steps
returns-clause-steps c = λ depth bytes a b p q. p.steps_are ∙ ap (λ (said : List Line). steps_of said) (same_said depth bytes a b p q) ∙ sym q.steps_are

pub returns-clause-first_step : goal.returns-clause-first_step
returns-clause-first_step c = λ depth bytes a b p q.
    p.first_step_is ∙ ap (λ (said : List Line). first_step_in said) (same_said depth bytes a b p q) ∙ sym q.first_step_is
