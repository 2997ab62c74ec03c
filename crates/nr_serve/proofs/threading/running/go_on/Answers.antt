use Rattle.std.proofs.lemmas.Simd.{map-map}
use Rattle.std.proofs.Common.{ℕ, List, length, sum, ap, sym, ◌∙◌}
use Rattle.vs_types.specs.Config.{Layout}
use Rattle.vs_types.specs.declared.requests.request.Query.{Query}
use Rattle.nr_serve.proofs.Teams.{all_of_log, all_pens, from_the_first}
use Rattle.nr_serve.proofs.threading.running.go_on.Goals as goal

pub ending-requires-clause-pens : goal.ending-requires-clause-pens
ending-requires-clause-pens g c =
    all_pens _ _ _ _ c.in_ok-workers.ensures.served (c.requires.scripts.one_each ∙ ap (λ (l : Layout). l.threads) (sym c.requires.layout.1))
    (c.requires.calls ∙ ap (λ (ns : List ℕ). sum ns)
    (sym (map-map (λ (script : List Query). length script) (λ script. script.items) c.args.scripts.items)))

pub ending-requires-clause-passes : goal.ending-requires-clause-passes
ending-requires-clause-passes g c = all_of_log _ _ _ _ c.in_ok-workers.ensures.served

pub returns-clause-verified : goal.returns-clause-verified
returns-clause-verified g c =
    c.in_ok-outcome.ensures.verified _ c.requires.scripts.one_each (from_the_first _ _ _ _ _ c.requires.base.1 c.in_ok-workers.ensures.served)

pub returns-clause-refused : goal.returns-clause-refused
returns-clause-refused g c =
    c.in_ok-outcome.ensures.refused _ c.requires.scripts.one_each (from_the_first _ _ _ _ _ c.requires.base.1 c.in_ok-workers.ensures.served)
