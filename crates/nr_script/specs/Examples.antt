-- Worked examples: a short script with what its lines say, and a text with a bad line.
use Rattle.std.specs.Prelude.{ℕ, List, [], ◌∷◌, codes}
use Rattle.vs_types.specs.Entry.{all_rights}
use Rattle.vs_types.specs.declared.requests.op.Action.TheVariants.{Map}
use Rattle.vs_types.specs.declared.addresses.page.Size.TheVariants.{K4}
use Rattle.vs_types.specs.declared.requests.request.Query.{Query}
use Rattle.vs_types.specs.declared.requests.request.Query.TheVariants.{Update, Resolve}
use Rattle.nr_core.specs.declared.runs.step.Act.TheVariants.{Call, Take}
use Rattle.nr_core.specs.declared.runs.step.Step.{Step}
use Rattle.nr_script.specs.declared.line.Line.{Line}
use Rattle.nr_script.specs.declared.line.Line.TheVariants as says

-- a comment, a request of thread 0, an empty line, a request of thread 1, and two steps; the last line has no LF
abbrev pub short_script : List ℕ
short_script = codes "# a page\n0 map 4K 0x400000 0x1000 wux\n\n1 resolve 0x400aBc\nstep 0 call\nstep 1 take 2"

abbrev pub map_it : Query
map_it = Update (Map (record { base = 0x400000; size = K4; phys = 0x1000; rights = all_rights }))

abbrev pub resolve_it : Query
resolve_it = Resolve 0x400abc

abbrev pub two_steps : List Step
two_steps = record { thread = 0; act = Call } ∷ record { thread = 1; act = Take 2 } ∷ []

-- what its lines say
abbrev pub short_lines : List Line
short_lines =
    says.PassedOver
    ∷ says.Request 0 map_it
    ∷ says.PassedOver
    ∷ says.Request 1 resolve_it
    ∷ says.Step (record { thread = 0; act = Call })
    ∷ says.Step (record { thread = 1; act = Take 2 })
    ∷ []

-- two spaces part the first two words of its second line
abbrev pub two_spaces : List ℕ
two_spaces = codes "0 resolve 0x0\n0  resolve 0x0\n0 resolve"
