-- What the words of a line say.
use Rattle.std.specs.Prelude.{ℕ, List}
use Rattle.vs_types.specs.declared.addresses.depth.Depth.{Depth}
use Rattle.nr_script.specs.Lines.{SpellsRequest, SpellsStep}
use Rattle.nr_script.specs.declared.line.Line.{Line}
use Rattle.nr_script.specs.declared.line.Line.TheVariants as says

abbrev pub SaysInWords : Depth → List (List ℕ) → Line → Type 0
SaysInWords depth words says.PassedOver = ⊥
SaysInWords depth words (says.Request thread query) = SpellsRequest depth words thread query
SaysInWords depth words (says.Step step) = SpellsStep words step
