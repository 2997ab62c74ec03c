-- Scripts: what the lines of a text ask of each thread, and the steps that they list.
use Rattle.std.specs.Prelude.{◌≡◌, ℕ, ◌+◌, ◌≤◌, ◌==◌, ◌⊎◌, max, Bool, true, false, List, [], ◌∷◌, ◌++◌, length, map, filter, Option}
use Rattle.std.specs.List.{flat_map, fold, position_from, range_with_len, AllZip}
use Rattle.vs_types.specs.declared.addresses.depth.Depth.{Depth}
use Rattle.vs_types.specs.declared.limits.TheConstants.{LOG_PLACES}
use Rattle.vs_types.specs.declared.requests.request.Query.{Query}
use Rattle.nr_core.specs.declared.runs.step.Step.{Step}
use Rattle.nr_script.specs.Lines.{lines, Says}
use Rattle.nr_script.specs.declared.line.Line.{Line}
use Rattle.nr_script.specs.declared.line.Line.TheVariants as says
use Rattle.nr_script.specs.declared.script.Script.{Script}
use Rattle.nr_script.specs.declared.script.TheConstants.{SCRIPT_STEPS}

-- the request of a line, with its thread, if it has one
abbrev pub request_in : Line → List (ℕ × Query)
request_in (says.Request thread query) = (thread, query) ∷ []
request_in line = []

-- each request with its thread, in the order of the lines
abbrev pub asked : List Line → List (ℕ × Query)
asked said = flat_map request_in said

-- the step of a line, if it has one
abbrev pub step_in : Line → List Step
step_in (says.Step step) = step ∷ []
step_in line = []

-- each step, in the order of the lines
abbrev pub steps_of : List Line → List Step
steps_of said = flat_map step_in said

-- 1 plus the greatest thread of a request, and 1 where there is none
abbrev pub thread_count : List Line → ℕ
thread_count said = fold (λ most it. max most (it.0 + 1)) 1 (asked said)

-- what a thread asks, in the order of the lines
abbrev pub requests_by : List Line → ℕ → List Query
requests_by said thread = map (λ it. it.1) (filter (λ it. it.0 == thread) (asked said))

-- whether a line is a step
abbrev pub is_step : Line → Bool
is_step (says.Step step) = true
is_step line = false

-- the first line that is a step, counted from 1
abbrev pub first_step_in : List Line → Option ℕ
first_step_in said = position_from is_step 1 said

-- at most as many requests as a log has places, and 1,000,000 steps
pub record IsWithinLimits (said : List Line) : Type 0 where
  pub requests : length (asked said) ≤ LOG_PLACES
  pub steps : length (steps_of said) ≤ SCRIPT_STEPS

-- each line has a form, all of them are within the limits, and the script is what they say
pub record IsScript (depth : Depth) (bytes : List ℕ) (script : Script) : Type 0 where
  pub said : List Line
  pub each_says : AllZip (Says depth) (lines bytes) said
  pub within_limits : IsWithinLimits said
  pub threads_are : script.threads ≡ thread_count said
  pub requests_are : map (λ list. list.items) script.requests.items ≡ map (requests_by said) (range_with_len 0 (thread_count said))
  pub steps_are : script.steps.items ≡ steps_of said
  pub first_step_is : script.first_step ≡ first_step_in said

-- a line that has no form, or what goes past the limits after what the lines before it say
abbrev pub IsBadAfter : Depth → List Line → List ℕ → Type 0
IsBadAfter depth said line =
    ((it : Line) → Says depth line it → ⊥) ⊎ ((it : Line) × Says depth line it × (IsWithinLimits (said ++ it ∷ []) → ⊥))

-- the line of this number, counted from 1, is bad, and none before it is
pub record IsBadLine (depth : Depth) (bytes : List ℕ) (number : ℕ) : Type 0 where
  pub before : List (List ℕ)
  pub line : List ℕ
  pub rest : List (List ℕ)
  pub lines_are : lines bytes ≡ before ++ line ∷ rest
  pub number_is : number ≡ length before + 1
  pub said : List Line
  pub each_says : AllZip (Says depth) before said
  pub within_limits : IsWithinLimits said
  pub is_bad : IsBadAfter depth said line
