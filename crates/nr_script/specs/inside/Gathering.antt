-- What is gathered of the lines of a script that comes in pieces.
use Rattle.std.specs.Prelude.{◌≡◌, ◌<◌, ◌≤◌, ℕ, List, [], ◌∷◌, length, map, take, Option, Some, None, ⊤}
use Rattle.vs_types.specs.declared.addresses.depth.Depth.{Depth}
use Rattle.vs_types.specs.declared.requests.request.Query.{Query}
use Rattle.nr_script.specs.Portion.{AsksMore, PortionState, TakesLines, number_behind, request_count}
use Rattle.nr_script.specs.Script.{step_in}
use Rattle.nr_script.specs.declared.gathering.Gathering.{Gathering}
use Rattle.nr_script.specs.declared.line.Line.{Line}
use Rattle.nr_script.specs.declared.line.Line.TheVariants as says

-- what each thread asks
abbrev pub lists_in : Gathering → List (List Query)
lists_in gathering = map (λ list. list.items) gathering.lists.items

-- what has come of the script
abbrev pub state_of : Depth → List ℕ → Gathering → PortionState
state_of depth begun gathering = record { depth = depth; begun = begun; number = gathering.number; lists = lists_in gathering }

-- there is a list for each of 64 threads, and the requests and the lines are counted
pub record IsCounted (gathering : Gathering) : Type 0 where
  pub fits : gathering.number ≤ 4294967295
  pub one_each : length (lists_in gathering) ≡ 64
  pub counted : request_count (lists_in gathering) ≡ gathering.asked

-- a request is of one of 64 threads
abbrev pub IsOfThreads : Option Line → Type 0
IsOfThreads (Some (says.Request thread query)) = thread < 64
IsOfThreads _ = ⊤

-- a line more says this, which is no step
pub record TakesLine (said : Option Line) (old new : Gathering) : Type 0 where
  pub it : Line
  pub is : said ≡ Some it
  pub no_step : step_in it ≡ []
  pub number_is : new.number ≡ number_behind old.number 1
  pub asks : AsksMore (lists_in old) (it ∷ []) (lists_in new)

-- nothing, or a step
abbrev pub IsNothingOrStep : Option Line → Type 0
IsNothingOrStep None = ⊤
IsNothingOrStep (Some (says.Step step)) = ⊤
IsNothingOrStep (Some _) = ⊥

-- so many bytes of a piece are taken, from this state on
pub record IsFedTo (depth : Depth) (initial : List ℕ) (first : Gathering) (piece : List ℕ) (most taken : ℕ) (begun : List ℕ) (gathering : Gathering) : Type 0
  where
    pub within : taken ≤ length piece
    pub counted : IsCounted gathering
    pub few : gathering.asked ≤ most
    pub takes : TakesLines (state_of depth initial first) (take taken piece) (state_of depth begun gathering)
    pub some : taken ≡ 0 → gathering.asked ≡ first.asked
