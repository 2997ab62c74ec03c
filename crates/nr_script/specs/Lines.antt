-- What a line of a script says, by its words: a request of a thread, or a step of a thread. An empty line and a comment are
-- passed over.
use Rattle.std.specs.Prelude.{◌≡◌, ◌<◌, ◌⊎◌, ◌++◌, ℕ, List, [], ◌∷◌, codes, decimal}
use Rattle.vs_types.specs.declared.addresses.depth.Depth.{Depth}
use Rattle.vs_types.specs.declared.requests.request.Query.{Query}
use Rattle.nr_core.specs.declared.runs.step.Act.{Act}
use Rattle.nr_core.specs.declared.runs.step.Act.TheVariants.{Call, Post, Take, Collect, Append, Advance, Apply, Answer, Release, Look, Read, Reply}
use Rattle.nr_core.specs.declared.runs.step.Step.{Step}
use Rattle.vs_text.specs.Requests.{SpellsQuery}
use Rattle.vs_text.specs.Words.{parts, words}
use Rattle.nr_script.specs.declared.line.Line.{Line}
use Rattle.nr_script.specs.declared.line.Line.TheVariants as says

-- the lines of a script are parted by LFs
abbrev pub lines : List ℕ → List (List ℕ)
lines bytes = parts 10 bytes

-- T and a request that is well formed at the depth, where T is below 64
pub record SpellsRequest (depth : Depth) (words : List (List ℕ)) (thread : ℕ) (query : Query) : Type 0 where
  pub asks : List (List ℕ)
  pub words_are : words ≡ decimal thread ∷ asks
  pub thread_fits : thread < 64
  pub query_is : SpellsQuery depth asks query

-- the words of an act: its name, and its number if it has one
abbrev pub act_words : Act → List (List ℕ)
act_words Call = codes "call" ∷ []
act_words Post = codes "post" ∷ []
act_words (Take replica) = codes "take" ∷ decimal replica ∷ []
act_words (Collect from) = codes "collect" ∷ decimal from ∷ []
act_words Append = codes "append" ∷ []
act_words Advance = codes "advance" ∷ []
act_words Apply = codes "apply" ∷ []
act_words (Answer to) = codes "answer" ∷ decimal to ∷ []
act_words Release = codes "release" ∷ []
act_words Look = codes "look" ∷ []
act_words Read = codes "read" ∷ []
act_words Reply = codes "reply" ∷ []

-- the number of the replica or of the other thread, and 0 where an act has none
abbrev pub act_number : Act → ℕ
act_number (Take replica) = replica
act_number (Collect from) = from
act_number (Answer to) = to
act_number act = 0

-- the words are those of an act, whose number is below 64
pub record SpellsAct (words : List (List ℕ)) (act : Act) : Type 0 where
  pub words_are : words ≡ act_words act
  pub number_fits : act_number act < 64

-- step T and an act, where each number is below 64
pub record SpellsStep (words : List (List ℕ)) (step : Step) : Type 0 where
  pub acts : List (List ℕ)
  pub words_are : words ≡ codes "step" ∷ decimal step.thread ∷ acts
  pub thread_fits : step.thread < 64
  pub act_is : SpellsAct acts step.act

-- an empty line, or a comment
abbrev pub IsPassedOver : List ℕ → Type 0
IsPassedOver line = (line ≡ []) ⊎ ((rest : List ℕ) × (line ≡ codes "#" ++ rest))

-- what a line says: nothing, a request of a thread, or a step
abbrev pub Says : Depth → List ℕ → Line → Type 0
Says depth line says.PassedOver = IsPassedOver line
Says depth line (says.Request thread query) = SpellsRequest depth (words line) thread query
Says depth line (says.Step step) = SpellsStep (words line) step
