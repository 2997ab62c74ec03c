-- What is near a wrong answer: the places of the log at which it would have been right, and where the memory is that it names.
use Rattle.std.specs.Prelude.{◌≡◌, ℕ, ◌+◌, ◌<◌, ◌≤◌, length, take, Option, Some, None}
use Rattle.vs_types.specs.Space.{Space}
use Rattle.vs_types.specs.Step.{look}
use Rattle.vs_types.specs.declared.requests.answer.Answer.{Answer}
use Rattle.vs_types.specs.declared.requests.answer.Answer.TheVariants.{Removed, Mapped, Allowed}
use Rattle.vs_types.specs.declared.addresses.page.Rights.{Rights}
use Rattle.vs_types.specs.declared.addresses.page.Size.{Size}
use Rattle.vs_types.specs.declared.requests.request.Query.{Query}
use Rattle.nr_trace.specs.Recording.{Recording}
use Rattle.nr_trace.specs.Orders.{answer_in, space_from}
use Rattle.nr_explain.specs.declared.trace.nearby.NamedMemory.{NamedMemory}
use Rattle.nr_explain.specs.declared.trace.nearby.RightAfter.{RightAfter}
use Rattle.nr_explain.specs.declared.trace.nearby.Stretch.{Stretch}

-- ---- where it would have been right

-- each number of the stretch has the property
pub record AreAll (P : ℕ → Type 0) (stretch : Stretch) : Type 0 where
  pub some : stretch.first ≤ stretch.last
  pub all : (n : ℕ) → stretch.first ≤ n → n ≤ stretch.last → P n

-- of the numbers below an end that have the property: the last stretch of them, as long as it is; or there is none
abbrev pub IsLastStretch : (ℕ → Type 0) → ℕ → Option Stretch → Type 0
IsLastStretch P end None = (n : ℕ) → n < end → P n → ⊥
IsLastStretch P end (Some stretch) =
    AreAll P stretch × (stretch.last < end) × ((n : ℕ) → stretch.last < n → n < end → P n → ⊥) × ((n : ℕ) → n + 1 ≡ stretch.first → P n → ⊥)

-- the first stretch of them, as long as it is; or there is none
abbrev pub IsFirstStretch : (ℕ → Type 0) → ℕ → Option Stretch → Type 0
IsFirstStretch P end None = (n : ℕ) → n < end → P n → ⊥
IsFirstStretch P end (Some stretch) =
    AreAll P stretch × (stretch.last < end) × ((n : ℕ) → n < stretch.first → P n → ⊥) × (stretch.last + 1 < end → P (stretch.last + 1) → ⊥)

-- after so many entries the space answers the request so, from this space on
abbrev pub IsRightAfter : Space → Recording → Query → Answer → ℕ → Type 0
IsRightAfter start trace request told entries = told ≡ answer_in trace.layout (space_from start trace (take entries trace.log)) request

-- the numbers of entries after which it does: nearest below one number; and nearest above another, and not below the first
pub record IsNearest (start : Space) (trace : Recording) (request : Query) (told : Answer) (below above : ℕ) (right : RightAfter) : Type 0 where
  pub before : IsLastStretch (λ n. (n < below) × IsRightAfter start trace request told n) (length trace.log + 1) right.before
  pub behind : IsFirstStretch (λ n. (above < n) × (below ≤ n) × IsRightAfter start trace request told n) (length trace.log + 1) right.behind
  pub places : right.places ≡ length trace.log

-- ---- the memory that it names

-- the physical address that an answer names, if it names one
abbrev pub named_memory : Answer → Option ℕ
named_memory (Removed phys size rights) = Some phys
named_memory (Mapped phys size rights) = Some phys
named_memory (Allowed phys) = Some phys
named_memory _ = None

-- the space translates the address to just this physical address
abbrev pub Translates : Space → ℕ → ℕ → Type 0
Translates space address phys = (size : Size) × (rights : Rights) × (look space address ≡ Mapped phys size rights)

-- an address that it translates so, or there is none
abbrev pub IsWhere : Space → ℕ → Option ℕ → Type 0
IsWhere space phys None = (address : ℕ) → Translates space address phys → ⊥
IsWhere space phys (Some address) = Translates space address phys

-- the memory that the answer names, and where the space has it
abbrev pub IsMemoryOf : Space → Answer → Option NamedMemory → Type 0
IsMemoryOf space told None = named_memory told ≡ None
IsMemoryOf space told (Some memory) = (named_memory told ≡ Some memory.phys) × IsWhere space memory.phys memory.address
