-- The program ends with no answer: why, its exit status, and what it writes to standard error.
use Rattle.std.specs.Prelude.{◌≡◌, ◌≢◌, ◌++◌, ℕ, Bool, List, codes, decimal, Option, Result, Ok, Err, IfErr, ⊤}
use Rattle.vs_text.specs.Words.{SpellsAddress}
use Rattle.audit_texts.specs.Text.{line_end}
use Rattle.audit_readers.specs.Answers.{IsReadOf, IsOutOfItsDepth, IsResolve, LacksReplica}
use Rattle.audit_readers.specs.declared.fault.ProgFault.{ProgFault}
use Rattle.audit_readers.specs.declared.fault.ProgFault.TheVariants.{BadAddress, NotCanonical, NoSuchReplica, InputTooLong, BadLine, NoThread, CannotRead}
use Rattle.audit_readers.specs.declared.fault.ProgFault.TheVariants.{CannotWrite, Memory}

-- 3 where memory ran out, else 2
abbrev pub refusal_status : ProgFault → ℕ
refusal_status BadAddress = 2
refusal_status NotCanonical = 2
refusal_status NoSuchReplica = 2
refusal_status InputTooLong = 2
refusal_status (BadLine number) = 2
refusal_status NoThread = 2
refusal_status CannotRead = 2
refusal_status CannotWrite = 2
refusal_status Memory = 3

-- the words of a refusal
abbrev pub refusal_words : ProgFault → List ℕ
refusal_words BadAddress = codes "bad address"
refusal_words NotCanonical = codes "not canonical"
refusal_words NoSuchReplica = codes "no such replica"
refusal_words InputTooLong = codes "input too long"
refusal_words (BadLine number) = codes "bad line "
refusal_words NoThread = codes "no thread"
refusal_words CannotRead = codes "cannot read"
refusal_words CannotWrite = codes "cannot write"
refusal_words Memory = codes "out of memory"

-- these words, and for a bad line its number
abbrev pub refusal_text : ProgFault → List ℕ
refusal_text (BadLine number) = refusal_words (BadLine number) ++ decimal number
refusal_text fault = refusal_words fault

-- what is written to standard error
abbrev pub refusal_line : ProgFault → List ℕ
refusal_line fault = refusal_text fault ++ line_end

-- an end gave an error, or memory ran out: no contract says when
abbrev pub IsEndFault : ProgFault → Type 0
IsEndFault CannotRead = ⊤
IsEndFault CannotWrite = ⊤
IsEndFault Memory = ⊤
IsEndFault _ = ⊥

-- why the walk of an address in the dump of a replica is not made
abbrev pub IsWalkFault : List ℕ → ℕ → ℕ → ProgFault → Type 0
IsWalkFault bytes address replica NotCanonical = IsOutOfItsDepth bytes address
IsWalkFault bytes address replica NoSuchReplica = LacksReplica bytes address replica
IsWalkFault bytes address replica Memory = ⊤
IsWalkFault bytes address replica _ = ⊥

-- the fault of `resolve` on this word and replica, where the input is known; the word is tested first, and only an answer is written
abbrev pub IsResolveFault : List ℕ → ℕ → Bool → Option (List ℕ) → ProgFault → Type 0
IsResolveFault word replica with_steps known BadAddress = (address : ℕ) → SpellsAddress word address → ⊥
IsResolveFault word replica with_steps known NotCanonical =
    (address : ℕ) × SpellsAddress word address × ((input : List ℕ) × IsReadOf known input × IsOutOfItsDepth input address)
IsResolveFault word replica with_steps known NoSuchReplica =
    (address : ℕ) × SpellsAddress word address × ((input : List ℕ) × IsReadOf known input × LacksReplica input address replica)
IsResolveFault word replica with_steps known CannotWrite =
    (input : List ℕ) × IsReadOf known input × ((text : List ℕ) × (status : ℕ) × IsResolve word replica with_steps input text status)
IsResolveFault word replica with_steps known CannotRead = (address : ℕ) × SpellsAddress word address
IsResolveFault word replica with_steps known Memory = (address : ℕ) × SpellsAddress word address
IsResolveFault word replica with_steps known _ = ⊥

-- if there is no answer, the writer is as it was, but where it could not be written to
abbrev pub WritesAnswersAlone : {W : Type 0} → W → W → Result ℕ ProgFault → Type 0
WritesAnswersAlone old new result = IfErr result (λ fault. fault ≢ CannotWrite → new ≡ old)

-- the exit status of the program
abbrev pub exit_status : Result ℕ ProgFault → ℕ
exit_status (Ok status) = status
exit_status (Err fault) = refusal_status fault
