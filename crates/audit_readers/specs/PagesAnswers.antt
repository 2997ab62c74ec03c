-- What `pages` answers to the bytes of a trace: a text and a status.
use Rattle.std.specs.Prelude.{◌≡◌, ◌≤◌, ◌⊎◌, ℕ, Bool, List, Option, None, Some, slice_get, ⊤}
use Rattle.vs_types.specs.declared.addresses.depth.Depth.{Depth}
use Rattle.vs_walk.specs.Dump.{Image}
use Rattle.vs_walk.specs.Traversal.{walk_fault}
use Rattle.vs_walk.specs.declared.walk.WalkFault.{WalkFault}
use Rattle.vs_walk.specs.declared.walk.WalkFault.TheVariants.{Missing, Shared, Reserved}
use Rattle.nr_trace.specs.Recording.{Recording}
use Rattle.nr_trace.specs.Spelling.{Spells}
use Rattle.nr_trace.specs.declared.refusals.fault.Fault.{Fault}
use Rattle.nr_trace.specs.declared.refusals.fault.Fault.TheVariants.{MissingFrame, SharedFrame, ReservedBit}
use Rattle.audit_readers.specs.Answers.{IsFormatRefusal, IsReadOf}
use Rattle.audit_texts.specs.Text.{no_text}
use Rattle.audit_readers.specs.declared.fault.ProgFault.{ProgFault}
use Rattle.audit_readers.specs.declared.fault.ProgFault.TheVariants.{NoSuchReplica, CannotRead, CannotWrite, Memory}
use Rattle.audit_texts.specs.Dumps.{dump_text}

-- a fault of the traversal of a replica's dump, as the audit names it
abbrev pub dump_fault : ℕ → WalkFault → Fault
dump_fault replica (Missing number) = MissingFrame replica number
dump_fault replica (Shared number) = SharedFrame replica number
dump_fault replica (Reserved number index) = ReservedBit replica number index

-- the traversal of the dump meets no fault, and the text is that of its pages
pub record ListsPages (as_ranges : Bool) (depth : Depth) (dump : Image) (text : List ℕ) (status : ℕ) : Type 0 where
  pub no_fault : walk_fault depth dump.frames dump.root ≡ None
  pub text_is : text ≡ dump_text as_ranges depth dump
  pub status_is : status ≡ 0

-- it meets a fault, and the text is the line of the first one
pub record NamesFault (replica : ℕ) (depth : Depth) (dump : Image) (text : List ℕ) (status : ℕ) : Type 0 where
  pub fault : WalkFault
  pub first : walk_fault depth dump.frames dump.root ≡ Some fault
  pub text_is : text ≡ no_text (dump_fault replica fault)
  pub status_is : status ≡ 1

-- the text is that of the pages of the dump, or of the first fault that its traversal meets
abbrev pub ShowsDump : Bool → ℕ → Depth → Image → List ℕ → ℕ → Type 0
ShowsDump as_ranges replica depth dump text status = ListsPages as_ranges depth dump text status ⊎ NamesFault replica depth dump text status

-- the bytes spell a trace, and the text is that of the dump of its replica of this number
pub record ShowsReplica (as_ranges : Bool) (replica : ℕ) (bytes text : List ℕ) (status : ℕ) : Type 0 where
  pub trace : Recording
  pub spelled : Spells bytes trace
  pub dump : Image
  pub is_dump : slice_get trace.dumps replica ≡ Some dump
  pub shown : ShowsDump as_ranges replica trace.layout.depth dump text status

-- the answer of `pages` for the replica of this number: the text is that of its dump; or the bytes spell no trace, and it is that of their fault
abbrev pub IsPages : Bool → ℕ → List ℕ → List ℕ → ℕ → Type 0
IsPages as_ranges replica bytes text status = ShowsReplica as_ranges replica bytes text status ⊎ IsFormatRefusal bytes text status

-- the bytes spell a trace that has no replica of this number
pub record HasNoReplica (bytes : List ℕ) (replica : ℕ) : Type 0 where
  pub trace : Recording
  pub spelled : Spells bytes trace
  pub lacking : trace.layout.replicas ≤ replica

-- why nothing is said of the pages of a replica
abbrev pub IsPagesRefusal : List ℕ → ℕ → ProgFault → Type 0
IsPagesRefusal bytes replica NoSuchReplica = HasNoReplica bytes replica
IsPagesRefusal bytes replica Memory = ⊤
IsPagesRefusal bytes replica _ = ⊥

-- the fault of `pages`, where the input is known: only an answer is written
abbrev pub IsPagesFault : Bool → ℕ → Option (List ℕ) → ProgFault → Type 0
IsPagesFault as_ranges replica known NoSuchReplica = (input : List ℕ) × IsReadOf known input × HasNoReplica input replica
IsPagesFault as_ranges replica known CannotWrite =
    (input : List ℕ) × IsReadOf known input × ((text : List ℕ) × (status : ℕ) × IsPages as_ranges replica input text status)
IsPagesFault as_ranges replica known CannotRead = ⊤
IsPagesFault as_ranges replica known Memory = ⊤
IsPagesFault as_ranges replica known _ = ⊥
