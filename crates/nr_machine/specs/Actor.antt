-- Whoever works at a node: what it knows, which operations it may ask for with that, and what it learns from them.
use Rattle.std.specs.Prelude.{◌≡◌, ℕ, zero, suc, ◌+◌, ◌-◌, ◌/◌, ◌%◌, ◌<◌, ◌≤◌, ◌==◌, min, max, ◌&&◌, Bool, false, nat_le, nat_lt, if◌then◌else◌, Option, Some, None, IsNone, IsSome, List, [], ◌∷◌, length, drop, slice_index_or, ⊤}
use Rattle.nr_machine.specs.declared.words.Operation.{Operation}
use Rattle.nr_machine.specs.declared.words.Operation.TheVariants.{Load, Store, Exchange, Max}
use Rattle.nr_machine.specs.declared.words.Word.TheVariants.{Head, Completed, Local, Done, First, Second}
use Rattle.nr_machine.specs.declared.words.Update.{Update}
use Rattle.nr_machine.specs.Words.{packed}

-- how many entries its node has taken and applied; so many it knows to be completed; the nodes below `asked` have taken at least `least`;
-- the updates of its call, and from which place on they are in the log; the tail that it saw and who had appended last, and how many first and second
-- words of its updates it has stored for that tail; from which place up to that tail it has the entries, who appended the entry before
-- them, the first word of that entry if it has it, and the entries
pub record Actor : Type 0 where
  pub taken : ℕ
  pub applied : ℕ
  pub published : ℕ
  pub asked : ℕ
  pub least : ℕ
  pub batch : List Update
  pub standing : Option ℕ
  pub seen : ℕ
  pub last : ℕ
  pub firsts : ℕ
  pub seconds : ℕ
  pub from : ℕ
  pub ring : ℕ
  pub half : Option ℕ
  pub got : List Update

-- at the start it knows nothing, and the log has no entry
abbrev pub new_actor : ℕ → Actor
new_actor nodes = record {
  taken = 0;
  applied = 0;
  published = 0;
  asked = nodes;
  least = 0;
  batch = [];
  standing = None;
  seen = 0;
  last = 0;
  firsts = 0;
  seconds = 0;
  from = 0;
  ring = 0;
  half = None;
  got = [];
}

-- an update of zeros, where there is none
abbrev pub no_update : Update
no_update = record { first = 0; second = 0 }

-- the update of this index
abbrev pub update_at : List Update → ℕ → Update
update_at updates index = slice_index_or updates index no_update

-- the node that appended the entry before an update of its batch
abbrev pub link_of : ℕ → Actor → ℕ → ℕ
link_of n a index = if index == 0 then a.last else n

-- every node has taken the entries whose indices in the ring its updates need
abbrev pub HasRoom : ℕ → Actor → Type 0
HasRoom nodes a = (a.asked ≡ nodes) × (a.seen + length a.batch ≤ a.least + 16)

-- it may store a word of an update: this one of its own ring, at the place that it hopes for
abbrev pub MayStore : ℕ → ℕ → Actor → ℕ → ℕ → ℕ → Type 0
MayStore nodes n a count r i = (r ≡ n) × IsNone a.standing × HasRoom nodes a × (count < length a.batch) × (i ≡ (a.seen + count) % 16)

-- it may load a word of an entry: of the one below those that it has, if its node hasn't taken that
abbrev pub MayLoad : Actor → ℕ → ℕ → Type 0
MayLoad a r i = (a.taken < a.from) × (r ≡ a.ring) × (i ≡ (a.from - 1) % 16)

-- it may append: all words of its updates are stored, and the tail is exchanged for the one after them
pub record MayAppend (nodes n : ℕ) (a : Actor) (old new : ℕ) : Type 0 where
  pub wants : IsNone a.standing
  pub some : 0 < length a.batch
  pub room : HasRoom nodes a
  pub firsts : a.firsts ≡ length a.batch
  pub seconds : a.seconds ≡ length a.batch
  pub applied : a.applied ≡ a.taken
  pub expects : old ≡ packed a.seen a.last
  pub becomes : new ≡ packed (a.seen + length a.batch) n

-- which operations the one who works at node n may ask for
abbrev pub MayDo : ℕ → ℕ → Actor → Operation → Type 0
MayDo nodes n a (Load Head) = a.applied ≡ a.taken
MayDo nodes n a (Load Completed) = ⊤
MayDo nodes n a (Load (Local r)) = (r < nodes) × (r ≤ a.asked)
MayDo nodes n a (Load (Done r)) = ⊤
MayDo nodes n a (Load (First r i)) = MayLoad a r i
MayDo nodes n a (Load (Second r i)) = MayLoad a r i × IsSome a.half
MayDo nodes n a (Store (Local r) value) = (r ≡ n) × (value ≡ a.seen) × (a.from ≡ a.taken) × (a.applied ≡ a.taken)
MayDo nodes n a (Store (Done r) value) = (r ≡ n) × (value ≡ a.applied)
MayDo nodes n a (Store (First r i) value) = MayStore nodes n a a.firsts r i × (value ≡ (update_at a.batch a.firsts).first)
MayDo nodes n a (Store (Second r i) value) =
    MayStore nodes n a a.seconds r i × (value ≡ packed (update_at a.batch a.seconds).second (link_of n a a.seconds))
MayDo nodes n a (Exchange Head old new) = MayAppend nodes n a old new
MayDo nodes n a (Max Completed value) = value ≤ a.taken
MayDo nodes n a operation = ⊥

-- it sees a tail, and who appended last
abbrev pub sees : Actor → ℕ → ℕ → Actor
sees a tail last = record a { seen = tail; last = last; firsts = 0; seconds = 0; from = tail; ring = last; half = None; got = [] }

-- it has one entry more: the one of which it had the first word
abbrev pub got_entry : Actor → Option ℕ → ℕ → Actor
got_entry a None value = a
got_entry a (Some first) value = record a {
  from = a.from - 1;
  ring = value % 128;
  half = None;
  got = record { first = first; second = value / 128 } ∷ a.got;
}

-- what it knows after an operation that gave it this value
abbrev pub learned : ℕ → Actor → Operation → ℕ → Actor
learned n a (Load Head) value = sees a (value / 128) (value % 128)
learned n a (Load Completed) value = record a { published = max a.published value }
learned n a (Load (Local r)) value = record a { asked = r + 1; least = if r == 0 then value else min a.least value }
learned n a (Load (First r i)) value = record a { half = Some value }
learned n a (Load (Second r i)) value = got_entry a a.half value
learned n a (Store (Local r) new) value = record a { taken = new }
learned n a (Store (First r i) new) value = record a { firsts = a.firsts + 1 }
learned n a (Store (Second r i) new) value = record a { seconds = a.seconds + 1 }
learned n a (Exchange word old new) value =
    if value == old then record (sees a (a.seen + length a.batch) n) { standing = Some a.seen } else sees a (value / 128) (value % 128)
learned n a (Max word new) value = record a { published = max a.published new }
learned n a operation value = a

-- it may apply the first entry that it has, once its node has taken it
pub record MayApply (a : Actor) : Type 0 where
  pub taken : a.taken ≡ a.seen
  pub next : a.from ≡ a.applied
  pub some : 0 < length a.got

-- it has applied the first entry that it has
abbrev pub applies : Actor → Actor
applies a = record a { applied = a.applied + 1; from = a.from + 1; got = drop 1 a.got }

-- it may begin a call of 1 to 16 updates: no other with updates is open
abbrev pub MayBegin : Actor → List Update → Type 0
MayBegin a batch = (a.batch ≡ []) × (1 ≤ length batch) × (length batch ≤ 16)

-- it has begun a call
abbrev pub begins : Actor → List Update → Actor
begins a batch = record a { batch = batch; standing = None; firsts = 0; seconds = 0 }

-- a call of so many updates may end: it has none, or they are all applied, and completed
abbrev pub MayEndAt : Option ℕ → ℕ → ℕ → ℕ → Type 0
MayEndAt None count applied published = count ≡ 0
MayEndAt (Some first) count applied published = (first + count ≤ applied) × (first + count ≤ published)

-- its call may end
abbrev pub MayEnd : Actor → Type 0
MayEnd a = MayEndAt a.standing (length a.batch) a.applied a.published

-- it has ended its call
abbrev pub ends : Actor → Actor
ends a = record a { batch = []; standing = None; firsts = 0; seconds = 0 }

-- whether the entry that it applies next is one of its own updates
abbrev pub is_own_at : Option ℕ → ℕ → ℕ → Bool
is_own_at None count applied = false
is_own_at (Some first) count applied = nat_le first applied && nat_lt applied (first + count)

-- whether the entry that it applies next is an update of its call
abbrev pub is_own : Actor → Bool
is_own a = is_own_at a.standing (length a.batch) a.applied
