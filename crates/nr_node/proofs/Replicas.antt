-- What one entry more is to a replica.
use Rattle.std.proofs.Common.{◌≡◌, ℕ, zero, suc, ◌+◌, ◌-◌, ◌^◌, ◌<◌, ◌≤◌, List, [], ◌∷◌, ◌++◌, Some, length, take, option_map, ⊎_elim, ap, sym, subst}
use Rattle.std.proofs.Common.{◌∙◌, refl, arith}
use Rattle.std.specs.Prelude.{slice_get}
use Rattle.std.proofs.Math.ListN.{get_or-append, length-append}
use Rattle.std.proofs.Math.Seq.{take-length}
use Rattle.std.proofs.lemmas.List.{append_assoc, append-nil, map-append, length-map, take-append-le}
use Rattle.std.proofs.lemmas.Option.{slice_get_within, get_or_from_slice_get, slice_get-get_or, slice_get-map}
use Rattle.vs_types.specs.Step.{step}
use Rattle.vs_types.specs.declared.requests.answer.Answer.{Answer}
use Rattle.vs_types.specs.declared.addresses.depth.Depth.{Depth}
use Rattle.vs_types.specs.declared.limits.TheConstants.{TABLES}
use Rattle.vs_types.specs.declared.log_entry.LogEntry.{LogEntry}
use Rattle.vs_space.specs.Table.{PageTable, IsTableOf, IsTableStep}
use Rattle.vs_types.proofs.Lists.{get_right}
use Rattle.nr_ring.specs.declared.cells.words.TheConstants.{MOST_PLACES}
use Rattle.nr_ring.proofs.LocalTails.{le_or_lt}
use Rattle.nr_slots.specs.Updates.{Waiting}
use Rattle.nr_node.specs.Calls.{answered}
use Rattle.nr_node.specs.Spaces.{answer_at, space_of}
use Rattle.nr_node.specs.inside.AppliedEntry.{AppliedEntry}
use Rattle.nr_node.specs.inside.Replica.{IsKeptAt, IsReplica, ReplicaState, entries_told, most_kept}
use Rattle.nr_node.proofs.Spaces.{space_after_one}

-- one entry more is behind all that there are
more_entries : (past : List LogEntry) (told : List AppliedEntry) (t : AppliedEntry)
    → past ++ entries_told (told ++ t ∷ []) ≡ (past ++ entries_told told) ++ t.entry ∷ []
more_entries past told t =
    ap (λ (l : List LogEntry). past ++ l) (map-append (λ (u : AppliedEntry). u.entry) told (t ∷ []))
    ∙ sym (append_assoc past (entries_told told) (t.entry ∷ []))

-- how many entries there are
pub as_many : (past : List LogEntry) (told : List AppliedEntry) → length (past ++ entries_told told) ≡ length past + length told
as_many past told = length-append past (entries_told told) ∙ ap (λ (n : ℕ). length past + n) (length-map told (λ (u : AppliedEntry). u.entry))

-- the entries before a place are those before it when there is one more
take_of_more : (past : List LogEntry) (told : List AppliedEntry) (t : AppliedEntry) (place : ℕ) → place ≤ length past + length told
    → take place (past ++ entries_told (told ++ t ∷ [])) ≡ take place (past ++ entries_told told)
take_of_more past told t place le =
    ap (take place) (more_entries past told t)
    ∙ take-append-le place (past ++ entries_told told) (t.entry ∷ []) (omega (arith, le, as_many past told))

earlier : (told : List AppliedEntry) (t u : AppliedEntry) (place : ℕ) → place < length told → slice_get (told ++ t ∷ []) place ≡ Some u
    → slice_get told place ≡ Some u
earlier told t u place lt e =
    slice_get-get_or told place u lt
    ∙ ap Some (sym (get_or-append told (t ∷ []) u place lt) ∙ get_or_from_slice_get (told ++ t ∷ []) place u u e)

-- the last one is at the end
last : (told : List AppliedEntry) (t u : AppliedEntry) (place : ℕ) → length told ≤ place → slice_get (told ++ t ∷ []) place ≡ Some u
    → (place ≡ length told) × (t ≡ u)
last [] t u zero le e = (refl, cc)
last [] t u (suc place) le e = absurd (omega (arith, slice_get_within (t ∷ []) (suc place) u e))
last (x ∷ told) t u zero le e = absurd (omega arith)
last (x ∷ told) t u (suc place) le e = let rest = last told t u place (omega arith) e in (omega (arith, rest.0), rest.1)

pub one_more : (old new : PageTable) (base : ℕ) (past : List LogEntry) (told : List AppliedEntry) (t : AppliedEntry) (room more : ℕ)
    → IsReplica old base past told room → IsTableStep old t.entry.op t.answer new
    → length told < most_kept → more ≡ room → IsReplica new base past (told ++ t ∷ []) more
one_more old new base past told t room more is steps lt same_room =
    let was = past ++ entries_told told in
    let space = space_of old.depth old.limit was in
    let now = steps.steps space is.table_of in
    let depth : old.depth ≡ new.depth = ap (λ (p : PageTable). p.depth) (sym steps.same) in
    let limit : old.limit ≡ new.limit = ap (λ (p : PageTable). p.limit) (sym steps.same) in
    let entries = past ++ entries_told (told ++ t ∷ []) in
    let after : (step old.depth old.limit space t.entry.op).space ≡ space_of old.depth old.limit entries =
    sym (ap (space_of old.depth old.limit) (more_entries past told t) ∙ space_after_one old.depth old.limit was t.entry) in
    let ByLimit : ℕ → Type 0 = λ n. IsTableOf new (space_of old.depth n entries) in
    let ByDepth : Depth → Type 0 = λ d. IsTableOf new (space_of d new.limit entries) in
    record {
      base_is = is.base_is;
      table_of = subst ByDepth depth (subst ByLimit limit (subst (IsTableOf new) after now.1));
      answers = λ place u e.
          let Answer : Depth → ℕ → Type 0 = λ d n. u.answer ≡ answer_at d n entries (base + place) u.entry.op in
          subst (λ d. Answer d new.limit) depth
          (subst (Answer old.depth) limit (⊎_elim (λ le. at_end place u le e now.0) (λ lt. before place u lt e) (le_or_lt (length told) place)));
      low = is.low;
      few = omega (arith, length-append told (t ∷ []), lt);
      tables = subst (λ n. n ≤ TABLES) limit is.tables;
      reserved = subst (λ n. most_kept ≤ n) (sym same_room) is.reserved;
    } where
      before : (place : ℕ) (u : AppliedEntry) → place < length told → slice_get (told ++ t ∷ []) place ≡ Some u
          → u.answer ≡ answer_at old.depth old.limit (past ++ entries_told (told ++ t ∷ [])) (base + place) u.entry.op
      before place u lt e =
          is.answers place u (earlier told t u place lt e)
          ∙ ap (λ es. (step old.depth old.limit (space_of old.depth old.limit es) u.entry.op).answer)
          (sym (take_of_more past told t (base + place) (omega (arith, is.base_is, lt))))

      at_end : (place : ℕ) (u : AppliedEntry) → length told ≤ place → slice_get (told ++ t ∷ []) place ≡ Some u
          → t.answer ≡ (step old.depth old.limit (space_of old.depth old.limit (past ++ entries_told told)) t.entry.op).answer
          → u.answer ≡ answer_at old.depth old.limit (past ++ entries_told (told ++ t ∷ [])) (base + place) u.entry.op
      at_end place u le e answered =
          let here = last told t u place le e in
          let end : base + place ≡ length (past ++ entries_told told) = omega (arith, is.base_is, here.0, as_many past told) in
          let all : take (base + place) (past ++ entries_told (told ++ t ∷ [])) ≡ past ++ entries_told told =
          take_of_more past told t (base + place) (omega (arith, is.base_is, here.0))
          ∙ ap (λ n. take n (past ++ entries_told told)) end
          ∙ take-length (past ++ entries_told told) in
          let P : AppliedEntry → Type 0 = λ v. v.answer ≡ answer_at old.depth old.limit (past ++ entries_told (told ++ t ∷ [])) (base + place) v.entry.op in
          subst P here.1 (answered ∙ ap (λ es. (step old.depth old.limit (space_of old.depth old.limit es) t.entry.op).answer) (sym all))

-- what is kept no more is as it was
pub none_kept : (table : PageTable) (base more : ℕ) (past : List LogEntry) (told : List AppliedEntry) (room : ℕ) → IsReplica table base past told room
    → more ≡ base + length told → more ≤ MOST_PLACES → IsReplica table more (past ++ entries_told told) [] room
none_kept table base more past told room is counts low =
    let nothing : (past ++ entries_told told) ++ [] ≡ past ++ entries_told told = append-nil (past ++ entries_told told) in
    let Of : List LogEntry → Type 0 = λ l. IsTableOf table (space_of table.depth table.limit l) in
    record {
      base_is = omega (arith, counts, is.base_is, as_many past told);
      table_of = subst Of (sym nothing) is.table_of;
      answers = λ place t e. absurd (omega (arith, slice_get_within [] place t e));
      low = low;
      few = omega arith;
      tables = is.tables;
      reserved = is.reserved;
    }

-- what is kept of a place
pub kept_at : (table : PageTable) (base : ℕ) (past : List LogEntry) (told : List AppliedEntry) (room place : ℕ) (t : AppliedEntry) (state : ReplicaState)
    → IsReplica table base past told room
    → (record { depth = table.depth; tables = table.limit; base = base; entries = past ++ entries_told told }) ≡ state
    → base ≤ place → slice_get told (place - base) ≡ Some t → (IsKeptAt state place t) × (place < 2 ^ 63)
kept_at table base past told room place t state is same above there =
    let within = slice_get_within told (place - base) t there in
    let at : base + (place - base) ≡ place = omega arith in
    let behind : length past + (place - base) ≡ place = omega (arith, is.base_is) in
    let Is : ReplicaState → Type 0 = λ r. IsKeptAt r place t in
    let kept : IsKeptAt (record { depth = table.depth; tables = table.limit; base = base; entries = past ++ entries_told told }) place t = record {
      above = above;
      below = omega (arith, as_many past told, is.base_is, within);
      stands = ap (slice_get (past ++ entries_told told)) (sym behind)
          ∙ get_right past (entries_told told) (place - base)
          ∙ slice_get-map (λ (u : AppliedEntry). u.entry) told (place - base)
          ∙ ap (option_map (λ (u : AppliedEntry). u.entry)) there;
      answered = is.answers (place - base) t there
          ∙ ap (λ (n : ℕ). answer_at table.depth table.limit (past ++ entries_told told) n t.entry.op) at;
    } in
    (subst Is same kept, omega (arith, is.low, is.few, within))

-- an update with its place and its answer
pub answered_one : (depth : Depth) (tables : ℕ) (entries : List LogEntry) (place : ℕ) (waiting : Waiting) (answer : Answer)
    → answer ≡ answer_at depth tables entries place waiting.op
    → answered depth tables entries place waiting
    ≡ (record { thread = waiting.thread; call = waiting.call; op = waiting.op; place = place; answer = answer })
answered_one depth tables entries place waiting answer answered_so =
    ap (λ (a : Answer). record { thread = waiting.thread; call = waiting.call; op = waiting.op; place = place; answer = a }) (sym answered_so)
