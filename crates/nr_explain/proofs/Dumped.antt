-- The dump of a replica, and where its tables lead.
use Rattle.std.proofs.Common.{◌≡◌, ◌≢◌, ℕ, ◌+◌, ◌≤◌, List, [], ◌∷◌, Option, Some, None, Contains, length, get_or, slice_get, refl, sym, ap, subst, ◌∙◌, arith}
use Rattle.std.specs.Prelude.{MatchOption}
use Rattle.std.specs.Global.{Vec}
use Rattle.std.proofs.lemmas.List.Elements.{Contains-append_left}
use Rattle.std.proofs.lemmas.Option.{same_Some, slice_get-get_or, slice_get_within}
use Rattle.vs_types.specs.Depth.{levels}
use Rattle.vs_types.specs.declared.addresses.depth.Depth.{Depth}
use Rattle.vs_types.proofs.Pages.{three_levels}
use Rattle.vs_walk.specs.Dump.{Image}
use Rattle.vs_walk.specs.Memory.{Memory}
use Rattle.vs_walk.specs.Traversal.{OfFrame, traversal, walk_fault}
use Rattle.vs_walk.specs.declared.walk.WalkFault.TheVariants as walks
use Rattle.vs_walk.proofs.LawsOfVisits.{reached_is_met}
use Rattle.vs_walk.proofs.LawsOfTraversals.{shared_reached}
use Rattle.vs_walk.proofs.Walks.{few_levels}
use Rattle.nr_trace.specs.Faults.{HasDump}
use Rattle.nr_trace.specs.Recording.{IsThere, Recording}
use Rattle.nr_explain.specs.Facts.{IsPath}
use Rattle.nr_explain.specs.inside.Ways.{GoesNowhere, GoesOnTo, HasTwoWays, IsAnotherWay, IsMet}
use Rattle.nr_explain.specs.declared.trace.evidence.TableEntry.{TableEntry}
use Rattle.nr_explain.specs.declared.tables.paths.Target.{Target}
use Rattle.nr_explain.proofs.Ways.{levels_of_way}

-- the dump of a replica that is read
dump_read : (trace : Recording) (dumps : List Image) (replica : ℕ) (dump other : Image) → dumps ≡ trace.dumps
    → slice_get trace.dumps replica ≡ Some other → dump ≡ get_or dumps replica dump → slice_get trace.dumps replica ≡ Some dump
dump_read trace dumps replica dump other same there read =
    slice_get-get_or trace.dumps replica dump (slice_get_within trace.dumps replica other there)
    ∙ ap (λ (d : Image). Some d) (sym (read ∙ ap (λ (ds : List Image). get_or ds replica dump) same))

one_dump : (trace : Recording) (replica : ℕ) (dump other : Image) → slice_get trace.dumps replica ≡ Some dump
    → slice_get trace.dumps replica ≡ Some other → other ≡ dump
one_dump trace replica dump other is there = same_Some other dump (sym there ∙ is)

-- the dump that is read is the one of which it is so
pub read_as : (trace : Recording) (dumps : List Image) (replica : ℕ) (Is : Image → Type 0) (dump : Image) → HasDump trace replica Is → dumps ≡ trace.dumps
    → dump ≡ get_or dumps replica dump → (slice_get trace.dumps replica ≡ Some dump) × IsThere dump × Is dump
read_as trace dumps replica Is dump (other, has, is_there, is) same read =
    let there = dump_read trace dumps replica dump other same has read in
    let one = one_dump trace replica dump other there has in
    (there, subst IsThere one is_there, subst Is one is)

-- a way that was found from the root
pub record Found (depth : Depth) (dump : Image) (target : Target) (way : List TableEntry) : Type 0 where
  pub end : ℕ
  pub leads : IsPath dump.frames (levels depth) dump.root end target.frame way
  pub met : IsMet dump.frames target end way
  pub down : end + length way ≡ levels depth
  pub few : levels depth ≤ 5

-- what a search found, or that there is none
abbrev pub IsSought : Image → Target → ℕ → Option (Vec TableEntry) → Type 0
IsSought dump target level found = MatchOption found (GoesNowhere dump.frames target level dump.root [])
    (λ way. GoesOnTo dump.frames target level dump.root [] way.items)

pub found_from : (depth : Depth) (dump : Image) (target : Target) (found : Option (Vec TableEntry)) (way : Vec TableEntry) → found ≡ Some way
    → IsSought dump target (levels depth) found → Found depth dump target way.items
found_from depth dump target found way is sought =
    let goes = subst (λ (o : Option (Vec TableEntry)). IsSought dump target (levels depth) o) is sought in
    let leads = subst (λ (w : List TableEntry). IsPath dump.frames (levels depth) dump.root goes.end target.frame w) (sym goes.goes_on) goes.leads in
    let three = three_levels depth in
    record {
      end = goes.end;
      leads = leads;
      met = goes.met;
      down = (levels_of_way dump.frames (levels depth) dump.root goes.end target.frame way.items (omega arith) leads).1;
      few = few_levels depth;
    }

pub shared_is_visited : (depth : Depth) (dump : Image) (frame : ℕ) → walk_fault depth dump.frames dump.root ≡ Some (walks.Shared frame)
    → Contains (traversal depth dump.frames dump.root) (OfFrame frame)
shared_is_visited depth dump frame fault =
    let split = shared_reached depth dump.frames dump.root frame fault in
    reached_is_met (traversal depth dump.frames dump.root) frame
    (subst (λ (ns : List ℕ). Contains ns frame) (sym split.2) (Contains-append_left split.0 (frame ∷ split.1) frame split.3))

abbrev pub without : ℕ → Vec TableEntry → Target
without frame first = record { frame = frame; reserved = None; other = Some first }

-- of two ways one is not the first
pub some_other : (memory : Memory) (level number frame : ℕ) (first : Vec TableEntry) → HasTwoWays memory level number frame
    → GoesNowhere memory (without frame first) level number [] → ⊥
some_other memory level number frame first two nowhere =
    none two.first_end two.first two.first_leads (λ same.
    none two.second_end two.second two.second_leads (λ also. two.apart (same ∙ sym also))) where
      none : (end : ℕ) (way : List TableEntry) → IsPath memory level number end frame way → way ≢ first.items → ⊥
      none end way leads other =
          nowhere way (record { rest = way; end = end; goes_on = refl; leads = leads; met = record { reserved = tt; other = other } })

pub another_found : (memory : Memory) (level number frame : ℕ) (first : Vec TableEntry) (second : List TableEntry)
    → GoesOnTo memory (without frame first) level number [] second → IsAnotherWay memory level number frame first.items second
another_found memory level number frame first second goes =
    (goes.end, subst (λ (w : List TableEntry). IsPath memory level number goes.end frame w) (sym goes.goes_on) goes.leads, goes.met.other)
