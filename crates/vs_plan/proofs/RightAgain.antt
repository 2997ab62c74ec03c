-- A right plan, where flags were set in the memory since it was shown.
use Rattle.std.proofs.Common.{◌≡◌, ◌≢◌, ℕ, suc, ◌+◌, ◌*◌, ◌%◌, ◌^◌, ◌<◌, List, [], ◌∷◌, All, Contains, Option, Some, None, true, inl, inr, ⊎_elim, refl, sym}
use Rattle.std.proofs.Common.{ap, subst, ◌∙◌, arith, get_or}
use Rattle.std.specs.FinMap as finite
use Rattle.std.specs.List.{AllZip}
use Rattle.std.proofs.lemmas.List.Elements.{All-nil, All-cons, All-head}
use Rattle.vs_types.specs.Depth.{levels, index_at}
use Rattle.vs_types.specs.Entry.{meaning, size_at}
use Rattle.vs_types.specs.Laws.{changes}
use Rattle.vs_types.specs.Page.{bytes_of}
use Rattle.vs_types.specs.Space.{Space}
use Rattle.vs_types.specs.declared.requests.answer.Answer.TheVariants as answers
use Rattle.vs_types.specs.declared.addresses.page.Page.{Page}
use Rattle.vs_types.specs.declared.addresses.page.Rights.{Rights}
use Rattle.vs_types.specs.declared.addresses.page.Size.{Size}
use Rattle.vs_types.specs.declared.addresses.page.Size.TheVariants.{K4}
use Rattle.vs_walk.specs.Memory.{Memory}
use Rattle.vs_space.specs.Flags.{AreSameButFlags}
use Rattle.vs_space.specs.Path.{table_in, table_at}
use Rattle.vs_space.proofs.Flagged.{flagged_found}
use Rattle.vs_space.proofs.FlaggedWords.{flagged_meaning}
use Rattle.vs_space.proofs.Writes.{get_written_other}
use Rattle.vs_plan.specs.declared.plans.plan.Fill.{Fill}
use Rattle.vs_plan.specs.declared.plans.plan.Flush.{Flush}
use Rattle.vs_plan.specs.declared.plans.plan.Flush.TheVariants as flushes
use Rattle.vs_plan.specs.declared.plans.plan.Reply.{Reply}
use Rattle.vs_plan.specs.declared.plans.plan.Reply.TheVariants as replies
use Rattle.vs_plan.specs.declared.plans.plan.Store.{Store}
use Rattle.vs_plan.specs.declared.plans.request.Request.{Request}
use Rattle.vs_plan.specs.declared.plans.request.Request.TheVariants.{Map, Unmap, Protect, Remap, Split, Join, Prune, UnmapPart, Collapse}
use Rattle.vs_plan.specs.declared.plans.target.Target.{Target}
use Rattle.vs_plan.specs.Changes.{phys_refusal}
use Rattle.vs_plan.specs.Premise.{HasOwnWay, IsSpare}
use Rattle.vs_plan.specs.Request.{address_of, stepped, refusal}
use Rattle.vs_plan.specs.Answered.{IsReply, IsDue, space_after, LiesOverEmpty, AllowsLess, WantsMore, KeepsApart}
use Rattle.vs_plan.specs.Right.{IsOnWay, IsMeant, OfPage, OfLink, OfSpare}
use Rattle.vs_plan.specs.Right.{IsMeantBy, IsUnlinked, IsLeft, IsUnlinkedBy, IsPruned, IsOneWay, IsTold, IsEntryOf, IsPut, Fits, IsSoAlready}
use Rattle.vs_plan.specs.Answered.{KeepsTable, LeadsBeyond, LiesInPinned}
use Rattle.vs_plan.specs.Right.{IsAlready, IsFlushed, IsMeantByJoin, IsWritten, written_frames, HasNoneToPrune}
use Rattle.vs_plan.specs.Target.{frames_end}
use Rattle.vs_plan.specs.Stores.{stored, stored_all, filled, FindTheirWords}
use Rattle.vs_plan.proofs.Changing.{why_here}
use Rattle.vs_plan.proofs.FlaggedEntries.{ArePaired, absent_flags, alike_even, alike_like, alike_low, alike_unflagged, alike_zero, all_stored, at_before, at_flags, entry_flags}
use Rattle.vs_plan.proofs.FlaggedEntries.{follow_flags, has_word, like_flags, leaf_odd, own_before, place_stays, rights_stay, set_flags, some_stored, spare_flags}
use Rattle.vs_plan.proofs.FlaggedEntries.{way_flags, word_flags, zeros_flags, zip_all, zip_length, zip_none}
use Rattle.vs_plan.proofs.FlagsKept.{flags_own, flags_whole}
use Rattle.vs_plan.proofs.Given.{change_begins}
use Rattle.vs_plan.proofs.OtherFlags.{same_translations}
use Rattle.vs_plan.proofs.Parts.{Parts}
use Rattle.vs_plan.proofs.PlansSuffice.{entry_sizes, some_level}
use Rattle.vs_plan.proofs.Remapping.{phys_good}
use Rattle.vs_plan.proofs.Ways.{way_table}
use Rattle.vs_plan.proofs.WrittenFrames.{written_same}

-- ---- where a remap leads

low_bits : (size : Size) (phys : ℕ) → phys % bytes_of size ≡ 0 → phys % 2 ^ 12 ≡ 0
low_bits K4 phys at = at
low_bits _ phys at = omega (arith, at)

-- the physical address of a remap that changes something is a multiple of 4 KiB
pub remap_low : (target : Target) (space : Space) (base phys : ℕ) (rights : Rights) → refusal target space (Remap base phys rights) ≡ None
    → changes (stepped target.depth space (Remap base phys rights)).answer ≡ true → phys % 2 ^ 12 ≡ 0
remap_low target space base phys rights due changed =
    let page = change_begins target.depth space (Remap base phys rights) refl changed in
    low_bits page.0.size phys (phys_good phys target.phys_bits page.0.size
    (sym (why_here base (λ (p : Page). phys_refusal phys target.phys_bits p.size) page.0 page.1 page.2) ∙ due)).0

module _ (target : Target) {old new : Memory} (is : AreSameButFlags old new) where
  -- ---- what came out

  less_flags : (address : ℕ) (wanted : Rights) → AllowsLess target old address wanted → AllowsLess target new address wanted
  less_flags address wanted less = record {
    level = less.level;
    number = less.number;
    rights = less.rights;
    way = way_flags is target.depth target.root address less.level less.number less.rights less.way;
    less = less.less;
  }

  wants_flags : (request : Request) → WantsMore target old request → WantsMore target new request
  wants_flags (Map page bits) more = less_flags page.base page.rights more
  wants_flags (Protect base rights) more = less_flags base rights more
  wants_flags (Remap base phys rights) more = less_flags base rights more
  wants_flags (Collapse base phys rights) more = less_flags base rights more
  wants_flags _ more = absurd more

  over_flags : (request : Request) (number address : ℕ) → LiesOverEmpty target old request number address
      → LiesOverEmpty target new request number address
  over_flags (Map page bits) number address over = record {
    level = over.level;
    rights = over.rights;
    below = over.below;
    covered = over.covered;
    way = way_flags is target.depth target.root address over.level number over.rights over.way;
    empty = λ index low. absent_flags is over.level number index
        (some_level target.depth old target.root over.level address number (way_table over.level number over.rights over.way)) (over.empty index low);
  }
  over_flags _ number address over = absurd over

  beyond_flags : (number index : ℕ) → LeadsBeyond target old number index → LeadsBeyond target new number index
  beyond_flags number index beyond = record {
    level = beyond.level;
    address = beyond.address;
    rights = beyond.rights;
    next = beyond.next;
    own = beyond.own;
    way = way_flags is target.depth target.root beyond.address (suc beyond.level) number beyond.rights beyond.way;
    index_is = beyond.index_is;
    link = flagged_found is (suc beyond.level) number beyond.address (omega arith) ∙ beyond.link;
    beyond = beyond.beyond;
  }

  pinned_flags : (base : ℕ) → LiesInPinned target old base → LiesInPinned target new base
  pinned_flags base keeps =
      let first = word_flags is keeps.number (index_at keeps.level base) keeps.first keeps.first_is in
      record {
        level = keeps.level;
        number = keeps.number;
        first = first.0;
        reached = at_flags is target.depth target.root keeps.level base keeps.number keeps.reached;
        first_is = first.1;
        leaf = (
          keeps.leaf.0,
          keeps.leaf.1,
          flagged_meaning first.2 keeps.level
              (some_level target.depth old target.root keeps.level base keeps.number keeps.reached) ∙ keeps.leaf.2,
        );
        stays = keeps.stays;
      }

  table_flags : (request : Request) → KeepsTable target old request → KeepsTable target new request
  table_flags (Join base) keeps = pinned_flags base keeps
  table_flags (Collapse base phys rights) keeps = pinned_flags base keeps
  table_flags _ keeps = absurd keeps

  apart_flags : (request : Request) (index : ℕ) → KeepsApart target old request index → KeepsApart target new request index
  apart_flags (Join base) index apart =
      let first = word_flags is apart.number (index_at apart.level base) apart.first apart.first_is in
      let word = word_flags is apart.number index apart.word apart.word_is in
      record {
        level = apart.level;
        number = apart.number;
        first = first.0;
        word = word.0;
        reached = at_flags is target.depth target.root apart.level base apart.number apart.reached;
        first_is = first.1;
        leaf = (
          apart.leaf.0,
          apart.leaf.1,
          flagged_meaning first.2 apart.level
              (some_level target.depth old target.root apart.level base apart.number apart.reached) ∙ apart.leaf.2,
        );
        within = apart.within;
        word_is = word.1;
        apart =
            λ follows. apart.apart (sym (alike_unflagged word.2) ∙ follows
            ∙ ap (λ n. n + index * bytes_of (size_at apart.level)) (alike_unflagged first.2));
        before = follow_flags is apart.number (size_at apart.level) apart.first first.0 index first.2 apart.before;
      }
  apart_flags (Collapse base phys rights) index apart =
      let first = word_flags is apart.number (index_at apart.level base) apart.first apart.first_is in
      let word = word_flags is apart.number index apart.word apart.word_is in
      record {
        level = apart.level;
        number = apart.number;
        first = first.0;
        word = word.0;
        reached = at_flags is target.depth target.root apart.level base apart.number apart.reached;
        first_is = first.1;
        leaf = (
          apart.leaf.0,
          apart.leaf.1,
          flagged_meaning first.2 apart.level
              (some_level target.depth old target.root apart.level base apart.number apart.reached) ∙ apart.leaf.2,
        );
        within = apart.within;
        word_is = word.1;
        unlike =
            λ like. apart.unlike (sym (alike_like word.2 (size_at apart.level)) ∙ like ∙ alike_like first.2 (size_at apart.level));
        before = like_flags is apart.number (size_at apart.level) apart.first first.0 index first.2 apart.before;
      }
  apart_flags _ index apart = absurd apart

  reply_flags : (request : Request) (space : Space) (offered : List (Option ℕ)) (reply : Reply) → IsReply target request old space offered reply
      → IsReply target request new space offered reply
  reply_flags request space offered replies.Rights said = (wants_flags request said.0, said.1)
  reply_flags request space offered (replies.Empty number address) said = over_flags request number address said
  reply_flags request space offered (replies.Reserved number index) said = beyond_flags number index said
  reply_flags request space offered replies.Pinned said = (table_flags request said.0, said.1)
  reply_flags request space offered (replies.Apart index) said = (apart_flags request index said.0, said.1)
  reply_flags request space offered _ said = said

  -- ---- what the stores are

  abbrev on_flags : {address : ℕ} {s t : Store} → ArePaired s t → IsOnWay target old address s → IsOnWay target new address t
  on_flags {address} {s} pair on = record {
    level = on.level;
    reached = at_flags is target.depth target.root on.level address s.frame on.reached ∙ ap Some (sym pair.frame);
    index = pair.index ∙ on.index;
  }

  leads_flags : {address : ℕ} {s t : Store} → ArePaired s t → (on : IsOnWay target old address s)
      → table_in (Some (meaning on.level t.old)) ≡ table_in (Some (meaning on.level s.old))
  leads_flags {address} {s} pair on = ap (λ e. table_in (Some e))
      (flagged_meaning pair.old on.level (some_level target.depth old target.root on.level address s.frame on.reached))

  meant_flags : {address : ℕ} {unlinked : List ℕ} {s t : Store} → ArePaired s t → IsMeant target old address unlinked s → IsMeant target new address unlinked t
  meant_flags pair (OfPage on ends) = OfPage (on_flags pair on) (leads_flags pair on ∙ ends)
  meant_flags {s = s} pair (OfLink on below leads named high none) =
      OfLink (on_flags pair on) below (leads_flags pair on ∙ leads) named high (alike_zero pair.new none)
  meant_flags {s = s} {t} pair (OfSpare spare within) = OfSpare
      (subst (λ n. IsSpare target.depth new target.root n) (sym pair.frame) (spare_flags is target.depth target.root s.frame spare))
      (subst (λ n. n < frames_end target) (sym pair.frame) within)

  over_meant : {base : ℕ} {unlinked : List ℕ} {s t : Store} → ArePaired s t → IsMeantByJoin target old base unlinked s
      → IsMeantByJoin target new base unlinked t
  over_meant pair meant = record {
    on = on_flags pair meant.on;
    below = meant.below;
    leads = leads_flags pair meant.on ∙ meant.leads;
    named = meant.named;
    may = meant.may;
  }

  meant_by : (request : Request) (unlinked : List ℕ) (s t : Store) → ArePaired s t → IsMeantBy target old request unlinked s
      → IsMeantBy target new request unlinked t
  meant_by (Join base) unlinked s t pair meant = over_meant pair meant
  meant_by (Collapse base phys rights) unlinked s t pair meant = over_meant pair meant
  meant_by _ unlinked s t pair meant = meant_flags pair meant

  -- ---- where there is no store

  so_flags : (request : Request) (space : Space) → refusal target space request ≡ None → changes (stepped target.depth space request).answer ≡ true
      → IsSoAlready target old request → IsSoAlready target new request
  so_flags (Protect base rights) space due changed so =
      let now = entry_flags is target base so.1 so.0 so.2 in
      (so.0, now.0, now.1, rights_stay now.0 so.1 rights (set_flags now.2 (leaf_odd so.2.level so.1 so.2.leaf.0 so.2.leaf.1 so.2.leaf.2)) so.3)
  so_flags (Remap base phys rights) space due changed so =
      let now = entry_flags is target base so.1 so.0 so.2 in (
        so.0,
        now.0,
        now.1,
        place_stays so.0 now.0 so.1 phys rights (remap_low target space base phys rights due changed)
            (set_flags now.2 (leaf_odd so.2.level so.1 so.2.leaf.0 so.2.leaf.1 so.2.leaf.2)) so.3,
      )
  so_flags _ space due changed so = tt

  -- a table that had a present entry has one
  none_flags : (request : Request) → HasNoneToPrune target old request → HasNoneToPrune target new request
  none_flags (Prune address) none = λ level number at ends low.
      let before = at_before is target.depth target.root level address number at in
      let has = none level number before
      (ap table_in (sym (flagged_found is level number address (some_level target.depth old target.root level address number before))) ∙ ends) low in
      let now = word_flags is number has.index has.word has.there in
      record { index = has.index; word = now.0; within = has.within; there = now.1; present = omega (arith, has.present, alike_low now.2) }
  none_flags _ none = tt

  already_none : (request : Request) (space : Space) (offered : List (Option ℕ)) (reply : Reply) → IsDue target space request reply
      → IsReply target request old space offered reply → IsAlready target old request reply [] → IsAlready target new request reply []
  already_none request space offered (replies.Answer (answers.Changed rights)) due said so = so_flags request space due (ap changes (sym said)) so
  already_none request space offered (replies.Answer answers.Done) due said so = none_flags request so
  already_none request space offered _ due said so = tt

-- ---- a plan of the same stores, but for flags

pub record IsMoved (target : Target) (request : Request) (old new : Memory) (space : Space) (offered : List (Option ℕ)) (reply : Reply) (bits : ℕ)
    (fill other : Option Fill) (xs ys : List Store) (unlinked : List ℕ) : Type 0 where
  pub same : AreSameButFlags old new
  pub begins : AreSameButFlags (filled old fill) (filled new other)
  pub own : HasOwnWay target.depth old target.root (address_of request)
  pub pairs : AllZip ArePaired xs ys
  pub frames : written_frames fill [] ≡ written_frames other []
  pub found : FindTheirWords (filled new other) ys
  pub put : IsPut target request new offered other ys unlinked
  pub written : IsWritten request ys
  pub changing : All (λ (s : Store). s.old ≢ s.new) ys
  pub told : IsTold target new (address_of request) bits reply

module _ (target : Target) (old new : Memory) (space : Space) (offered : List (Option ℕ)) (reply : Reply) (bits past : ℕ) (fill other : Option Fill)
    (unlinked : List ℕ) (flush : Flush) where
  abbrev Was : Request → List Store → Type 0
  Was request xs = Parts target request old space offered reply past fill xs flush unlinked

  abbrev Moves : Request → List Store → List Store → Type 0
  Moves request xs ys = IsMoved target request old new space offered reply bits fill other xs ys unlinked

  abbrev ends_alike : {request : Request} {xs ys : List Store} → Was request xs → Moves request xs ys
      → AreSameButFlags (stored_all (filled old fill) xs) (stored_all (filled new other) ys)
  ends_alike {request} {xs} {ys} was moves = all_stored moves.begins xs ys moves.pairs was.found

  fits_moved : (request : Request) (xs ys : List Store) → AllZip ArePaired xs ys → Fits request space xs → Fits request space ys
  fits_moved request [] (t ∷ ys) pairs fits = absurd pairs
  fits_moved request (s ∷ xs) [] pairs fits = absurd pairs
  fits_moved (Join base) (s ∷ xs) (t ∷ ys) pairs fits = fits
  fits_moved _ _ _ pairs fits = tt

  already_moved : (request : Request) (xs ys : List Store) → Was request xs → Moves request xs ys → IsAlready target new request reply ys
  already_moved request [] [] was moves = already_none target moves.same request space offered reply was.due was.reply was.already
  already_moved request (s ∷ xs) (t ∷ ys) was moves = tt
  already_moved request _ _ was moves = absurd moves.pairs

  one_way_moved : (request : Request) (xs ys : List Store) → AllZip ArePaired xs ys → IsOneWay request xs → IsOneWay request ys
  one_way_moved (Map page bits) xs ys pairs one_way =
      zip_all (λ (s : Store). s.old % 2 ≡ 0) (λ (s : Store). s.old % 2 ≡ 0)
      (λ s t pair even. ap (λ n. n % 2) (alike_even pair.old even) ∙ even) xs ys pairs one_way
  one_way_moved (Unmap base) xs ys pairs one_way =
      zip_all (λ (s : Store). s.new ≡ 0) (λ (s : Store). s.new ≡ 0) (λ s t pair none. alike_zero pair.new none) xs ys pairs one_way
  one_way_moved (Prune address) xs ys pairs one_way =
      zip_all (λ (s : Store). s.new ≡ 0) (λ (s : Store). s.new ≡ 0) (λ s t pair none. alike_zero pair.new none) xs ys pairs one_way
  one_way_moved _ xs ys pairs one_way = tt

  pruned_moved : (request : Request) (xs ys : List Store) → Was request xs → Moves request xs ys
      → IsPruned target (stored_all (filled new other) ys) request ys
  pruned_moved request [] (t ∷ ys) was moves = absurd moves.pairs
  pruned_moved request (s ∷ xs) [] was moves = absurd moves.pairs
  pruned_moved (Unmap base) (s ∷ xs) (t ∷ ys) was moves = λ level number low at.
      has_word (ends_alike was moves) number (was.pruned level number low (at_before (ends_alike was moves) target.depth target.root level base number at))
  pruned_moved _ _ _ was moves = tt

  -- ---- what is flushed

  -- the size of a page's entry is as it was
  flushed_size : {base word now : ℕ} {size other : Size} → AreSameButFlags old new → IsEntryOf target old base size word → IsEntryOf target new base other now
      → size ≡ other
  flushed_size {base} {word} {now} {size} {other} same was is =
      let moved = entry_flags same target base word size was in
      entry_sizes target new base size other moved.0 now moved.1 is

  flushed_moved : (request : Request) (xs ys : List Store) (unlinked : List ℕ) → AreSameButFlags old new → AllZip ArePaired xs ys
      → IsPut target request new offered other ys unlinked → IsFlushed target old request xs unlinked flush → IsFlushed target new request ys unlinked flush
  flushed_moved request [] (t ∷ ys) unlinked same pairs put flushed = absurd pairs
  flushed_moved request (s ∷ xs) [] unlinked same pairs put flushed = absurd pairs
  flushed_moved (Unmap base) (s ∷ xs) (t ∷ ys) [] same pairs put flushed =
      (put.1.size, put.1.entry_is, flushed.2 ∙ ap (flushes.Page base) (flushed_size same flushed.1 put.1.entry_is))
  flushed_moved (Unmap base) (s ∷ xs) (t ∷ ys) (number ∷ numbers) same pairs put flushed =
      (put.1.size, put.1.entry_is, flushed.2 ∙ ap (flushes.PageAndTables base) (flushed_size same flushed.1 put.1.entry_is))
  flushed_moved (Protect base rights) (s ∷ xs) (t ∷ ys) unlinked same pairs put flushed =
      (put.1.size, put.1.entry_is, flushed.2 ∙ ap (flushes.Page base) (flushed_size same flushed.1 put.1.entry_is))
  flushed_moved (Remap base phys rights) (s ∷ xs) (t ∷ ys) unlinked same pairs put flushed =
      (put.1.size, put.1.entry_is, flushed.2 ∙ ap (flushes.Page base) (flushed_size same flushed.1 put.1.entry_is))
  flushed_moved (Split base) (s ∷ xs) (t ∷ ys) unlinked same pairs put flushed =
      (put.2.size, put.2.entry_is, flushed.2 ∙ ap (flushes.Range base) (flushed_size same flushed.1 put.2.entry_is))
  flushed_moved (Join base) (s ∷ xs) (t ∷ ys) unlinked same pairs put flushed =
      let now = entry_flags same target base flushed.1 flushed.0 flushed.2 in
      (flushed.0, now.0, now.1, flushed.3)
  flushed_moved (UnmapPart base first count) (s ∷ xs) (t ∷ ys) unlinked same pairs put flushed =
      (put.2.size, put.2.entry_is, flushed.2 ∙ ap (flushes.Range base) (flushed_size same flushed.1 put.2.entry_is))
  flushed_moved (Collapse base phys rights) (s ∷ xs) (t ∷ ys) unlinked same pairs put flushed =
      let now = entry_flags same target base flushed.1 flushed.0 flushed.2 in
      (flushed.0, now.0, now.1, flushed.3)
  flushed_moved _ _ _ unlinked same pairs put flushed = flushed

  -- ---- which tables are unlinked

  gone_moved : {request : Request} {xs ys : List Store} → Was request xs → Moves request xs ys → (address number : ℕ)
      → IsUnlinked target old (stored_all (filled old fill) xs) address number → IsUnlinked target new (stored_all (filled new other) ys) address number
  gone_moved was moves address number gone = record {
    level = gone.level;
    was = at_flags moves.same target.depth target.root gone.level address number gone.was;
    lower = gone.lower;
    clear = zeros_flags (ends_alike was moves) number gone.clear;
    unreached = λ level b at. gone.unreached level b (at_before (ends_alike was moves) target.depth target.root level b number at);
  }

  -- the one store of a join or a prune is into another frame than the table that it unlinks
  left_moved : {request : Request} {base number : ℕ} {s t : Store} {xs ys : List Store} (level : ℕ) → Was request (s ∷ xs) → Moves request (s ∷ xs) (t ∷ ys)
      → address_of request ≡ base → ys ≡ [] → other ≡ None → table_at (levels target.depth) new target.root level base ≡ Some number
      → table_at (levels target.depth) new target.root (suc level) base ≡ Some t.frame
      → IsLeft target old (stored_all (filled old fill) (s ∷ xs)) base number
      → IsLeft target new (stored_all (filled new other) (t ∷ ys)) base number
  left_moved {request} {base} {number} {s} {t} {xs} {ys} lower was moves place alone clear reached above left = record {
    level = left.level;
    was = at_flags moves.same target.depth target.root left.level base number left.was;
    lower = left.lower;
    same = subst (λ (later : List Store). finite.get (stored_all (filled new other) (t ∷ later)) number ≡ finite.get new number) (sym alone)
        (subst (λ (o : Option Fill). finite.get (stored (filled new o) t) number ≡ finite.get new number) (sym clear)
        (get_written_other new t.frame t.index t.new number apart));
    unreached = λ level b at. left.unreached level b (at_before (ends_alike was moves) target.depth target.root level b number at);
  } where
    own : HasOwnWay target.depth old target.root base
    own = subst (HasOwnWay target.depth old target.root) place moves.own

    apart : number ≢ t.frame
    apart same =
        let below = at_before moves.same target.depth target.root lower base number reached in
        let up = at_before moves.same target.depth target.root (suc lower) base t.frame above ∙ ap Some (sym same) in
        let levels_same = (own.once lower number (suc lower) base below up).0 in
        omega (arith, levels_same)

  -- nothing was stored
  left_none : {request : Request} {base : ℕ} → Was request [] → Moves request [] [] → other ≡ None
      → All (IsLeft target old (stored_all (filled old fill) []) base) unlinked → All (IsLeft target new (stored_all (filled new other) []) base) unlinked
  left_none {request} {base} was moves clear all = λ k d lt. let left = all k d lt in record {
    level = left.level;
    was = at_flags moves.same target.depth target.root left.level base _ left.was;
    lower = left.lower;
    same = ap (λ (o : Option Fill). finite.get (filled new o) (get_or unlinked k d)) clear;
    unreached = λ level b at. left.unreached level b (at_before moves.begins target.depth target.root level b _ at);
  }

  -- one table was unlinked
  left_one : {request : Request} {base number : ℕ} {s t : Store} {xs ys : List Store} (level : ℕ) → Was request (s ∷ xs) → Moves request (s ∷ xs) (t ∷ ys)
      → address_of request ≡ base → ys ≡ [] → other ≡ None → table_at (levels target.depth) new target.root level base ≡ Some number
      → table_at (levels target.depth) new target.root (suc level) base ≡ Some t.frame → unlinked ≡ number ∷ []
      → All (IsLeft target old (stored_all (filled old fill) (s ∷ xs)) base) unlinked
      → All (IsLeft target new (stored_all (filled new other) (t ∷ ys)) base) unlinked
  left_one {request} {base} {number} {s} {t} {xs} {ys} lower was moves place alone clear reached above named all =
      subst (All (IsLeft target new (stored_all (filled new other) (t ∷ ys)) base)) (sym named)
      (All-cons (IsLeft target new (stored_all (filled new other) (t ∷ ys)) base) number []
      (left_moved lower was moves place alone clear reached above
      (All-head (IsLeft target old (stored_all (filled old fill) (s ∷ xs)) base) number []
      (subst (All (IsLeft target old (stored_all (filled old fill) (s ∷ xs)) base)) named all)))
      (All-nil (IsLeft target new (stored_all (filled new other) (t ∷ ys)) base)))

  unlinked_moved : (request : Request) (xs ys : List Store) → Was request xs → Moves request xs ys
      → All (IsUnlinkedBy target new (stored_all (filled new other) ys) request) unlinked
  unlinked_moved (Join base) [] [] was moves = left_none was moves moves.put was.unlinked
  unlinked_moved (Join base) (s ∷ xs) (t ∷ ys) was moves = let put = moves.put.1 in
      left_one put.level was moves refl moves.written moves.put.0 put.reached put.above put.unlinked_is was.unlinked
  unlinked_moved (Join base) _ _ was moves = absurd moves.pairs
  unlinked_moved (Prune address) [] [] was moves = left_none was moves moves.put was.unlinked
  unlinked_moved (Prune address) (s ∷ xs) (t ∷ ys) was moves = let put = moves.put.1 in
      left_one put.level was moves refl moves.written moves.put.0 put.reached put.above put.unlinked_is was.unlinked
  unlinked_moved (Prune address) _ _ was moves = absurd moves.pairs
  unlinked_moved (Collapse base phys rights) [] [] was moves = left_none was moves moves.put was.unlinked
  unlinked_moved (Collapse base phys rights) (s ∷ xs) (t ∷ ys) was moves = let put = moves.put.1 in
      left_one put.level was moves refl moves.written moves.put.0 put.reached put.above put.unlinked_is was.unlinked
  unlinked_moved (Collapse base phys rights) _ _ was moves = absurd moves.pairs
  unlinked_moved request xs ys was moves = λ k d lt. gone_moved was moves (address_of request) _ (was.unlinked k d lt)

  pub parts_moved : (request : Request) (xs ys : List Store) → Was request xs → Moves request xs ys
      → Parts target request new space offered reply bits other ys flush unlinked
  parts_moved request xs ys was moves = record {
    reply = reply_flags target moves.same request space offered reply was.reply;
    due = was.due;
    put = moves.put;
    fits = fits_moved request xs ys moves.pairs was.fits;
    safe = record {
      switch = was.safe.switch;
      until = λ n le few. same_translations (some_stored moves.begins n xs ys moves.pairs was.found) target.depth target.root space
          (was.safe.until n le (omega (arith, few, zip_length xs ys moves.pairs)));
      since = λ n lt few. same_translations (some_stored moves.begins n xs ys moves.pairs was.found) target.depth target.root
          (space_after target request space reply) (was.safe.since n lt (omega (arith, few, zip_length xs ys moves.pairs)));
      done = same_translations (ends_alike was moves) target.depth target.root (space_after target request space reply) was.safe.done;
    };
    found = moves.found;
    meant = zip_all (IsMeantBy target old request unlinked) (IsMeantBy target new request unlinked) (meant_by target moves.same request unlinked)
        xs ys moves.pairs was.meant;
    nothing = λ none. zip_none xs ys moves.pairs (was.nothing none);
    written = moves.written;
    already = already_moved request xs ys was moves;
    changing = moves.changing;
    one_way = one_way_moved request xs ys moves.pairs was.one_way;
    told = moves.told;
    flushed = flushed_moved request xs ys unlinked moves.same moves.pairs moves.put was.flushed;
    unlinked = unlinked_moved request xs ys was moves;
    pruned = pruned_moved request xs ys was moves;
    named_once = was.named_once;
    whole = flags_whole (ends_alike was moves) was.whole;
    own = λ a has. flags_own (ends_alike was moves) target.depth target.root a (was.own a (own_before moves.same target.depth target.root a has));
    reaches = λ level b number at. ⊎_elim
        (λ before. inl (at_flags moves.same target.depth target.root level b number before))
        (λ new. inr (record {
          spare = spare_flags moves.same target.depth target.root number new.spare;
          written = subst (λ ns. Contains ns number) (written_same fill other xs ys moves.frames moves.pairs) new.written;
        }))
        (was.reaches level b number (at_before (ends_alike was moves) target.depth target.root level b number at));
  }
