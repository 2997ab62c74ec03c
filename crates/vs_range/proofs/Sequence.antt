-- One page after another in one table: the calls that a run does the work of.
use Rattle.std.proofs.Common.{◌≡◌, ℕ, zero, suc, ◌+◌, ◌<◌, ◌≤◌, List, [], ◌∷◌, ◌++◌, All, Contains, Some, None, Bool, true, false, ◌⊎◌, inl, inr, ⊎_elim, refl, sym, ap}
use Rattle.std.proofs.Common.{subst, ◌∙◌, arith, length}
use Rattle.std.specs.Prelude.{◌%◌, nat_eq, slice_index, if◌then◌else◌}
use Rattle.std.proofs.lemmas.List.Elements.{All-nil, All-cons}
use Rattle.vs_types.specs.Depth.{levels, index_at, IsCanonical}
use Rattle.vs_types.specs.Entry.{meaning}
use Rattle.vs_types.specs.Page.{level_of, bytes_of}
use Rattle.vs_types.specs.Space.{Space}
use Rattle.vs_types.specs.declared.addresses.page.Rights.{Rights}
use Rattle.vs_types.specs.declared.addresses.page.Size.{Size}
use Rattle.vs_types.proofs.Pages.{three_levels}
use Rattle.vs_walk.specs.Memory.{Memory}
use Rattle.vs_walk.specs.Walk.{walk}
use Rattle.vs_space.specs.Held.{word_at, with_word}
use Rattle.vs_space.specs.Path.{table_in, SamePath}
use Rattle.vs_space.proofs.Footprints.{word_elsewhere}
use Rattle.vs_space.proofs.Writes.{same_or_not}
use Rattle.vs_plan.specs.declared.plans.plan.Flush.{Flush}
use Rattle.vs_plan.specs.declared.plans.plan.Plan.{Plan}
use Rattle.vs_plan.specs.declared.plans.plan.Reply.{Reply}
use Rattle.vs_plan.specs.declared.plans.plan.Store.{Store}
use Rattle.vs_plan.specs.declared.plans.request.Request.{Request}
use Rattle.vs_plan.specs.declared.plans.target.Target.{Target}
use Rattle.vs_plan.specs.Flushed.{while_stored}
use Rattle.vs_plan.specs.Premise.{IsPremise}
use Rattle.vs_plan.specs.Processor.{Kept, KeptBefore, IsDropped, Moment, Is}
use Rattle.vs_plan.specs.Request.{IsRequest, address_of}
use Rattle.vs_plan.specs.Answered.{Changes, space_after}
use Rattle.vs_plan.specs.Stores.{stored, stored_all, FindTheirWords}
use Rattle.vs_plan.specs.Way.{IsWay}
use Rattle.vs_plan.proofs.EntryStores.{walk_off, way_stays}
use Rattle.vs_plan.proofs.FirstRoots.{premise_again}
use Rattle.vs_plan.proofs.Parts.{Parts, EndAt, own_table}
use Rattle.vs_plan.proofs.Stored.{used_word}
use Rattle.vs_range.specs.declared.run.Run.{Run}
use Rattle.vs_range.specs.Run.{if_new, store_of, stores_from, pages_on, AskInTurn, IsWalkedAlike, SwitchesOnce}
use Rattle.vs_range.specs.Several.{Call, AreRight, ended_all, while_planned, unlinked_by, IsDroppedByOne, HaveAll}
use Rattle.vs_range.proofs.AtOnce.{at_once}
use Rattle.vs_range.proofs.Moments.{KeepsNoMore, more_is}
use Rattle.vs_range.proofs.Unlinked.{in_one}
use Rattle.vs_range.proofs.OnTable.{page_on, IsPageOn, is_page_on, level_few, IsAtTable, end_on}

-- a plan of a page that unlinks nothing
abbrev pub page_plan : Reply → ℕ → List Store → Flush → Plan
page_plan reply bits stores flush = record {
  reply = reply;
  bits = bits;
  fill = None;
  stores = record { items = stores };
  flush = flush;
  unlinked = record { items = [] };
}

module _ (target : Target) (request : Request) (size : Size) (base frame : ℕ) (given : Rights) (flushes : List Flush) where
  abbrev root : ℕ
  root = target.root

  -- so many calls, from the page with this number on, whose stores are these
  pub record HasCalls (memory : Memory) (space : Space) (number count : ℕ) (stores : List Store) : Type 0 where
    pub calls : List Call
    pub many : length calls ≡ count
    pub asked : AskInTurn request size number calls
    pub right : (gone : List ℕ) → (Contains gone frame → ⊥) → AreRight target memory space gone calls
    pub done : All (λ (call : Call). Changes call.plan.reply) calls
    pub found : FindTheirWords memory stores
    pub ended : ended_all memory calls ≡ stored_all memory stores
    pub unlinked : unlinked_by calls ≡ []
    pub flushed : HaveAll flushes calls
    pub stays : (address : ℕ) → ((other : ℕ) → number ≤ other → other < number + count
        → SamePath (levels target.depth) (level_of size) (page_on size base other) address → ⊥)
        → IsWalkedAlike target.depth target.root address memory stores
    pub switches : (address : ℕ) → SwitchesOnce target.depth target.root address memory stores
    pub moments : (earlier lived : List Moment) → KeepsNoMore target.depth target.root (Is memory ∷ earlier) lived
        → KeepsNoMore target.depth target.root (while_stored memory stores earlier) (while_planned calls lived)

  pub no_calls : (memory : Memory) (space : Space) (number : ℕ) → HasCalls memory space number 0 []
  no_calls memory space number = record {
    calls = [];
    many = refl;
    asked = tt;
    right = λ gone apart. tt;
    done = All-nil _;
    found = tt;
    ended = refl;
    unlinked = refl;
    flushed = tt;
    stays = λ address off. tt;
    switches = λ address. tt;
    moments = λ earlier lived no_more. no_more;
  }

  module _ (memory : Memory) (space : Space) (number count : ℕ) (rest : List Store) (reply : Reply) (bits : ℕ) (flush : Flush)
      (premise : IsPremise target.depth memory target.root (address_of (pages_on request size number)) space)
      (changed : Changes reply) (dropped : (kept : Kept) → IsDropped flush kept → IsDroppedByOne flushes kept) where
    abbrev call : List Store → Call
    call stores = record { request = pages_on request size number; offered = []; memory = memory; plan = page_plan reply bits stores flush }

    -- a call that stores nothing
    pub call_none : Parts target (pages_on request size number) memory space [] reply bits None [] flush []
        → HasCalls memory (space_after target (pages_on request size number) space reply) (suc number) count rest
        → HasCalls memory space number (suc count) rest
    call_none right rest_of = record {
      calls = call [] ∷ rest_of.calls;
      many = ap suc rest_of.many;
      asked = (refl, rest_of.asked);
      right = λ gone apart. (
        at_once (record {
          tables = λ level address n at. refl;
          stays = λ n named. refl;
          spared = λ n named none. absurd (omega (arith, none.1));
          premise = premise;
          right = right;
        }),
        rest_of.right gone apart,
      );
      done = All-cons (λ (c : Call). Changes c.plan.reply) (call []) rest_of.calls changed rest_of.done;
      found = rest_of.found;
      ended = rest_of.ended;
      unlinked = rest_of.unlinked;
      flushed = (dropped, rest_of.flushed);
      stays = λ address off. rest_of.stays address (λ other from below. off other (omega arith) (omega arith));
      switches = rest_of.switches;
      moments = λ earlier lived no_more. rest_of.moments earlier (Is memory ∷ lived) (λ kept held. KeptBefore kept (no_more kept held));
    }

    -- a call that stores one word
    module _ (index old new : ℕ) where
      abbrev s : Store
      s = record { frame = frame; index = index; old = old; new = new }

      pub call_store : Parts target (pages_on request size number) memory space [] reply bits None (s ∷ []) flush []
          → word_at memory frame index ≡ Some old
          → ((address : ℕ) → (SamePath (levels target.depth) (level_of size) (page_on size base number) address → ⊥)
          → walk target.depth (stored memory s) target.root address ≡ walk target.depth memory target.root address)
          → ((other address : ℕ) → number < other → other < number + suc count
          → SamePath (levels target.depth) (level_of size) (page_on size base number) address
          → SamePath (levels target.depth) (level_of size) (page_on size base other) address → ⊥)
          → HasCalls (stored memory s) (space_after target (pages_on request size number) space reply) (suc number) count rest
          → HasCalls memory space number (suc count) (s ∷ rest)
      call_store right told off_path apart_paths rest_of = record {
        calls = call (s ∷ []) ∷ rest_of.calls;
        many = ap suc rest_of.many;
        asked = (refl, rest_of.asked);
        right = λ gone apart. (
          at_once (record {
            tables = λ level address n at. refl;
            stays = λ n named. refl;
            spared = λ n named one. apart (subst (Contains gone) (in_one frame n one) named);
            premise = premise;
            right = right;
          }),
          rest_of.right gone apart,
        );
        done = All-cons (λ (c : Call). Changes c.plan.reply) (call (s ∷ [])) rest_of.calls changed rest_of.done;
        found = (told, rest_of.found);
        ended = rest_of.ended;
        unlinked = rest_of.unlinked;
        flushed = (dropped, rest_of.flushed);
        stays = λ address off. (
          off_path address (off number (omega arith) (omega arith)),
          rest_of.stays address (λ other from below. off other (omega arith) (omega arith)),
        );
        switches = λ address. ⊎_elim
            (λ on. inl (rest_of.stays address (λ other from below path. apart_paths other address (omega arith) (omega arith) on path)))
            (λ off. inr (off_path address off, rest_of.switches address))
            (same_or_not (levels target.depth) (level_of size) (page_on size base number) address);
        moments = λ earlier lived no_more. rest_of.moments (Is memory ∷ earlier) (Is (stored memory s) ∷ Is memory ∷ lived)
            (more_is target.depth target.root (stored memory s) (Is memory ∷ earlier) (Is memory ∷ lived)
            (λ kept held. KeptBefore kept (no_more kept held)));
      }

-- ---- all pages

module _ (target : Target) (request : Request) (base : ℕ) (given : Rights) (flushes : List Flush) (run : Run) (words : List ℕ)
    (reply : ℕ → Reply) (bits : ℕ → ℕ) (flush : ℕ → Flush) where
  abbrev level : ℕ
  level = level_of run.size

  abbrev old : ℕ → ℕ
  old number = slice_index words (run.index + number)

  abbrev new : ℕ → ℕ
  new number = (store_of run words number).new

  -- the words of the table but for those of the first pages, so many
  abbrev pub AreOld : Memory → ℕ → Type 0
  AreOld memory number = (i : ℕ) → i < 512 → ((i < run.index) ⊎ (run.index + number ≤ i)) → word_at memory run.frame i ≡ Some (slice_index words i)

  -- what holds of each page
  pub record IsPaged (number : ℕ) : Type 0 where
    pub place : address_of (pages_on request run.size number) ≡ page_on run.size base number
    pub good : IsRequest target (pages_on request run.size number)
    pub ends_old : table_in (Some (meaning level (old number))) ≡ None
    pub ends_new : table_in (Some (meaning level (new number))) ≡ None
    pub changed : Changes (reply number)
    pub dropped : (kept : Kept) → IsDropped (flush number) kept → IsDroppedByOne flushes kept
    pub right : (memory : Memory) (space : Space) → EndAt target memory space level run.frame given (old number) (page_on run.size base number)
        → AreOld memory number
        → Parts target (pages_on request run.size number) memory space [] (reply number) (bits number) None
        (if_new (store_of run words number)) (flush number) []

  abbrev Calls : Memory → Space → ℕ → ℕ → List Store → Type 0
  Calls memory space number count stores = HasCalls target request run.size base run.frame given flushes memory space number count stores

  module _ (canonical : IsCanonical target.depth base) (aligned : base % bytes_of run.size ≡ 0) (here : run.index ≡ index_at level base) where
    -- two pages are on one path to an entry at most
    apart_paths : (number other address : ℕ) → IsPageOn run.size base number → IsPageOn run.size base other → number < other
        → SamePath (levels target.depth) level (page_on run.size base number) address
        → SamePath (levels target.depth) level (page_on run.size base other) address → ⊥
    apart_paths number other address one two less on path =
        let low : level ≤ levels target.depth = omega (arith, (level_few run.size).1, three_levels target.depth) in
        let same : index_at level base + number ≡ index_at level base + other =
        sym one.index ∙ on level (omega arith) low ∙ sym (path level (omega arith) low) ∙ two.index in
        omega arith

    one_more : (number count : ℕ) (rest : List Store) (memory : Memory) (space : Space) → run.index + number + suc count ≤ 512 → IsPaged number
        → IsAtTable target memory space run.size base run.frame given → AreOld memory number
        → ((m : Memory) (s : Space) → IsAtTable target m s run.size base run.frame given → AreOld m (suc number) → Calls m s (suc number) count rest)
        → Calls memory space number (suc count) (if_new (store_of run words number) ++ rest)
    one_more number count rest memory space room page at old_words go =
        by (nat_eq (old number) (new number)) (page.right memory space end old_words)
      where
        on : IsPageOn run.size base number
        on = is_page_on run.size base number aligned (omega (arith, here, room))

        told : word_at memory run.frame (run.index + number) ≡ Some (old number)
        told = old_words (run.index + number) (omega arith) (inr (omega arith))

        end : EndAt target memory space level run.frame given (old number) (page_on run.size base number)
        end = end_on at canonical number on (old number) (subst (λ i. word_at memory run.frame (i + number) ≡ Some (old number)) here told) page.ends_old

        premise : IsPremise target.depth memory target.root (address_of (pages_on request run.size number)) space
        premise = subst (λ a. IsPremise target.depth memory target.root a space) (sym page.place) end.premise

        index_is : index_at level (page_on run.size base number) ≡ run.index + number
        index_is = on.index ∙ ap (λ i. i + number) (sym here)

        later : Space
        later = space_after target (pages_on request run.size number) space (reply number)

        by : (b : Bool)
            → Parts target (pages_on request run.size number) memory space [] (reply number) (bits number) None
            (if b then [] else store_of run words number ∷ []) (flush number) []
            → Calls memory space number (suc count) ((if b then [] else store_of run words number ∷ []) ++ rest)
        by true right = call_none target request run.size base run.frame given flushes memory space number count rest (reply number) (bits number)
            (flush number) premise page.changed page.dropped right
            (go memory later
            (record {
              premise = premise_again target (pages_on request run.size number) memory space [] (page_plan (reply number) (bits number) [] (flush number))
                  base page.good premise right at.premise.own;
              way = at.way;
            })
            (λ i low apart. old_words i low (⊎_elim (λ below. inl below) (λ above. inr (omega arith)) apart)))
        by false right = call_store target request run.size base run.frame given flushes memory space number count rest (reply number) (bits number)
            (flush number) premise page.changed page.dropped (run.index + number) (old number) (new number) right told
            (λ address off. subst (λ i. walk target.depth (with_word memory run.frame i (new number)) target.root address
            ≡ walk target.depth memory target.root address) index_is (walk_off (own_table end) (new number) address off))
            (λ other address less below on_number on_other. apart_paths number other address on
            (is_page_on run.size base other aligned (omega (arith, here, room))) less on_number on_other)
            (go (stored memory (store_of run words number)) later
            (record {
              premise = premise_again target (pages_on request run.size number) memory space []
                  (page_plan (reply number) (bits number) (store_of run words number ∷ []) (flush number)) base page.good premise right at.premise.own;
              way = subst (λ i. IsWay target.depth (with_word memory run.frame i (new number)) target.root base level run.frame given) index_is
                  (way_stays (own_table end) (new number) base level run.frame given (omega arith) at.way);
            })
            (λ i low apart.
            word_elsewhere memory run.frame (run.index + number) (new number) run.frame i (used_word memory run.frame (run.index + number) (old number) told)
            (λ same. ⊎_elim (λ (below : i < run.index). omega arith) (λ (above : run.index + suc number ≤ i). omega arith) apart)
            ∙ old_words i low (⊎_elim (λ below. inl below) (λ above. inr (omega arith)) apart)))

    pub sequence : (count number total : ℕ) → number + count ≡ total → run.index + total ≤ 512 → ((i : ℕ) → i < total → IsPaged i)
        → (memory : Memory) (space : Space) → IsAtTable target memory space run.size base run.frame given → AreOld memory number
        → Calls memory space number count (stores_from run words number count)
    sequence zero number total whole room pages memory space at old_words =
        no_calls target request run.size base run.frame given flushes memory space number
    sequence (suc count) number total whole room pages memory space at old_words =
        one_more number count (stores_from run words (suc number) count) memory space (omega arith) (pages number (omega arith)) at old_words
        (λ m s at_then words_then. sequence count (suc number) total (omega arith) room pages m s at_then words_then)
