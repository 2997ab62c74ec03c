-- Which of some flushes count where a processor reads between them.
use Rattle.std.proofs.Common.{◌≡◌, ℕ, List, [], ◌∷◌, ◌++◌, Bool, true, false, ◌⊎◌, inl, inr, ⊎_elim, refl, sym, ap, subst, ◌∙◌}
use Rattle.std.specs.Prelude.{if◌then◌else◌}
use Rattle.vs_types.specs.Entry.{all_rights}
use Rattle.vs_types.specs.declared.addresses.page.Rights.{Rights}
use Rattle.vs_plan.specs.declared.plans.plan.Flush.{Flush}
use Rattle.vs_plan.specs.declared.plans.plan.Flush.TheVariants.{Nothing, Page, PageAndTables, Range}
use Rattle.vs_plan.specs.Processor.{Kept, PagingEntry, IsDropped}
use Rattle.vs_range.specs.Several.{Call, IsDroppedByOne, HaveAll, drops_tables, from_tables, that_count, HaveAllInOrder, flushes_of}

-- ---- flushes that drop what is kept of tables

-- one that drops an entry for a table drops each
pub drops_some : (flush : Flush) (level region number : ℕ) (rights : Rights) → IsDropped flush (PagingEntry level region number rights)
    → drops_tables flush ≡ true
drops_some Nothing level region number rights dropped = absurd dropped
drops_some (Page base size) level region number rights dropped = absurd dropped
drops_some (PageAndTables base size) level region number rights dropped = refl
drops_some (Range base size) level region number rights dropped = refl

pub drops_each : (flush : Flush) → drops_tables flush ≡ true → (level region number : ℕ) (rights : Rights)
    → IsDropped flush (PagingEntry level region number rights)
drops_each Nothing drops level region number rights = cc
drops_each (Page base size) drops level region number rights = cc
drops_each (PageAndTables base size) drops level region number rights = tt
drops_each (Range base size) drops level region number rights = tt

-- ---- the flushes of plans, of which those count that come from the first on that drops what is kept of tables

-- one more
abbrev pub grown : Flush → List Flush → List Flush
grown flush [] = if drops_tables flush then flush ∷ [] else []
grown flush (first ∷ counted) = flush ∷ first ∷ counted

pub grown_old : (flush : Flush) (counted : List Flush) (kept : Kept) → IsDroppedByOne counted kept → IsDroppedByOne (grown flush counted) kept
grown_old flush [] kept one = absurd one
grown_old flush (first ∷ counted) kept one = inr one

-- where one counts, the next does
pub grown_by : (flush : Flush) (counted : List Flush) (other kept : Kept) → IsDroppedByOne counted other → IsDropped flush kept
    → IsDroppedByOne (grown flush counted) kept
grown_by flush [] other kept one dropped = absurd one
grown_by flush (first ∷ counted) other kept one dropped = inl dropped

first_grown : (flush : Flush) (kept : Kept) (b : Bool) → b ≡ true → IsDropped flush kept → IsDroppedByOne (if b then flush ∷ [] else []) kept
first_grown flush kept true drops dropped = inl dropped
first_grown flush kept false drops dropped = cc

pub grown_now : (flush : Flush) (counted : List Flush) (kept : Kept) → drops_tables flush ≡ true → IsDropped flush kept
    → IsDroppedByOne (grown flush counted) kept
grown_now flush [] kept drops dropped = first_grown flush kept (drops_tables flush) drops dropped
grown_now flush (first ∷ counted) kept drops dropped = inl dropped

first_within : (flush : Flush) (flushes : List Flush) (kept : Kept) (b : Bool) → IsDroppedByOne (if b then flush ∷ [] else []) kept
    → IsDroppedByOne (flush ∷ flushes) kept
first_within flush flushes kept true one = ⊎_elim (λ now. inl now) (λ none. absurd none) one
first_within flush flushes kept false one = absurd one

pub grown_within : (flush : Flush) (flushes counted : List Flush) → ((kept : Kept) → IsDroppedByOne counted kept → IsDroppedByOne flushes kept)
    → (kept : Kept) → IsDroppedByOne (grown flush counted) kept → IsDroppedByOne (flush ∷ flushes) kept
grown_within flush flushes [] within kept one = first_within flush flushes kept (drops_tables flush) one
grown_within flush flushes (first ∷ counted) within kept one = ⊎_elim (λ now. inl now) (λ old. inr (within kept old)) one

-- after all plans
abbrev pub all_flushes : List Flush → List Call → List Flush
all_flushes flushes [] = flushes
all_flushes flushes (call ∷ calls) = all_flushes (call.plan.flush ∷ flushes) calls

abbrev pub all_counted : List Flush → List Call → List Flush
all_counted counted [] = counted
all_counted counted (call ∷ calls) = all_counted (grown call.plan.flush counted) calls

pub all_within : (flushes counted : List Flush) (calls : List Call) → ((kept : Kept) → IsDroppedByOne counted kept → IsDroppedByOne flushes kept)
    → (kept : Kept) → IsDroppedByOne (all_counted counted calls) kept → IsDroppedByOne (all_flushes flushes calls) kept
all_within flushes counted [] within = within
all_within flushes counted (call ∷ calls) within =
    all_within (call.plan.flush ∷ flushes) (grown call.plan.flush counted) calls (grown_within call.plan.flush flushes counted within)

-- ---- the flushes after them, of which those count from the first on that does so too

pub again : (flushes : List Flush) → from_tables (from_tables flushes) ≡ from_tables flushes
again [] = refl
again (flush ∷ flushes) = by (again flushes) (drops_tables flush) refl
  where
    by : from_tables (from_tables flushes) ≡ from_tables flushes → (b : Bool) → drops_tables flush ≡ b
        → from_tables (if b then flush ∷ flushes else from_tables flushes) ≡ (if b then flush ∷ flushes else from_tables flushes)
    by rest true is = ap (λ (c : Bool). if c then flush ∷ flushes else from_tables flushes) is
    by rest false is = rest

count_again : (flush : Flush) (flushes : List Flush) → from_tables (that_count flush flushes) ≡ from_tables flushes
count_again flush flushes = by (drops_tables flush)
  where
    by : (b : Bool) → from_tables (if b then from_tables flushes else flushes) ≡ from_tables flushes
    by true = again flushes
    by false = refl

pub from_within : (flushes : List Flush) (kept : Kept) → IsDroppedByOne (from_tables flushes) kept → IsDroppedByOne flushes kept
from_within [] kept one = one
from_within (flush ∷ flushes) kept one = by (from_within flushes kept) (drops_tables flush) one
  where
    by : (IsDroppedByOne (from_tables flushes) kept → IsDroppedByOne flushes kept) → (b : Bool)
        → IsDroppedByOne (if b then flush ∷ flushes else from_tables flushes) kept → IsDroppedByOne (flush ∷ flushes) kept
    by rest true is = is
    by rest false is = inr (rest is)

count_within : (flush : Flush) (flushes : List Flush) (kept : Kept) → IsDroppedByOne (that_count flush flushes) kept → IsDroppedByOne flushes kept
count_within flush flushes kept one = by (drops_tables flush) one
  where
    by : (b : Bool) → IsDroppedByOne (if b then from_tables flushes else flushes) kept → IsDroppedByOne flushes kept
    by true is = from_within flushes kept is
    by false is = is

-- in order they have all
ordered_within : (flushes some : List Flush) (calls : List Call) → HaveAllInOrder some calls
    → ((kept : Kept) → IsDroppedByOne some kept → IsDroppedByOne flushes kept) → HaveAll flushes calls
ordered_within flushes some [] have within = tt
ordered_within flushes some (call ∷ calls) have within = (
  λ kept dropped. within kept (count_within call.plan.flush some kept (have.0 kept dropped)),
  ordered_within flushes (that_count call.plan.flush some) calls have.1 (λ kept one. within kept (count_within call.plan.flush some kept one)),
)

pub ordered_all : (flushes : List Flush) (calls : List Call) → HaveAllInOrder flushes calls → HaveAll flushes calls
ordered_all flushes calls have = ordered_within flushes flushes calls have (λ kept one. one)

-- where a plan's flush counts, so do all that were left to those after it
abbrev Whole : List Flush → List Flush → Type 0
Whole [] flushes = Unit {0}
Whole (first ∷ counted) flushes = (kept : Kept) → IsDroppedByOne flushes kept → IsDroppedByOne (from_tables flushes) kept

abbrev Had : List Flush → List Flush → Type 0
Had counted flushes = (kept : Kept) → IsDroppedByOne counted kept → IsDroppedByOne (from_tables flushes) kept

-- the same, whether or not a flush drops what is kept of tables
first_had : (flush : Flush) (flushes : List Flush) (b : Bool)
    → ((kept : Kept) → IsDropped flush kept → IsDroppedByOne (if b then from_tables flushes else flushes) kept)
    → Had (if b then flush ∷ [] else []) (if b then from_tables flushes else flushes)
first_had flush flushes true have kept one =
    subst (λ (fs : List Flush). IsDroppedByOne fs kept) (sym (again flushes)) (⊎_elim (λ now. have kept now) (λ none. absurd none) one)
first_had flush flushes false have kept one = absurd one

next_had : (flush first : Flush) (flushes counted : List Flush) (b : Bool)
    → ((kept : Kept) → IsDropped flush kept → IsDroppedByOne (if b then from_tables flushes else flushes) kept)
    → Had (first ∷ counted) flushes → Whole (first ∷ counted) flushes
    → Had (flush ∷ first ∷ counted) (if b then from_tables flushes else flushes)
next_had flush first flushes counted true have had whole kept one =
    subst (λ (fs : List Flush). IsDroppedByOne fs kept) (sym (again flushes)) (⊎_elim (λ now. have kept now) (λ old. had kept old) one)
next_had flush first flushes counted false have had whole kept one = ⊎_elim (λ now. whole kept (have kept now)) (λ old. had kept old) one

grown_had : (flush : Flush) (flushes counted : List Flush)
    → ((kept : Kept) → IsDropped flush kept → IsDroppedByOne (that_count flush flushes) kept)
    → Had counted flushes → Whole counted flushes → Had (grown flush counted) (that_count flush flushes)
grown_had flush flushes [] have had whole = first_had flush flushes (drops_tables flush) have
grown_had flush flushes (first ∷ counted) have had whole = next_had flush first flushes counted (drops_tables flush) have had whole

first_whole : (flush : Flush) (flushes : List Flush) (b : Bool) → Whole (if b then flush ∷ [] else []) (if b then from_tables flushes else flushes)
first_whole flush flushes true = λ kept one. subst (λ (fs : List Flush). IsDroppedByOne fs kept) (sym (again flushes)) one
first_whole flush flushes false = tt

next_whole : (flush first : Flush) (flushes counted : List Flush) (b : Bool) → Whole (first ∷ counted) flushes
    → Whole (flush ∷ first ∷ counted) (if b then from_tables flushes else flushes)
next_whole flush first flushes counted true whole = λ kept one. subst (λ (fs : List Flush). IsDroppedByOne fs kept) (sym (again flushes)) one
next_whole flush first flushes counted false whole = whole

grown_whole : (flush : Flush) (flushes counted : List Flush) → Whole counted flushes → Whole (grown flush counted) (that_count flush flushes)
grown_whole flush flushes [] whole = first_whole flush flushes (drops_tables flush)
grown_whole flush flushes (first ∷ counted) whole = next_whole flush first flushes counted (drops_tables flush) whole

-- so what the plans' flushes drop that count, those of these drop that count
counted_had : (flushes counted : List Flush) (calls : List Call) → HaveAllInOrder flushes calls → Had counted flushes → Whole counted flushes
    → Had (all_counted counted calls) flushes
counted_had flushes counted [] have had whole = had
counted_had flushes counted (call ∷ calls) have had whole = λ kept one.
    subst (λ (fs : List Flush). IsDroppedByOne fs kept) (count_again call.plan.flush flushes)
    (counted_had (that_count call.plan.flush flushes) (grown call.plan.flush counted) calls have.1
    (grown_had call.plan.flush flushes counted have.0 had whole) (grown_whole call.plan.flush flushes counted whole) kept one)

pub ordered_counted : (flushes : List Flush) (calls : List Call) → HaveAllInOrder flushes calls → (kept : Kept)
    → IsDroppedByOne (all_counted [] calls) kept → IsDroppedByOne (from_tables flushes) kept
ordered_counted flushes calls have = counted_had flushes [] calls have (λ kept none. absurd none) tt

-- ---- which flushes are in order

-- those of which the first drops what is kept of tables
pub tables_first : (flushes : List Flush) (calls : List Call) → from_tables flushes ≡ flushes → HaveAll flushes calls → HaveAllInOrder flushes calls
tables_first flushes [] first have = tt
tables_first flushes (call ∷ calls) first have = by (tables_first flushes calls first have.1) (drops_tables call.plan.flush)
  where
    by : HaveAllInOrder flushes calls → (b : Bool)
        → ((kept : Kept) → IsDropped call.plan.flush kept → IsDroppedByOne (if b then from_tables flushes else flushes) kept)
        × HaveAllInOrder (if b then from_tables flushes else flushes) calls
    by rest true = subst
        (λ (fs : List Flush). ((kept : Kept) → IsDropped call.plan.flush kept → IsDroppedByOne fs kept) × HaveAllInOrder fs calls)
        (sym first) (have.0, rest)
    by rest false = (have.0, rest)

-- those of which none does
pub no_tables : (flushes : List Flush) (level region number : ℕ) (rights : Rights) → from_tables flushes ≡ []
    → IsDroppedByOne flushes (PagingEntry level region number rights) → ⊥
no_tables [] level region number rights none one = one
no_tables (flush ∷ flushes) level region number rights none one =
    by (no_tables flushes level region number rights) (drops_tables flush) refl none
  where
    by : (from_tables flushes ≡ [] → IsDroppedByOne flushes (PagingEntry level region number rights) → ⊥) → (b : Bool)
        → drops_tables flush ≡ b → (if b then flush ∷ flushes else from_tables flushes) ≡ [] → ⊥
    by rest true is e = cc
    by rest false is e = ⊎_elim
        (λ now. let yes : true ≡ false = sym (drops_some flush level region number rights now) ∙ is in cc)
        (λ later. rest e later)
        one

pub pages_alone : (flushes : List Flush) (calls : List Call) → from_tables flushes ≡ [] → HaveAll flushes calls → HaveAllInOrder flushes calls
pages_alone flushes [] none have = tt
pages_alone flushes (call ∷ calls) none have = by (pages_alone flushes calls none have.1) (drops_tables call.plan.flush) refl
  where
    by : HaveAllInOrder flushes calls → (b : Bool) → drops_tables call.plan.flush ≡ b
        → ((kept : Kept) → IsDropped call.plan.flush kept → IsDroppedByOne (if b then from_tables flushes else flushes) kept)
        × HaveAllInOrder (if b then from_tables flushes else flushes) calls
    by rest true is = absurd (no_tables flushes 0 0 0 all_rights none
        (have.0 (PagingEntry 0 0 0 all_rights) (drops_each call.plan.flush is 0 0 0 all_rights)))
    by rest false is = (have.0, rest)

-- and the plans' own, one after another
one_behind : (before flushes : List Flush) (kept : Kept) → IsDroppedByOne flushes kept → IsDroppedByOne (before ++ flushes) kept
one_behind [] flushes kept one = one
one_behind (flush ∷ before) flushes kept one = inr (one_behind before flushes kept one)

own_all : (flushes : List Flush) (calls : List Call) → ((kept : Kept) → IsDroppedByOne (flushes_of calls) kept → IsDroppedByOne flushes kept)
    → HaveAll flushes calls
own_all flushes [] within = tt
own_all flushes (call ∷ calls) within =
    (λ kept dropped. within kept (inl dropped), own_all flushes calls (λ kept one. within kept (inr one)))

-- behind those that leave tables
from_behind : (before flushes : List Flush) → from_tables before ≡ [] → from_tables (before ++ flushes) ≡ from_tables flushes
from_behind [] flushes none = refl
from_behind (flush ∷ before) flushes none = by (from_behind before flushes) (drops_tables flush) none
  where
    by : (from_tables before ≡ [] → from_tables (before ++ flushes) ≡ from_tables flushes) → (b : Bool)
        → (if b then flush ∷ before else from_tables before) ≡ []
        → (if b then flush ∷ (before ++ flushes) else from_tables (before ++ flushes)) ≡ from_tables flushes
    by rest true e = cc
    by rest false e = rest e

one_from : (flush : Flush) (flushes : List Flush) → drops_tables flush ≡ true → from_tables (flush ∷ flushes) ≡ flush ∷ flushes
one_from flush flushes drops = ap (λ (c : Bool). if c then flush ∷ flushes else from_tables flushes) drops

none_from : (flush : Flush) → drops_tables flush ≡ false → from_tables (flush ∷ []) ≡ []
none_from flush leaves = ap (λ (c : Bool). if c then flush ∷ [] else []) leaves

one_more : (before : List Flush) (flush : Flush) (flushes : List Flush) → (before ++ flush ∷ []) ++ flushes ≡ before ++ flush ∷ flushes
one_more [] flush flushes = refl
one_more (first ∷ before) flush flushes = ap (λ (fs : List Flush). first ∷ fs) (one_more before flush flushes)

own_behind : (before : List Flush) (calls : List Call) → from_tables before ≡ [] → HaveAllInOrder (before ++ flushes_of calls) calls
own_behind before [] none = tt
own_behind before (call ∷ calls) none =
    by (own_behind (before ++ call.plan.flush ∷ []) calls) (drops_tables call.plan.flush) refl
  where
    own : List Flush
    own = call.plan.flush ∷ flushes_of calls

    by : (from_tables (before ++ call.plan.flush ∷ []) ≡ []
        → HaveAllInOrder ((before ++ call.plan.flush ∷ []) ++ flushes_of calls) calls) → (b : Bool) → drops_tables call.plan.flush ≡ b
        → ((kept : Kept) → IsDropped call.plan.flush kept
        → IsDroppedByOne (if b then from_tables (before ++ own) else before ++ own) kept)
        × HaveAllInOrder (if b then from_tables (before ++ own) else before ++ own) calls
    by go true is = subst
        (λ (fs : List Flush). ((kept : Kept) → IsDropped call.plan.flush kept → IsDroppedByOne fs kept) × HaveAllInOrder fs calls)
        (sym (from_behind before own none ∙ one_from call.plan.flush (flushes_of calls) is)) (
          λ kept dropped. inl dropped,
          tables_first own calls (one_from call.plan.flush (flushes_of calls) is) (own_all own calls (λ kept one. inr one)),
        )
    by go false is = (
      λ kept dropped. one_behind before own kept (inl dropped),
      subst (λ (fs : List Flush). HaveAllInOrder fs calls) (one_more before call.plan.flush (flushes_of calls))
          (go (from_behind before (call.plan.flush ∷ []) none ∙ none_from call.plan.flush is)),
    )

pub own_order : (calls : List Call) → HaveAllInOrder (flushes_of calls) calls
own_order calls = own_behind [] calls refl
