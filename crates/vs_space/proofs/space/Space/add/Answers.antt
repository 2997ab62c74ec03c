use Rattle.std.proofs.Common.{◌≡◌, ℕ, ◌+◌, ◌-◌, ◌≤◌, Some, refl, sym, ap, subst, ◌∙◌, arith}
use Rattle.std.specs.FinMap as finite
use Rattle.vs_types.specs.Depth.{index_at}
use Rattle.vs_types.specs.Entry.{meaning, leaf_word}
use Rattle.vs_types.specs.Page.{level_of, IsPage}
use Rattle.vs_types.specs.declared.addresses.page.Page.{Page}
use Rattle.vs_types.specs.declared.entries.entry.Meaning.TheVariants as entry
use Rattle.vs_types.specs.declared.requests.op.Action.TheVariants.{Map}
use Rattle.vs_types.specs.declared.requests.answer.Answer.TheVariants as answers
use Rattle.vs_walk.specs.Memory.{Memory, AreWhole}
use Rattle.vs_space.specs.Held.{Held, word_at, with_word}
use Rattle.vs_space.specs.Table.{PageTable, IsTableStep}
use Rattle.vs_space.specs.inside.Descent.{HasMet}
use Rattle.vs_space.specs.inside.Grow.{IsExtended}
use Rattle.vs_space.specs.Invariant.{IsPageTable, table_in_store}
use Rattle.vs_space.proofs.Meets.{met_inside, used_met, seen}
use Rattle.vs_space.proofs.Written.{written_at}
use Rattle.vs_space.proofs.Presents.{absent_word, some_word}
use Rattle.vs_space.proofs.Maps.{full_step, mapped}
use Rattle.vs_space.proofs.space.Space.add.Goals as goal

-- the page is mapped, where the level of its tables and how many are added have names of their own
added : {t : PageTable} {page : Page} {level last : ℕ} → IsPage t.depth page → HasMet t page level last entry.Absent
    → {lowest : ℕ} → lowest ≡ level_of page.size → {m : Memory} {number : ℕ} → IsExtended t.memory m page.base last level lowest number → AreWhole m
    → {word index more : ℕ} → meaning (level_of page.size) word ≡ entry.Leaf page.phys page.rights → word ≡ leaf_word page.size page.phys page.rights
    → index ≡ index_at lowest page.base → more ≡ level - lowest → finite.len t.memory + more ≤ t.limit
    → IsPageTable (record t { memory = with_word m number index word })
    × IsTableStep t (Map page) answers.Done (record t { memory = with_word m number index word })
added {t} {page} {level} {last} good met lowest_is {m} {number} extended whole {index = index} leads is_word at more_is few =
    let below = ap (λ l. level - l) lowest_is in
    mapped met.table good met.descent (subst (λ n. IsExtended t.memory m page.base n level (level_of page.size) number) met.last
    (subst (λ l. IsExtended t.memory m page.base last level l number) lowest_is extended)) whole leads is_word
    (subst (λ l. index ≡ index_at l page.base) lowest_is at) (omega (arith, below, more_is, few))

pub returns-then-need-limit : goal.returns-then-need-limit
returns-then-need-limit g c =
    let good = subst (λ (t : PageTable). IsPage t.depth c.args.page) (sym c.self.view_is) c.requires.page in
    let met = met_inside c.self.view_is c.requires.absent in
    let below = ap (λ l. c.args.level - l) c.level-lowest.ensures in
    let need : c.used.result + c.from.result ≡ finite.len c.self.inside.tables.memory + (c.args.level - level_of c.args.page.size) =
    omega (arith, below, c.used.ensures.counts, c.from.ensures) in
    subst (λ (t : PageTable). IsTableStep t (Map c.args.page) (answers.Full (c.used.result + c.from.result)) t) c.self.view_is
    (full_step met.table good met.descent need (omega (arith, c.if-need-limit.true, c.limit-limit.ensures.reads)))

pub extend-number-requires-clause-in_use : goal.extend-number-requires-clause-in_use
extend-number-requires-clause-in_use g c =
    let met = met_inside c.self.view_is c.requires.absent in
    used_met met.table met.descent met.last

pub extend-number-requires-clause-absent : goal.extend-number-requires-clause-absent
extend-number-requires-clause-absent g c =
    let met = met_inside c.self.view_is c.requires.absent in
    let at = met.descent.reached c.args.level (omega arith) met.descent.below in
    subst (λ n. word_at c.self.inside.tables.memory n (index_at c.args.level c.args.page.base) ≡ Some 0) (sym met.last)
    (absent_word c.args.level _ _ c.args.page.base (written_at met.table.tree met.table.reached c.args.level c.args.page.base _ at) met.descent.is refl)

pub fill-requires-clause-absent : goal.fill-requires-clause-absent
fill-requires-clause-absent g c =
    ap (word_at c.extend-number.new.self.memory c.extend-number.result) c.index_at.ensures.is ∙ c.extend-number.ensures.absent

pub fill-requires-clause-some : goal.fill-requires-clause-some
fill-requires-clause-some g c =
    some_word (level_of c.args.page.size) (ap (meaning (level_of c.args.page.size)) c.word.ensures ∙ c.requires.leaf_read) (λ none. cc)

pub invariant_of-self : goal.invariant_of-self
invariant_of-self g c =
    let good = subst (λ (t : PageTable). IsPage t.depth c.args.page) (sym c.self.view_is) c.requires.page in
    let written = c.fill.ensures.written ∙ ap (λ (h : Held). let r : Held =
    record {
      base = h.base;
      limit = h.limit;
      memory = with_word c.extend-number.new.self.memory c.extend-number.result c.index_at.result c.word.result;
      lenders = h.lenders;
    }
    in r) c.extend-number.ensures.same in (
      subst (λ (h : Held). IsPageTable (table_in_store c.self.inside.depth h c.self.inside.root)) (sym written)
          (added good (met_inside c.self.view_is c.requires.absent) c.level-lowest.ensures c.extend-number.ensures.extended c.fill.ensures.whole
          (ap (meaning (level_of c.args.page.size)) c.word.ensures ∙ c.requires.leaf_read) (c.word.ensures ∙ c.requires.leaf_written)
          c.index_at.ensures.is c.from.ensures (omega (arith, c.used.ensures.counts, c.if-need-limit.false, c.limit-limit.ensures.reads))).0,
      c.fill.ensures.numbers,
    )

pub returns : goal.returns
returns g c =
    let good = subst (λ (t : PageTable). IsPage t.depth c.args.page) (sym c.self.view_is) c.requires.page in
    let written = c.fill.ensures.written ∙ ap (λ (h : Held). let r : Held =
    record {
      base = h.base;
      limit = h.limit;
      memory = with_word c.extend-number.new.self.memory c.extend-number.result c.index_at.result c.word.result;
      lenders = h.lenders;
    }
    in r) c.extend-number.ensures.same in
    seen c.self.view_is written
    (added good (met_inside c.self.view_is c.requires.absent) c.level-lowest.ensures c.extend-number.ensures.extended c.fill.ensures.whole
    (ap (meaning (level_of c.args.page.size)) c.word.ensures ∙ c.requires.leaf_read) (c.word.ensures ∙ c.requires.leaf_written)
    c.index_at.ensures.is c.from.ensures (omega (arith, c.used.ensures.counts, c.if-need-limit.false, c.limit-limit.ensures.reads))).1
