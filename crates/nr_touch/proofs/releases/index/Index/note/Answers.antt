use Rattle.std.proofs.Common.{◌≡◌, ℕ, List, get_or, length, below_more, IsTrue, ap, subst, arith}
use Rattle.std.specs.BTreeSet.{contains}
use Rattle.nr_touch.specs.inside.Blocks.{blocks_at}
use Rattle.nr_touch.specs.inside.Indexed.{row_cmp}
use Rattle.nr_touch.proofs.IndexRows.{page_rows, row_stays}
use Rattle.nr_touch.proofs.releases.index.Index.note.Goals as goal

pub loop-block-preserved : goal.loop-block-preserved
loop-block-preserved c =
    let page = c.args.page in
    let inv = c.loop-block.invariant in
    let row : ℕ × ℕ = (get_or c.blocks-block-items.result c.loop-block.block-index 0, c.args.key) in
    let stays = row_stays row c.loop-block.self.rows c.insert.new.self c.in_ok-insert.ensures.updates in
    let here : IsTrue (contains row_cmp c.insert.new.self (get_or (blocks_at page) c.loop-block.block-index 0, c.args.key)) =
    subst (λ (bs : List ℕ). IsTrue (contains row_cmp c.insert.new.self (get_or bs c.loop-block.block-index 0, c.args.key))) c.blocks-block-items.ensures
    c.in_ok-insert.ensures.updates.1 in
    record {
      own = below_more (λ (k : ℕ). IsTrue (contains row_cmp c.insert.new.self (get_or (blocks_at page) k 0, c.args.key))) c.loop-block.block-index
          (λ k l. stays (get_or (blocks_at page) k 0, c.args.key) (inv.own k l)) here;
      others = λ other has. stays other (inv.others other has);
    }

pub returns-clause-own : goal.returns-clause-own
returns-clause-own c =
    let all : length c.blocks-block-items.result ≡ 4 = ap length c.blocks-block-items.ensures in
    page_rows c.loop-block.self c.args.page c.args.key (λ k l. c.loop-block.invariant.own k (omega (arith, all, l)))
