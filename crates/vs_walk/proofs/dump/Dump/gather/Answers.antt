use Rattle.std.proofs.Common.{◌≡◌, ◌+◌, ◌^◌, ◌<◌, ◌≤◌, ◌++◌, [], ◌∷◌, Some, None, length, take, get_or, sym, ap, subst, ◌∙◌, arith, add-one, Contains}
use Rattle.std.specs.Prelude.{All}
use Rattle.std.specs.FinMap as finite
use Rattle.std.specs.List.{AllPairs}
use Rattle.std.proofs.Math.Seq.{take-suc}
use Rattle.std.proofs.lemmas.List.{take_all, length-map, length-take}
use Rattle.std.proofs.lemmas.List.Elements.{All-contains, Contains-get_or}
use Rattle.vs_types.specs.declared.limits.TheConstants.{FRAMES}
use Rattle.vs_walk.specs.Dump.{Image}
use Rattle.vs_walk.specs.Reached.{AreJust}
use Rattle.vs_walk.specs.Traversal.{traversal, reached}
use Rattle.vs_walk.proofs.Gathered.{no_longer, below_next, held_next, held_number, reached_held_at}
use Rattle.vs_walk.proofs.LawsOfTraversals.{reached_held}
use Rattle.vs_walk.proofs.dump.Dump.gather.Goals as goal

pub unreachable-requires : goal.unreachable-requires
unreachable-requires g c =
    let memory = g.F.Frames.memory c.args.frames.now in
    let ns = reached (traversal c.args.depth memory c.args.root) in
    let ks = c.as_slice-numbers.result.now in
    let just : AreJust ks ns = subst (λ xs. AreJust xs ns) (sym c.as_slice-numbers.ensures.is) c.in_ok-reached.ensures.reached in
    let here : Contains ks (get_or ks c.loop-number.number-index 0) = Contains-get_or ks c.loop-number.number-index 0 c.loop-number-test.true in
    let none : finite.get memory (get_or ks c.loop-number.number-index 0) ≡ None = sym c.in_default.ensures in
    reached_held_at memory (get_or ks c.loop-number.number-index 0) ns (reached_held c.args.depth memory c.args.root c.in_ok-reached.ensures.faultless)
    ((just _).0 here) none

pub add-requires-clause-above : goal.add-requires-clause-above
add-requires-clause-above g c =
    let ks = c.as_slice-numbers.result.now in
    let rising : AllPairs (λ a b. a < b) ks = subst (AllPairs (λ a b. a < b)) (sym c.as_slice-numbers.ensures.is) c.as_slice-numbers.ensures.rising in
    subst (All (λ held. held < get_or ks c.loop-number.number-index 0)) (sym c.loop-number.invariant.numbers)
    (below_next ks c.loop-number.number-index rising c.loop-number-test.true)

pub add-requires-clause-in_range : goal.add-requires-clause-in_range
add-requires-clause-in_range g c =
    let memory = g.F.Frames.memory c.args.frames.now in
    let ns = reached (traversal c.args.depth memory c.args.root) in
    let ks = c.as_slice-numbers.result.now in
    let just : AreJust ks ns = subst (λ xs. AreJust xs ns) (sym c.as_slice-numbers.ensures.is) c.in_ok-reached.ensures.reached in
    let here : Contains ks (get_or ks c.loop-number.number-index 0) = Contains-get_or ks c.loop-number.number-index 0 c.loop-number-test.true in
    All-contains (λ n. n < 2 ^ 40) ns (get_or ks c.loop-number.number-index 0) (c.requires.in_range c.in_ok-reached.ensures.faultless) ((just _).0 here)

pub add-requires-clause-room : goal.add-requires-clause-room
add-requires-clause-room g c =
    let memory = g.F.Frames.memory c.args.frames.now in
    let ns = reached (traversal c.args.depth memory c.args.root) in
    let ks = c.as_slice-numbers.result.now in
    let just : AreJust ks ns = subst (λ xs. AreJust xs ns) (sym c.as_slice-numbers.ensures.is) c.in_ok-reached.ensures.reached in
    let rising : AllPairs (λ a b. a < b) ks = subst (AllPairs (λ a b. a < b)) (sym c.as_slice-numbers.ensures.is) c.as_slice-numbers.ensures.rising in
    let fit : length ks ≤ length ns = no_longer ks ns rising just in
    let few : length ns ≤ FRAMES = c.requires.few c.in_ok-reached.ensures.faultless in
    let within : c.loop-number.number-index < length ks = c.loop-number-test.true in
    subst (λ n. n < FRAMES) (sym c.loop-number.invariant.count) (omega (arith, within, fit, few))

pub loop-number-preserved : goal.loop-number-preserved
loop-number-preserved g c =
    let memory = g.F.Frames.memory c.args.frames.now in
    let ks = c.as_slice-numbers.result.now in
    let index = c.loop-number.number-index in
    let there : finite.get memory (get_or ks index 0) ≡ Some c.in-Some.words = sym c.in-Some.ensures in
    let more : take (index + 1) ks ≡ take index ks ++ get_or ks index 0 ∷ [] = ap (λ n. take n ks) (add-one index)
    ∙ take-suc ks index 0 c.loop-number-test.true in
    let pushed = c.in_ok-add.ensures.ok in
    record {
      applied = ap (λ (d : Image). d.applied) pushed ∙ c.loop-number.invariant.applied;
      root = ap (λ (d : Image). d.root) pushed ∙ c.loop-number.invariant.root;
      numbers = c.in_ok-add.ensures.numbers ∙ ap (λ xs. xs ++ get_or ks index 0 ∷ []) c.loop-number.invariant.numbers ∙ sym more;
      count = c.in_ok-add.ensures.count ∙ ap (λ n. n + 1) c.loop-number.invariant.count;
      held = λ q in_more. ap (λ (d : Image). finite.get d.frames q) pushed
          ∙ held_next memory c.loop-number.dump.frames ks index c.in-Some.words c.loop-number-test.true there c.loop-number.invariant.held q in_more;
    }

pub returns-clause-held : goal.returns-clause-held
returns-clause-held g c number is =
    let ns = reached (traversal c.args.depth (g.F.Frames.memory c.args.frames.now) c.args.root) in
    let ks = c.as_slice-numbers.result.now in
    let just : AreJust ks ns = subst (λ xs. AreJust xs ns) (sym c.as_slice-numbers.ensures.is) c.in_ok-reached.ensures.reached in
    c.loop-number.invariant.held number (subst (λ xs. Contains xs number) (sym (take_all c.loop-number.number-index ks c.loop-number-test.false))
    ((just number).1 is))

pub returns-clause-only : goal.returns-clause-only
returns-clause-only g c number held =
    let ns = reached (traversal c.args.depth (g.F.Frames.memory c.args.frames.now) c.args.root) in
    let ks = c.as_slice-numbers.result.now in
    let just : AreJust ks ns = subst (λ xs. AreJust xs ns) (sym c.as_slice-numbers.ensures.is) c.in_ok-reached.ensures.reached in
    (just number).0 (subst (λ xs. Contains xs number) (c.loop-number.invariant.numbers ∙ take_all c.loop-number.number-index ks c.loop-number-test.false)
    (held_number c.loop-number.dump.frames number held))

pub returns-clause-few : goal.returns-clause-few
returns-clause-few g c =
    let ns = reached (traversal c.args.depth (g.F.Frames.memory c.args.frames.now) c.args.root) in
    let ks = c.as_slice-numbers.result.now in
    let frames = c.loop-number.dump.frames in
    let just : AreJust ks ns = subst (λ xs. AreJust xs ns) (sym c.as_slice-numbers.ensures.is) c.in_ok-reached.ensures.reached in
    let rising : AllPairs (λ a b. a < b) ks = subst (AllPairs (λ a b. a < b)) (sym c.as_slice-numbers.ensures.is) c.as_slice-numbers.ensures.rising in
    let fit : length ks ≤ length ns = no_longer ks ns rising just in
    let count : length (finite.keys frames) ≡ finite.len frames = length-map (finite.entries frames) (λ e. e.0) ∙ sym (finite.len-entries frames) in
    let held : length (finite.keys frames) ≡ length (take c.loop-number.number-index ks) = ap length c.loop-number.invariant.numbers in
    omega (arith, fit, count, held, length-take c.loop-number.number-index ks)
