use Rattle.std.proofs.Common.{◌≡◌, ℕ, ◌+◌, ◌-◌, ◌*◌, length, List, map, replicate, add-zero, refl, ap, ◌∙◌, sym, arith, [], ◌∷◌, ◌++◌}
use Rattle.std.specs.List.{range_with_len}
use Rattle.std.proofs.lemmas.List.{append_assoc, length-replicate, replicate-append-replicate}
use Rattle.std.proofs.lemmas.List.FromFn.{map-range_with_len_more}
use Rattle.nr_ring.specs.declared.ring.view.View.{View}
use Rattle.nr_ring.specs.LogHistory.{new_log}
use Rattle.nr_ring.specs.Pass.{Known, new_pass}
use Rattle.nr_ring.specs.inside.Codes.{code_of, code_of_log}
use Rattle.nr_ring.specs.inside.Held.{new_view}
use Rattle.nr_ring.proofs.CellWords.{zeros}
use Rattle.nr_ring.proofs.NewLog.{new_kept, no_needs}
use Rattle.nr_ring.proofs.ring.ring_log.RingLog.with_places.Goals as goal

pub new-requires : goal.new-requires
new-requires g c =
    let replicas = g.J.LogName.replicas in
    let count : c.from.result ≡ length (new_log replicas).locals =
    c.from.ensures ∙ (c.requires.replicas.0 ∙ sym (length-replicate {A = ℕ} replicas 0)) in
    let code : code_of 0 (0 ∷ 0 ∷ 0 ∷ 0 ∷ []) c.from.result ≡ code_of_log (new_log replicas) = λ i. code_of 0
    (sym (zeros replicas 0) i ∷ sym (zeros replicas 1) i ∷ sym (zeros replicas 2) i ∷ sym (zeros replicas 3) i ∷ []) (count i) in
    let told : c.code_of-code.result ≡ code_of_log (new_log replicas) = c.code_of-code.ensures ∙ code in (
      omega arith,
      (
        omega arith,
        (
          new_kept g.J.LogName.depth replicas g.J.LogName.places (new_view (range_with_len 0 replicas) g.J.LogName.passes) refl refl refl,
          (
            ap (λ (z : ℕ). z * 128) told ∙ sym (add-zero (code_of_log (new_log replicas) * 128)),
            (omega (arith, c.from-2.ensures, c.from-3.ensures, c.requires.replicas, c.requires.others), no_needs replicas),
          ),
        ),
      ),
    )

pub loop-replica-preserved : goal.loop-replica-preserved
loop-replica-preserved g c =
    let before = c.loop-replica.invariant in
    let split = c.split_off-pass.ensures in
    let log = c.in_ok-cell.cell in
    let r = c.loop-replica.replica in
    let fewer : c.loop-replica.first.view.rights - 1 ≡ g.J.LogName.passes - (r + 1) =
    omega (arith, ap (λ (v : View). v.rights) before.view) in
    let range = range_with_len (r + 1) (g.J.LogName.replicas - (r + 1)) in
    let left : c.split_off-pass.new.first.view ≡ new_view range (c.loop-replica.first.view.rights - 1) = split.first.2 in
    let owners : ℕ → Known = λ r. new_pass log (r ∷ []) in
    record {
      cell = split.first.0 ∙ before.cell;
      value = split.first.1 ∙ before.value;
      view = left ∙ ap (new_view range) fewer;
      from = omega (arith, split.rings.0, before.from);
      own = omega (arith, split.rings.1, before.own);
      passes = c.in_ok-push.ensures.items
          ∙ ap (λ (passes : List Known). passes ++ c.split_off-pass.result ∷ []) before.passes
          ∙ ap (λ (pass : Known). map owners (range_with_len 0 r) ++ pass ∷ []) split.pass
          ∙ sym (map-range_with_len_more owners 0 r r (omega arith));
    }

pub loop-other-preserved : goal.loop-other-preserved
loop-other-preserved g c =
    let before = c.loop-other.invariant in
    let split = c.split_off-pass-in-loop-other.ensures in
    let log = c.in_ok-cell.cell in
    let n = c.loop-other.other in
    let fewer : c.loop-other.first.view.rights - 1 ≡ g.J.LogName.passes - (g.J.LogName.replicas + (n + 1)) =
    omega (arith, ap (λ (v : View). v.rights) before.view) in
    let owners = map (λ r. new_pass log (r ∷ [])) (range_with_len 0 g.J.LogName.replicas) in
    let none = new_pass log [] in
    record {
      cell = split.first.0 ∙ before.cell;
      value = split.first.1 ∙ before.value;
      view = split.first.2 ∙ ap (new_view []) fewer;
      from = omega (arith, split.rings.0, before.from);
      own = omega (arith, split.rings.1, before.own);
      passes = c.in_ok-push-2.ensures.items
          ∙ ap (λ (passes : List Known). passes ++ c.split_off-pass-in-loop-other.result ∷ []) before.passes
          ∙ ap (λ (pass : Known). (owners ++ replicate n none) ++ pass ∷ []) split.pass
          ∙ append_assoc owners (replicate n none) (none ∷ [])
          ∙ ap (λ (l : List Known). owners ++ l) (replicate-append-replicate n 1 none);
    }
