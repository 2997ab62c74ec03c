use Rattle.std.proofs.Common.{◌≡◌, ◌≤◌, ◌+◌, ℕ, List, [], ◌∷◌, ◌++◌, length, map, drop, take, ap, sym, ◌∙◌, arith}
use Rattle.std.proofs.lemmas.List.{drop-append-le, drop_all, length-take-le, map-append}
use Rattle.std.proofs.lemmas.Option.{slice_get_within, get_or_from_slice_get}
use Rattle.vs_types.specs.declared.log_entry.LogEntry.{LogEntry}
use Rattle.nr_node.specs.Node.{log_of}
use Rattle.nr_node.proofs.Lists.{take_to_one_more}
use Rattle.nr_replicas.proofs.Settled.{call_of}
use Rattle.nr_replicas.proofs.settling.calls_of.Goals as goal

pub loop-place-init : goal.loop-place-init
loop-place-init g c =
    let entries = (log_of g.J.LogName.replicas c.args.node.now).entries in
    let base = c.args.node.now.base in
    let from = c.base-place.result in
    let same : from ≡ base = c.base-place.ensures in
    let is_node = c.is_well_formed.ensures.is_node in
    let long : length (take from entries) ≡ from = length-take-le from entries (omega (arith, same, is_node.kept, is_node.behind, is_node.written)) in
    let none : drop base (take from entries) ≡ [] = drop_all base (take from entries) (omega (arith, long, same)) in
    (omega (arith, same), c.new-calls.ensures.items ∙ ap (map call_of) (sym none))

pub loop-place-preserved : goal.loop-place-preserved
loop-place-preserved g c =
    let entries = (log_of g.J.LogName.replicas c.args.node.now).entries in
    let base = c.args.node.now.base in
    let is = c.loop-place.invariant in
    let place = c.loop-place.place in
    let entry = c.in-Some.entry in
    let stands = c.in-Some.ensures.0 in
    let within = slice_get_within entries place entry stands in
    let first = take place entries in
    let long : length first ≡ place = length-take-le place entries (omega (arith, within)) in
    let one = take_to_one_more entries place entry within (sym (get_or_from_slice_get entries place entry entry stands)) in (
      omega (arith, is.0),
      c.in_ok-push-in-Some.ensures.items
          ∙ ap (λ (l : List ℕ). l ++ entry.call ∷ []) is.1
          ∙ sym (map-append call_of (drop base first) (entry ∷ []))
          ∙ ap (map call_of) (sym (drop-append-le base first (entry ∷ []) (omega (arith, is.0, long))))
          ∙ ap (λ (l : List LogEntry). map call_of (drop base l)) (sym one),
    )
