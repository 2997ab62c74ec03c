-- The parts of the state at the start.
use Rattle.std.proofs.Common.{◌≡◌, ◌*◌, List, [], ◌∷◌, length, map, replicate, refl, sym, ap, ◌∙◌, arith}
use Rattle.std.specs.Global.{Vec}
use Rattle.std.specs.Prelude.{All, sum_by}
use Rattle.std.proofs.lemmas.List.{length-map, length-replicate}
use Rattle.std.proofs.lemmas.List.Elements.{All-map}
use Rattle.std.proofs.lemmas.List.Sums.{sum_by-cons}
use Rattle.vs_types.specs.Config.{Layout}
use Rattle.vs_types.specs.Query.{IsQuery}
use Rattle.vs_types.specs.declared.requests.request.Query.{Query}
use Rattle.vs_types.specs.Query.{AreScripts}
use Rattle.nr_trace.proofs.LawsOfLists.{All-unmap}
use Rattle.nr_core.specs.State.{new_thread, new_replica}
use Rattle.nr_core.specs.declared.states.parts.ReplicaState.{ReplicaState}
use Rattle.nr_core.specs.inside.Parts.{thread_in, thread_of, replica_in, events_left, IsThread, IsReplica, AreParts}

pub threads_good : (layout : Layout) (scripts : List (Vec Query)) → AreScripts layout (map (λ script. script.items) scripts)
    → All (IsThread layout.depth) (map thread_of scripts)
threads_good layout scripts are =
    All-map (IsThread layout.depth) thread_of scripts (λ k d within. record {
      script = All-unmap (All (IsQuery layout.depth)) (λ (script : Vec Query). script.items) scripts are.well_formed k d within;
      stage = tt;
    })

pub threads_left : (scripts : List (Vec Query))
    → sum_by events_left (map thread_of scripts) ≡ 2 * sum_by (λ script. length script) (map (λ (script : Vec Query). script.items) scripts)
threads_left [] = refl
threads_left (s ∷ scripts) =
    let rest = threads_left scripts in
    let one = sum_by-cons events_left (thread_of s) (map thread_of scripts) in
    let other = sum_by-cons (λ (script : List Query). length script) s.items (map (λ (script : Vec Query). script.items) scripts) in
    omega (arith, rest, one, other)

pub threads_seen : (scripts : List (Vec Query)) → map thread_in (map thread_of scripts) ≡ map new_thread (map (λ (script : Vec Query). script.items) scripts)
threads_seen [] = refl
threads_seen (s ∷ scripts) = ap (λ ts. new_thread s.items ∷ ts) (threads_seen scripts)

-- a state from its parts at the start
pub parts_good : (layout : Layout) (scripts : List (Vec Query)) (replicas : List ReplicaState)
    → AreScripts layout (map (λ (script : Vec Query). script.items) scripts)
    → map replica_in replicas ≡ replicate layout.replicas new_replica → All (IsReplica layout) replicas
    → AreParts (record { layout = layout; events = []; log = []; completed = 0; replicas = replicas; threads = map thread_of scripts })
parts_good layout scripts replicas are seen good = record {
  each_thread = threads_good layout scripts are;
  each_replica = good;
  one_replica_each = sym (length-map replicas replica_in) ∙ (ap length seen ∙ length-replicate layout.replicas new_replica);
  one_thread_each = length-map scripts thread_of ∙ (sym (length-map scripts (λ (script : Vec Query). script.items)) ∙ are.one_each);
  entries = λ k d within. absurd (omega (arith, within));
  few_entries = omega arith;
  recorded = λ k d within. absurd (omega (arith, within));
  few_events = let left = threads_left scripts in let few = are.few in omega (arith, left, few);
}
