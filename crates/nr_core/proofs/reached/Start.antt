-- The start.
use Rattle.std.proofs.Common.{◌≡◌, ℕ, zero, suc, List, [], ◌∷◌, map, replicate, nat_eq, None, refl, ap, sym, ◌∙◌, subst, arith}
use Rattle.std.specs.List.{IsDistinct}
use Rattle.std.proofs.lemmas.Option.{same_Some, none-some}
use Rattle.vs_types.specs.Config.{Layout}
use Rattle.vs_types.specs.declared.requests.request.Query.{Query}
use Rattle.nr_trace.proofs.LawsOfLists.{option_distinct}
use Rattle.nr_core.specs.State.{Thread, Replica, new_thread, new_replica, start}
use Rattle.nr_core.specs.declared.states.stage.Stage.TheVariants.{Idle}
use Rattle.nr_core.specs.inside.Reached.{At, shared_in, FitsStage, open_in, waiting_in, IsReplicaOf, IsReached}

at_map_idle : (scripts : List (List Query)) (t : ℕ) (thread : Thread) → At (map new_thread scripts) t thread → Idle ≡ thread.stage
at_map_idle [] t thread e = absurd (none-some thread e)
at_map_idle (script ∷ scripts) zero thread e = ap (λ (x : Thread). x.stage) (same_Some (new_thread script) thread e)
at_map_idle (script ∷ scripts) (suc t) thread e = at_map_idle scripts t thread e

at_replicate : (n : ℕ) (r : ℕ) (replica : Replica) → At (replicate n new_replica) r replica → new_replica ≡ replica
at_replicate zero r replica e = absurd (none-some replica e)
at_replicate (suc n) zero replica e = same_Some new_replica replica e
at_replicate (suc n) (suc r) replica e = at_replicate n r replica e

pub start_is_reached : (layout : Layout) (scripts : List (List Query)) → IsReached (start layout scripts)
start_is_reached layout scripts = record {
  calls = record {
    opened = λ t thread call e is. absurd (none-some call (ap open_in (at_map_idle scripts t thread e) ∙ is));
    ended = λ call made e. absurd (none-some made e);
    once = λ first second call l h k. absurd (none-some h.0 h.1);
    in_turn = λ earlier later first second l e f same. absurd (none-some first e);
  };
  replies = λ index reply e. absurd (none-some reply e);
  threads = λ t thread e. subst (FitsStage layout (shared_in (start layout scripts)) t) (at_map_idle scripts t thread e) tt;
  waiting = λ t thread call e is. absurd (none-some call (ap waiting_in (at_map_idle scripts t thread e) ∙ is));
  entries = λ place entry e. absurd (none-some entry e);
  distinct = option_distinct None;
  completed = omega arith;
  replicas = λ r replica e. subst (IsReplicaOf layout [] 0) (at_replicate layout.replicas r replica e)
      (record { fetched = omega arith; known = omega arith; space = refl });
  collected = λ r replica update e i. absurd (none_in r replica update (at_replicate layout.replicas r replica e) i);
  batches = λ r replica e. subst (λ (x : Replica). IsDistinct nat_eq (map (λ update. update.entry.call) x.batch)) (at_replicate layout.replicas r replica e)
      (option_distinct None);
} where
  none_in : (r : ℕ) (replica : Replica) (update : Rattle.nr_core.specs.declared.states.stage.Collected.Collected) → new_replica ≡ replica
      → Rattle.nr_trace.proofs.LawsOfLists.In update replica.batch → ⊥
  none_in r replica update e i = subst (λ (x : Replica). Rattle.nr_trace.proofs.LawsOfLists.In update x.batch) (sym e) i
