-- How many events and places two recordings have as one.
use Rattle.std.proofs.Common.{◌≡◌, ℕ, ◌+◌, length, map, ap, ◌∙◌}
use Rattle.std.proofs.lemmas.List.{length-append, length-map}
use Rattle.nr_trace.specs.Recording.{Recording}
use Rattle.nr_trace.specs.Joined.{calls_behind, event_behind, joined_traces}

module _ (first second : Recording) where
  pub many_events : length (joined_traces first second).events ≡ length first.events + length second.events
  many_events =
      length-append first.events (map (event_behind (length first.events) (length first.log)) second.events)
      ∙ ap (λ (n : ℕ). length first.events + n) (length-map second.events (event_behind (length first.events) (length first.log)))

  pub many_places : length (joined_traces first second).log ≡ length first.log + length second.log
  many_places =
      length-append first.log (calls_behind (length first.events) second.log)
      ∙ ap (λ (n : ℕ). length first.log + n) (length-map second.log (λ (call : ℕ). length first.events + call))
