-- Spellings that grow by a unit, and readers that have taken it.
use Rattle.std.proofs.Common.{◌≡◌, ℕ, ◌+◌, ◌-◌, List, [], ◌∷◌, ◌++◌, length, refl, sym, ap, subst, ◌∙◌, arith, append_assoc}
use Rattle.std.specs.List.{flat_map}
use Rattle.std.proofs.lemmas.List.{append-nil, flat_map_more}
use Rattle.std.proofs.lemmas.Grind.{flat_map-append}
use Rattle.vs_types.specs.Config.{Layout}
use Rattle.vs_walk.specs.Dump.{Image}
use Rattle.nr_trace.specs.Recording.{start_frames}
use Rattle.nr_trace.specs.Spelling.{log_word, event, dump, start_units}
use Rattle.nr_trace.specs.FirstFault.{AtLog, AtEvents, AtDumps}
use Rattle.nr_trace.specs.inside.Progress.{HasRead, AreInRange, header_units, numbers_of, parts_spelling}
use Rattle.nr_trace.specs.declared.recordings.event.Event.{Event}
use Rattle.nr_trace.specs.declared.refusals.refusal.Refusal.{Refusal}
use Rattle.nr_trace.specs.declared.reading.reader.Parts.{Parts}
use Rattle.nr_trace.specs.declared.reading.reader.Reader.TheVariants.{Dumps}
use Rattle.nr_trace.specs.declared.formats.version.Version.{Version}

behind_nothing : {X : Type 0} (f : X → List ℕ) (xs : List X) (l : List ℕ) → xs ≡ [] → l ++ flat_map f xs ≡ l
behind_nothing f xs l e = ap (λ ys. l ++ flat_map f ys) e ∙ append-nil l

-- what comes before the log, where there are so many places and events in all
abbrev pub front_of : Parts → ℕ → ℕ → List ℕ
front_of parts places events = header_units (numbers_of (start_frames parts.start) places events parts) parts ++ start_units parts.start

abbrev pub spelling_of : List ℕ → List ℕ → List Event → List Image → List ℕ
spelling_of front log recorded dumps = front ++ flat_map log_word log ++ flat_map event recorded ++ flat_map dump dumps

behind_more : {X : Type 0} (f : X → List ℕ) (front : List ℕ) (xs ys : List X) → front ++ flat_map f (xs ++ ys) ≡ front ++ flat_map f xs ++ flat_map f ys
behind_more f front xs ys = ap (λ (l : List ℕ). front ++ l) (flat_map-append f xs ys) ∙ sym (append_assoc front (flat_map f xs) (flat_map f ys))

pub more_places : (front log calls : List ℕ) (recorded : List Event) (dumps : List Image)
    → recorded ≡ [] → dumps ≡ []
    → spelling_of front (log ++ calls) recorded dumps
    ≡ spelling_of front log recorded dumps ++ flat_map log_word calls
more_places front log calls recorded dumps no_events no_dumps =
    behind_nothing dump dumps (front ++ flat_map log_word (log ++ calls) ++ flat_map event recorded) no_dumps
    ∙ behind_nothing event recorded (front ++ flat_map log_word (log ++ calls)) no_events
    ∙ behind_more log_word front log calls
    ∙ ap (λ (l : List ℕ). l ++ flat_map log_word calls)
    (sym (behind_nothing dump dumps (front ++ flat_map log_word log ++ flat_map event recorded) no_dumps
    ∙ behind_nothing event recorded (front ++ flat_map log_word log) no_events))

pub more_events : (front log : List ℕ) (recorded more : List Event) (dumps : List Image)
    → dumps ≡ []
    → spelling_of front log (recorded ++ more) dumps
    ≡ spelling_of front log recorded dumps ++ flat_map event more
more_events front log recorded more dumps no_dumps =
    let before = front ++ flat_map log_word log in
    behind_nothing dump dumps (before ++ flat_map event (recorded ++ more)) no_dumps
    ∙ behind_more event before recorded more
    ∙ ap (λ (l : List ℕ). l ++ flat_map event more) (sym (behind_nothing dump dumps (before ++ flat_map event recorded) no_dumps))

pub more_dump : (front log : List ℕ) (recorded : List Event) (dumps : List Image) (one : Image)
    → spelling_of front log recorded (dumps ++ one ∷ []) ≡ spelling_of front log recorded dumps ++ dump one
more_dump front log recorded dumps one = sym (flat_map_more dump (front ++ flat_map log_word log ++ flat_map event recorded) dumps one)

-- no place is left
pub no_place : (version : Version) (layout : Layout) (place places events : ℕ) (rest : List ℕ) (fault : Refusal) → places ≡ 0
    → AtEvents version layout 0 events rest fault → AtLog version layout place places events rest fault
unfolding AtLog
no_place version layout place places events rest fault none h = subst (λ n. AtLog version layout place n events rest fault) (sym none) h

-- no event is left
no_event : (version : Version) (layout : Layout) (index events : ℕ) (rest : List ℕ) (fault : Refusal) → events ≡ 0
    → AtDumps version 0 layout.replicas rest fault
    → AtEvents version layout index events rest fault
unfolding AtEvents
no_event version layout index events rest fault none h = subst (λ n. AtEvents version layout index n rest fault) (sym none) h

pub events_end : (parts : Parts) (events : ℕ) → events ≡ 0 → AreInRange parts → parts.dumps.items ≡ []
    → HasRead parts.form (parts_spelling (length parts.log.items) (length parts.events.items + events) parts)
    (AtEvents parts.version parts.layout (length parts.events.items) events) (Dumps parts)
events_end parts events none in_range no_dumps = record {
  form_is = refl;
  ready = in_range;
  bytes_are = ap (λ (n : ℕ). parts_spelling (length parts.log.items) n parts) (omega arith);
  faults = λ rest fault h.
      let here : length parts.dumps.items ≡ 0 = ap length no_dumps in
      let first : length parts.dumps.items + 0 ≡ 0 = omega arith in
      let all : parts.layout.replicas - (length parts.dumps.items + 0) ≡ parts.layout.replicas = omega arith in
      no_event parts.version parts.layout (length parts.events.items) events rest fault none
      (subst (λ (n : ℕ). AtDumps parts.version 0 n rest fault) all
      (subst (λ (n : ℕ). AtDumps parts.version n (parts.layout.replicas - (length parts.dumps.items + 0)) rest fault) first h));
}
