-- The space after one entry more.
use Rattle.std.proofs.Common.{◌≡◌, ℕ, List, [], ◌∷◌, ◌++◌, map, ap, ◌∙◌}
use Rattle.std.proofs.lemmas.List.{map-append}
use Rattle.vs_types.specs.Space.{no_pages}
use Rattle.vs_types.specs.Step.{step, after_all}
use Rattle.vs_types.specs.declared.addresses.depth.Depth.{Depth}
use Rattle.vs_types.specs.declared.log_entry.LogEntry.{LogEntry}
use Rattle.vs_types.proofs.Afterwards.{after_all-append}
use Rattle.nr_node.specs.Spaces.{space_of}

pub space_after_one : (depth : Depth) (tables : ℕ) (entries : List LogEntry) (entry : LogEntry)
    → space_of depth tables (entries ++ entry ∷ []) ≡ (step depth tables (space_of depth tables entries) entry.op).space
space_after_one depth tables entries entry =
    ap (after_all depth tables no_pages) (map-append (λ (e : LogEntry). e.op) entries (entry ∷ []))
    ∙ after_all-append depth tables no_pages (map (λ (e : LogEntry). e.op) entries) (entry.op ∷ [])
