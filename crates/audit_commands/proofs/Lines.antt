-- What is said of several files, one after another.
use Rattle.std.proofs.Common.{◌≡◌, ◌≢◌, ◌∙◌, ◌++◌, ◌+◌, ◌<◌, ℕ, Bool, Bor, List, [], ◌∷◌, Option, ap, ap₂, append-nil, arith, get_or}
use Rattle.std.proofs.Common.{length, map, max, refl, subst, sym, take, inl, inr}
use Rattle.std.specs.List.{concat}
use Rattle.std.specs.Io.KnownBytes.{Appends}
use Rattle.std.proofs.KnownBytes.{Appends-nil, Appends-trans}
use Rattle.std.proofs.Math.Nat.{max-zero, zero-max}
use Rattle.std.proofs.lemmas.List.{map-append, map_more}
use Rattle.std.proofs.lemmas.List.Elements.{All-nil, All-push}
use Rattle.std.proofs.lemmas.List.Folds.{concat-append}
use Rattle.audit_readers.specs.Refusals.{refusal_status, IsEndFault}
use Rattle.audit_readers.specs.declared.fault.ProgFault.{ProgFault}
use Rattle.audit_readers.specs.declared.fault.ProgFault.TheVariants.{BadAddress, NotCanonical, NoSuchReplica, InputTooLong, BadLine, NoThread, CannotRead}
use Rattle.audit_readers.specs.declared.fault.ProgFault.TheVariants.{CannotWrite, Memory}
use Rattle.audit_commands.specs.Tasks.{AuditsEach, AuditsOne, FileLine, IsFileLine, IsUnjudged, IsVerdictLine, worst}

max_in_turn : (a b c : ℕ) → max a (max b c) ≡ max (max a b) c
max_in_turn a b c = omega arith

pub worst-append : (statuses : List ℕ) (status : ℕ) → worst (statuses ++ status ∷ []) ≡ max (worst statuses) status
worst-append [] status = max-zero status ∙ sym (zero-max status)
worst-append (first ∷ rest) status = ap (λ n. max first n) (worst-append rest status) ∙ max_in_turn first (worst rest) status

-- no file yet
pub no_file : (as_json : Bool) (file_bytes : List ℕ → Option (List ℕ)) (known : Option (List ℕ)) → AuditsEach as_json file_bytes [] known known 0
no_file as_json file_bytes known =
    record { lines = []; names_are = refl; each = All-nil (IsFileLine as_json file_bytes); written = Appends-nil known; status_is = refl }

-- and one more
pub one_more_file : (as_json : Bool)
    (file_bytes : List ℕ → Option (List ℕ)) (names : List (List ℕ)) (name : List ℕ) (old now new : Option (List ℕ)) (status one : ℕ)
    → AuditsEach as_json file_bytes names old now status → AuditsOne as_json file_bytes name now new one
    → AuditsEach as_json file_bytes (names ++ name ∷ []) old new (max status one)
one_more_file as_json file_bytes names name old now new status one so_far next =
    let line = next.line in
    record {
      lines = so_far.lines ++ line ∷ [];
      names_are = map-append (λ (it : FileLine). it.name) so_far.lines (line ∷ [])
          ∙ ap₂ (λ (l : List (List ℕ)) (n : List ℕ). l ++ n ∷ []) so_far.names_are next.name_is;
      each = All-push (IsFileLine as_json file_bytes) so_far.lines line so_far.each next.is_line;
      written = subst (λ (l : List ℕ). Appends old new l)
          (ap (λ (l : List ℕ). concat (map (λ (it : FileLine). it.text) so_far.lines) ++ l) (sym (append-nil line.text))
          ∙ sym (concat-append (map (λ (it : FileLine). it.text) so_far.lines) (line.text ∷ []))
          ∙ ap concat (sym (map-append (λ (it : FileLine). it.text) so_far.lines (line ∷ []))))
          (Appends-trans old now new _ line.text so_far.written next.written);
      status_is = ap₂ (λ (m n : ℕ). max m n) so_far.status_is next.status_is
          ∙ sym (worst-append (map (λ (it : FileLine). it.status) so_far.lines) line.status)
          ∙ ap worst (sym (map-append (λ (it : FileLine). it.status) so_far.lines (line ∷ [])));
    }

-- the same of the next of these names
pub next_file : (as_json : Bool)
    (file_bytes : List ℕ → Option (List ℕ)) (names : List (Bor (List ℕ))) (index : ℕ) (none : Bor (List ℕ)) (old now new : Option (List ℕ))
    (status one worst_is : ℕ) → index < length names → worst_is ≡ max status one
    → AuditsEach as_json file_bytes (map (λ (name : Bor (List ℕ)). name.now) (take index names)) old now status
    → AuditsOne as_json file_bytes (get_or names index none).now now new one
    → AuditsEach as_json file_bytes (map (λ (name : Bor (List ℕ)). name.now) (take (index + 1) names)) old new worst_is
next_file as_json file_bytes names index none old now new status one worst_is within is so_far next =
    let name_of : Bor (List ℕ) → List ℕ = λ name. name.now in
    subst (λ (n : ℕ). AuditsEach as_json file_bytes (map name_of (take (index + 1) names)) old new n) (sym is)
    (subst (λ (l : List (List ℕ)). AuditsEach as_json file_bytes l old new (max status one)) (sym (map_more name_of names index none within))
    (one_more_file as_json file_bytes (map name_of (take index names)) (get_or names index none).now old now new status one so_far next))

-- a line that was written
pub line_written : (as_json : Bool) (file_bytes : List ℕ → Option (List ℕ)) (name text : List ℕ) (old new : Option (List ℕ)) (status : ℕ)
    → IsVerdictLine as_json file_bytes name text status → Appends old new text → AuditsOne as_json file_bytes name old new status
line_written as_json file_bytes name text old new status is written = record {
  line = record { name = name; text = text; status = status };
  name_is = refl;
  is_line = inl is;
  written = written;
  status_is = refl;
}

-- an end gave an error, and it wasn't the output
pub is_unjudged : (fault : ProgFault) → IsEndFault fault → fault ≢ CannotWrite → IsUnjudged fault
is_unjudged BadAddress ends other = absurd ends
is_unjudged NotCanonical ends other = absurd ends
is_unjudged NoSuchReplica ends other = absurd ends
is_unjudged InputTooLong ends other = absurd ends
is_unjudged (BadLine number) ends other = absurd ends
is_unjudged NoThread ends other = absurd ends
is_unjudged CannotRead ends other = tt
is_unjudged CannotWrite ends other = absurd (other refl)
is_unjudged Memory ends other = tt

-- and a file that has none
pub no_line : (as_json : Bool) (file_bytes : List ℕ → Option (List ℕ)) (name : List ℕ) (fault : ProgFault) (old new : Option (List ℕ)) (status : ℕ)
    → IsUnjudged fault → status ≡ refusal_status fault → new ≡ old → AuditsOne as_json file_bytes name old new status
no_line as_json file_bytes name fault old new status unjudged is same = record {
  line = record { name = name; text = []; status = status };
  name_is = refl;
  is_line = inr (fault, unjudged, refl, is);
  written = subst (λ (k : Option (List ℕ)). Appends old k []) (sym same) (Appends-nil old);
  status_is = refl;
}
