-- A text that is written piece by piece.
use Rattle.std.proofs.Common.{◌≡◌, ℕ, List, [], ◌++◌, Option, Result, Ok, Err, IfErr, append_assoc, append-nil, refl, sym, ap, ◌∙◌, subst, take, drop}
use Rattle.std.proofs.Common.{take-append-drop}
use Rattle.std.specs.Io.KnownBytes.{Appends, Keeps}
use Rattle.std.proofs.KnownBytes.{Appends-kept, Appends-nil, Appends-trans}
use Rattle.audit_readers.specs.Ends.{AppendsPart}

-- the front of the text was written, and this is left
pub record IsWritten (old new : Option (List ℕ)) (text rest : List ℕ) : Type 0 where
  pub part : List ℕ
  pub parts : text ≡ part ++ rest
  pub written : Appends old new part

pub writing_begins : (old : Option (List ℕ)) (text : List ℕ) → IsWritten old old text text
writing_begins old text = record { part = []; parts = refl; written = Appends-nil old }

pub writing_goes_on : {old now new : Option (List ℕ)} {text rest : List ℕ} (count : ℕ) → IsWritten old now text rest
    → Appends now new (take count rest) → IsWritten old new text (drop count rest)
writing_goes_on {old = old} {now = now} {new = new} {text = text} {rest = rest} count so_far more = record {
  part = so_far.part ++ take count rest;
  parts = so_far.parts ∙ ap (λ (l : List ℕ). so_far.part ++ l) (sym (take-append-drop count rest))
      ∙ sym (append_assoc so_far.part (take count rest) (drop count rest));
  written = Appends-trans old now new so_far.part (take count rest) so_far.written more;
}

pub writing_ends : {old new : Option (List ℕ)} {text rest : List ℕ} → IsWritten old new text rest → rest ≡ [] → Appends old new text
writing_ends {old = old} {new = new} so_far none =
    subst (Appends old new) (sym (so_far.parts ∙ ap (λ (l : List ℕ). so_far.part ++ l) none ∙ append-nil so_far.part)) so_far.written

pub writing_stops : {old new : Option (List ℕ)} {text rest : List ℕ} → IsWritten old new text rest → AppendsPart old new text
writing_stops {rest = rest} so_far = record { part = so_far.part; rest = rest; parts = so_far.parts; written = so_far.written }

-- nothing more was written
pub writing_fails : {old now new : Option (List ℕ)} {text rest : List ℕ} → IsWritten old now text rest → Appends now new [] → AppendsPart old new text
writing_fails {old = old} {now = now} {new = new} {rest = rest} so_far none = record {
  part = so_far.part ++ [];
  rest = rest;
  parts = so_far.parts ∙ ap (λ (l : List ℕ). l ++ rest) (sym (append-nil so_far.part));
  written = Appends-trans old now new so_far.part [] so_far.written none;
}

-- it is so wherever there is an error
pub at_any_error : {T E : Type 0} (result : Result T E) (P : Type 0) → P → IfErr result (λ _. P)
at_any_error (Ok value) P h = tt
at_any_error (Err error) P h = h

pub nothing_written : (old new : Option (List ℕ)) → Keeps old new → Appends old new []
nothing_written old new keeps = Appends-kept old old new [] (Appends-nil old) keeps

-- the whole text was written, and nothing more
pub all_is_part : (old mid new : Option (List ℕ)) (text : List ℕ) → Appends old mid text → Keeps mid new → AppendsPart old new text
all_is_part old mid new text all keeps = record {
  part = text;
  rest = [];
  parts = sym (append-nil text);
  written = Appends-kept old mid new text all keeps;
}
