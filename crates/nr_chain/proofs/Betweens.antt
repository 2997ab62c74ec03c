-- A reader of a chain between two pieces.
use Rattle.std.proofs.Common.{◌≡◌, ℕ, Bool, true, false, List, [], ◌∷◌, ◌++◌, ◌⊎◌, inl, inr, Option, Some, None, is_some, option_map, refl, sym, ap, ◌∙◌, subst}
use Rattle.std.specs.Prelude.{IfSome}
use Rattle.vs_types.specs.Config.{Layout}
use Rattle.nr_trace.specs.FirstFault.{HasFaultAs}
use Rattle.nr_trace.specs.Feed.{FedSegment, IsWhole}
use Rattle.nr_trace.specs.Feed.Fed.{Taken}
use Rattle.nr_trace.specs.declared.refusals.fault.Fault.TheVariants.{Format}
use Rattle.nr_trace.specs.declared.refusals.fault.Format.TheVariants.{Truncated}
use Rattle.nr_trace.specs.declared.formats.version.Form.TheVariants as forms
use Rattle.nr_trace.specs.declared.refusals.fault.Fault.{Fault}
use Rattle.nr_chain.specs.Bytes.{layout_before, EndsWith}
use Rattle.nr_trace.specs.Run.{Run}
use Rattle.nr_audit.specs.Segments.{FitsLayout}
use Rattle.nr_chain.specs.Fed.{ChainFed, IsKeptOf, Kept}
use Rattle.nr_chain.specs.Verdict.{IsSpaceAfter}
use Rattle.nr_chain.specs.declared.chain.Last.{Last}
use Rattle.nr_chain.specs.inside.Between.{bytes_in, kept_by, layout_of, FitsLast, IsBetween}
use Rattle.nr_chain.proofs.Ends.{ends_first, ends_well, none_is_short}
use Rattle.nr_chain.proofs.OneChain.{not_empty}
use Rattle.nr_chain.proofs.Pieces.{spelled_whole, took_all, too_short, Took}

-- what contracts see of a chain with these fields
abbrev pub seen : Option Last → FedSegment → ChainFed
seen last feed = record { kept = option_map kept_by last; bytes = bytes_in feed.pieces }

-- of the next segment nothing has come
pub fresh_between : (last : Option Last) (feed : FedSegment)
    → feed ≡ record { before = layout_of (option_map kept_by last); pieces = Taken [] } → IfSome last FitsLast → IsBetween last false feed
fresh_between last feed is fits = subst (IsBetween last false) (sym is) record {
  taken = refl;
  behind = refl;
  not_whole = λ whole.
      let there = spelled_whole (record { before = layout_of (option_map kept_by last); pieces = Taken [] }) whole in
      not_empty (layout_of (option_map kept_by last)) [] there.0 there.1 refl;
  short = none_is_short (forms.Segment (layout_of (option_map kept_by last)));
  none = λ e. refl;
  some = λ other e. absurd (let wrong : false ≡ true = other in cc);
  fits = fits;
}

-- the bytes after a piece with which the segment is not whole
pub bytes_more : (before : Option Layout) (bytes piece : List ℕ) (new : FedSegment) (count : ℕ) → Took before bytes piece new count → (IsWhole new → ⊥)
    → bytes_in new.pieces ≡ bytes ++ piece
bytes_more before bytes piece new count is none = ap bytes_in is.taken ∙ took_all before bytes piece new count is none

none_of_two : (front behind : List ℕ) → front ++ behind ≡ [] → (front ≡ []) × (behind ≡ [])
none_of_two [] behind e = (refl, e)
none_of_two (x ∷ front) behind e = cc

-- a piece more, with which the segment is not whole
pub more_between : (last : Option Last) (begun next : Bool) (feed new : FedSegment) (piece : List ℕ) (count : ℕ) → IsBetween last begun feed
    → Took feed.before (bytes_in feed.pieces) piece new count → (IsWhole new → ⊥)
    → (next ≡ false → (begun ≡ false) × (piece ≡ [])) → (next ≡ true → (begun ≡ true) ⊎ (piece ≡ [] → ⊥)) → IsBetween last next new
more_between last begun next feed new piece count old is none nothing_came something_came =
    let bytes = bytes_more feed.before (bytes_in feed.pieces) piece new count is none in
    record {
      taken = is.taken ∙ ap Taken (sym (ap bytes_in is.taken));
      behind = is.behind ∙ old.behind;
      not_whole = none;
      short = subst (λ before. HasFaultAs (forms.Segment before) (bytes_in new.pieces) Truncated) (sym is.behind)
          (subst (λ bytes. HasFaultAs (forms.Segment feed.before) bytes Truncated) (sym bytes)
          (too_short feed.before (bytes_in feed.pieces) piece new count is none));
      none = λ e.
          let both = nothing_came e in
          bytes ∙ ap (λ front. front ++ piece) (old.none both.0) ∙ both.1;
      some = λ e nothing.
          let both = none_of_two (bytes_in feed.pieces) piece (sym bytes ∙ nothing) in
          elim (something_came e) [ inl front ↦ old.some front both.0 | inr behind ↦ behind both.1 ];
      fits = old.fits;
    }

still_some : (last : Option Last) → is_some (option_map kept_by last) ≡ is_some last
still_some None = refl
still_some (Some last) = refl

-- ---- a run of which this is kept

pub layouts_alike : (run : Option Run) (kept : Option Kept) → IsKeptOf run kept → layout_of kept ≡ layout_before run
layouts_alike None None is = refl
layouts_alike (Some run) (Some kept) (layout, is) = ap Some layout
layouts_alike _ _ is = absurd is

some_alike : (run : Option Run) (kept : Option Kept) → IsKeptOf run kept → is_some run ≡ is_some kept
some_alike None None is = refl
some_alike (Some run) (Some kept) is = refl
some_alike _ _ is = absurd is

-- the space that is kept
of_last : (run : Option Run) (last : Option Last) → IfSome last FitsLast → IsKeptOf run (option_map kept_by last)
    → IsSpaceAfter run (option_map (λ (l : Last). l.past.space) last)
of_last None None fits kept = refl
of_last (Some run) (Some last) fits (layout, kept) = (kept.space, subst (λ (l : Layout). FitsLayout l last.past.space) layout fits.space)
of_last _ _ fits kept = absurd kept

space_seen : (run : Option Run) (last : Option Last) (begun : Bool) (feed : FedSegment) (self : ChainFed) → IsBetween last begun feed
    → seen last feed ≡ self → IsKeptOf run self.kept → IsSpaceAfter run (option_map (λ (l : Last). l.past.space) last)
space_seen run last begun feed self old view kept =
    of_last run last old.fits (subst (λ (fed : ChainFed). IsKeptOf run fed.kept) (sym view) kept)

pub space_some : (run : Option Run) (last : Option Last) (begun : Bool) (feed : FedSegment) (self : ChainFed) (own : Last) → IsBetween last begun feed
    → seen last feed ≡ self → IsKeptOf run self.kept → last ≡ Some own → IsSpaceAfter run (Some own.past.space)
space_some run last begun feed self own old view kept is =
    subst (λ (l : Option Last). IsSpaceAfter run (option_map (λ (k : Last). k.past.space) l)) is (space_seen run last begun feed self old view kept)

pub space_none : (run : Option Run) (last : Option Last) (begun : Bool) (feed : FedSegment) (self : ChainFed) → IsBetween last begun feed
    → seen last feed ≡ self → IsKeptOf run self.kept → last ≡ None → IsSpaceAfter run None
space_none run last begun feed self old view kept is =
    subst (λ (l : Option Last). IsSpaceAfter run (option_map (λ (k : Last). k.past.space) l)) is (space_seen run last begun feed self old view kept)

-- no piece comes any more
module _ (run : Option Run) (last : Option Last) (begun : Bool) (feed : FedSegment) (self : ChainFed) (old : IsBetween last begun feed)
    (view : seen last feed ≡ self) (kept : IsKeptOf run self.kept) where
  some_last : is_some run ≡ is_some last
  some_last = some_alike run self.kept kept ∙ ap (λ (fed : ChainFed). is_some fed.kept) (sym view) ∙ still_some last

  end_well : is_some last ≡ true → begun ≡ false → EndsWith run self.bytes None
  end_well some none = ends_well run self.bytes (some_last ∙ some) (ap (λ (fed : ChainFed). fed.bytes) (sym view) ∙ old.none none)

  end_short : (is_some last ≡ true → begun ≡ true) → EndsWith run self.bytes (Some (Format Truncated))
  end_short some =
      ends_first run self.bytes (Format Truncated)
      (λ there none. old.some (some (sym some_last ∙ there)) (ap (λ (fed : ChainFed). fed.bytes) view ∙ none))
      (subst (λ (before : Option Layout). HasFaultAs (forms.Segment before) self.bytes Truncated)
      (old.behind ∙ ap (λ (fed : ChainFed). layout_of fed.kept) view ∙ layouts_alike run self.kept kept)
      (subst (λ (bytes : List ℕ). HasFaultAs (forms.Segment feed.before) bytes Truncated) (ap (λ (fed : ChainFed). fed.bytes) view) old.short))

pub end_any : (run : Option Run) (last : Option Last) (begun : Bool) (feed : FedSegment) (self : ChainFed) (behind : Bool) (result : Option Fault)
    → IsBetween last begun feed → seen last feed ≡ self → behind ≡ is_some last → (behind ≡ true → begun ≡ false → result ≡ None)
    → ((behind ≡ true → begun ≡ true) → result ≡ Some (Format Truncated)) → IsKeptOf run self.kept → EndsWith run self.bytes result
end_any run last true feed self behind result old view is well short kept =
    subst (EndsWith run self.bytes) (sym (short (λ e. refl))) (end_short run last true feed self old view kept (λ e. refl))
end_any run last false feed self true result old view is well short kept =
    subst (EndsWith run self.bytes) (sym (well refl refl)) (end_well run last false feed self old view kept (sym is) refl)
end_any run last false feed self false result old view is well short kept =
    subst (EndsWith run self.bytes) (sym (short (λ e. absurd (let wrong : false ≡ true = e in cc))))
    (end_short run last false feed self old view kept (λ e. absurd (let wrong : false ≡ true = is ∙ e in cc)))
