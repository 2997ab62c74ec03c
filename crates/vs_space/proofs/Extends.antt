-- Tables are linked on the path of an address, one by one.
use Rattle.std.proofs.Common.{◌≡◌, ℕ, suc, ◌-◌, ◌<◌, ◌≤◌, Some, None, ⊎_elim, refl, sym, subst, ◌∙◌, arith}
use Rattle.std.specs.FinMap as finite
use Rattle.vs_types.specs.Depth.{levels, index_at}
use Rattle.vs_types.specs.Entry.{meaning, table_word}
use Rattle.vs_types.specs.declared.addresses.depth.Depth.{Depth}
use Rattle.vs_types.specs.declared.entries.entry.Meaning.TheVariants as entry
use Rattle.vs_arena.specs.Store.{zeros}
use Rattle.vs_arena.proofs.Stores.{IsInUse-insert}
use Rattle.vs_walk.specs.Memory.{Memory, AreWhole}
use Rattle.vs_walk.specs.Walk.{all_rights, walk}
use Rattle.vs_space.specs.Footprint.{HasMoreOnPath}
use Rattle.vs_space.specs.Held.{word_at, with_word}
use Rattle.vs_space.specs.Path.{table_at, SamePath}
use Rattle.vs_space.specs.inside.Grow.{IsOpen, IsExtended}
use Rattle.vs_types.proofs.Maps.{get-insert_same, len-insert_free}
use Rattle.vs_space.proofs.Writes.{used_some, written_in_use, len_written}
use Rattle.vs_space.proofs.Trees.{but_alike}
use Rattle.vs_space.proofs.Links.{IsLink, found_in_zeros, still_clear, linked, old_or_new, tree_link, walk_link, table_take, walk_take, tree_take}
use Rattle.vs_space.proofs.Links.{new_unreached, found_take}
use Rattle.vs_space.proofs.Reached.{reached_link}
use Rattle.vs_space.proofs.Written.{written_table, written_at, no_flags_table}
use Rattle.vs_space.proofs.Plain.{adds_then, adds_taken, adds_written}
use Rattle.vs_space.proofs.Footprints.{more_then, more_linked}
use Rattle.vs_space.proofs.Presents.{absent_word, word_as_taken}

module _ {depth : Depth} {m : Memory} {root base level number : ℕ} (opened : IsOpen depth m root base level number) (deep : 1 < level) {f : ℕ}
    (free : finite.get m f ≡ None) (whole : AreWhole (finite.insert m f zeros)) {w : ℕ} (leads : meaning level w ≡ entry.Table f all_rights)
    (is_word : w ≡ table_word f) where
  abbrev new : Memory
  new = with_word (finite.insert m f zeros) number (index_at level base) w

  -- the frame is taken, to be linked
  link : IsLink (levels depth) (finite.insert m f zeros) root level base number w f (level - 1)
  link = record {
    here = record { tree = tree_take opened.tree f free; whole = whole; at = table_take opened.tree f free level base ∙ opened.reached };
    leads = leads;
    clear = get-insert_same m f zeros;
    unreached = new_unreached opened.tree f free;
    absent = found_take opened.tree f free level base number opened.reached ∙ opened.absent;
    one = omega arith;
    some = omega arith;
  }

  -- its entry for the address is 0
  zero_here : word_at (finite.insert m f zeros) number (index_at level base) ≡ Some 0
  zero_here = word_as_taken m number f (index_at level base) (opened.tree.in_use level base number opened.reached) free
      ∙ absent_word level m number base (written_at opened.tree opened.all_reached level base number opened.reached) opened.absent refl

  more_new : HasMoreOnPath depth root base m new
  more_new = more_linked depth m free link zero_here

  walks_new : (b : ℕ) → walk depth new root b ≡ walk depth m root b
  walks_new b = walk_link link b ∙ walk_take opened.tree f free b

  was_there : (j b q : ℕ) → table_at (levels depth) new root j b ≡ Some q → (SamePath (levels depth) (suc j) base b → ⊥)
      → table_at (levels depth) m root j b ≡ Some q
  was_there j b q r off = ⊎_elim
      (λ old. sym (table_take opened.tree f free j b) ∙ old)
      (λ fresh. absurd (off (λ i from to. fresh.1 i (omega (arith, fresh.0, from)) to)))
      (old_or_new link j b q r)

  open_new : IsOpen depth new root base (level - 1) f
  open_new = record {
    tree = tree_link link;
    filled = but_alike opened.filled was_there (λ b canonical. walks_new b);
    all_reached = reached_link opened.tree free link (written_table level w f leads is_word) opened.all_reached;
    below = omega (arith, opened.below);
    reached = linked link base (λ i from to. refl);
    absent = found_in_zeros (level - 1) new f base (still_clear link);
  }

-- ---- the tables that are linked, one by one

pub extended_on : {old m : Memory} {base last from level number : ℕ} → IsExtended old m base last from level number → 1 < level → level ≤ from → (f : ℕ)
    → finite.get m f ≡ None → AreWhole (finite.insert m f zeros) → {w index : ℕ} → meaning level w ≡ entry.Table f all_rights → w ≡ table_word f
    → index ≡ index_at level base → IsExtended old (with_word (finite.insert m f zeros) number index w) base last from (level - 1) f
extended_on {old} {m} {base} {last} {from} {level} {number} extended deep le f free whole {w} {index} leads is_word is_index = record {
  in_use = written_in_use (finite.insert m f zeros) number index w f (used_some _ f zeros (get-insert_same m f zeros));
  plain = adds_then (adds_then extended.plain (adds_taken m f))
      (adds_written (finite.insert m f zeros) number index w whole (IsInUse-insert m f zeros number extended.in_use) (omega (arith, is_index))
      (no_flags_table w f is_word));
  adds = λ depth root opened. more_then (extended.adds depth root opened)
      (subst (λ i. HasMoreOnPath depth root base m (with_word (finite.insert m f zeros) number i w)) (sym is_index)
      (more_new (extended.open_at depth root opened) deep free whole leads is_word));
  more = omega (
    arith,
    len_written (finite.insert m f zeros) number index w (IsInUse-insert m f zeros number extended.in_use),
    len-insert_free m f zeros free,
    extended.more,
    le,
    deep,
  );
  open_at = λ depth root opened. subst (λ i. IsOpen depth (with_word (finite.insert m f zeros) number i w) root base (level - 1) f) (sym is_index)
      (open_new (extended.open_at depth root opened) deep free whole leads is_word);
  walks = λ depth root opened b. subst (λ i. walk depth (with_word (finite.insert m f zeros) number i w) root b ≡ walk depth old root b) (sym is_index)
      (walks_new (extended.open_at depth root opened) deep free whole leads is_word b ∙ extended.walks depth root opened b);
}
