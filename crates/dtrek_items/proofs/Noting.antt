-- Contents noted on the way through the items: what is noted, and what is still to come, give each keyword's value.
-- Assumes nothing.
use mathlib.Core.Path.{◌≡◌, refl, sym, ◌∙◌}
use mathlib.Core.Bool.{Bool, true, false, not, ◌||◌}
use mathlib.Core.List.{List, []}
use Prim.Native.Nat.{ℕ, suc, ◌+◌, ◌-◌, ◌*◌, ◌≤◌}
use native.Mathlib.Numerals.{add-one}
use native.Mathlib.Omega.{arith}
use borrow.Author.Tests.{leb-true, leb-false}
use lib.Dec.{leb}
use lib.ListN.{length, take, drop, length-drop}
use lib.Seq.{take_all}
use Rattle.std.specs.Prelude.{if◌then◌else◌, min, Option, Some, None}
use Rattle.lists.specs.Text.{codes}
use Rattle.lists.specs.Bytes.{same_bytes}
use Rattle.dtrek_text.specs.declared.Cursor.{Cursor}
use Rattle.dtrek_text.specs.Bytes.{between, trim_end, trimmed}
use Rattle.dtrek_text.specs.Parts.{is_end}
use Rattle.dtrek_text.specs.Items.{items, well_written}
use Rattle.dtrek_text.proofs.Scans.{Stands, Spoils, Closes}
use Rattle.dtrek_items.specs.declared.Content.{Content}
use Rattle.dtrek_items.specs.declared.Contents.{Contents}
use Rattle.dtrek_items.specs.Lookup.{has, value_of, repeated}
use Rattle.dtrek_items.specs.Survey.{is_malformed, is_there, value_at, Under, Found, Sound, no_contents, noted, noted_all}
use Rattle.dtrek_items.specs.Keys.{Between, Inserted}
use Rattle.dtrek_items.proofs.Keeping.{Keeping, keeping_start, keeping-more, keeping-end}

module _ (key : List ℕ) {text : List ℕ} {at start end stop : ℕ} {next : Cursor} (s : Stands text at start end stop next) where
  has_here : same_bytes (between start end text) key ≡ true → true ≡ has key (items (drop at text))
  unfolding has
  has_here e = rw (s.first, e)

  has-later : same_bytes (between start end text) key ≡ false → has key (items (drop at text)) ≡ has key (items (drop next.at text))
  unfolding has
  has-later e = rw (s.first, e)

  value-here : same_bytes (between start end text) key ≡ true → trimmed (between (suc end) stop text) ≡ value_of key (items (drop at text))
  unfolding value_of
  value-here e = rw (s.first, e)

  value-later : same_bytes (between start end text) key ≡ false → value_of key (items (drop at text)) ≡ value_of key (items (drop next.at text))
  unfolding value_of
  value-later e = rw (s.first, e)

-- one keyword, by what is noted under it and the items from `at` on
pub record Looked (text key : List ℕ) (at : ℕ) (c : Option Content) : Type 0 where
  pub value : if◌then◌else◌ (is_there c) (value_at text c) (value_of key (items (drop at text))) ≡ value_of key (items text)
  pub there : (is_there c || has key (items (drop at text))) ≡ has key (items text)

looked-start : (text key : List ℕ) → Looked text key 0 None
looked-start text key = record { value = refl; there = refl }

module _ {text key : List ℕ} {at start end stop : ℕ} {next : Cursor} (s : Stands text at start end stop next) where
  looked-by : (c : Option Content) → Looked text key at c → (w : Bool) → same_bytes (between start end text) key ≡ w → Looked text key next.at (if◌then◌else◌ (is_there c) c (if◌then◌else◌ w (Some (record { from = suc end; stop = stop })) c))
  looked-by (Some x) r w q = record { value = r.value; there = r.there }
  looked-by None r true q = record { value = value-here key s q ∙ r.value; there = has_here key s q ∙ r.there }
  looked-by None r false q = record { value = sym (value-later key s q) ∙ r.value; there = sym (has-later key s q) ∙ r.there }

  looked-more : {c : Option Content} → Looked text key at c → Looked text key next.at (noted key (between start end text) (record { from = suc end; stop = stop }) c)
  unfolding noted
  looked-more {c} r = looked-by c r (same_bytes (between start end text) key) refl

module _ {text key : List ℕ} {at : ℕ} (n : items (drop at text) ≡ []) where
  under : (c : Option Content) → Looked text key at c → Under text key c
  unfolding value_of has
  under (Some x) r = record { value = r.value; there = r.there }
  under None r = record { value = rw n at r.value; there = rw n at r.there }

  looked-end : {c : Option Content} → Looked text key at c → Under text key c
  looked-end {c} r = under c r

pub record LookedAll (text : List ℕ) (at : ℕ) (f : Contents) : Type 0 where
  pub dim : Looked text (codes "DIM") at f.dim
  pub size1 : Looked text (codes "SIZE1") at f.size1
  pub size2 : Looked text (codes "SIZE2") at f.size2
  pub order : Looked text (codes "BYTE_ORDER") at f.order
  pub kind : Looked text (codes "Data_type") at f.kind
  pub compression : Looked text (codes "COMPRESSION") at f.compression

looked-all-start : (text : List ℕ) → LookedAll text 0 no_contents
looked-all-start text = record {
  dim = looked-start text (codes "DIM");
  size1 = looked-start text (codes "SIZE1");
  size2 = looked-start text (codes "SIZE2");
  order = looked-start text (codes "BYTE_ORDER");
  kind = looked-start text (codes "Data_type");
  compression = looked-start text (codes "COMPRESSION");
}

looked-all-more : {text : List ℕ} {at start end stop : ℕ} {next : Cursor} {f : Contents} → Stands text at start end stop next → LookedAll text at f → LookedAll text next.at (noted_all (between start end text) (record { from = suc end; stop = stop }) f)
looked-all-more s r = record {
  dim = looked-more s r.dim;
  size1 = looked-more s r.size1;
  size2 = looked-more s r.size2;
  order = looked-more s r.order;
  kind = looked-more s r.kind;
  compression = looked-more s r.compression;
}

looked-all-end : {text : List ℕ} {at : ℕ} {f : Contents} → items (drop at text) ≡ [] → LookedAll text at f → Found text f
looked-all-end n r = record {
  dim = looked-end n r.dim;
  size1 = looked-end n r.size1;
  size2 = looked-end n r.size2;
  order = looked-end n r.order;
  kind = looked-end n r.kind;
  compression = looked-end n r.compression;
}

-- the pass through the items, at `at`
pub record Surveying (text ps₀ ps : List ℕ) (at k : ℕ) (f : Contents) : Type 0 where
  pub keeping : Keeping text ps₀ ps at k
  pub formed : well_written (drop at text) ≡ well_written text
  pub looked : LookedAll text at f

pub surveying-start : (text ps : List ℕ) → length text ≤ 4 * length ps → Surveying text ps ps 0 0 no_contents
surveying-start text ps h = record { keeping = keeping_start text ps h; formed = refl; looked = looked-all-start text }

pub surveying-more : {text ps₀ ps qs : List ℕ} {at k i start end stop : ℕ} {next : Cursor} {f g : Contents}
    → Surveying text ps₀ ps at k f → Stands text at start end stop next → Between text (take k ps) (between start end text) i → Inserted ps k i start qs
    → g ≡ noted_all (between start end text) (record { from = end + 1; stop = stop }) f → Surveying text ps₀ qs next.at (k + 1) g
surveying-more {end = end} v s w n e = record {
  keeping = keeping-more v.keeping s w n;
  formed = sym s.formed ∙ v.formed;
  looked = rw (e, add-one end) (looked-all-more s v.looked);
}

or-true : (b : Bool) → (b || true) ≡ true
or-true true = refl
or-true false = refl

pub malformed-twice : (text : List ℕ) → true ≡ repeated (items text) → is_malformed text ≡ true
malformed-twice text e = rw (← e, or-true (not (well_written text)))

-- the text from a place on, as a part that is lent
whole : (text : List ℕ) (at : ℕ) → take (length text - at) (drop at text) ≡ drop at text
whole text at = take_all (length text - at) (drop at text) (omega (arith, length-drop at text))

-- a content that ends behind the text ends with it
pub part-within : (text : List ℕ) (from stop end : ℕ) → end ≡ min stop (length text) → take (end - from) (drop from text) ≡ between from stop text
part-within text from stop end e = go (leb stop (length text)) refl
  where
    go : (t : Bool) → leb stop (length text) ≡ t → take (end - from) (drop from text) ≡ between from stop text
    go true q = let n : end ≡ stop = omega (arith, e, leb-true _ _ q) in rw n
    go false q = let n : end ≡ length text = omega (arith, e, leb-false _ _ q) in rw n (whole text from ∙ sym (take_all (stop - from) (drop from text) (omega (arith, length-drop from text, leb-false _ _ q))))

-- where no part of the text lies between the places, the value is empty
pub nothing-within : (text : List ℕ) (from stop end : ℕ) → end ≡ min stop (length text) → end ≤ from → [] ≡ trimmed (between from stop text)
unfolding trimmed trim_end
nothing-within text from stop end e h = let n : end - from ≡ 0 = omega arith in rw (← part-within text from stop end e, n)

module _ {text ps₀ ps : List ℕ} {at k : ℕ} {f : Contents} (v : Surveying text ps₀ ps at k f) where
  pub surveying-bad : Spoils text at → is_malformed text ≡ true
  surveying-bad b = rw (← v.formed, b.formed)

  pub surveying-open : Closes text at → is_end (take (length text - at) (drop at text)) ≡ false → is_malformed text ≡ true
  surveying-open e q = rw (← v.formed, e.formed, ← whole text at, q)

  pub surveying-end : Closes text at → is_end (take (length text - at) (drop at text)) ≡ true → Sound text f
  surveying-end e q = record {
    formed = rw (← v.formed, e.formed, ← whole text at, q, ← keeping-end v.keeping e.none);
    found = looked-all-end e.none v.looked;
  }
