-- A keyword twice, found by keeping the keywords that were read.
-- Assumes nothing.
use mathlib.Core.Path.{◌≡◌, refl, sym, ◌∙◌}
use mathlib.Core.Bool.{Bool, true, false, ◌||◌}
use mathlib.Core.List.{List, [], ◌∷◌}
use Prim.Native.Nat.{ℕ, suc, ◌+◌, ◌*◌, ◌≤◌, ◌<◌}
use native.Mathlib.Numerals.{add-one}
use native.Mathlib.Omega.{arith}
use lib.ListN.{length, take, drop}
use lib.Seq.{length-take-le}
use Rattle.lists.specs.Bytes.{same_bytes}
use Rattle.dtrek_text.specs.declared.Cursor.{Cursor}
use Rattle.dtrek_text.specs.Bytes.{between}
use Rattle.dtrek_text.specs.Items.{Item, items}
use Rattle.dtrek_items.specs.Lookup.{has, repeated}
use Rattle.dtrek_text.proofs.Scans.{Stands}
use Rattle.dtrek_items.specs.Keys.{keys_at, has_key, Rising, Between, Inserted}
use Rattle.dtrek_items.proofs.Ordering.{sames-flip}
use Rattle.dtrek_items.proofs.Inserting.{inserted-has, inserted_rising, free-none}

-- an item has the keyword of one that was read, or of a later one
unfoldable pub clash : List (List ℕ) → List Item → Bool
unfolding has_key has
clash ks [] = false
clash ks (i ∷ is) = has_key i.key ks || (has i.key is || clash ks is)

clash-first : (is : List Item) → clash [] is ≡ repeated is
unfolding clash repeated has_key
clash-first [] = refl
clash-first (i ∷ is) = rw (clash-first is)

same_or : (k x : List ℕ) (a b c d : Bool) → ((same_bytes x k || a) || (b || (c || d))) ≡ ((same_bytes k x || b) || (c || (a || d)))
same_or k x a b c d = rw (sames-flip x k) (go (same_bytes k x) a b c d)
  where
    go : (s a b c d : Bool) → ((s || a) || (b || (c || d))) ≡ ((s || b) || (c || (a || d)))
    go true a b c d = refl
    go false true true c d = refl
    go false true false true d = refl
    go false true false false d = refl
    go false false b c d = refl

-- one more keyword read
clash-more : (k : List ℕ) (ks js : List (List ℕ)) → ((x : List ℕ) → has_key x js ≡ (same_bytes k x || has_key x ks)) → (is : List Item) → (has k is || clash ks is) ≡ clash js is
unfolding clash has
clash-more k ks js h [] = refl
clash-more k ks js h (i ∷ is) = rw (h i.key, ← clash-more k ks js h is) (same_or k i.key (has k is) (has_key i.key ks) (has i.key is) (clash ks is))

-- the keywords before `at`, in order
pub record Keeping (text ps₀ ps : List ℕ) (at k : ℕ) : Type 0 where
  pub same : length ps ≡ length ps₀
  pub room : length text ≤ 4 * length ps
  pub upto : at ≤ length text
  pub few : 4 * k ≤ at
  pub rising : Rising text (take k ps)
  pub left : clash (keys_at text (take k ps)) (items (drop at text)) ≡ repeated (items text)

pub keeping_start : (text ps : List ℕ) → length text ≤ 4 * length ps → Keeping text ps ps 0 0
keeping_start text ps h = record { same = refl; room = h; upto = omega arith; few = omega arith; rising = λ i j l g. absurd (omega arith); left = clash-first (items text) }

module _ {text ps₀ ps : List ℕ} {at k start end stop : ℕ} {next : Cursor} (f : Keeping text ps₀ ps at k) (s : Stands text at start end stop next) where
  pub keeping-taken : has_key (between start end text) (keys_at text (take k ps)) ≡ true → true ≡ repeated (items text)
  unfolding clash
  keeping-taken t = rw (← f.left, s.first, t)

  pub keeping-room : k < length ps
  keeping-room = omega (arith, f.room, f.few, s.from, s.some, s.before, s.inside)

  kept : has_key (between start end text) (keys_at text (take k ps)) ≡ false
      → (has (between start end text) (items (drop next.at text)) || clash (keys_at text (take k ps)) (items (drop next.at text))) ≡ repeated (items text)
  unfolding clash
  kept t = rw (s.first, t) at f.left

  pub keeping-more : {i : ℕ} {qs : List ℕ} → Between text (take k ps) (between start end text) i → Inserted ps k i start qs → Keeping text ps₀ qs next.at (k + 1)
  keeping-more {i} {qs} w g =
      let r = keeping-room in
      let l : i ≤ k = omega (arith, w.upto, length-take-le k ps (omega arith)) in
      let m : (x : List ℕ) → has_key x (keys_at text (take (suc k) qs)) ≡ (same_bytes (between start end text) x || has_key x (keys_at text (take k ps))) = λ x. rw (← s.run) (inserted-has text g l r x) in
      record {
        same = g.same ∙ f.same;
        room = omega (arith, g.same, f.room);
        upto = omega (arith, s.inside, s.after);
        few = omega (arith, f.few, s.from, s.some, s.before, s.after);
        rising = rw add-one (inserted_rising g w l r s.run f.rising);
        left = rw add-one (sym (clash-more (between start end text) (keys_at text (take k ps)) (keys_at text (take (suc k) qs)) m (items (drop next.at text))) ∙ kept (free-none w));
      }

pub keeping-end : {text ps₀ ps : List ℕ} {at k : ℕ} → Keeping text ps₀ ps at k → items (drop at text) ≡ [] → false ≡ repeated (items text)
unfolding clash
keeping-end f n = rw n at f.left
