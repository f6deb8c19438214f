-- The moves on a buffer that is written as a concatenation: one entry of a padded table put in, taken out or replaced.
-- Assumes nothing.
use mathlib.Core.Path.{◌≡◌, refl, sym, ap, ◌∙◌, subst}
use mathlib.Core.List.{List, [], ◌++◌, append_assoc, append-nil}
use Prim.Native.Nat.{ℕ, ◌+◌, ◌-◌, ◌≤◌, ◌<◌}
use native.Mathlib.Omega.{arith}
use mathlib.Core.Bool.{Bool, true, false}
use mathlib.Core.Logic.{◌⊎◌, inl, inr, ⊎_elim}
use lib.Dec.{ltb, leb}
use borrow.Author.Tests.{ltb-true, ltb-false, leb-true, leb-false, le-leb, lt-leb}
use lib.ListN.{length, take, drop, length-append, length-drop, length-replicate, take-append-drop, replicate-append-replicate}
use lib.Seq.{take_at, drop_at, drop-drop, length-take-le}
use Rattle.lists.specs.Bytes.{zeros, over, held_bytes, padded_to}
use Rattle.layout.specs.Layout.{table_bytes}
use Rattle.table.specs.Writing.{table_of, padded_table}
use Rattle.table.proofs.Storing.{length-table}
use Rattle.splice.specs.Moves.{moved, opened, closed, without_front, fill, padded, grown, shrunk, resized, table_edited}
use Rattle.splice.proofs.Fits.{pad-bounds, pad-same, pad-same-down, pad-more, pad-more-down}

-- writing over X what is as long
pub over-law : (A X R Y : List ℕ) (at : ℕ) → length A ≡ at → length X ≡ length Y → over at Y (A ++ (X ++ R)) ≡ A ++ (Y ++ R)
unfolding over
over-law A X R Y at a e =
    let d : drop (at + length Y) (A ++ (X ++ R)) ≡ R = sym (drop-drop (length Y) at (A ++ (X ++ R))) ∙ ap (drop (length Y)) (drop_at A (X ++ R) at a) ∙ drop_at X R (length Y) e in
    simp (take_at A (X ++ R) at a, d)

-- a move is a write of what stands there
moved-over : (b A M R : List ℕ) (from to n : ℕ) → b ≡ A ++ (M ++ R) → length A ≡ from → length M ≡ n → moved b from to n ≡ over to M b
unfolding moved over
moved-over b A M R from to n e a m =
    let t : take n (drop from b) ≡ M =
    ap (λ (l : List ℕ). take n (drop from l)) e ∙ ap (take n) (drop_at A (M ++ R) from a) ∙ take_at M R n m in
    ap (λ (l : List ℕ). take to b ++ (l ++ drop (to + n) b)) t ∙ ap (λ (i : ℕ). take to b ++ (M ++ drop (to + i) b)) (sym m)

-- the k bytes Z after M come to stand, as 0, before it
pub opened-law : (A M Z R : List ℕ) (at n k : ℕ) → length A ≡ at → length M ≡ n → length Z ≡ k
    → opened (A ++ (M ++ (Z ++ R))) at n k ≡ A ++ (zeros k ++ (M ++ R))
unfolding opened
opened-law A M Z R at n k a m z =
    let W : List ℕ = M ++ Z in
    let w : length W ≡ n + k = length-append M Z ∙ (λ i. m i + z i) in
    let t : length (take k W) ≡ k = length-take-le k W (omega arith) in
    let d : length (drop k W) ≡ length M = length-drop k W ∙ omega arith in
    let split : A ++ (M ++ (Z ++ R)) ≡ (A ++ take k W) ++ (drop k W ++ R) =
    ap (λ (l : List ℕ). A ++ l) (sym (append_assoc M Z R) ∙ ap (λ (l : List ℕ). l ++ R) (sym (take-append-drop k W)) ∙ append_assoc (take k W) (drop k W) R)
    ∙ sym (append_assoc A (take k W) (drop k W ++ R)) in
    ap (over at (zeros k))
    (moved-over _ A M (Z ++ R) at (at + k) n refl a m
    ∙ ap (over (at + k) M) split
    ∙ over-law (A ++ take k W) (drop k W) R M (at + k) (length-append A (take k W) ∙ (λ i. a i + t i)) d
    ∙ append_assoc A (take k W) (M ++ R))
    ∙ over-law A (take k W) (M ++ R) (zeros k) at a (t ∙ sym (length-replicate k 0))

-- the k bytes G before M come to stand, as 0, after it
pub closed-law : (A G M R : List ℕ) (at n k : ℕ) → length A ≡ at → length M ≡ n → length G ≡ k
    → closed (A ++ (G ++ (M ++ R))) at n k ≡ A ++ (M ++ (zeros k ++ R))
unfolding closed
closed-law A G M R at n k a m g =
    let W : List ℕ = G ++ M in
    let w : length W ≡ k + n = length-append G M ∙ (λ i. g i + m i) in
    let t : length (take n W) ≡ length M = length-take-le n W (omega arith) ∙ sym m in
    let d : length (drop n W) ≡ k = length-drop n W ∙ omega arith in
    let split : A ++ (G ++ (M ++ R)) ≡ A ++ (take n W ++ (drop n W ++ R)) =
    ap (λ (l : List ℕ). A ++ l) (sym (append_assoc G M R) ∙ ap (λ (l : List ℕ). l ++ R) (sym (take-append-drop n W)) ∙ append_assoc (take n W) (drop n W) R) in
    ap (over (at + n) (zeros k))
    (moved-over _ (A ++ G) M R (at + k) at n (sym (append_assoc A G (M ++ R))) (length-append A G ∙ (λ i. a i + g i)) m
    ∙ ap (over at M) split
    ∙ over-law A (take n W) (drop n W ++ R) M at a t
    ∙ sym (append_assoc A M (drop n W ++ R)))
    ∙ over-law (A ++ M) (drop n W) R (zeros k) (at + n) (length-append A M ∙ (λ i. a i + m i)) (d ∙ sym (length-replicate k 0))
    ∙ append_assoc A M (zeros k ++ R)

-- the first k bytes taken out
pub front_out : (b : List ℕ) (k : ℕ) → k ≤ length b → without_front b k ≡ drop k b ++ zeros k
unfolding without_front
front_out b k h = rw (le-leb k (length b) h)

pub front-law : (b : List ℕ) (k : ℕ) → k ≤ length b → closed b 0 (length b - k) k ≡ without_front b k
front-law b k h =
    let parts : b ≡ take k b ++ (drop k b ++ []) = rw append-nil (sym (take-append-drop k b)) in
    ap (λ (x : List ℕ). closed x 0 (length b - k) k) parts
    ∙ closed-law [] (take k b) (drop k b) [] 0 (length b - k) k refl (length-drop k b) (length-take-le k b h)
    ∙ rw append-nil (sym (front_out b k h))

pub front-stays : (b : List ℕ) (k : ℕ) → length b < k → without_front b k ≡ b
unfolding without_front
front-stays b k h = rw (lt-leb k (length b) h)

-- a test came out one way or the other
pub tested : (t : Bool) → (t ≡ true) ⊎ (t ≡ false)
tested true = inl refl
tested false = inr refl

pub zeros-join : (m k n : ℕ) → m + k ≡ n → zeros m ++ zeros k ≡ zeros n
zeros-join m k n e = replicate-append-replicate m k 0 ∙ ap zeros e

-- n zeros are k and then the rest
zeros-split : (n k : ℕ) → k ≤ n → zeros n ≡ zeros k ++ zeros (n - k)
zeros-split n k h = sym (zeros-join k (n - k) n (omega arith))

-- what stands before a table (A), its bytes (E₁, G, E₂), z of padding, what follows it (P), and r of 0 to the buffer's end
unfoldable pub spread : (A E₁ G E₂ : List ℕ) (z : ℕ) (P : List ℕ) (r : ℕ) → List ℕ
spread A E₁ G E₂ z P r = A ++ (E₁ ++ (G ++ (E₂ ++ (zeros z ++ (P ++ zeros r)))))

module _ (A E₁ E₂ P : List ℕ) (at tail post : ℕ) (a : length A + length E₁ ≡ at) (t : length E₂ ≡ tail) (p : length P ≡ post) where
  open-tail : (z r k : ℕ) → k ≤ z → opened (spread A E₁ [] E₂ z P r) at tail k ≡ spread A E₁ (zeros k) E₂ (z - k) P r
  unfolding spread
  open-tail z r k h =
      ap (λ (l : List ℕ). opened l at tail k)
      (sym (append_assoc A E₁ _) ∙ ap (λ (l : List ℕ). (A ++ E₁) ++ (E₂ ++ l)) (ap (λ (l : List ℕ). l ++ (P ++ zeros r)) (zeros-split z k h) ∙ append_assoc (zeros k) (zeros (z - k)) (P ++ zeros r)))
      ∙ opened-law (A ++ E₁) E₂ (zeros k) (zeros (z - k) ++ (P ++ zeros r)) at tail k (length-append A E₁ ∙ a) t (length-replicate k 0)
      ∙ append_assoc A E₁ _

  open-post : (z r k : ℕ) → k ≤ r → opened (spread A E₁ [] E₂ z P r) (at + tail + z) post k ≡ spread A E₁ [] E₂ (z + k) P (r - k)
  unfolding spread
  open-post z r k h =
      let B : List ℕ = A ++ (E₁ ++ (E₂ ++ zeros z)) in
      let b : length B ≡ at + tail + z = simp (length-append, length-replicate) (omega arith) in
      ap (λ (l : List ℕ). opened l (at + tail + z) post k) (ap (λ (l : List ℕ). A ++ (E₁ ++ (E₂ ++ (zeros z ++ (P ++ l))))) (zeros-split r k h) ∙ simp append_assoc)
      ∙ opened-law B P (zeros k) (zeros (r - k)) (at + tail + z) post k b p (length-replicate k 0)
      ∙ simp (append_assoc, ← replicate-append-replicate)

  close-tail : (G : List ℕ) (z r k : ℕ) → length G ≡ k → closed (spread A E₁ G E₂ z P r) at tail k ≡ spread A E₁ [] E₂ (z + k) P r
  unfolding spread
  close-tail G z r k g =
      ap (λ (l : List ℕ). closed l at tail k) (sym (append_assoc A E₁ _))
      ∙ closed-law (A ++ E₁) G E₂ (zeros z ++ (P ++ zeros r)) at tail k (length-append A E₁ ∙ a) t g
      ∙ append_assoc A E₁ _
      ∙ ap (λ (l : List ℕ). A ++ (E₁ ++ (E₂ ++ l)))
      (sym (append_assoc (zeros k) (zeros z) (P ++ zeros r)) ∙ ap (λ (l : List ℕ). l ++ (P ++ zeros r)) (zeros-join k z (z + k) (omega arith)))

  close-post : (z r k : ℕ) → k ≤ z → closed (spread A E₁ [] E₂ z P r) (at + tail + (z - k)) post k ≡ spread A E₁ [] E₂ (z - k) P (r + k)
  unfolding spread
  close-post z r k h =
      let B : List ℕ = A ++ (E₁ ++ (E₂ ++ zeros (z - k))) in
      let b : length B ≡ at + tail + (z - k) = simp (length-append, length-replicate) (omega arith) in
      let s : zeros z ≡ zeros (z - k) ++ zeros k = sym (zeros-join (z - k) k z (omega arith)) in
      let f : zeros k ++ zeros r ≡ zeros (r + k) = zeros-join k r (r + k) (omega arith) in
      ap (λ (l : List ℕ). closed l (at + tail + (z - k)) post k) (ap (λ (l : List ℕ). A ++ (E₁ ++ (E₂ ++ (l ++ (P ++ zeros r))))) s ∙ simp append_assoc)
      ∙ closed-law B (zeros k) P (zeros r) (at + tail + (z - k)) post k b p (length-replicate k 0)
      ∙ simp (append_assoc, f)

-- a held buffer, spread out
pub held-spread : (N : ℕ) (A E₁ G E₂ P : List ℕ) (n z r : ℕ) → length E₁ + length G + length E₂ ≡ n → fill n ≡ z → N - (length A + n + z + length P) ≡ r
    → held_bytes N (A ++ (padded (E₁ ++ (G ++ E₂)) ++ P)) ≡ spread A E₁ G E₂ z P r
unfolding held_bytes padded spread
held-spread N A E₁ G E₂ P n z r en ez er =
    let f : length (E₁ ++ (G ++ E₂)) ≡ n = simp length-append (omega arith) in
    let i : fill (length (E₁ ++ (G ++ E₂))) ≡ z = ap fill f ∙ ez in
    let X : List ℕ = A ++ (((E₁ ++ (G ++ E₂)) ++ zeros z) ++ P) in
    let x : N - length X ≡ r = simp (length-append, length-replicate) (omega arith) in
    ap (λ (m : ℕ). let Y = A ++ (((E₁ ++ (G ++ E₂)) ++ zeros m) ++ P) in Y ++ zeros (N - length Y)) i
    ∙ ap (λ (m : ℕ). X ++ zeros m) x
    ∙ simp append_assoc

module _ (N : ℕ) (A E₁ E₂ P : List ℕ) (at tail z post k : ℕ)
    (a : length A + length E₁ ≡ at) (t : length E₂ ≡ tail) (p : length P ≡ post) (small : k ≤ 16) where
  -- room for k bytes is made in a table
  pub grown-law : fill (length E₁ + length E₂) ≡ z
      → length A + (length E₁ + k + length E₂) + fill (length E₁ + k + length E₂) + length P ≤ N
      → grown (held_bytes N (A ++ (padded (E₁ ++ E₂) ++ P))) at tail z post k ≡ held_bytes N (A ++ (padded (E₁ ++ (zeros k ++ E₂)) ++ P))
  unfolding grown
  grown-law ez room =
      let n : ℕ = length E₁ + length E₂ in
      let m : ℕ = length E₁ + k + length E₂ in
      let r : ℕ = N - (length A + n + z + length P) in
      let goal : (z' r' : ℕ) → fill m ≡ z' → N - (length A + m + z' + length P) ≡ r' → spread A E₁ (zeros k) E₂ z' P r' ≡ held_bytes N (A ++ (padded (E₁ ++ (zeros k ++ E₂)) ++ P)) =
      λ z' r' f g. sym (held-spread N A E₁ (zeros k) E₂ P m z' r' (simp length-replicate) f g) in
      ap (λ (l : List ℕ). grown l at tail z post k) (held-spread N A E₁ [] E₂ P n z r (omega arith) ez refl)
      ∙ ⊎_elim
      (λ (h : ltb z k ≡ true).
      let q : z < k = ltb-true z k h in
      let b = pad-bounds n in
      let s = pad-more n m (omega arith) (omega arith) in
      rw h (ap (λ (l : List ℕ). opened l at tail k) (open-post A E₁ E₂ P at tail post a t p z r 16 (omega arith))
      ∙ open-tail A E₁ E₂ P at tail post a t p (z + 16) (r - 16) k (omega arith)
      ∙ goal (z + 16 - k) (r - 16) (omega arith) (omega arith)))
      (λ (h : ltb z k ≡ false).
      let q : k ≤ z = ltb-false z k h in
      let b = pad-bounds n in
      let s = pad-same n m (omega arith) (omega arith) in
      rw h (open-tail A E₁ E₂ P at tail post a t p z r k q ∙ goal (z - k) r (omega arith) (omega arith)))
      (tested (ltb z k))

  -- k bytes G of a table are taken out
  pub shrunk-law : (G : List ℕ) → length G ≡ k → fill (length E₁ + k + length E₂) ≡ z
      → length A + (length E₁ + k + length E₂) + z + length P ≤ N
      → shrunk (held_bytes N (A ++ (padded (E₁ ++ (G ++ E₂)) ++ P))) at tail z post k ≡ held_bytes N (A ++ (padded (E₁ ++ E₂) ++ P))
  unfolding shrunk
  shrunk-law G g ez room =
      let n : ℕ = length E₁ + k + length E₂ in
      let m : ℕ = length E₁ + length E₂ in
      let r : ℕ = N - (length A + n + z + length P) in
      let goal : (z' r' : ℕ) → fill m ≡ z' → N - (length A + m + z' + length P) ≡ r' → spread A E₁ [] E₂ z' P r' ≡ held_bytes N (A ++ (padded (E₁ ++ E₂) ++ P)) =
      λ z' r' f g. sym (held-spread N A E₁ [] E₂ P m z' r' (omega arith) f g) in
      ap (λ (l : List ℕ). shrunk l at tail z post k) (held-spread N A E₁ G E₂ P n z r (omega arith) ez refl)
      ∙ ⊎_elim
      (λ (h : leb 16 (z + k) ≡ true).
      let q : 16 ≤ z + k = leb-true 16 (z + k) h in
      let b = pad-bounds n in
      let s = pad-more-down m n (omega arith) (omega arith) in
      rw h (ap (λ (l : List ℕ). closed l (at + tail + (z + k - 16)) post 16) (close-tail A E₁ E₂ P at tail post a t p G z r k g)
      ∙ close-post A E₁ E₂ P at tail post a t p (z + k) r 16 q
      ∙ goal (z + k - 16) (r + 16) (omega arith) (omega arith)))
      (λ (h : leb 16 (z + k) ≡ false).
      let q : z + k < 16 = leb-false 16 (z + k) h in
      let b = pad-bounds n in
      let s = pad-same-down m n (omega arith) (omega arith) in
      rw h (close-tail A E₁ E₂ P at tail post a t p G z r k g ∙ goal (z + k) r (omega arith) (omega arith)))
      (tested (leb 16 (z + k)))

-- its bytes are written over as many
put-law : (N : ℕ) (A E₁ Y E₂ P x : List ℕ) (at : ℕ) → length A + length E₁ ≡ at → length Y ≡ length x
    → over at x (held_bytes N (A ++ (padded (E₁ ++ (Y ++ E₂)) ++ P))) ≡ held_bytes N (A ++ (padded (E₁ ++ (x ++ E₂)) ++ P))
unfolding spread
put-law N A E₁ Y E₂ P x at a e =
    let n : ℕ = length E₁ + length x + length E₂ in
    let r : ℕ = N - (length A + n + fill n + length P) in
    let R : List ℕ = E₂ ++ (zeros (fill n) ++ (P ++ zeros r)) in
    ap (over at x) (held-spread N A E₁ Y E₂ P n (fill n) r (omega arith) refl refl ∙ sym (append_assoc A E₁ (Y ++ R)))
    ∙ over-law (A ++ E₁) Y R x at (length-append A E₁ ∙ a) e
    ∙ append_assoc A E₁ (x ++ R) ∙ sym (held-spread N A E₁ x E₂ P n (fill n) r refl refl refl)

pub edited-law : (N : ℕ) (A E₁ o E₂ P x : List ℕ) (at old tail z post : ℕ)
    → length A + length E₁ ≡ at → length o ≡ old → length E₂ ≡ tail → length P ≡ post
    → fill (length E₁ + old + length E₂) ≡ z
    → old ≤ 16 → length x ≤ 16
    → length A + (length E₁ + old + length E₂) + z + length P ≤ N
    → length A + (length E₁ + length x + length E₂) + fill (length E₁ + length x + length E₂) + length P ≤ N
    → over at x (resized (held_bytes N (A ++ (padded (E₁ ++ (o ++ E₂)) ++ P))) at old (length x) tail z post) ≡ held_bytes N (A ++ (padded (E₁ ++ (x ++ E₂)) ++ P))
unfolding resized
edited-law N A E₁ o E₂ P x at old tail z post a eo t p ez so sx room room' =
    let tab : List ℕ → List ℕ = λ l. held_bytes N (A ++ (padded l ++ P)) in
    ⊎_elim
    (λ (h : ltb old (length x) ≡ true).
    let q : old < length x = ltb-true old (length x) h in
    let k : ℕ = length x - old in
    let f : length (E₁ ++ o) ≡ length E₁ + old = length-append E₁ o ∙ ap (λ (n : ℕ). length E₁ + n) eo in
    let g : length E₁ + length x + length E₂ ≡ length (E₁ ++ o) + k + length E₂ = omega arith in
    rw h (ap (over at x)
    (ap (λ (l : List ℕ). grown (tab l) (at + old) tail z post k) (sym (append_assoc E₁ o E₂))
    ∙ grown-law N A (E₁ ++ o) E₂ P (at + old) tail z post k (omega arith) t p (omega arith)
    (ap (λ (n : ℕ). fill (n + length E₂)) f ∙ ez)
    (subst (λ (n : ℕ). length A + n + fill n + length P ≤ N) g room')
    ∙ ap tab (append_assoc E₁ o (zeros k ++ E₂) ∙ ap (λ (l : List ℕ). E₁ ++ l) (sym (append_assoc o (zeros k) E₂))))
    ∙ put-law N A E₁ (o ++ zeros k) E₂ P x at a (length-append o (zeros k) ∙ simp length-replicate (omega arith))))
    (λ (h : ltb old (length x) ≡ false).
    let q : length x ≤ old = ltb-false old (length x) h in
    rw h (⊎_elim
    (λ (h' : ltb (length x) old ≡ true).
    let q' : length x < old = ltb-true (length x) old h' in
    let k : ℕ = old - length x in
    let G : List ℕ = take k o in
    let D : List ℕ = drop k o in
    let g : length G ≡ k = length-take-le k o (omega arith) in
    let d : length D ≡ length x = length-drop k o ∙ omega arith in
    let f : length (D ++ E₂) ≡ length x + tail = length-append D E₂ ∙ (λ i. d i + t i) in
    let m : length E₁ + k + length (D ++ E₂) ≡ length E₁ + old + length E₂ = omega arith in
    rw h' (ap (over at x)
    (ap (λ (l : List ℕ). shrunk (tab (E₁ ++ l)) at (length x + tail) z post k)
    (ap (λ (l : List ℕ). l ++ E₂) (sym (take-append-drop k o)) ∙ append_assoc G D E₂)
    ∙ shrunk-law N A E₁ (D ++ E₂) P at (length x + tail) z post k a f p (omega arith) G g
    (ap fill m ∙ ez) (omega arith))
    ∙ put-law N A E₁ D E₂ P x at a d))
    (λ (h' : ltb (length x) old ≡ false).
    let q' : old ≤ length x = ltb-false (length x) old h' in
    rw h' (put-law N A E₁ o E₂ P x at a (omega arith)))
    (tested (ltb (length x) old))))
    (tested (ltb old (length x)))

pub length-padded : (xs : List ℕ) → length (padded xs) ≡ padded_to 16 (length xs)
unfolding padded
length-padded xs = length-append xs (zeros (fill (length xs))) ∙ ap (λ (n : ℕ). length xs + n) (length-replicate (fill (length xs)) 0) ∙ (let p = pad-bounds (length xs) in omega arith)

pub table-law : (N : ℕ) (A E₁ o E₂ P x : List ℕ) (s n before old post : ℕ)
    → length A ≡ s → length E₁ ≡ before → length o ≡ old → length P ≡ post → length E₁ + length o + length E₂ ≡ n
    → old ≤ 16 → length x ≤ 16
    → s + padded_to 16 n + post ≤ N
    → s + padded_to 16 (n - old + length x) + post ≤ N
    → table_edited (held_bytes N (A ++ (padded (E₁ ++ (o ++ E₂)) ++ P))) s n before old post x ≡ held_bytes N (A ++ (padded (E₁ ++ (x ++ E₂)) ++ P))
unfolding table_edited
table-law N A E₁ o E₂ P x s n before old post a b eo p en so sx room room' =
    let m : length E₁ + old + length E₂ ≡ n = omega arith in
    let m' : n - old + length x ≡ length E₁ + length x + length E₂ = omega arith in
    let b₁ = pad-bounds n in
    let b₂ = pad-bounds (n - old + length x) in
    edited-law N A E₁ o E₂ P x (s + before) old (n - (before + old)) (fill n) post
    (λ i. a i + b i) eo (omega arith) p (ap fill m) so sx
    (omega arith)
    (let q : s + (length E₁ + length x + length E₂) + fill (length E₁ + length x + length E₂) + post ≤ N =
    subst (λ (k : ℕ). s + k + fill k + post ≤ N) m' (omega arith) in
    subst (λ (k : ℕ). k + (length E₁ + length x + length E₂) + fill (length E₁ + length x + length E₂) + length P ≤ N) (sym a)
    (subst (λ (k : ℕ). s + (length E₁ + length x + length E₂) + fill (length E₁ + length x + length E₂) + k ≤ N) (sym p) q))

-- writing over what is as long, in a held buffer
pub held-over : (N : ℕ) (B o R x : List ℕ) (at : ℕ) → length B ≡ at → length o ≡ length x
    → over at x (held_bytes N (B ++ (o ++ R))) ≡ held_bytes N (B ++ (x ++ R))
unfolding held_bytes
held-over N B o R x at b e =
    let n : length (B ++ (o ++ R)) ≡ length (B ++ (x ++ R)) = simp length-append (omega arith) in
    let Z : List ℕ = zeros (N - length (B ++ (o ++ R))) in
    ap (over at x) (append_assoc B (o ++ R) Z ∙ ap (λ (l : List ℕ). B ++ l) (append_assoc o R Z))
    ∙ over-law B o (R ++ Z) x at b e
    ∙ sym (append_assoc B (x ++ R) Z ∙ ap (λ (l : List ℕ). B ++ l) (append_assoc x R Z))
    ∙ ap (λ (k : ℕ). (B ++ (x ++ R)) ++ zeros (N - k)) n

pub padded-table : (w : ℕ) (vs : List ℕ) → padded (table_of w vs) ≡ padded_table w vs
unfolding padded padded_table table_bytes
padded-table w vs = rw length-table
