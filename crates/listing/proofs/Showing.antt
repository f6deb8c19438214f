-- The answer and the buffer of a listing.
-- Assumes nothing.
use mathlib.Core.Path.{◌≡◌, refl, ap, ◌∙◌}
use mathlib.Core.Bool.{Bool, true, false, not, ◌&&◌}
use mathlib.Core.List.{List, [], ◌∷◌, ◌++◌, append-nil}
use Prim.Native.Nat.{ℕ, suc, ◌+◌, ◌-◌, ◌*◌, ◌%◌, ◌≤◌, ◌<◌}
use native.Mathlib.Omega.{arith}
use lib.ListN.{length, length-append}
use lib.Seq.{drop-length}
use lib.Dec.{eqb, leb, ltb}
use borrow.Author.Tests.{lt-ltb, le-ltb, lt-leb, le-leb, eq-eqb, ne_eqb, ltb-false}
use Rattle.std.specs.Prelude.{if◌then◌else◌, None, Some}
use Rattle.ledger.specs.declared.Line.{Line}
use Rattle.ledger.specs.Lines.{lines_of}
use Rattle.ledger.specs.Standing.{withdraws, cancelled, standing}
use Rattle.ledger.specs.declared.Sought.{Sought}
use Rattle.ledger.specs.declared.Summary.{Summary}
use Rattle.ledger.specs.Ledger.{capacity, ledger_malformed, summary_for}
use Rattle.ledger.proofs.StandingLaws.{standing-small}
use Rattle.ledger.proofs.Scanning.{length-lines, Sound}
use Rattle.listing.specs.Writing.{Wrote}
use Rattle.listing.specs.Listing.{lines_text, standing_text, refused_text, is_listed, lines_listed, listing_text, listing_room, shown_answer, shown_bytes, list_answer, list_bytes}
use Rattle.listing.proofs.Lengths.{length-line, length-standing}
use Rattle.listing.proofs.Entering.{lines_cons}

pub not-shown : (b : List ℕ) (needed : ℕ) (text : List ℕ) → length b < needed → (None ≡ shown_answer (length b) needed text) × (b ≡ shown_bytes b needed text)
unfolding shown_answer shown_bytes
not-shown b needed text h = (rw (lt-ltb _ _ h), rw (lt-ltb _ _ h))

pub shown : {b : List ℕ} {c : List ℕ} {start : ℕ} {text : List ℕ} (needed : ℕ) → Wrote b (length b) c start text → needed ≤ length b
    → (Some (length b - start) ≡ shown_answer (length b) needed text) × (c ≡ shown_bytes b needed text)
unfolding shown_answer shown_bytes
shown {b} {c} {start} {text} needed f h =
    let e : length b - start ≡ length text = omega (arith, f.place) in
    let k : start ≡ length b - length text = omega (arith, f.place) in
    (rw (le-ltb _ _ h, e), rw (le-ltb _ _ h, ← k) (f.bytes ∙ rw (drop-length b, append-nil text)))

shown-is : (lent needed : ℕ) (text : List ℕ) → shown_answer lent needed text ≡ if◌then◌else◌ (ltb lent needed) None (Some (length text))
unfolding shown_answer
shown-is lent needed text = refl

-- which text it is

answer-is : (t : List ℕ) (lent : ℕ) → list_answer t lent ≡ shown_answer lent (listing_room t) (listing_text t)
unfolding list_answer
answer-is t lent = refl

bytes-are : (t out : List ℕ) → list_bytes t out ≡ shown_bytes out (listing_room t) (listing_text t)
unfolding list_bytes
bytes-are t out = refl

room-is : (t : List ℕ) → listing_room t ≡ if◌then◌else◌ (is_listed t) (32 + capacity t * 80) 32
unfolding listing_room
room-is t = refl

text-is : (t : List ℕ) → listing_text t ≡ if◌then◌else◌ (is_listed t) (lines_listed t) refused_text
unfolding listing_text
text-is t = refl

listed-is : (t : List ℕ) → lines_listed t ≡ lines_text 1 (lines_of (capacity t) t) ++ standing_text (length (standing (lines_of (capacity t) t)))
unfolding lines_listed
listed-is t = refl

tests-are : (t : List ℕ) → is_listed t ≡ eqb (length t % 16) 0 && (leb (length t) 65536 && not (ledger_malformed t (capacity t)))
unfolding is_listed
tests-are t = refl

module _ (t out : List ℕ) where
  pub refused_as : is_listed t ≡ false → (shown_answer (length out) 32 refused_text ≡ list_answer t (length out)) × (shown_bytes out 32 refused_text ≡ list_bytes t out)
  refused_as e = (rw (answer-is, room-is, text-is, e), rw (bytes-are, room-is, text-is, e))

  pub listed-as : is_listed t ≡ true → (count : ℕ) → count ≡ length (standing (lines_of (capacity t) t))
      → (let text = lines_text 1 (lines_of (capacity t) t) ++ standing_text count in
      (shown_answer (length out) (32 + capacity t * 80) text ≡ list_answer t (length out)) × (shown_bytes out (32 + capacity t * 80) text ≡ list_bytes t out))
  listed-as e count q = (rw (answer-is, room-is, text-is, e, listed-is, q), rw (bytes-are, room-is, text-is, e, listed-is, q))

-- why a ledger is not listed

module _ (t : List ℕ) where
  pub broken : (length t % 16 ≡ 0 → ⊥) → is_listed t ≡ false
  broken h = rw (tests-are, ne_eqb _ 0 h)

  pub longer : length t % 16 ≡ 0 → 65536 < length t → is_listed t ≡ false
  longer z h = rw (tests-are, eq-eqb _ 0 z, lt-leb _ _ h)

  pub malformed : length t % 16 ≡ 0 → length t ≤ 65536 → ledger_malformed t (capacity t) ≡ true → is_listed t ≡ false
  malformed z h m = rw (tests-are, eq-eqb _ 0 z, le-leb _ _ h, m)

  pub listed : length t % 16 ≡ 0 → length t ≤ 65536 → ledger_malformed t (capacity t) ≡ false → is_listed t ≡ true
  listed z h m = rw (tests-are, eq-eqb _ 0 z, le-leb _ _ h, m)

-- the text fits the room that is asked for

no_lines : (number : ℕ) → length (lines_text number []) ≤ 0
unfolding lines_text
no_lines number = omega arith

length-lines-text : (number : ℕ) (ls : List Line) → length (lines_text number ls) ≤ length ls * 80
length-lines-text number [] = no_lines number
length-lines-text number (l ∷ ls) =
    let b : Bool = not (withdraws l) && cancelled ls in
    rw (lines_cons number l ls, length-append) (omega (arith, length-line number l b, length-lines-text (suc number) ls))

listed-fits : (t : List ℕ) → length (lines_listed t) ≤ 32 + capacity t * 80
listed-fits t =
    let ls : List Line = lines_of (capacity t) t in
    rw (listed-is, length-append)
    (omega (arith, length-lines-text 1 ls, length-lines (capacity t) t, length-standing (length (standing ls))))

pub text-fits : (t : List ℕ) → length (listing_text t) ≤ listing_room t
text-fits t = rw (text-is, room-is) (go (is_listed t))
  where
    go : (b : Bool) → length (if◌then◌else◌ b (lines_listed t) refused_text) ≤ if◌then◌else◌ b (32 + capacity t * 80) 32
    go true = listed-fits t
    go false = omega arith

-- a listing that is given lies within the buffer
pub used-fits : (t : List ℕ) (lent used : ℕ) → Some used ≡ list_answer t lent → used ≤ lent
used-fits t lent used e = go (ltb lent (listing_room t)) refl (e ∙ answer-is t lent ∙ shown-is lent (listing_room t) (listing_text t))
  where
    go : (b : Bool) → ltb lent (listing_room t) ≡ b → Some used ≡ if◌then◌else◌ b None (Some (length (listing_text t))) → used ≤ lent
    go true q w = let z : ◌≡◌ {A = ℕ} 0 1 = cc in absurd (omega arith)
    go false q w =
        let u : used ≡ length (listing_text t) = cc in
        omega (arith, ltb-false lent (listing_room t) q, text-fits t)

-- the count of a survey

pub count-is : {q : Sought} {t : List ℕ} {n : ℕ} {s : Summary} → Sound q t n s → s.count ≡ length (standing (lines_of n t))
unfolding summary_for
count-is f = ap (λ (x : Summary). x.count) f.is

pub count_small : {q : Sought} {t : List ℕ} {n : ℕ} {s : Summary} → Sound q t n s → s.count ≤ n
count_small {q} {t} {n} {s} f = omega (arith, count-is f, standing-small (lines_of n t), length-lines n t)
