-- Document 02, A7: what the order of corrections decides. proofs/Order.antt, Back.antt and Calls.antt prove these statements, for every held buffer, ledger and number of lines.
-- Compared runs start from one state and every call of them is made on what the last one left; the ledgers after them are not compared.
use Rattle.std.specs.Prelude.{ℕ, ◌<◌, ◌≡◌, List, [], ◌∷◌, ◌++◌, length, get_or, eqb, if◌then◌else◌}
use Rattle.readback.specs.Held.{held_count, held_pixels}
use Rattle.model.specs.Model.{Call, correct, withdraw, run}
use Rattle.model.specs.Run.{State, step, AllCounted}
use Rattle.model.specs.Theorems.{withdrawals, AllAccepted}

-- a pixel and its new count
pub record Correction : Type 0 where
  pub pixel : ℕ
  pub count : ℕ

abbrev pub correction : ℕ → ℕ → Correction
correction pixel count = record { pixel = pixel; count = count }

abbrev pub corrections : List Correction → List Call
corrections [] = []
corrections (x ∷ xs) = correct x.pixel x.count ∷ corrections xs

-- every call of a list is accepted, from this state on
abbrev pub Accepted : State → List Call → Type 0
Accepted s cs = AllAccepted (run step cs s).replies

-- the held buffer after the calls of a list
abbrev pub held_after : State → List Call → List ℕ
held_after s cs = (run step cs s).state.held

-- what the public functions take: a held buffer of bytes
abbrev pub OfBytes : State → Type 0
OfBytes s = (i : ℕ) → get_or s.held i 0 < 256

-- the count that corrections leave a pixel with: that of the last one made to it, or the one before them
abbrev pub last_count : ℕ → ℕ → List Correction → ℕ
last_count pixel before [] = before
last_count pixel before (x ∷ xs) = last_count pixel (if eqb x.pixel pixel then x.count else before) xs

-- two lists leave each pixel of a state's held frame with the same count
abbrev pub SameCounts : State → List Correction → List Correction → Type 0
SameCounts s xs ys =
    (pixel : ℕ) → (let before = get_or (held_pixels s.held) pixel 0 in last_count pixel before xs ≡ last_count pixel before ys)

-- Whatever the calls, each accepted or refused: where two runs leave the same pixels, they leave the same bytes.
abbrev pub PixelsDecide : Type 0
PixelsDecide =
    (s : State) → OfBytes s → (cs ds : List Call) → AllCounted cs → AllCounted ds
    → held_pixels (held_after s cs) ≡ held_pixels (held_after s ds) → held_after s cs ≡ held_after s ds

-- After accepted corrections each pixel of the held frame has its last count.
abbrev pub LastCountsHeld : Type 0
LastCountsHeld =
    (s : State) → OfBytes s → (xs : List Correction) → AllCounted (corrections xs) → Accepted s (corrections xs)
    → (pixel : ℕ) → pixel < held_count s.held
    → get_or (held_pixels (held_after s (corrections xs))) pixel 0 ≡ last_count pixel (get_or (held_pixels s.held) pixel 0) xs

-- Accepted corrections that leave each pixel with the same count leave the same bytes, in whatever order and however many they are.
abbrev pub LastCountsDecide : Type 0
LastCountsDecide =
    (s : State) → OfBytes s → (xs ys : List Correction) → AllCounted (corrections xs) → AllCounted (corrections ys)
    → Accepted s (corrections xs) → Accepted s (corrections ys) → SameCounts s xs ys
    → held_after s (corrections xs) ≡ held_after s (corrections ys)

-- corrections of two pixels, in either order
abbrev pub EitherOrder : Type 0
EitherOrder =
    (s : State) → OfBytes s → (p q c d : ℕ) → (p ≡ q → ⊥) → c < 4294967296 → d < 4294967296
    → Accepted s (correct p c ∷ correct q d ∷ []) → Accepted s (correct q d ∷ correct p c ∷ [])
    → held_after s (correct p c ∷ correct q d ∷ []) ≡ held_after s (correct q d ∷ correct p c ∷ [])

-- two corrections of one pixel, and the second alone
abbrev pub SecondDecides : Type 0
SecondDecides =
    (s : State) → OfBytes s → (p c d : ℕ) → c < 4294967296 → d < 4294967296
    → Accepted s (correct p c ∷ correct p d ∷ []) → Accepted s (correct p d ∷ [])
    → held_after s (correct p c ∷ correct p d ∷ []) ≡ held_after s (correct p d ∷ [])

-- Accepted corrections and then as many accepted withdrawals leave the bytes before them all.
abbrev pub AllTakenBack : Type 0
AllTakenBack =
    (s : State) → OfBytes s → (xs : List Correction) → AllCounted (corrections xs)
    → (let cs = corrections xs ++ withdrawals (length xs) in Accepted s cs → held_after s cs ≡ s.held)

-- a correction taken back
abbrev pub TakenBack : Type 0
TakenBack =
    (s : State) → OfBytes s → (p c : ℕ) → c < 4294967296
    → (let cs = correct p c ∷ withdraw ∷ [] in Accepted s cs → held_after s cs ≡ s.held)
