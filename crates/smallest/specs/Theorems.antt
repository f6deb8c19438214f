-- Document 02, A14: what is proved of the choice, for every header and pixel array.
use Rattle.form_choice.specs.Choosing.{form_chosen}
use Rattle.std.specs.Prelude.{ℕ, ◌≤◌, ◌<◌, ◌≡◌, List, length, Err, Ok, Some}
use Rattle.refusal.specs.declared.Refusal.{Refusal}
use Rattle.refusal.specs.declared.Refusal.TheVariants as R
use Rattle.refusal.specs.Codes.{refusal_number}
use Rattle.layout.specs.declared.Width.TheVariants as W
use Rattle.layout.specs.declared.EntryWidth.{EntryWidth}
use Rattle.layout.specs.declared.Underflow.TheVariants as U
use Rattle.layout.specs.declared.Tables.TheVariants as T
use Rattle.layout.specs.declared.Form.{Form}
use Rattle.layout.specs.declared.Header.{Header}
use Rattle.layout.specs.Form.{form_of}
use Rattle.layout.specs.Layout.{pixel_count}
use Rattle.header.specs.Header.{header_of}
use Rattle.writer.specs.Writer.{frame, write_answer}
use Rattle.form_choice.specs.Choosing.{rank}
use Rattle.smallest.specs.Smallest.{made_in, smallest_form, form_in, foretold}

-- a frame that the writer makes in a form has at least so many bytes
abbrev pub NoShorter : List ℕ → List ℕ → ℕ → Form → Type 0
NoShorter given pixels n g = (b : List ℕ) → made_in given pixels g ≡ frame b → n ≤ length b

-- What the answer of a form and a length says.
pub record SmallestForm (given pixels : List ℕ) (f : Form) (n : ℕ) : Type 0 where
  -- the writer makes a frame in that form, of that length
  pub made-frame : List ℕ
  pub made : made_in given pixels f ≡ frame made-frame
  pub length-is : n ≡ length made-frame
  -- no accepted form is shorter, and an accepted one of that length is not preferred
  pub no-shorter : (g : Form) → NoShorter given pixels n g
  pub first : (g : Form) (b : List ℕ) → made_in given pixels g ≡ frame b → length b ≡ n → rank f ≤ rank g

abbrev pub Smallest : Type 0
Smallest = (given pixels : List ℕ) (f : Form) (n : ℕ) → smallest_form given pixels ≡ Ok (form_chosen f n) → SmallestForm given pixels f n

-- the length foretold is the length written: in the form chosen the writer answers so, whatever room it has
abbrev pub Foretold : Type 0
Foretold = (given pixels : List ℕ) (room : ℕ) → write_answer given (Some (form_in (smallest_form given pixels))) pixels room ≡ foretold room (smallest_form given pixels)

-- Why there is no form: the header's own refusal, too few pixels, or FORMAT 86.
pub data Reason (given pixels : List ℕ) : Refusal → Type 0 where
  by-header : {r : Refusal} → header_of given ≡ Err r → Reason given pixels r
  too_few : (h : Header) → header_of given ≡ Ok h → length pixels < pixel_count h.image → Reason given pixels R.PixelArrayShort
  format-86 : (h : Header) (n : ℕ) → header_of given ≡ Ok h → h.tables ≡ T.Format86 n → Reason given pixels R.FormUnavailable

-- The numbers of those refusals: 1 to 10, and 16. So neither 17 nor 18 is answered.
pub data Due : ℕ → Type 0 where
  low : {n : ℕ} → n ≤ 10 → Due n
  unavailable : Due 16

-- What a refusal says: no form is accepted, and why.
pub record NoForm (given pixels : List ℕ) (r : Refusal) : Type 0 where
  pub none : (g : Form) (b : List ℕ) → made_in given pixels g ≡ frame b → ⊥
  pub reason : Reason given pixels r
  pub number : Due (refusal_number r)

abbrev pub RefusedExactly : Type 0
RefusedExactly = (given pixels : List ℕ) (r : Refusal) → smallest_form given pixels ≡ Err r → NoForm given pixels r

-- Width 4 with a baseline is never chosen: kind none has no table, so it is no longer, and it is preferred. So seven of the nine forms can be.
abbrev pub SevenForms : Type 0
SevenForms = (given pixels : List ℕ) (e : EntryWidth) (n : ℕ) → smallest_form given pixels ≡ Ok (form_chosen (form_of W.Four (U.Subtracted e)) n) → ⊥
