-- Document 01, "Numbers given back", and the requests of document 02: the number of each refusal, and the value that goes with it.
use Rattle.std.specs.Prelude.{ℕ, Result, Ok, Err}
use Rattle.refusal.specs.declared.Refusal.{Refusal}
use Rattle.refusal.specs.declared.Refusal.TheVariants as R
use Rattle.refusal.specs.declared.Code.{Code}

abbrev pub refusal_number : Refusal → ℕ
-- fewer than 240 bytes, or than the header takes (d*TREK: the latter alone); mar: not one whole record
refusal_number R.HeaderTruncated = 1
-- a name of lines 0 to 2
refusal_number R.WrongName = 2
-- a field is missing or no such number
refusal_number (R.BadField line) = 3
-- FORMAT, VERSION and HDRBLKS outside the list
refusal_number R.UnknownFormat = 4
refusal_number R.UnknownVersion = 5
refusal_number R.BadHeaderBlocks = 6
-- a needed line is misnamed or ends past the header
refusal_number R.BadLine = 7
-- a width, the rows, the columns or the baseline outside the list
refusal_number R.OutOfRange = 8
-- LINEAR is not 1 and 0
refusal_number R.NotLinear = 9
-- fewer places than pixels
refusal_number R.PixelArrayShort = 10
-- the image or a table ends past the bytes
refusal_number R.DataTruncated = 11
refusal_number R.PaddingNotZero = 12
-- an entry of FORMAT 86, or a high-intensity pair
refusal_number (R.BadEntry entry) = 13
-- tables not used up, or entries wanting
refusal_number R.CountMismatch = 14
-- a pixel and the baseline do not fit 32 bits together
refusal_number R.SumTooLarge = 15
-- the header allows no frame of this form
refusal_number R.FormUnavailable = 16
-- an underflow entry does not fit its width
refusal_number R.UnderflowTooLarge = 17
-- the frame is longer than the buffer
refusal_number R.OutputShort = 18
-- the held buffer is no frame of the writer's
refusal_number R.HeldNotCanonical = 19
refusal_number R.LedgerMalformed = 20
refusal_number R.LedgerFull = 21
refusal_number R.NothingStands = 22
-- the pixel is not the line's new count
refusal_number R.PixelDiffers = 23
refusal_number R.NoSuchPixel = 24
refusal_number R.NotADate = 25
-- purge: no keep line stands; not yet
refusal_number R.NoKeepLine = 26
refusal_number R.NotYet = 27
-- mar: no such size; numbers that do not follow from the first and the fifth
refusal_number R.BadPlateSize = 28
refusal_number R.PlateMismatch = 29
-- chunks: the underflow buffer is shorter than the entries
refusal_number R.UnderflowBufferShort = 30
-- amend: what stands last is a keep date
refusal_number R.LastIsKeep = 31
-- d*TREK: the header's start or length; its syntax; a required keyword; a type or compression that is not read
refusal_number R.BadHeaderStart = 32
refusal_number R.BadSyntax = 33
refusal_number R.BadContent = 34
refusal_number R.UnsupportedData = 35
-- tenths: fewer doubles than pixels
refusal_number R.TenthsArrayShort = 36
-- mar: no such header entry
refusal_number R.NoSuchEntry = 37
-- chunks: the header buffer is too short
refusal_number R.HeaderBufferShort = 38

-- the header line of a field, the place of an entry, counted from 0; 0 for every other refusal
abbrev pub refusal_place : Refusal → ℕ
refusal_place R.HeaderTruncated = 0
refusal_place R.WrongName = 0
refusal_place (R.BadField line) = line
refusal_place R.UnknownFormat = 0
refusal_place R.UnknownVersion = 0
refusal_place R.BadHeaderBlocks = 0
refusal_place R.BadLine = 0
refusal_place R.OutOfRange = 0
refusal_place R.NotLinear = 0
refusal_place R.PixelArrayShort = 0
refusal_place R.DataTruncated = 0
refusal_place R.PaddingNotZero = 0
refusal_place (R.BadEntry entry) = entry
refusal_place R.CountMismatch = 0
refusal_place R.SumTooLarge = 0
refusal_place R.FormUnavailable = 0
refusal_place R.UnderflowTooLarge = 0
refusal_place R.OutputShort = 0
refusal_place R.HeldNotCanonical = 0
refusal_place R.LedgerMalformed = 0
refusal_place R.LedgerFull = 0
refusal_place R.NothingStands = 0
refusal_place R.PixelDiffers = 0
refusal_place R.NoSuchPixel = 0
refusal_place R.NotADate = 0
refusal_place R.NoKeepLine = 0
refusal_place R.NotYet = 0
refusal_place R.BadPlateSize = 0
refusal_place R.PlateMismatch = 0
refusal_place R.UnderflowBufferShort = 0
refusal_place R.LastIsKeep = 0
refusal_place R.BadHeaderStart = 0
refusal_place R.BadSyntax = 0
refusal_place R.BadContent = 0
refusal_place R.UnsupportedData = 0
refusal_place R.TenthsArrayShort = 0
refusal_place R.NoSuchEntry = 0
refusal_place R.HeaderBufferShort = 0

-- a refusal as its number and its value
abbrev pub code_of : Refusal → Code
code_of r = record { number = refusal_number r; place = refusal_place r }

-- the refusal of an answer that is one; elsewhere it stands for nothing
abbrev pub refusal_of : {A : Type 0} → Result A Refusal → Refusal
refusal_of (Ok a) = R.OutOfRange
refusal_of (Err r) = r
