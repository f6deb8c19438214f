use Rattle.std.proofs.Common.{◌≡◌, ℕ, ◌≤◌, List, length, true, arith, Err}
use Rattle.dtrek_items.specs.declared.ItemsError.{ItemsError}
use Rattle.dtrek_items.specs.declared.ItemsError.TheVariants.{Malformed, TooLong}
use Rattle.dtrek_items.specs.Survey.{is_malformed, Surveyed}
use Rattle.dtrek_header.specs.DtrekHeader.{header_in}
use Rattle.dtrek_header.proofs.read_text.Goals as goal

-- a text of up to 99,840 bytes is not too long
malformed : (text : List ℕ) (e : ItemsError) → length text ≤ 99840 → Surveyed text (Err e) → is_malformed text ≡ true
malformed text Malformed h s = s
malformed text TooLong h s = absurd (omega arith)

pub returns-in-Ok : goal.returns-in-Ok
unfolding header_in
returns-in-Ok c = let q = c.in-Ok.ensures in rw q.formed c.read_items.ensures

pub returns-in-Err : goal.returns-in-Err
unfolding header_in
returns-in-Err c = rw (malformed c.args.text.now c.in-Err.field-0 c.requires c.in-Err.ensures)
