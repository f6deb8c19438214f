use Rattle.dtrek_items.proofs.note_all.Goals as goal

pub returns : goal.returns
returns c = rw (← c.note.ensures, ← c.note-2.ensures, ← c.note-3.ensures, ← c.note-4.ensures, ← c.note-5.ensures, ← c.note-6.ensures)
