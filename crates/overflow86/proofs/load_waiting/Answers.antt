use mathlib.Core.Path.{refl}
use Rattle.overflow86.proofs.Laws.{loaded}
use Rattle.overflow86.proofs.load_waiting.Goals as goal

pub load_marks-requires : goal.load_marks-requires
load_marks-requires c = rw c.in-One.is at c.requires

pub load_marks-requires-in-Two : goal.load_marks-requires-in-Two
load_marks-requires-in-Two c = rw c.in-Two.is at c.requires

pub returns-in-One : goal.returns-in-One
returns-in-One c = record { value = rw c.in-One.is (c.load_marks.ensures.value); pixels_after = rw c.in-One.is (c.load_marks.ensures.pixels_after) }

pub returns-in-Two : goal.returns-in-Two
returns-in-Two c = record { value = rw c.in-Two.is (c.load_marks-in-Two.ensures.value); pixels_after = rw c.in-Two.is (c.load_marks-in-Two.ensures.pixels_after) }

pub returns-in-Four : goal.returns-in-Four
returns-in-Four c = let e = c.in-Four.is in
    let p = rw e at c.requires in record { value = rw e (refl); pixels_after = rw e (loaded _ _ _ _ _ p c.load.ensures.out_after) }
