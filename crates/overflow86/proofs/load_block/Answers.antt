use Rattle.std.proofs.Common.{ap, ◌∙◌, map}
use Rattle.marks.specs.Steps.{count_of}
use Rattle.overflow86.specs.Steps.{waiting_if}
use Rattle.overflow86.proofs.Laws.{loaded}
use Rattle.overflow86.proofs.Blocks.{unmarked, any-counted}
use Rattle.overflow86.proofs.load_block.Goals as goal

pub returns-then-holds : goal.returns-then-holds
returns-then-holds c =
    let a = c.await_entries.ensures in
    let e = loaded _ _ _ _ _ c.requires c.load.ensures.out_after in
    record { value = a.value ∙ ap (count_of c.args.mark) e; pixels_after = a.pixels_after ∙ ap (map (waiting_if c.args.mark)) e }

pub returns-else-holds : goal.returns-else-holds
returns-else-holds c =
    let e = unmarked c.args.mark _ _ _ (loaded _ _ _ _ _ c.requires c.load.ensures.out_after) (c.holds.ensures ∙ any-counted c.args.mark _) c.if-holds.false in
    record { value = e.0; pixels_after = e.1 }
