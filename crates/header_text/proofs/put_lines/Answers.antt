use mathlib.Core.Path.{refl, ap, ◌∙◌}
use Rattle.header_lines.specs.declared.LineId.TheVariants as I
use Rattle.header_text.specs.Text.{npixelb_data, with_data, relined}
use Rattle.header_text.proofs.Cells.{line-put}
use Rattle.header_text.proofs.put_lines.Goals as goal

pub returns : goal.returns
unfolding relined
returns c = line-put I.Npixelb _ _ _ _ _ c.data_start-npixelb.ensures refl c.put_npixelb.ensures
    ∙ ap (with_data I.Npixelb (npixelb_data c.args.form))
    (line-put I.Noverfl _ _ _ _ _ c.data_start-noverfl.ensures refl c.put_noverfl.ensures)
