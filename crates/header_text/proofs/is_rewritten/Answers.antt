use Rattle.std.proofs.Common.{refl, ◌∙◌}
use Rattle.header_lines.specs.declared.LineId.TheVariants as I
use Rattle.header_text.proofs.Lines.{line-judged, written-other, written-first}
use Rattle.header_text.proofs.is_rewritten.Goals as goal

pub returns-then-is_noverfl : goal.returns-then-is_noverfl
returns-then-is_noverfl c = written-first _ _ _ _ _ c.if-header-lt3200.false (line-judged I.Noverfl _ _ _ _ _ c.data_start-noverfl.ensures refl c.is_noverfl.ensures) c.if-is_noverfl.true
    (line-judged I.Npixelb _ _ _ _ _ c.data_start-npixelb.ensures refl c.is_npixelb.ensures)

pub returns-else-is_noverfl : goal.returns-else-is_noverfl
returns-else-is_noverfl c =
    c.if-is_noverfl.false ∙ written-other _ _ _ _ c.if-header-lt3200.false (line-judged I.Noverfl _ _ _ _ _ c.data_start-noverfl.ensures refl c.is_noverfl.ensures) c.if-is_noverfl.false
