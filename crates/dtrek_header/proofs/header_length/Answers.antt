use Rattle.std.proofs.Common.{ap, ◌∙◌, take}
use Rattle.numeral.specs.Numerals.{number_of}
use Rattle.dtrek_text.proofs.Compare.{pointwise-flip}
use Rattle.dtrek_header.specs.Length.{opening, length_from}
use Rattle.dtrek_header.proofs.Laws.{length-short, length-open, length-other, length-shown}
use Rattle.dtrek_header.proofs.header_length.Goals as goal

pub returns-then-file-lt21 : goal.returns-then-file-lt21
returns-then-file-lt21 c = length-short _ c.if-file-lt21.true

pub returns-then-file-ne59 : goal.returns-then-file-ne59
returns-then-file-ne59 c = length-open _ c.if-file-ne59.true

pub returns-then-starts_with : goal.returns-then-starts_with
returns-then-starts_with c =
    c.length_from.ensures
    ∙ ap length_from (c.number_of.ensures ∙ ap number_of c.trim.ensures)
    ∙ length-shown c.args.file.now (c.starts_with.ensures.value ∙ pointwise-flip (take 15 c.args.file.now) opening) c.if-starts_with.true c.if-file-ne59.false

pub returns-else-starts_with : goal.returns-else-starts_with
returns-else-starts_with c = length-other c.args.file.now (c.starts_with.ensures.value ∙ pointwise-flip (take 15 c.args.file.now) opening) c.if-starts_with.false
