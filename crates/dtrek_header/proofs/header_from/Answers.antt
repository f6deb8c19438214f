use Rattle.dtrek_header.proofs.header_from.Goals as goal

pub returns : goal.returns
returns c = rw (c.order_of.ensures, c.width_of.ensures, c.count_of-2.ensures, c.count_of.ensures)
