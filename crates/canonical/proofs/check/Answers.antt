use Rattle.canonical.proofs.Frames.{by-refused, by-format86, by-format100, header-low}
use Rattle.canonical.proofs.check.Goals as goal

pub returns-in_default : goal.returns-in_default
returns-in_default c = by-refused c.args.held.now c.args.pixel c.read_header.ensures c.in_default.is

pub returns-in_default-tables : goal.returns-in_default-tables
returns-in_default-tables c = by-format86 c.args.held.now c.args.pixel c.read_header.ensures c.in-Ok.is c.in_default-tables.is

pub check_tables-requires : goal.check_tables-requires
check_tables-requires c = header-low c.args.held.now c.args.pixel c.read_header.ensures c.in-Ok.is c.in-Format100.is

pub returns : goal.returns
returns c = by-format100 c.args.held.now c.args.pixel c.read_header.ensures c.in-Ok.is c.in-Format100.is c.check_tables.ensures
