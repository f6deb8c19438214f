use Rattle.std.proofs.Common.{◌+◌, ◌-◌, ◌%◌, arith}
use Rattle.writer.proofs.Runs.{outside-is}
use Rattle.writer.proofs.is_outside.Goals as goal

pub returns : goal.returns
returns c = outside-is c.args.v c.args.k.low c.args.k.span ((c.args.v + (4294967296 - c.args.k.low)) % 4294967296) (omega arith) (omega arith) c.requires
