use Rattle.std.proofs.Common.{◌∙◌, le-ltb}
use Rattle.pixel_counts.specs.Counts.{counted}
use Rattle.writer.proofs.Gathering.{plain-counts}
use Rattle.writer.proofs.Placing.{plain-is}
use Rattle.writer.proofs.Storage.count_pixels.Goals as goal

pub returns-then-is_plain : goal.returns-then-is_plain
returns-then-is_plain c = let p = plain-is c.args.self.form.width c.args.self.form.underflow c.is_plain.result c.is_plain.ensures c.if-is_plain.true in c.no_counts.ensures ∙ plain-counts _ _ p.0 p.1

pub returns : goal.returns
unfolding counted
returns c = rw (le-ltb _ _ c.requires.0) at c.count.ensures
