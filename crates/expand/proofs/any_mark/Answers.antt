use Rattle.expand.proofs.Steps.{no, none_of}
use Rattle.expand.proofs.Loops.{any-counted}
use Rattle.std.proofs.Common.{sym, ◌∙◌}
use Rattle.expand.proofs.any_mark.Goals as goal

pub returns-then-applies : goal.returns-then-applies
returns-then-applies c = λ e. record {
  no-255 = none_of 255 _ c.holds.result (c.holds.ensures ∙ any-counted _ _) c.if-holds.false;
  no-0 = λ t. none_of 0 _ c.holds-then-applies.result (c.holds-then-applies.ensures ∙ any-counted _ _) e;
}

pub returns-else-applies : goal.returns-else-applies
returns-else-applies c = λ e. record {
  no-255 = none_of 255 _ c.holds.result (c.holds.ensures ∙ any-counted _ _) c.if-holds.false;
  no-0 = λ t. absurd (no (sym t ∙ e));
}
