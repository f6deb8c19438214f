use mathlib.Core.Path.{sym, ◌∙◌}
use Rattle.ledger.proofs.Scanning.{survey-malformed}
use Rattle.archive.specs.Changes.{last_line}
use Rattle.archive.proofs.Changes.{surveyed}
use Rattle.archive.proofs.last_line.Goals as goal

pub returns-in_default : goal.returns-in_default
unfolding last_line
returns-in_default c = rw (survey-malformed _ _ (sym c.survey.ensures ∙ c.in_default.is), c.held_refusal.ensures)

pub returns-in_default-last : goal.returns-in_default-last
unfolding last_line
returns-in_default-last c = let s = surveyed _ _ _ (sym c.survey.ensures ∙ c.in-Some.is) in rw (s.0, ← s.1, c.in_default-last.is, c.held_refusal-in_default-last.ensures)

pub returns : goal.returns
unfolding last_line
returns c = let s = surveyed _ _ _ (sym c.survey.ensures ∙ c.in-Some.is) in rw (s.0, ← s.1, c.in-Some-last.is)
