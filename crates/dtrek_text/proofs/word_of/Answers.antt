use Rattle.dtrek_text.proofs.Words.{word-no-line, word_none, word-ends, word-other, word-found}
use Rattle.dtrek_text.proofs.word_of.Goals as goal
use Rattle.dtrek_text.proofs.word_of.Goals.{else-start-end-via-then-start-end+then-end-p+else-p-end-eq61, else-start-end-via-then-start-end+else-end-p, else-start-end-via-else-start-end}

pub returns-then-not-on_new_line : goal.returns-then-not-on_new_line
returns-then-not-on_new_line c = word-no-line _ c.on_new_line.ensures c.if-not-on_new_line.true

pub returns-then-p-end-eq61 : goal.returns-then-p-end-eq61
returns-then-p-end-eq61 c = word-found _ c.on_new_line.ensures c.if-not-on_new_line.false c.run-start.ensures c.run_end-end.ensures c.if-start-end.true c.if-p-end-eq61.true

pub returns-else-start-end : goal.returns-else-start-end
returns-else-start-end c = elim c.else-start-end.branch [
  | else-start-end-via-then-start-end+then-end-p+else-p-end-eq61 w ↦ word-other _ c.on_new_line.ensures c.if-not-on_new_line.false c.run-start.ensures c.run_end-end.ensures w.if-p-end-eq61.false
  | else-start-end-via-then-start-end+else-end-p w ↦ word-ends _ c.on_new_line.ensures c.if-not-on_new_line.false c.run-start.ensures c.run_end-end.ensures w.if-end-p.false
  | else-start-end-via-else-start-end w ↦ word_none _ c.on_new_line.ensures c.if-not-on_new_line.false c.run-start.ensures c.run_end-end.ensures w.if-start-end.false
]
