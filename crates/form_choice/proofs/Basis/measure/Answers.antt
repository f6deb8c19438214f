use Rattle.std.proofs.Common.{ℕ, ap, arith}
use Rattle.std.specs.Prelude.{Ok, Result}
use Rattle.layout.proofs.Laws.{bytes_le, underflow-small}
use Rattle.refusal.specs.declared.Refusal.{Refusal}
use Rattle.pixel_counts.specs.Counts.{counts_for}
use Rattle.form_choice.specs.declared.Chosen.{Chosen}
use Rattle.form_choice.specs.Choosing.{form_chosen}
use Rattle.form_choice.specs.Lengths.{length_by, measured}
use Rattle.form_choice.proofs.Tables.{under_same, overflow-small}
use Rattle.form_choice.proofs.Basis.measure.Goals as goal

pub overflow_add-length-2 : goal.overflow_add-length-2
overflow_add-length-2 c = rw (c.width_bytes.ensures, c.underflow_table_bytes-under.ensures) (omega (arith, bytes_le c.args.self.now.n c.args.form.width, underflow-small c.args.form.underflow c.args.c.under (omega arith)))

pub overflow_add-length-3 : goal.overflow_add-length-3
overflow_add-length-3 c = rw (c.width_bytes.ensures, c.underflow_table_bytes-under.ensures, c.overflow_bytes.ensures) (omega (arith, bytes_le c.args.self.now.n c.args.form.width, underflow-small c.args.form.underflow c.args.c.under (omega arith), overflow-small c.args.form.width c.args.c.two c.args.c.four (omega arith) (omega arith)))

pub returns : goal.returns
unfolding measured length_by counts_for
returns c = let made : ℕ → Result Chosen Refusal = λ n. Ok (form_chosen c.args.form n) in
    rw (c.width_bytes.ensures, c.underflow_table_bytes-under.ensures, c.overflow_bytes.ensures, under_same c.args.form.underflow c.args.c.under)
    (ap made (omega arith))
