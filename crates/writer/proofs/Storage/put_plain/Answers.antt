use Rattle.std.proofs.Common.{arith}
use Rattle.writer.proofs.Runs.{run_room, run-places, run-put}
use Rattle.writer.proofs.Storage.put_plain.Goals as goal

pub overflow_mul-image : goal.overflow_mul-image
overflow_mul-image c = let p = rw (← c.width_bytes.ensures) at (run_room c.args.self.form c.args.self.base c.requires.1 c.requires.2 c.args.run.now c.args.at _ c.requires.3) in omega arith

pub overflow_add-image : goal.overflow_add-image
overflow_add-image c = let p = rw (← c.width_bytes.ensures) at (run_room c.args.self.form c.args.self.base c.requires.1 c.requires.2 c.args.run.now c.args.at _ c.requires.3) in omega arith

pub put_run-requires : goal.put_run-requires
put_run-requires c = run_room c.args.self.form c.args.self.base c.requires.1 c.requires.2 c.args.run.now c.args.at _ c.requires.3

pub returns : goal.returns
returns c = let a = c.args in
    let p = c.requires in record { value = rw c.width_bytes.ensures (run-places a.self.form a.self.base p.1 p.2 a.run.now a.at p.0); out_after = run-put a.self.form a.self.base p.1 p.2 a.run.now a.out.now _ a.at p.0 c.put_run.ensures }
