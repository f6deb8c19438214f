use Rattle.std.specs.Prelude.{Ok}
use Rattle.std.proofs.Common.{true, false, ap, le-ltb, lt-ltb}
use Rattle.writer.proofs.Whole.{judged, large_is}
use Rattle.writer.proofs.Storage.write_form.Goals as goal

pub returns-then-underflow_too_large : goal.returns-then-underflow_too_large
returns-then-underflow_too_large c = let t = large_is c.args.self.form c.args.self.base c.args.pixels.now c.underflow_too_large.result true c.underflow_too_large.ensures c.if-underflow_too_large.true in record { value = rw t; out_after = rw t }

pub returns-then-out-end : goal.returns-then-out-end
returns-then-out-end c = let t = large_is c.args.self.form c.args.self.base c.args.pixels.now c.underflow_too_large.result false c.underflow_too_large.ensures c.if-underflow_too_large.false in
    let j = judged c.args.header.now c.args.self.form c.args.self.base c.args.pixels.now c.count_pixels-c.result c.places_for-at.result c.padded_bytes.result c.requires.0.long c.requires.1 c.count_pixels-c.ensures c.places_for-at.ensures.value c.padded_bytes.ensures.value in
    let o = lt-ltb _ _ (rw j.end at c.if-out-end.true) in record { value = rw (t, o); out_after = rw (t, o) }

pub store_frame-requires : goal.store_frame-requires
store_frame-requires c = let j = judged c.args.header.now c.args.self.form c.args.self.base c.args.pixels.now c.count_pixels-c.result c.places_for-at.result c.padded_bytes.result c.requires.0.long c.requires.1 c.count_pixels-c.ensures c.places_for-at.ensures.value c.padded_bytes.ensures.value in
    (c.requires.0.long, c.requires.1, j.counts, j.places, rw (← j.whole) c.if-out-end.false, c.requires.0.low)

pub returns : goal.returns
returns c = let t = large_is c.args.self.form c.args.self.base c.args.pixels.now c.underflow_too_large.result false c.underflow_too_large.ensures c.if-underflow_too_large.false in
    let j = judged c.args.header.now c.args.self.form c.args.self.base c.args.pixels.now c.count_pixels-c.result c.places_for-at.result c.padded_bytes.result c.requires.0.long c.requires.1 c.count_pixels-c.ensures c.places_for-at.ensures.value c.padded_bytes.ensures.value in
    let o = le-ltb _ _ (rw j.end at c.if-out-end.false) in record { value = rw (t, o) (ap Ok j.end); out_after = rw (t, o) c.store_frame.ensures }
