use Rattle.std.proofs.Common.{◌≡◌, ◌<◌, ◌/◌, ◌-◌, length, ℕ, sym, ◌∙◌}
use native.Mathlib.Omega.{arith}
use Rattle.ledger.specs.Lines.{line_from, line_of, bytes_at}
use Rattle.ledger.proofs.LineLaws.{held-line}
use Rattle.ledger.proofs.Scanning.{surveying-start, surveying-bad, surveying-more, surveying-over, surveying-done, skip-small, count_small, survey-refused, claimed-more}
use Rattle.ledger.proofs.survey_for.Goals as goal

pub returns-in_err-held : goal.returns-in_err-held
returns-in_err-held c =
    let h : length c.args.ledger.now / 16 < c.args.lines = omega (arith, c.in_err-held.ensures.lookup, c.as_chunks.ensures.front_len) in
    c.from_residual.ensures ∙ survey-refused _ _ _ (claimed-more _ _ h)

pub loop-i-init : goal.loop-i-init
loop-i-init c =
    let e : length c.in_ok-held.held.now ≡ c.args.lines = omega (arith, c.in_ok-held.ensures.lookup.0.3) in
    rw e (surveying-start _ _ _)

pub returns-in_err-line : goal.returns-in_err-line
returns-in_err-line c =
    let f = c.loop-i.invariant in
    let h = c.in_ok-held.ensures.lookup.0 in
    let j : ℕ = c.loop-i.i - 1 in
    let read : line_of (bytes_at c.args.ledger.now j) ≡ line_from c.from_be_bytes.result =
    held-line _ c.args.lines j _ _ _ c.as_chunks.ensures.front h.2 (omega (arith, h, c.as_chunks.ensures.front_len)) (omega (arith, f.upto)) c.from_be_bytes.ensures in
    c.from_residual-in_err-line.ensures ∙ survey-refused _ _ _ (surveying-bad f j (omega arith) (read ∙ sym c.in_err-line.ensures))

pub scan_back-s-requires : goal.scan_back-s-requires
scan_back-s-requires c = let f = c.loop-i.invariant in (omega (arith, skip-small f), omega (arith, count_small f))

pub loop-i-preserved : goal.loop-i-preserved
loop-i-preserved c =
    let f = c.loop-i.invariant in
    let h = c.in_ok-held.ensures.lookup.0 in
    let j : ℕ = c.loop-i.i - 1 in
    let read : line_of (bytes_at c.args.ledger.now j) ≡ line_from c.from_be_bytes.result =
    held-line _ c.args.lines j _ _ _ c.as_chunks.ensures.front h.2 (omega (arith, h, c.as_chunks.ensures.front_len)) (omega (arith, f.upto)) c.from_be_bytes.ensures in
    surveying-more f j _ _ (omega arith) (read ∙ sym c.in_ok-line.ensures) c.scan_back-s.ensures

pub returns-then-s-gt0 : goal.returns-then-s-gt0
returns-then-s-gt0 c =
    survey-refused _ _ _ (surveying-over c.loop-i.invariant (omega arith) (omega (arith, c.in_ok-held.ensures.lookup.0, c.as_chunks.ensures.front_len)) c.if-s-gt0.true)

pub returns : goal.returns
returns c =
    rw (c.found_at.ensures, c.found_at-2.ensures)
    (surveying-done c.loop-i.invariant (omega arith) (omega (arith, c.in_ok-held.ensures.lookup.0, c.as_chunks.ensures.front_len)) c.if-s-gt0.false)
