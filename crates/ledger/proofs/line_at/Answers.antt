use Rattle.std.proofs.Common.{◌≡◌, ◌<◌, ◌≤◌, ◌/◌, length, List, ℕ, [], sym, ap, ◌∙◌}
use Rattle.ledger.specs.Lines.{line_from, bytes_at}
use Rattle.ledger.proofs.LineLaws.{chunk-is, length-line-bytes, line-whole, line-short, number-read}
use native.Mathlib.Omega.{arith}
use Rattle.ledger.proofs.line_at.Goals as goal

pub returns-in_err-get : goal.returns-in_err-get
returns-in_err-get c =
    let h : length c.args.ledger.now / 16 ≤ c.args.index = omega (arith, c.in_err-get.ensures.lookup, c.as_chunks.ensures.front_len) in
    c.from_residual.ensures ∙ sym (line-short _ _ h)

pub returns : goal.returns
returns c =
    let t : List ℕ = c.args.ledger.now in
    let a = c.in_ok-get.ensures.lookup in
    let h : c.args.index < length t / 16 = omega (arith, a.3.0, c.as_chunks.ensures.front_len) in
    let e : c.in_ok-get.field-0.now ≡ bytes_at t c.args.index = a.3.1 [] ∙ rw c.as_chunks.ensures.front (chunk-is (length t / 16) c.args.index t h) in
    c.line_from.ensures ∙ ap line_from (c.from_be_bytes.ensures ∙ rw e (number-read (bytes_at t c.args.index) (length-line-bytes t c.args.index h))) ∙ sym (line-whole t c.args.index h)
