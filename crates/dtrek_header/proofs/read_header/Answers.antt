use Rattle.std.proofs.Common.{◌≡◌, sym, ◌∙◌, arith, rules, length, Some, None}
use borrow.Author.Tests.{lt-ltb, le-ltb}
use Rattle.dtrek_header.proofs.Laws.{length-listed}
use Rattle.dtrek_header.specs.DtrekHeader.{dtrek_header}
use Rattle.dtrek_header.proofs.read_header.Goals as goal

pub returns-in_err-n : goal.returns-in_err-n
unfolding dtrek_header
returns-in_err-n c =
    let n : c.header_length.result ≡ None = grind arith in
    rw (← c.header_length.ensures, n) (search rules)

pub returns-in-None : goal.returns-in-None
unfolding dtrek_header
returns-in-None c =
    let n : c.header_length.result ≡ Some c.in_ok-n.n = grind arith in
    let l = length-listed _ (sym n ∙ c.header_length.ensures) in
    rw (← c.header_length.ensures, n, lt-ltb (length c.args.file.now) c.in_ok-n.n (omega (arith, l.low, c.in-None.ensures.lookup.0)))

pub read_text-requires : goal.read_text-requires
read_text-requires c =
    let n : c.header_length.result ≡ Some c.in_ok-n.n = grind arith in
    let l = length-listed _ (sym n ∙ c.header_length.ensures) in
    omega (arith, l.high, c.in-Some.ensures.lookup.0)

pub returns-in-Some : goal.returns-in-Some
unfolding dtrek_header
returns-in-Some c =
    let n : c.header_length.result ≡ Some c.in_ok-n.n = grind arith in
    rw (← c.header_length.ensures, n, le-ltb (length c.args.file.now) c.in_ok-n.n (omega (arith, c.in-Some.ensures.lookup.0)), ← c.in-Some.ensures.lookup.0.2) c.read_text.ensures
