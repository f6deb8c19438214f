use mathlib.Core.Path.{◌≡◌, sym, ap, ◌∙◌}
use mathlib.Core.Bool.{true, false}
use lib.Dec.{ltb}
use lib.ListN.{length}
use borrow.Author.Tests.{lt-ltb, le-ltb}
use Rattle.writer.specs.Storing.{stored_for}
use Rattle.replacement.specs.Replaced.{length_with}
use Rattle.replacement.specs.Replace.{meets}
use Rattle.replacement.specs.Answered.{too_large, length_after, placed_answer, placed_bytes}
use Rattle.replacement.proofs.Placed.{placed-own, placed-few}
use Rattle.replacement.proofs.replace_at.Goals as goal

pub returns-then-not-is_met : goal.returns-then-not-is_met
unfolding placed_answer placed_bytes
returns-then-not-is_met c = let a = c.args in
    let m : meets a.expected a.place.old ≡ false = sym c.is_met.ensures ∙ c.if-not-is_met.true in record { value = rw m; held_after = rw m }

pub returns-then-too_large : goal.returns-then-too_large
unfolding placed_answer placed_bytes stored_for
returns-then-too_large c = let a = c.args in
    let m : meets a.expected a.place.old ≡ true = sym c.is_met.ensures ∙ c.if-not-is_met.false in
    let l : too_large a.place a.count ≡ true = sym c.too_large.ensures ∙ c.if-too_large.true in record { value = rw (m, l); held_after = rw (m, l) }

pub entries_after-after-requires : goal.entries_after-after-requires
entries_after-after-requires c = let s = c in record { place_bound = placed-own s.args.held.now s.args.place s.args.pixel s.requires; under_bound = placed-few s.args.held.now s.args.place s.args.pixel s.requires }

pub returns-then-held-length_with : goal.returns-then-held-length_with
unfolding placed_answer placed_bytes stored_for
returns-then-held-length_with c = let a = c.args in
    let m : meets a.expected a.place.old ≡ true = sym c.is_met.ensures ∙ c.if-not-is_met.false in
    let l : too_large a.place a.count ≡ false = sym c.too_large.ensures ∙ c.if-too_large.false in
    let n : c.length_with.result ≡ length_after a.place a.count = c.length_with.ensures ∙ ap (length_with a.place) c.entries_after-after.ensures in
    let k : ltb (length a.held.now) (length_after a.place a.count) ≡ true = lt-ltb _ _ (rw n at c.if-held-length_with.true) in record { value = rw (m, l, k); held_after = rw (m, l, k) }

pub put_pixel-requires : goal.put_pixel-requires
put_pixel-requires c = let a = c.args in
    let n : c.length_with.result ≡ length_after a.place a.count = c.length_with.ensures ∙ ap (length_with a.place) c.entries_after-after.ensures in
    (c.entries_after-after.ensures, c.requires, rw n at c.if-held-length_with.false)

pub returns : goal.returns
unfolding placed_answer placed_bytes stored_for
returns c = let a = c.args in
    let m : meets a.expected a.place.old ≡ true = sym c.is_met.ensures ∙ c.if-not-is_met.false in
    let l : too_large a.place a.count ≡ false = sym c.too_large.ensures ∙ c.if-too_large.false in
    let n : c.length_with.result ≡ length_after a.place a.count = c.length_with.ensures ∙ ap (length_with a.place) c.entries_after-after.ensures in
    let k : ltb (length a.held.now) (length_after a.place a.count) ≡ false = le-ltb _ _ (rw n at c.if-held-length_with.false) in record { value = rw (m, l, k); held_after = rw (m, l, k) c.put_pixel.ensures }
