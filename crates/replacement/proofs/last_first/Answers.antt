use native.Mathlib.Omega.{arith}
use lib.ListN.{length}
use Rattle.replacement.specs.Replaced.{last_first}
use Rattle.replacement.proofs.Numbers.{last_says}
use Rattle.replacement.proofs.last_first.Goals as goal

pub len_then-under-requires : goal.len_then-under-requires
len_then-under-requires c = let a = c.args in let g = last_says (length a.held.now) a.s a.u a.t a.f c.requires in omega arith

pub len_then-two-requires : goal.len_then-two-requires
len_then-two-requires c = let a = c.args in let g = last_says (length a.held.now) a.s a.u a.t a.f c.requires in omega arith

pub len_now-two_now-requires : goal.len_now-two_now-requires
len_now-two_now-requires c = let a = c.args in let g = last_says (length a.held.now) a.s a.u a.t a.f c.requires in (omega arith, omega arith, omega arith)

pub len_now-four_now-requires : goal.len_now-four_now-requires
len_now-four_now-requires c = let a = c.args in let g = last_says (length a.held.now) a.s a.u a.t a.f c.requires in (omega arith, omega arith, omega arith)

pub overflow_add-s : goal.overflow_add-s
overflow_add-s c = let a = c.args in let g = last_says (length a.held.now) a.s a.u a.t a.f c.requires in omega arith

pub overflow_add-s-2 : goal.overflow_add-s-2
overflow_add-s-2 c = let a = c.args in let g = last_says (length a.held.now) a.s a.u a.t a.f c.requires in omega arith

pub edit-requires : goal.edit-requires
edit-requires c = cc

pub overflow_add-s-3 : goal.overflow_add-s-3
overflow_add-s-3 c = let a = c.args in let g = last_says (length a.held.now) a.s a.u a.t a.f c.requires in omega arith

pub edit-requires-2 : goal.edit-requires-2
edit-requires-2 c = cc

pub overflow_add-two_now : goal.overflow_add-two_now
overflow_add-two_now c = let a = c.args in let g = last_says (length a.held.now) a.s a.u a.t a.f c.requires in omega arith

pub edit-requires-3 : goal.edit-requires-3
edit-requires-3 c = cc

pub returns : goal.returns
unfolding last_first
returns c = cc
