use native.Mathlib.Omega.{arith}
use lib.ListN.{length}
use Rattle.replacement.specs.Replaced.{first_first}
use Rattle.replacement.proofs.Numbers.{first_says}
use Rattle.replacement.proofs.first_first.Goals as goal

pub len_then-two-requires : goal.len_then-two-requires
len_then-two-requires c = let a = c.args in let g = first_says (length a.held.now) a.s a.u a.t a.f c.requires in omega arith

pub len_then-four-requires : goal.len_then-four-requires
len_then-four-requires c = let a = c.args in let g = first_says (length a.held.now) a.s a.u a.t a.f c.requires in omega arith

pub len_now-under_now-requires : goal.len_now-under_now-requires
len_now-under_now-requires c = let a = c.args in let g = first_says (length a.held.now) a.s a.u a.t a.f c.requires in (omega arith, omega arith, omega arith)

pub len_now-two_now-requires : goal.len_now-two_now-requires
len_now-two_now-requires c = let a = c.args in let g = first_says (length a.held.now) a.s a.u a.t a.f c.requires in (omega arith, omega arith, omega arith)

pub overflow_add-two : goal.overflow_add-two
overflow_add-two c = let a = c.args in let g = first_says (length a.held.now) a.s a.u a.t a.f c.requires in omega arith

pub edit-requires : goal.edit-requires
edit-requires c = cc

pub overflow_add-s : goal.overflow_add-s
overflow_add-s c = let a = c.args in let g = first_says (length a.held.now) a.s a.u a.t a.f c.requires in omega arith

pub edit-requires-2 : goal.edit-requires-2
edit-requires-2 c = cc

pub overflow_add-s-2 : goal.overflow_add-s-2
overflow_add-s-2 c = let a = c.args in let g = first_says (length a.held.now) a.s a.u a.t a.f c.requires in omega arith

pub overflow_add-s-3 : goal.overflow_add-s-3
overflow_add-s-3 c = let a = c.args in let g = first_says (length a.held.now) a.s a.u a.t a.f c.requires in omega arith

pub edit-requires-3 : goal.edit-requires-3
edit-requires-3 c = cc

pub returns : goal.returns
unfolding first_first
returns c = cc
