use Rattle.writer.proofs.store_values.Goals as goal

pub store_one-requires : goal.store_one-requires
store_one-requires c = rw c.in-One.is at c.requires

pub store_two-requires : goal.store_two-requires
store_two-requires c = rw c.in-Two.is at c.requires

pub store_four-requires : goal.store_four-requires
store_four-requires c = rw c.in-Four.is at c.requires.1

pub returns-in-One : goal.returns-in-One
returns-in-One c = record { value = rw c.in-One.is (c.store_one.ensures.value); out_after = rw c.in-One.is (c.store_one.ensures.out_after) }

pub returns-in-Two : goal.returns-in-Two
returns-in-Two c = record { value = rw c.in-Two.is (c.store_two.ensures.value); out_after = rw c.in-Two.is (c.store_two.ensures.out_after) }

pub returns-in-Four : goal.returns-in-Four
returns-in-Four c = record { value = rw c.in-Four.is (c.store_four.ensures.value); out_after = rw c.in-Four.is (c.store_four.ensures.out_after) }
