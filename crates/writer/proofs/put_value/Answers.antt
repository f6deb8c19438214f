use Rattle.writer.proofs.put_value.Goals as goal

pub put_value1-requires : goal.put_value1-requires
put_value1-requires c = rw c.in-One.is at c.requires

pub put_value2-requires : goal.put_value2-requires
put_value2-requires c = rw c.in-Two.is at c.requires

pub put_value4-requires : goal.put_value4-requires
put_value4-requires c = rw c.in-Four.is at c.requires

pub returns-in-One : goal.returns-in-One
returns-in-One c = record { value = rw c.in-One.is (c.put_value1.ensures.value); out_after = rw c.in-One.is (c.put_value1.ensures.out_after) }

pub returns-in-Two : goal.returns-in-Two
returns-in-Two c = record { value = rw c.in-Two.is (c.put_value2.ensures.value); out_after = rw c.in-Two.is (c.put_value2.ensures.out_after) }

pub returns-in-Four : goal.returns-in-Four
returns-in-Four c = record { value = rw c.in-Four.is (c.put_value4.ensures.value); out_after = rw c.in-Four.is (c.put_value4.ensures.out_after) }
