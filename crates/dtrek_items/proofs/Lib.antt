mod Ordering
mod Inserting
mod Keeping
mod Noting
