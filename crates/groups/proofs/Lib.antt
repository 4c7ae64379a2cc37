-- First names after some moves; how many groups begin below a number.
pub mod Joining
pub mod Numbering
-- The code: turns of loops, what each node joins, which numbers are names.
pub mod Loops
pub mod Walking
pub mod Naming
-- The numbers of names, and the groups of a contract that fits.
pub mod NameOrder
pub mod NamesAlone
pub mod Grouped
-- The code: the groups' numbers in one pass.
pub mod Counting
