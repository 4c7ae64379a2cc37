-- How long lines and pages are; what a payout says.
pub mod Widths
-- Lists cut into sixties, and pages into lines.
pub mod Cuts
-- The entries that lent lists give.
pub mod Given
-- Question 61, and one result line gathered, as the code goes about them.
pub mod Asking
pub mod Noting
-- Lines put together from their pieces.
pub mod Assembled
-- A page composed of its lines.
pub mod Composed
-- What holds of the definitions.
pub mod Filling
pub mod Gathers
