-- Words that stand in a table.
pub mod Stands
-- Names in packed rows; parties with a clause.
pub mod Packing
pub mod PartyClauses
-- The round trip.
pub mod Lengths
pub mod Sections
pub mod Levels
pub mod ReadBack
pub mod RoundTrip
-- An encoded table passes.
pub mod Regions
pub mod Formed
pub mod Passing
-- A table that passes holds a contract that fits.
pub mod Inversions
pub mod Held
pub mod Blocks
pub mod Members
pub mod Sound
