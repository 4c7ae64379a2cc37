pub mod Decimal
pub mod Pieces
