pub mod PackedWhole
pub mod AllBelow
pub mod Verbs
pub mod Down
