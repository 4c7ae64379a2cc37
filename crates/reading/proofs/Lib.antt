pub mod TokenKinds
pub mod Mapped
