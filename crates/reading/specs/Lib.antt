pub mod Syntax
pub mod Grammar
pub mod Items
pub mod Rules
pub mod Resolve
pub mod Reading
