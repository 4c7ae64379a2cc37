-- Reading accepts exactly the texts whose tokens derive a tree, and the tree has its events in the order of the text.
pub mod Laws
pub mod Sound
pub mod Complete
pub mod Exact
pub mod Order
