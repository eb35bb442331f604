pub mod Placed
pub mod Draft
pub mod Sheet
