pub mod Books
pub mod Changes
pub mod Standing
pub mod Promise
