pub mod Answers
pub mod Archive
pub mod FileBills
pub mod Refusing
