pub mod Puts
pub mod ReadBack
