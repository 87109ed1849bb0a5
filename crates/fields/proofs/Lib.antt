pub mod Examples
pub mod Fits
pub mod Read
