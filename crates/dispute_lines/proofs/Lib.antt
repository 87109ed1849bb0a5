pub mod Lines
pub mod Fields
pub mod RoundTrip
pub mod Replies
