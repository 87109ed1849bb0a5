pub mod Answers
pub mod FindLaws
pub mod HeldLaws
pub mod Meaning
pub mod SoundLaws
pub mod TotalsLaws
