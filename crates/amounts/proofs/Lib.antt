pub mod Before
pub mod Laws
pub mod Points
pub mod Powers
pub mod Sayings
pub mod Shape
pub mod Signs
pub mod Units
