pub mod InsideSaid
