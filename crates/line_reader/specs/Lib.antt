pub mod InsideLineReader
