pub mod Reading
mod SideBySide
mod Fronts
