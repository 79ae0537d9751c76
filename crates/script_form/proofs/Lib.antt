mod ByteWords
pub mod Calls
pub mod Cuts
pub mod Numbers
pub mod Right
pub mod Order
pub mod Said
pub mod LineMore
pub mod Scripts
pub mod Servable
pub mod Shapes
pub mod Waits
pub mod Finding
pub mod Fitting
pub mod Stores
