pub mod shared
mod Rows
mod RowValues
mod RowSteps
mod RowClosing
mod RowsEdits
mod RowsLimits
mod RowReach
mod RowSwaps
mod RowsRotation
mod RowsViews
mod RowsPinned
mod RowsBounds
