pub mod Values
mod ScanLeft
mod ReadLeft
mod CopyLeft
mod LayLeft
