pub mod PanelStore
pub mod Panels
pub mod Reason
pub mod Seven
pub mod Shape
pub mod Slices
pub mod Told
