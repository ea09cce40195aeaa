pub mod Figures
pub mod Demands
pub mod Program
pub mod Former
pub mod LogFrames
pub mod Leaflet
pub mod Live
pub mod Limits
