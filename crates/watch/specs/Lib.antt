pub mod Running
pub mod Examples
pub mod Watched
pub mod Rising
pub mod Later
