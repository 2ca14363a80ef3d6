pub mod OwnHost
pub mod Pages
