pub mod Goes
pub mod Puts
pub mod Pages
pub mod Parts
pub mod Settling
pub mod Written
