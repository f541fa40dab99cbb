pub mod Setting
pub mod Serving
pub mod Paging
pub mod Renewing
pub mod Located
pub mod Taking
