pub mod Names
pub mod Results
pub mod Views
