pub mod Lists
pub mod Ranking
pub mod Walks
pub mod Laws
