pub mod Ranking
pub mod Inner
