pub mod DotSums
