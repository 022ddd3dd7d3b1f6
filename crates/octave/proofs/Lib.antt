pub mod Octave
pub mod PairSums
pub mod BandSums
pub mod Sixtyfour
