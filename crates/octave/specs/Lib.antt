pub mod Octave
pub mod Inner
