-- What a reader of the calls over words may want: a voice crosses as words and comes back.
pub mod Crossing
pub mod Returning
