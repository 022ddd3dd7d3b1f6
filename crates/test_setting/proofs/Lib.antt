-- What a reader of the orders may want: their rates are exact, and none is refused for its rate or count.
pub mod Rates
