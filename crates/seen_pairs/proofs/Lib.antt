pub mod CounterLaws
pub mod SeatLaws
pub mod BankPairLaws
pub mod PairLaws
