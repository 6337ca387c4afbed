pub mod Ripemd160Holding
pub mod Ripemd160
pub mod WhirlpoolHolding
pub mod Whirlpool
