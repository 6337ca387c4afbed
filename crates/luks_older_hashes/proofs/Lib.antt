pub mod Ripemd160DigestFacts
pub mod Ripemd160HoldingFacts
pub mod Ripemd160LineFacts
pub mod WhirlpoolDigestFacts
pub mod WhirlpoolHoldingFacts
pub mod WhirlpoolSboxFacts
pub mod WhirlpoolStateFacts
