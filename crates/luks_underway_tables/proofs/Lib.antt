mod Least
mod PartFacts
mod Places
