mod PartsFacts
mod RefusalFacts
mod FloatFacts
