pub mod BehindZerosFacts
pub mod EndFacts
pub mod SizeFacts
pub mod ThoseFacts
pub mod NotedFacts
pub mod RefusalFacts
mod UnboundFacts
mod UntypableFacts
mod MovedFacts
