mod RecordFacts
mod ToldFacts
