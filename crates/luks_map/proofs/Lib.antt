mod ColumnFacts
mod OrderFacts
mod LineFacts
mod RowFacts
mod UnderwayFacts
