use Rattle.luks_keeping.proofs.CompareFacts.{places_within}
use Rattle.luks_keeping.proofs.outline.read_outline.Goals as goal

pub returns-in-Ok-clause-within : goal.returns-in-Ok-clause-within
returns-in-Ok-clause-within g c = record {
  inside = places_within c.in-Ok.header c.outline_of.result.places c.outline_of.ensures.laid (g.D.Device.size c.accepted_header.new.device) c.in-Ok.ensures.within;
}

pub returns-in-Ok-clause-read : goal.returns-in-Ok-clause-read
returns-in-Ok-clause-read g c = λ tells. record { header = c.in-Ok.header; is_header = c.in-Ok.ensures.read tells; is = c.outline_of.ensures }
