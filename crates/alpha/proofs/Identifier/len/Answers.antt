-- `alpha::Identifier::len` meets its contract: by the coding.
-- Assumes nothing.
use Rattle.alpha.proofs.Bodies.{plain_long, escaped_long, pairs_long, based_long}
use Rattle.alpha.proofs.Identifier.len.Goals as goal

pub returns-in-Plain : goal.returns-in-Plain
returns-in-Plain c = plain_long _ _ c.self.view_is c.self.invariant _ c.in-Plain.is

pub returns-in-Escaped : goal.returns-in-Escaped
returns-in-Escaped c = escaped_long _ _ c.self.view_is c.self.invariant _ _ c.in-Escaped.is

pub returns-in-Pairs : goal.returns-in-Pairs
returns-in-Pairs c = pairs_long _ _ c.self.view_is c.self.invariant _ c.in-Pairs.is

pub returns-in-Based : goal.returns-in-Based
returns-in-Based c = based_long _ _ c.self.view_is c.self.invariant _ _ c.in-Based.is
