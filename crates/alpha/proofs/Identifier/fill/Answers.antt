-- `alpha::Identifier::fill` meets its contract: by the coding.
-- Assumes nothing.
use native.Mathlib.Omega.{arith}
use Rattle.alpha.proofs.Bodies.{plain_long, plain_sound, plain_laid, escaped_fills, escaped_laid, pairs_long, pairs_laid, based_fills, based_laid}
use Rattle.alpha.proofs.Identifier.fill.Goals as goal

pub fill_plain-requires : goal.fill_plain-requires
fill_plain-requires c = (
  plain_sound _ _ c.self.view_is c.self.invariant _ c.in-Plain.is,
  omega (arith, plain_long _ _ c.self.view_is c.self.invariant _ c.in-Plain.is, c.requires),
)

pub fill_escaped-requires : goal.fill_escaped-requires
fill_escaped-requires c = escaped_fills _ _ c.self.view_is c.self.invariant _ _ c.in-Escaped.is _ c.requires

pub fill_pairs-requires : goal.fill_pairs-requires
fill_pairs-requires c = omega (arith, pairs_long _ _ c.self.view_is c.self.invariant _ c.in-Pairs.is, c.requires)

pub fill_based-requires : goal.fill_based-requires
fill_based-requires c = based_fills _ _ c.self.view_is c.self.invariant _ _ c.in-Based.is _ c.requires

pub returns-in-Plain : goal.returns-in-Plain
returns-in-Plain c = plain_laid _ _ c.self.view_is c.self.invariant _ c.in-Plain.is _ _ c.fill_plain.ensures

pub returns-in-Escaped : goal.returns-in-Escaped
returns-in-Escaped c = escaped_laid _ _ c.self.view_is c.self.invariant _ _ c.in-Escaped.is _ _ c.fill_escaped.ensures

pub returns-in-Pairs : goal.returns-in-Pairs
returns-in-Pairs c = pairs_laid _ _ c.self.view_is c.self.invariant _ c.in-Pairs.is _ _ c.fill_pairs.ensures

pub returns-in-Based : goal.returns-in-Based
returns-in-Based c = based_laid _ _ c.self.view_is c.self.invariant _ _ c.in-Based.is _ _ c.fill_based.ensures
