-- `alpha::extension` meets its contract: code by code, and none of them.
-- Assumes nothing.
use borrow.Author.Tests.{ne_eqb}
use Rattle.rules.specs.Checks.{◌⇒◌else◌}
use Rattle.alpha.specs.Alphabet.{extensions, extension_among, extension_unit}
use Rattle.alpha.specs.Passes.{told}
use Rattle.alpha.proofs.extension.Goals as goal

pub returns-in-10 : goal.returns-in-10
unfolding extensions extension_among extension_unit told ◌⇒◌else◌
returns-in-10 c = rw c.in-10.is

pub returns-in-20 : goal.returns-in-20
unfolding extensions extension_among extension_unit told ◌⇒◌else◌
returns-in-20 c = rw c.in-20.is

pub returns-in-40 : goal.returns-in-40
unfolding extensions extension_among extension_unit told ◌⇒◌else◌
returns-in-40 c = rw c.in-40.is

pub returns-in-41 : goal.returns-in-41
unfolding extensions extension_among extension_unit told ◌⇒◌else◌
returns-in-41 c = rw c.in-41.is

pub returns-in-47 : goal.returns-in-47
unfolding extensions extension_among extension_unit told ◌⇒◌else◌
returns-in-47 c = rw c.in-47.is

pub returns-in-60 : goal.returns-in-60
unfolding extensions extension_among extension_unit told ◌⇒◌else◌
returns-in-60 c = rw c.in-60.is

pub returns-in-61 : goal.returns-in-61
unfolding extensions extension_among extension_unit told ◌⇒◌else◌
returns-in-61 c = rw c.in-61.is

pub returns-in-62 : goal.returns-in-62
unfolding extensions extension_among extension_unit told ◌⇒◌else◌
returns-in-62 c = rw c.in-62.is

pub returns-in-64 : goal.returns-in-64
unfolding extensions extension_among extension_unit told ◌⇒◌else◌
returns-in-64 c = rw c.in-64.is

pub returns-in-101 : goal.returns-in-101
unfolding extensions extension_among extension_unit told ◌⇒◌else◌
returns-in-101 c = rw c.in-101.is

pub returns-in_default : goal.returns-in_default
unfolding extensions extension_among extension_unit told ◌⇒◌else◌
returns-in_default c = rw (
  ne_eqb c.args.code 0x0A c.in_default.in_default-own.rest.0.0.0.0.0.0.0.0.0.1,
  ne_eqb c.args.code 0x14 c.in_default.in_default-own.rest.0.0.0.0.0.0.0.0.1,
  ne_eqb c.args.code 0x28 c.in_default.in_default-own.rest.0.0.0.0.0.0.0.1,
  ne_eqb c.args.code 0x29 c.in_default.in_default-own.rest.0.0.0.0.0.0.1,
  ne_eqb c.args.code 0x2F c.in_default.in_default-own.rest.0.0.0.0.0.1,
  ne_eqb c.args.code 0x3C c.in_default.in_default-own.rest.0.0.0.0.1,
  ne_eqb c.args.code 0x3D c.in_default.in_default-own.rest.0.0.0.1,
  ne_eqb c.args.code 0x3E c.in_default.in_default-own.rest.0.0.1,
  ne_eqb c.args.code 0x40 c.in_default.in_default-own.rest.0.1,
  ne_eqb c.args.code 0x65 c.in_default.in_default-own.rest.1,
)
