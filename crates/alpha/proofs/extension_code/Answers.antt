-- `alpha::extension_code` meets its contract: unit by unit, and none of them.
-- Assumes nothing.
use borrow.Author.Tests.{ne_eqb}
use Rattle.rules.specs.Checks.{◌⇒◌else◌}
use Rattle.alpha.specs.Alphabet.{extensions, extension_code_among, extension_code_of}
use Rattle.alpha.specs.Passes.{told}
use Rattle.alpha.proofs.extension_code.Goals as goal

pub returns-in-12 : goal.returns-in-12
unfolding extensions extension_code_among extension_code_of told ◌⇒◌else◌
returns-in-12 c = rw c.in-12.is

pub returns-in-94 : goal.returns-in-94
unfolding extensions extension_code_among extension_code_of told ◌⇒◌else◌
returns-in-94 c = rw c.in-94.is

pub returns-in-123 : goal.returns-in-123
unfolding extensions extension_code_among extension_code_of told ◌⇒◌else◌
returns-in-123 c = rw c.in-123.is

pub returns-in-125 : goal.returns-in-125
unfolding extensions extension_code_among extension_code_of told ◌⇒◌else◌
returns-in-125 c = rw c.in-125.is

pub returns-in-92 : goal.returns-in-92
unfolding extensions extension_code_among extension_code_of told ◌⇒◌else◌
returns-in-92 c = rw c.in-92.is

pub returns-in-91 : goal.returns-in-91
unfolding extensions extension_code_among extension_code_of told ◌⇒◌else◌
returns-in-91 c = rw c.in-91.is

pub returns-in-126 : goal.returns-in-126
unfolding extensions extension_code_among extension_code_of told ◌⇒◌else◌
returns-in-126 c = rw c.in-126.is

pub returns-in-93 : goal.returns-in-93
unfolding extensions extension_code_among extension_code_of told ◌⇒◌else◌
returns-in-93 c = rw c.in-93.is

pub returns-in-124 : goal.returns-in-124
unfolding extensions extension_code_among extension_code_of told ◌⇒◌else◌
returns-in-124 c = rw c.in-124.is

pub returns-in-8364 : goal.returns-in-8364
unfolding extensions extension_code_among extension_code_of told ◌⇒◌else◌
returns-in-8364 c = rw c.in-8364.is

pub returns-in_default : goal.returns-in_default
unfolding extensions extension_code_among extension_code_of told ◌⇒◌else◌
returns-in_default c = rw (
  ne_eqb c.args.unit 0x0C c.in_default.in_default-own.rest.0.0.0.0.0.0.0.0.0.1,
  ne_eqb c.args.unit 0x5E c.in_default.in_default-own.rest.0.0.0.0.0.0.0.0.1,
  ne_eqb c.args.unit 0x7B c.in_default.in_default-own.rest.0.0.0.0.0.0.0.1,
  ne_eqb c.args.unit 0x7D c.in_default.in_default-own.rest.0.0.0.0.0.0.1,
  ne_eqb c.args.unit 0x5C c.in_default.in_default-own.rest.0.0.0.0.0.1,
  ne_eqb c.args.unit 0x5B c.in_default.in_default-own.rest.0.0.0.0.1,
  ne_eqb c.args.unit 0x7E c.in_default.in_default-own.rest.0.0.0.1,
  ne_eqb c.args.unit 0x5D c.in_default.in_default-own.rest.0.0.1,
  ne_eqb c.args.unit 0x7C c.in_default.in_default-own.rest.0.1,
  ne_eqb c.args.unit 0x20AC c.in_default.in_default-own.rest.1,
)
