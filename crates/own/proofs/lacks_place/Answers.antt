-- `own::lacks_place` meets its contract: each test of the definition.
-- Assumes nothing.
use Rattle.own.proofs.Sends.{lacks_none, lacks_joins, lacks_last}
use Rattle.own.proofs.lacks_place.Goals as goal

pub returns-then-bytes-lt1 : goal.returns-then-bytes-lt1
returns-then-bytes-lt1 c = lacks_none _ _ _ c.requires.0 _ c.requires.1 c.args.bytes.now c.if-bytes-lt1.true

pub returns-then-c : goal.returns-then-c
returns-then-c c = lacks_joins _ _ _ c.requires.0 _ c.requires.1 c.args.bytes.now c.if-c.true

pub returns : goal.returns
returns c = lacks_last _ _ _ c.requires.0 _ c.requires.1 c.args.bytes.now _ c.if-bytes-lt1.false c.if-c.false c.is_crowded.ensures
