-- The values of a record, as the code tells them.
use Rattle.std.specs.Prelude.{◌≡◌, Option, Some, None}
use Rattle.std.proofs.Math.Option as math
use Rattle.std.proofs.Math.Option.{none, some}
use Rattle.rules.specs.Reading.{Body}
use Rattle.bench_writer.specs.Records.{body_of}
use Rattle.bench.specs.declared.Values.{Values}

-- what is asked, with the bytes that are lent beside it
abbrev pub Asks : Option Values → math.Option Body → Type 0
Asks (Some v) b = b ≡ some (body_of v.asking v.bytes.now)
Asks None b = b ≡ none
