-- A line gathered from chunks.
use Rattle.std.specs.Prelude.{ℕ, ◌+◌, ◌≡◌, Option, Some, None, List, length}
use Rattle.rules.specs.Checks.{◌⇒◌else◌, member}
use Rattle.octets.specs.Parts.{pasted}
use Rattle.flow.specs.Flow.{piece, fitting}
use Rattle.flow.specs.declared.Pending.{Pending}

-- a chunk was read, up to its first line feed or its end
pub record LineReads (t : Option ℕ) (before : Pending) (chunk : List ℕ) (after : Pending) : Type 0 where
  pub kept : after.bytes ≡ pasted before.bytes before.len (fitting before.len chunk)
  pub len : after.len ≡ before.len + length (fitting before.len chunk)
  pub taken : t ≡ (member 10 chunk ⇒ Some (length (piece chunk)) else None)
