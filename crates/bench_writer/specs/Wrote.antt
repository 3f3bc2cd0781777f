-- What a writer leaves in a lent buffer, and the front of a command's frame.
use Rattle.std.specs.Prelude.{ℕ, ◌+◌, ◌≤◌, ◌≡◌, List, [], ◌∷◌, ◌++◌, length}
use Rattle.rules.specs.Frames.{length_bytes}
use Rattle.octets.specs.Parts.{pasted}
use Rattle.bench_writer.specs.declared.Record.{Record}

-- the most bytes that the objects of the values take
abbrev pub body_cap : ℕ
body_cap = 244

-- the bytes s stand from `at` up to `end`, the others are as they were
pub record Wrote (s : List ℕ) (at end : ℕ) (before after : List ℕ) : Type 0 where
  pub room : at + length s ≤ length before
  pub behind : end ≡ at + length s
  pub lent : after ≡ pasted before at s

-- D0, a length, and the objects 01 and 02, which so many bytes follow
unfoldable pub front_bytes : Record → ℕ → ℕ → List ℕ
front_bytes r kind size =
    0xD0 ∷
    length_bytes (9 + size) ++
    (0x81 ∷ 0x03 ∷ r.number ∷ kind ∷ r.qualifier ∷ 0x82 ∷ 0x02 ∷ r.source.0 ∷ r.destination.0 ∷ [])
