-- Tags of three bytes, as they are written and read.
-- Assumes nothing.
use Prim.Native.Nat.{ℕ, ◌+◌, ◌*◌, ◌/◌, ◌%◌, ◌≤◌}
use mathlib.Core.Path.{◌≡◌, ◌∙◌}
use mathlib.Core.Bool.{Bool, true, false}
use mathlib.Core.List.{List, ◌++◌}
use native.Mathlib.Omega.{arith}
use borrow.Author.Tests.{le-leb, lt-leb, ne_eqb}
use Rattle.rules.specs.Checks.{◌⇒◌else◌}
use Rattle.rules.specs.Frames.{tag, long_tag, tag_at}
use Rattle.rules.specs.TagForms.{long_tag_bytes}
use Rattle.rules.proofs.Laws.{skip}

-- a tag in three bytes is read as it was written
pub long_back : (n : ℕ) (f : Bool) (s : List ℕ) → 1 ≤ n → n ≤ 32767 → tag_at (long_tag_bytes n f ++ s) ≡ tag n f s
unfolding long_tag_bytes tag_at long_tag ◌⇒◌else◌
long_back n true s l h =
    let e : 256 * ((n / 256 + 0x80) % 0x80) + n % 256 ≡ n = omega arith in
    skip _ _ _ (ne_eqb (256 * ((n / 256 + 0x80) % 0x80) + n % 256) 0 (omega arith)) ∙ (λ i. tag (e i) (le-leb 0x80 (n / 256 + 0x80) (omega arith) i) s)
long_back n false s l h =
    let e : 256 * (n / 256 % 0x80) + n % 256 ≡ n = omega arith in
    skip _ _ _ (ne_eqb (256 * (n / 256 % 0x80) + n % 256) 0 (omega arith)) ∙ (λ i. tag (e i) (lt-leb 0x80 (n / 256) (omega arith) i) s)
