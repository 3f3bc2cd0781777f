-- The results that a type can have.
-- Assumes nothing.
use Prim.Native.Nat.{ℕ}
use mathlib.Core.Path.{◌≡◌, refl, sym, ap, ◌∙◌}
use mathlib.Core.Bool.{true, false, true≢false}
use mathlib.Core.List.{List, [], ◌∷◌}
use borrow.Author.Tests.{ne_eqb}
use native.Mathlib.Omega.{arith}
use Rattle.std.proofs.lemmas.Bool.Decides.{nat_tests}
use lib.Dec.{eqb}
use Rattle.rules.specs.Checks.{◌⇒◌else◌, member, some_of}
use Rattle.rules.specs.Table.{known, table}
use Rattle.rules.specs.Bench.{cause_proper, success_proper}
use Rattle.rules.proofs.Laws.{checks}

-- a type that is none of the table's has no cause
pub other_type : (t k : ℕ) → known k ≡ true → known t ≡ false → eqb t k ≡ false
other_type t k e f = ne_eqb t k (λ q. true≢false (sym e ∙ ap known (sym q) ∙ f))

pub no_cause : (t c : ℕ) → known t ≡ false → cause_proper t c ≡ false
unfolding cause_proper known table member some_of ◌⇒◌else◌
no_cause t c f = rw (other_type t 0x40 refl f, other_type t 0x41 refl f, other_type t 0x42 refl f, other_type t 0x43 refl f)

pub ruleset causes = (checks, no_cause)

-- a result that is no success
abbrev pub successes : List ℕ
successes = 0x00 ∷ 0x01 ∷ 0x02 ∷ 0x07 ∷ []

pub no_success : (t r : ℕ) → member r successes ≡ false → success_proper t r ≡ false
unfolding success_proper member some_of ◌⇒◌else◌
no_success t r e = grind (arith, nat_tests)
