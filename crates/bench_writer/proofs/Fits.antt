-- The checks of a record: from where to where, a bearer, and how many bytes the values take.
-- Assumes nothing.
use Prim.Native.Nat.{ℕ, ◌+◌, ◌≤◌}
use mathlib.Core.Path.{◌≡◌, refl, ap}
use mathlib.Core.Bool.{true}
use mathlib.Core.List.{List, [], ◌∷◌}
use native.Mathlib.Omega.{arith}
use lib.ListN.{length, length-append}
use Rattle.std.proofs.lemmas.Bool.Decides.{nat_tests}
use lib.Dec.{leb}
use borrow.Author.Tests.{le-leb, ne_eqb, eqb-true, leb-true}
use Rattle.std.specs.Prelude.{Option, Some, None}
use Rattle.rules.specs.Checks.{◌⇒◌else◌}
use Rattle.rules.specs.Results.{value_cap}
use Rattle.rules.specs.Frames.{length_bytes, object_bytes, written}
use Rattle.rules.specs.Written.{flagged, pair_bytes}
use Rattle.rules.specs.Bench.{bearer_proper, body_proper, transport_objects, body_objects}
use Rattle.rules.proofs.Sizes.{length_bytes_lem}
use Rattle.rules.proofs.Words.{bearer_sized}
use Rattle.rules.proofs.Laws.{checks, either, both_right}
use Rattle.bench_writer.specs.declared.Level.{Level}
use Rattle.bench_writer.specs.declared.Asking.{Asking}
use Rattle.bench_writer.specs.declared.Asking.TheVariants.{Bare, EventList, Open, Close, Receive, Send}
use Rattle.bench_writer.specs.Records.{level_of, body_of}
use Rattle.bench_writer.specs.Wrote.{body_cap}
use Rattle.bench_writer.proofs.Writes.{front_room, behind_bearer, opening_form}

-- a proper bearer has at most six parameters
pub few_parameters : (kind : ℕ) (s : List ℕ) → bearer_proper (record { kind = kind; parameters = s }) ≡ true → length s ≤ 6
few_parameters kind s e = let b = bearer_sized kind s in grind (arith, nat_tests)

-- the size of no object, of an object alone, of one of one byte, and of those of an OPEN CHANNEL
pub nothing_size : length (written []) ≡ 0
unfolding written
nothing_size = refl

pub byte_size : (n b : ℕ) → length (written (flagged n (b ∷ []) ∷ [])) ≡ 3
unfolding written object_bytes length_bytes ◌⇒◌else◌
byte_size n b = refl

pub value_size : (n : ℕ) (v : List ℕ) → 1 + length (length_bytes (length v)) + length v ≡ length (written (flagged n v ∷ []))
unfolding written object_bytes
value_size n v = simp length-append (omega arith)

pub opening_size :
    (kind size : ℕ) (level : Option Level) (s : List ℕ) → length s ≤ 6 →
    7 + length s + length (written (transport_objects (level_of level))) ≡ length (written (body_objects (body_of (Open kind size level) s)))
unfolding object_bytes length_bytes pair_bytes ◌⇒◌else◌
opening_size kind size level s h =
    let e = ap length (opening_form kind size level s h) in
    let l = length-append s (behind_bearer size level) in
    omega arith

pub level_sized : (l : Option Level) → length (written (transport_objects (level_of l))) ≤ 5
unfolding written object_bytes length_bytes pair_bytes transport_objects level_of ◌⇒◌else◌
level_sized None = omega arith
level_sized (Some l) = omega arith

pub ruleset sizes = (few_parameters, nothing_size, byte_size, value_size, opening_size, level_sized, leb-true)

value_sized : (n : ℕ) (v : List ℕ) → leb (length v) value_cap ≡ true → length (written (flagged n v ∷ [])) ≤ body_cap
value_sized n v e = let l = length_bytes_lem (length v) in omega (arith, value_size n v, leb-true (length v) value_cap e)

-- values that the bench writes take at most so many bytes
pub body_sized : (a : Asking) (s : List ℕ) → body_proper (body_of a s) ≡ true → length (written (body_objects (body_of a s))) ≤ body_cap
unfolding body_proper body_objects body_of written
body_sized (Bare kind) s e = omega arith
body_sized EventList s e = value_sized 0x19 s e
body_sized (Open kind size level) s e =
    let b = few_parameters kind s e in
    let l = level_sized level in
    omega (arith, opening_size kind size level s b)
body_sized Close s e = omega arith
body_sized (Receive n) s e = value_sized 0x37 (n ∷ []) (le-leb 1 value_cap (omega arith))
body_sized Send s e = value_sized 0x36 s e

-- what the writer's own goals need
pub ruleset calls = (checks, body_sized, front_room)
