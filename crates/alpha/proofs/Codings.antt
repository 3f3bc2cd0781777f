-- The codings of units, unit by unit: what stands in front of the rest, and how long they are.
-- Assumes nothing.
use Prim.Native.Nat.{ℕ, suc, ◌+◌, ◌*◌, ◌/◌, ◌%◌, ◌≤◌, ◌<◌}
use mathlib.Core.Path.{◌≡◌, refl, sym, ap, ◌∙◌}
use mathlib.Core.Bool.{true, false, false≢true}
use mathlib.Core.List.{List, [], ◌∷◌, ◌++◌}
use mathlib.Core.Option.{Option, none, some}
use native.Mathlib.Omega.{arith}
use lib.ListN.{length}
use borrow.Author.Tests.{lt-ltb, le-ltb}
use Rattle.rules.proofs.Laws.{stop, skip}
use Rattle.text.specs.Frames.{readable, frame_bytes}
use Rattle.alpha.specs.Alphabet.{escape, code_of, extension_code_of}
use Rattle.alpha.specs.Writes.{before, default_extended, default_bytes, default_before, default_coding, pair_bytes, pair_coding, is_none, needs, based_bytes, block_with, base_with, shorter, first_or}

-- a unit needs the pointer where it has no code
pub needs_none : (u : ℕ) → code_of u ≡ none → needs u ≡ true
unfolding needs is_none
needs_none u e = ap is_none e

pub needs_some : (u c : ℕ) → code_of u ≡ some c → needs u ≡ false
unfolding needs is_none
needs_some u c e = ap is_none e

-- bytes in front of a coding
pub before_there : (s : List ℕ) (o : Option (List ℕ)) → readable (before s o) ≡ readable o
unfolding before readable
before_there s none = refl
before_there s (some t) = refl

pub before_bytes : (s : List ℕ) (o : Option (List ℕ)) → readable o ≡ true → frame_bytes (before s o) ≡ s ++ frame_bytes o
unfolding before readable frame_bytes
before_bytes s none e = absurd (false≢true e)
before_bytes s (some t) e = refl

-- the default alphabet: a code, an extension character, or neither
module _ (u : ℕ) (us : List ℕ) where
  pub coding_plain : (c : ℕ) → code_of u ≡ some c → default_coding (u ∷ us) ≡ before (c ∷ []) (default_coding us)
  unfolding default_coding default_bytes default_before
  coding_plain c e = ap (λ (o : Option ℕ). default_before (default_bytes o (extension_code_of u)) (default_coding us)) e

  without : code_of u ≡ none → default_coding (u ∷ us) ≡ default_before (default_extended (extension_code_of u)) (default_coding us)
  unfolding default_coding default_bytes
  without e = ap (λ (o : Option ℕ). default_before (default_bytes o (extension_code_of u)) (default_coding us)) e

  pub coding_extended : (c : ℕ) → code_of u ≡ none → extension_code_of u ≡ some c → default_coding (u ∷ us) ≡ before (escape ∷ c ∷ []) (default_coding us)
  unfolding default_extended default_before
  coding_extended c e f = without e ∙ ap (λ (o : Option ℕ). default_before (default_extended o) (default_coding us)) f

  pub coding_none : code_of u ≡ none → extension_code_of u ≡ none → default_coding (u ∷ us) ≡ none
  unfolding default_extended default_before
  coding_none e f = without e ∙ ap (λ (o : Option ℕ). default_before (default_extended o) (default_coding us)) f

-- the two bytes of a unit
pub halves : (u : ℕ) → u < 65536 → (u / 256 % 256) ∷ (u % 256) ∷ [] ≡ (u / 256) ∷ (u % 256) ∷ []
halves u h = ap (λ (x : ℕ). x ∷ (u % 256) ∷ []) (let e : u / 256 % 256 ≡ u / 256 = omega arith in e)

-- how long they are
pub pairs_long : (us : List ℕ) → length (pair_bytes us) ≡ 2 * length us
unfolding pair_bytes
pairs_long [] = refl
pairs_long (u ∷ us) = let e = pairs_long us in omega arith

pub pair_size : (us : List ℕ) → length (pair_coding us) ≡ 1 + 2 * length us
unfolding pair_coding
pair_size us = let e = pairs_long us in omega arith

pub based_long : (p : ℕ) (us : List ℕ) → length (based_bytes p us) ≡ length us
unfolding based_bytes
based_long p [] = refl
based_long p (u ∷ us) = ap suc (based_long p us)

pub block_size : (b : ℕ) (us : List ℕ) → length (block_with b us) ≡ 3 + length us
unfolding block_with
block_size b us = let e = based_long (128 * b) us in omega arith

pub base_size : (b : ℕ) (us : List ℕ) → length (base_with b us) ≡ 4 + length us
unfolding base_with
base_size b us = let e = based_long b us in omega arith

-- of two codings
pub shorter_kept : (s t : List ℕ) → length s ≤ length t → shorter s (some t) ≡ s
unfolding shorter
shorter_kept s t h = skip _ _ _ (le-ltb (length t) (length s) h)

pub shorter_taken : (s t : List ℕ) → length t < length s → shorter s (some t) ≡ t
unfolding shorter
shorter_taken s t h = stop _ _ _ (lt-ltb (length t) (length s) h)

pub first_there : (o : Option (List ℕ)) (t : List ℕ) → readable o ≡ true → length (frame_bytes o) ≤ length t → first_or o t ≡ frame_bytes o
unfolding first_or readable frame_bytes
first_there none t e h = absurd (false≢true e)
first_there (some s) t e h = skip _ _ _ (le-ltb (length t) (length s) h)

pub first_none : (o : Option (List ℕ)) (t : List ℕ) → readable o ≡ false → first_or o t ≡ t
unfolding first_or readable
first_none none t e = refl
first_none (some s) t e = absurd (false≢true (sym e))

pub there_is : (o : Option (List ℕ)) → readable o ≡ true → o ≡ some (frame_bytes o)
unfolding readable frame_bytes
there_is none e = absurd (false≢true e)
there_is (some s) e = refl
