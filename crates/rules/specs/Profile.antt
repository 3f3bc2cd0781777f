-- "Profile": the bits, every place that the paper names, and the number of channels.
use Rattle.std.specs.Prelude.{ℕ, ◌-◌, ◌/◌, ◌%◌, ◌^◌, ◌≡◌, refl, Bool, true, false, List, [], ◌∷◌, ◌++◌, map, get_or, take, replicate, eqb}
use Rattle.rules.specs.declared.Details.{Details}
use Rattle.rules.specs.Checks.{◌⇒◌else◌}
use Rattle.rules.specs.Timers.{action_of, ask_action}

-- bytes and bits are numbered from 1; bits past the end are 0
unfoldable pub bit : List ℕ → ℕ → ℕ → Bool
bit p byte n = eqb (get_or p (byte - 1) 0 / 2 ^ (n - 1) % 2) 1

-- what a session keeps: the 13 bytes in which every place lies
abbrev pub profile_size : ℕ
profile_size = 13

unfoldable pub kept : List ℕ → List ℕ
kept p = take profile_size (p ++ replicate profile_size 0)

-- the types: byte 3 bit 4 for 02, byte 5 bit 1 for 05, byte 8 bit 2 for asking for a timer and bit 1 for all else of 27, byte 12 bits 1 to 5 for 40 to 44
unfoldable pub allows_type : List ℕ → Details → Bool
allows_type p d =
    eqb d.kind 0x02 ⇒ bit p 3 4 else
    eqb d.kind 0x05 ⇒ bit p 5 1 else
    eqb d.kind 0x27 ⇒ bit p 8 (eqb (action_of d.qualifier) ask_action ⇒ 2 else 1) else
    bit p 12 (d.kind - 0x3F)

-- a profile with the first of byte 12's bits alone, and one with the fifth alone, against the five types
pub types_by_bit :
    map (λ (p : List ℕ). map (λ (t : ℕ). allows_type p (record { number = 1; kind = t; qualifier = 0 })) (0x40 ∷ 0x41 ∷ 0x42 ∷ 0x43 ∷ 0x44 ∷ []))
    ((replicate 11 0 ++ 0x01 ∷ []) ∷ (replicate 11 0 ++ 0x10 ∷ []) ∷ []) ≡
    (true ∷ false ∷ false ∷ false ∷ false ∷ []) ∷ (false ∷ false ∷ false ∷ false ∷ true ∷ []) ∷ []
unfolding allows_type bit ◌⇒◌else◌
types_by_bit = refl

-- a profile with the first of byte 8's bits alone, and one with the second alone, against a start, a stop, an ask and value 3
pub timers_by_bit :
    map (λ (p : List ℕ). map (λ (q : ℕ). allows_type p (record { number = 1; kind = 0x27; qualifier = q })) (0 ∷ 1 ∷ 2 ∷ 3 ∷ []))
    ((replicate 7 0 ++ 0x01 ∷ []) ∷ (replicate 7 0 ++ 0x02 ∷ []) ∷ []) ≡
    (true ∷ true ∷ false ∷ true ∷ []) ∷ (false ∷ false ∷ true ∷ false ∷ []) ∷ []
unfolding allows_type action_of bit ◌⇒◌else◌
timers_by_bit = refl

-- the events: byte 6 bits 3 and 4 for 09 and 0A
unfoldable pub allows_event : List ℕ → ℕ → Bool
allows_event p e =
    eqb e 0x09 ⇒ bit p 6 3 else
    eqb e 0x0A ⇒ bit p 6 4 else
    false

-- the bearers: 03, and 02 by byte 13 bit 2
unfoldable pub allows_bearer : List ℕ → ℕ → Bool
allows_bearer p b =
    eqb b 0x03 ⇒ true else
    eqb b 0x02 ⇒ bit p 13 2 else
    false

-- the number N of channels: byte 13 bits 6 to 8, bit 8 highest
unfoldable pub channels : List ℕ → ℕ
channels p = get_or p 12 0 / 32 % 8
