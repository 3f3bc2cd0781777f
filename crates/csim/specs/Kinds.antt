-- The three kinds of command strings in a +CSIM log: their headers, and their words in our lines.
use Rattle.std.specs.Prelude.{ℕ, Bool, true, false, ◌&&◌, List, [], ◌∷◌, ◌++◌, eqb}
use Rattle.rules.specs.Checks.{◌⇒◌else◌}
use Rattle.csim.specs.declared.Kind.{Kind}
use Rattle.csim.specs.declared.Kind.TheVariants.{Profile, Response, Envelope}

-- TERMINAL PROFILE, TERMINAL RESPONSE, ENVELOPE
abbrev pub instruction_of : Kind → ℕ
instruction_of Profile = 0x10
instruction_of Response = 0x14
instruction_of Envelope = 0xC2

-- class, instruction, P1 and P2
abbrev pub header_of : Kind → List ℕ
header_of k = 0x80 ∷ instruction_of k ∷ 0 ∷ 0 ∷ []

-- profile, response, envelope
abbrev pub word_of : Kind → List ℕ
word_of Profile = 112 ∷ 114 ∷ 111 ∷ 102 ∷ 105 ∷ 108 ∷ 101 ∷ []
word_of Response = 114 ∷ 101 ∷ 115 ∷ 112 ∷ 111 ∷ 110 ∷ 115 ∷ 101 ∷ []
word_of Envelope = 101 ∷ 110 ∷ 118 ∷ 101 ∷ 108 ∷ 111 ∷ 112 ∷ 101 ∷ []

-- the word and its blank, which stand before the digits
abbrev pub lead_of : Kind → List ℕ
lead_of k = word_of k ++ 32 ∷ []

-- the second list begins with the first
unfoldable pub leads : List ℕ → List ℕ → Bool
leads [] t = true
leads (x ∷ s) [] = false
leads (x ∷ s) (y ∷ t) = eqb x y && leads s t

-- by the first kind that passes a test
unfoldable pub by_kind : {A : Type 0} → (Kind → Bool) → (Kind → A) → A → A
by_kind t f other =
    t Profile ⇒ f Profile else
    t Response ⇒ f Response else
    t Envelope ⇒ f Envelope else
    other
