-- How a call ended, in one number, and what a call over a lent record leaves.
use Rattle.std.specs.Prelude.{ℕ, ◌+◌, ◌-◌, ◌*◌, ◌/◌, ◌%◌, ◌≤◌, min, ◌≡◌, List, length, ltb}
use Rattle.rules.specs.Checks.{◌⇒◌else◌}
use Rattle.rules.specs.Words.{number_of, refusal_of}
use Rattle.rules.specs.Pool.{grant_cap}
use Rattle.rules.specs.Command.{Answer, ended_of}
use Rattle.rules.specs.Fetch as rules
use Rattle.fetch.specs.declared.Fetched.{Fetched}
use Rattle.fetch.specs.Gathers.{Leaves}
use Rattle.rules.specs.Words.{Ended}
use Rattle.std.specs.Prelude.{Ok, Err}
use Rattle.session.specs.declared.Session.{Session}
use Rattle.session.specs.Calls.{Answers}

-- the count of bytes written, or 1000000 (hexadecimal) plus the refusal's number
unfoldable pub packed : Ended → ℕ
packed (Ok count) = count
packed (Err r) = 0x1000000 + number_of r

-- how the call ended, read back from that number
unfoldable pub unpacked : ℕ → Ended
unpacked r = ltb r 0x1000000 ⇒ Ok r else Err (refusal_of (r - 0x1000000))

-- a count that is told apart from every refusal
unfoldable pub Fits : Ended → Type 0
Fits (Ok count) = count ≤ grant_cap
Fits (Err r) = Unit {0}

-- the count of units or bytes of a text, or 8000000000000000 (hexadecimal) plus the refusal's number
unfoldable pub packed_text : Ended → ℕ
packed_text (Ok count) = count
packed_text (Err r) = 0x8000000000000000 + number_of r

-- how the call ended, read back from that number
unfoldable pub unpacked_text : ℕ → Ended
unpacked_text r = ltb r 0x8000000000000000 ⇒ Ok r else Err (refusal_of (r - 0x8000000000000000))

-- the number tells how a reading or a writing ended, and no count is taken for a refusal
pub record Texts (e : Ended) (r : ℕ) : Type 0 where
  pub told : r ≡ packed_text e
  pub back : unpacked_text r ≡ e

-- the call is the answer x, on the two arrays that are lent, the ledger's numbers t and the pool p, and the number tells how it ended
pub record Packs (x : Answer) (t p : List ℕ) (r : ℕ) (before after : List ℕ) : Type 0 where
  pub answers : Answers x t p (ended_of x.outcome) before after
  pub told : r ≡ packed (ended_of x.outcome)

-- the same on the record that the host lends
abbrev pub Hosts : Answer → Session → ℕ → List ℕ → List ℕ → Type 0
Hosts x s = Packs x s.ledger s.pool

-- the count that the upper half of a number can have at most
abbrev pub left_cap : ℕ
left_cap = 0xFFFFFFFF

-- how a burst ended, and in the upper half how many of its bytes are left
unfoldable pub packed_burst : Fetched → ℕ
packed_burst x = 0x100000000 * min x.left left_cap + packed x.ended

-- both, read back
abbrev pub ended_in : ℕ → Ended
ended_in r = unpacked (r % 0x100000000)

abbrev pub left_in : ℕ → ℕ
left_in r = r / 0x100000000

-- the burst is f, on the two arrays and the gathered record g, and the number tells how it ended and what is left
pub record PacksBurst (f : rules.Fetched) (t p g : List ℕ) (r : ℕ) (before after : List ℕ) : Type 0 where
  pub leaves : Leaves f t p g (ended_of f.answer.outcome) before after
  pub told : r ≡ packed_burst (record { ended = ended_of f.answer.outcome; left = length f.left })

-- the same on the record that the host lends
abbrev pub HostsBurst : rules.Fetched → Session → List ℕ → ℕ → List ℕ → List ℕ → Type 0
HostsBurst f s = PacksBurst f s.ledger s.pool
