-- What a writer of responses leaves in a lent buffer.
use Rattle.std.specs.Prelude.{ℕ, zero, suc, ◌+◌, ◌≡◌, List, [], ◌∷◌, length, get_or, leb}
use Rattle.rules.specs.declared.Details.{Details}
use Rattle.rules.specs.Checks.{◌⇒◌else◌}
use Rattle.rules.specs.Own.{Status, Result}
use Rattle.rules.specs.Written.{response_bytes}
use Rattle.octets.specs.Parts.{overlaid}
use Rattle.session.specs.Book.{entry_at}
use Rattle.session.specs.Picture.{link_of}

-- the bytes of a response
abbrev pub response : Details → Result → List ℕ
response d r = response_bytes (record { details = d; result = r })

-- the details, the devices and a result of these bytes
abbrev pub head_bytes : Details → List ℕ → List ℕ
head_bytes d s =
    0x81 ∷ 0x03 ∷ d.number ∷ d.kind ∷ d.qualifier ∷ 0x82 ∷ 0x02 ∷ 0x82 ∷ 0x81 ∷ 0x83 ∷ length s ∷ s

-- these bytes stand at the front of the buffer, the others are as they were, and the count is told
pub record Filled (t : List ℕ) (count : ℕ) (before after : List ℕ) : Type 0 where
  pub lent : after ≡ overlaid t before
  pub counted : count ≡ length t

-- the statuses that the ledger tells of so many channels from the place k on, rising
unfoldable pub statuses_in : List ℕ → ℕ → ℕ → List Status
statuses_in t k zero = []
statuses_in t k (suc m) =
    let rest = statuses_in t (k + 1) m in
    leb 1 (get_or t (entry_at k) 0) ⇒ record { number = record { 0 = k + 1 }; link = link_of (get_or t (entry_at k + 1) 0) } ∷ rest else rest
