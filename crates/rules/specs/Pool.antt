-- "Pool and grants": 256 cells of 32 bytes, what a grant promises, and the grant for a request.
use Rattle.std.specs.Prelude.{ℕ, ◌+◌, ◌-◌, ◌*◌, ◌/◌, min, List, [], ◌∷◌, leb}
use Rattle.rules.specs.Checks.{◌⇒◌else◌}
use Rattle.rules.specs.State.{State, Chan}

-- the pool's cells, the bytes of a cell, the bytes of all cells, and the most that is granted
abbrev pub cell_count : ℕ
cell_count = 256

abbrev pub cell_size : ℕ
cell_size = 32

abbrev pub pool_size : ℕ
pool_size = 8192

abbrev pub grant_cap : ℕ
grant_cap = 1500

-- g/32, rounded up
unfoldable pub cells : ℕ → ℕ
cells g = (g + 31) / cell_size

-- the sum over open channels: so many cells for receive and as many for send
unfoldable pub promised_to : List Chan → ℕ
promised_to [] = 0
promised_to (c ∷ cs) = 2 * cells c.grant + promised_to cs

unfoldable pub promised : State → ℕ
promised a = promised_to a.chans

unfoldable pub unpromised : State → ℕ
unpromised a = cell_count - promised a

-- the grant for a request of s bytes with so many cells unpromised
unfoldable pub grant_for : ℕ → ℕ → ℕ
grant_for s free =
    let w = min s grant_cap in
    leb (2 * cells w) free ⇒ w else
    cell_size * (free / 2)
