-- A response that was read, as the code tells it: its data stands in the bytes, at the places told.
use Rattle.std.specs.Prelude.{ℕ, zero, suc, ◌+◌, ◌*◌, ◌≤◌, ◌≡◌, List, [], ◌∷◌, length, drop, Option, Some, None}
use Rattle.rules.specs.declared.Refusal.TheVariants.{NoResponse}
use Rattle.rules.specs.Reading.{bearer_in}
use Rattle.rules.specs.Own as own
use Rattle.rules.specs.Own.{Status, Result, error, problem, done, opened, received, sent, started, leaves, statuses, reports, nothing}
use Rattle.rules.specs.Bench.{Told, told, untold, status_in}
use Rattle.octets.specs.Parts.{part}
use Rattle.bench_reader.specs.declared.Further.{Further}
use Rattle.bench_reader.specs.declared.Further.TheVariants.{Plain, Opened, Received, Sent, Started, Leaves, Statuses}
use Rattle.bench_reader.specs.declared.Verdict.{Verdict}
use Rattle.bench_reader.specs.declared.Verdict.TheVariants.{Error, Problem, Done}
use Rattle.bench_reader.specs.declared.Response.{Response}

-- so many statuses, one behind the other, four bytes each
unfoldable pub statuses_at : ℕ → List ℕ → List Status
statuses_at zero s = []
statuses_at (suc k) s = status_in (part 2 4 s) ∷ statuses_at k (drop 4 s)

-- what follows a result
unfoldable pub further_of : Further → List ℕ → own.Further
further_of Plain s = nothing
further_of (Opened n link start len grant) s = opened (record { number = n; link = link }) (bearer_in (part start (start + len) s)) grant
further_of (Received start len left) s = received (part start (start + len) s) left
further_of (Sent room) s = sent room
further_of (Started n) s = started n
further_of (Leaves n left) s = leaves n left
further_of (Statuses start count) s = reports (statuses (statuses_at count (drop start s)))

unfoldable pub result_of : Verdict → List ℕ → Result
result_of (Error e) s = error e
result_of (Problem cause) s = problem cause
result_of (Done r f) s = done r (further_of f s)

-- the response, or R8
unfoldable pub heard_of : Option Response → List ℕ → Told
heard_of (Some r) s = told (record { details = r.details; result = result_of r.verdict s })
heard_of None s = untold NoResponse

-- where the data stands: the bytes end with what follows it, a grant of four bytes, a count of three, and nothing behind the statuses
abbrev pub FurtherAt : Further → List ℕ → Type 0
FurtherAt Plain s = Unit {0}
FurtherAt (Opened n link start len grant) s = (1 ≤ len) × (start + len + 4 ≡ length s)
FurtherAt (Received start len left) s = start + len + 3 ≡ length s
FurtherAt (Sent room) s = Unit {0}
FurtherAt (Started n) s = Unit {0}
FurtherAt (Leaves n left) s = Unit {0}
FurtherAt (Statuses start count) s = start + 4 * count ≡ length s

abbrev pub VerdictAt : Verdict → List ℕ → Type 0
VerdictAt (Error e) s = Unit {0}
VerdictAt (Problem cause) s = Unit {0}
VerdictAt (Done r f) s = FurtherAt f s

abbrev pub PlacesAt : Option Response → List ℕ → Type 0
PlacesAt (Some r) s = VerdictAt r.verdict s
PlacesAt None s = Unit {0}
