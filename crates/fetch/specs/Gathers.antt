-- The gathered record as a picture of the gathered bytes, and what a burst leaves behind.
use Rattle.std.specs.Prelude.{ℕ, ◌≤◌, ◌≡◌, Bool, true, false, List, [], ◌∷◌, ◌++◌, length, get_or, take}
use Rattle.rules.specs.declared.Refusal.TheVariants.{CommandSize}
use Rattle.rules.specs.declared.Stage.{Stage}
use Rattle.rules.specs.declared.Stage.TheVariants.{Lacks, Overlong, Decided}
use Rattle.rules.specs.Checks.{◌⇒◌else◌}
use Rattle.rules.specs.State.{State}
use Rattle.rules.specs.Command.{answered, refusal, command, Terms}
use Rattle.rules.specs.Fetch as rules
use Rattle.rules.specs.Fetch.{stage}
use Rattle.octets.specs.Parts.{pad}
use Rattle.rules.specs.Words.{Ended}
use Rattle.session.specs.Calls.{Answers}
use Rattle.fetch.specs.declared.Fetched.{Fetched}

-- the place of the count, behind as many bytes as a command has at most, and the size of the record
abbrev pub count_at : ℕ
count_at = 256

abbrev pub gathered_size : ℕ
gathered_size = 257

-- the bytes, zeros behind them, and their count
unfoldable pub gathered_of : List ℕ → List ℕ
gathered_of g = pad count_at g ++ length g ∷ []

-- the bytes, read back
unfoldable pub gathered_in : List ℕ → List ℕ
gathered_in r = take (get_or r count_at 0) r

-- some bytes are lacking
unfoldable pub is_lacking : Stage → Bool
is_lacking (Lacks n) = true
is_lacking Overlong = false
is_lacking Decided = false

-- the record is that of its bytes, of which some are lacking: it came from its start and from bursts
pub record Gathers (r : List ℕ) : Type 0 where
  pub is : r ≡ gathered_of (gathered_in r)
  pub lacks : is_lacking (stage (gathered_in r)) ≡ true

-- within a burst: so many bytes stand at the front, zeros behind them up to the last number
pub record Partial (r : List ℕ) (count : ℕ) : Type 0 where
  pub fits : count ≤ count_at
  pub is : r ≡ pad count_at (take count r) ++ get_or r count_at 0 ∷ []

-- the bytes of a burst that are taken behind g: as long as some are lacking
unfoldable pub brought : List ℕ → List ℕ → List ℕ
brought g [] = []
brought g (b ∷ s) = let rest = brought (g ++ b ∷ []) s in is_lacking (stage g) ⇒ b ∷ rest else []

-- what bytes g come to, with u behind those that were taken
unfoldable pub concluded : State → Terms → List ℕ → List ℕ → Stage → rules.Fetched
concluded a terms g u (Lacks n) = record { answer = answered a []; gathered = g; left = u }
concluded a terms g u Overlong = record { answer = refusal a CommandSize; gathered = []; left = u }
concluded a terms g u Decided = record { answer = command a terms g; gathered = []; left = u }

-- the call is the answer of f, and the record r has what is gathered behind it
pub record Leaves (f : rules.Fetched) (t p r : List ℕ) (e : Ended) (before after : List ℕ) : Type 0 where
  pub answers : Answers f.answer t p e before after
  pub gathered : r ≡ gathered_of f.gathered
  pub lacks : is_lacking (stage f.gathered) ≡ true

-- and so many bytes are left
pub record Fetches (f : rules.Fetched) (t p r : List ℕ) (x : Fetched) (before after : List ℕ) : Type 0 where
  pub leaves : Leaves f t p r x.ended before after
  pub left : x.left ≡ length f.left
