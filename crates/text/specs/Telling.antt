-- A function that prints what it tells of a frame.
use Rattle.std.specs.Prelude.{ℕ, ◌≡◌, ◌≤◌, List, length}
use Rattle.std.specs.Borrow.{Bor, MutBor}
use Rattle.std.proofs.Math.Option.{Option, some}
use Rattle.text.specs.Sizes.{frame_cap}
use Rattle.text.specs.Prints.{Prints}

-- it may be called at every frame, over an output of this size and a place in it
abbrev pub TakesFrames : (Bor (List ℕ) → MutBor (List ℕ) → ℕ → Type 0) → ℕ → ℕ → Type 0
TakesFrames pre size at = (s : Bor (List ℕ)) (out : MutBor (List ℕ)) → length s.now ≤ frame_cap → length out.now ≡ size → pre s out at

-- and from that place on it prints of each what is to be told
abbrev pub PrintsFrames : (Bor (List ℕ) → MutBor (List ℕ) → ℕ → ℕ → MutBor (List ℕ) → Type 0) → (Option (List ℕ) → List ℕ) → ℕ → Type 0
PrintsFrames post told at = (s : Bor (List ℕ)) (out : MutBor (List ℕ)) (end : ℕ) (out' : MutBor (List ℕ)) → post s out at end out' → Prints (told (some s.now)) end out.now at out'.now
