-- The steps of a reading behind the third, and behind the fifth.
-- Assumes nothing.
use Prim.Native.Nat.{ℕ}
use mathlib.Core.Path.{◌≡◌, ap, ◌∙◌}
use mathlib.Core.Bool.{not}
use mathlib.Core.List.{List}
use Rattle.rules.specs.Checks.{◌⇒◌else◌, is_empty, some_of}
use Rattle.rules.specs.Frames.{Object, walk}
use Rattle.rules.specs.Table.{known, row_of, complete, measured}
use Rattle.rules.specs.Profile.{allows_type}
use Rattle.rules.specs.Reading.{Reading, wrong, asked, is_fault, addressed, read_objects}
use Rattle.rules.proofs.Laws.{skip}
use Rattle.command.specs.Requests.{the_details, the_objects, the_command, Began, Typed}

abbrev from_6 : List ℕ → Reading
from_6 s =
    some_of (λ (x : Object). x.flag) (the_objects s).unexpected ⇒ wrong (the_details s) 0x32 else
    not (complete (row_of (the_details s)) (the_objects s).counting) ⇒ wrong (the_details s) 0x36 else
    not (measured (the_objects s).counting) ⇒ wrong (the_details s) 0x32 else
    not (addressed (the_details s).kind (the_command s).source (the_command s).destination) ⇒ wrong (the_details s) 0x32 else
    asked (the_command s) (not (is_empty (the_objects s).unexpected))

abbrev from_4 : List ℕ → List ℕ → Reading
from_4 p s =
    is_fault (walk s).ending ⇒ wrong (the_details s) 0x32 else
    not (known (the_details s).kind) ⇒ wrong (the_details s) 0x31 else
    not (allows_type p (the_details s)) ⇒ wrong (the_details s) 0x30 else
    from_6 s

module _ (p s : List ℕ) where
  pub read_began : Began s → read_objects p s ≡ from_4 p s
  unfolding read_objects
  read_began g = skip _ _ _ g.bytes ∙ skip _ _ _ g.objects ∙ skip _ _ _ (ap not g.details)

  pub read_typed : Typed p s → read_objects p s ≡ from_6 s
  read_typed t = read_began t.began ∙ skip _ _ _ t.whole ∙ skip _ _ _ (ap not t.kind) ∙ skip _ _ _ (ap not t.allowed)
