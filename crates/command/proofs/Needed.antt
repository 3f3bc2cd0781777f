-- The required objects: those that a row needs, and that all of them are there.
-- Assumes nothing.
use Prim.Native.Nat.{ℕ, ◌<◌}
use mathlib.Core.Path.{◌≡◌, refl, sym, ap, ◌∙◌}
use mathlib.Core.Bool.{Bool, true, false, ◌&&◌}
use mathlib.Core.List.{List}
use Rattle.std.specs.Prelude.{Option, Some, None, is_some}
use lib.Dec.{ltb}
use borrow.Author.Tests.{ltb-true}
use Rattle.rules.specs.Checks.{every, some_of, member}
use Rattle.rules.specs.Frames.{Walk, walk}
use Rattle.rules.specs.Table.{row_of, present, complete}
use Rattle.rules.proofs.Laws.{both_right}
use Rattle.objects.proofs.Walking.{here_object}
use Rattle.command.specs.declared.Row.{Row}
use Rattle.command.specs.Plans.{needed, RowFor}
use Rattle.command.specs.Surveys.{slots, all_stand}
use Rattle.command.specs.Requests.{the_details, the_objects, Headed, StandsAt}
use Rattle.command.proofs.Counting.{Alike, alike}
use Rattle.command.proofs.Keys.{every_member, every_alike}
use Rattle.command.proofs.Tables.{has_slot, required_slot, required_may, own_needed, further_needed}

-- 01 is there, since it came first
pub first_there : {s : List ℕ} {first : ℕ} → Headed s first → present 0x01 (walk s).objects ≡ true
unfolding present member some_of
first_there g = ap (λ (w : Walk). present 0x01 w.objects) (here_object g.stands)

-- a place that is known tells that an object stands
pub stood : (s : List ℕ) (n : ℕ) (a : Option ℕ) → StandsAt a s n → is_some a ≡ present n (walk s).objects
stood s n (Some at) w = sym w.there
stood s n None w = sym w

-- three tests, as they are made and as the rules have them
all_there : (a b c : Bool) → a && (b && c) ≡ true && (a && (b && (c && true)))
all_there a b true = refl
all_there a b false = refl

module _ (s : List ℕ) {row : Row} (r : RowFor row (the_details s)) where
  -- an object that the row needs is required, so it may stand, and is among those that count as it is among all
  pub needed_required : (n : ℕ) → member n (needed row) ≡ true → member n (row_of (the_details s)).required ≡ true
  needed_required n e = every_member (λ k. member k (row_of (the_details s)).required) n (needed row) r.required e

  pub needed_slot : (n : ℕ) → member n (needed row) ≡ true → has_slot n ≡ true
  needed_slot n e = required_slot (the_details s) n (needed_required n e)

  pub needed_low : (row.own < slots) × (row.further < slots)
  needed_low = (low row.own (own_needed row.own row.further), low row.further (further_needed row.own row.further))
    where
      low : (n : ℕ) → member n (needed row) ≡ true → n < slots
      low n e = ltb-true n slots (both_right (ltb 0 n) (ltb n slots) (needed_slot n e))

  pub needed_alike : (n : ℕ) → member n (needed row) ≡ true → Alike n (the_objects s).counting (walk s).objects
  needed_alike n e = alike (row_of (the_details s)) n (walk s).objects (required_may (row_of (the_details s)) n (needed_required n e))

  pub complete_is :
      present 0x01 (walk s).objects ≡ true → (a b c : Option ℕ) → StandsAt a s 0x02 → StandsAt b s row.own → StandsAt c s row.further →
      all_stand a b c ≡ complete (row_of (the_details s)) (the_objects s).counting
  unfolding complete every member some_of
  complete_is first a b c u v w =
      let there : (n : ℕ) → member n (needed row) ≡ true → present n (walk s).objects ≡ present n (the_objects s).counting = λ n e. sym (needed_alike n e).there in
      let own = there row.own (own_needed row.own row.further) in
      let further = there row.further (further_needed row.own row.further) in
      (λ i. stood s 0x02 a u i && (stood s row.own b v i && stood s row.further c w i))
      ∙ all_there (present 0x02 (walk s).objects) (present row.own (walk s).objects) (present row.further (walk s).objects)
      ∙ (λ i. (sym first ∙ there 0x01 refl) i && (there 0x02 refl i && (own i && (further i && true))))
      ∙ every_alike (λ n. present n (the_objects s).counting) (needed row) (row_of (the_details s)).required r.looked_for r.required
