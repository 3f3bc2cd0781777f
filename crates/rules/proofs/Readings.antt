-- Every way in which the reading of a command can end, and what is known of a command that was read.
-- Assumes nothing.
use Prim.Native.Nat.{ℕ}
use mathlib.Core.Path.{◌≡◌, refl, sym, ap}
use mathlib.Core.Bool.{Bool, true, not, ◌||◌, false}
use mathlib.Core.List.{List, [], ◌∷◌}
use mathlib.Core.Option.{some, none}
use lib.Dec.{eqb}
use lib.ListN.{get_or}
use borrow.Author.Tests.{eqb-true}
use Rattle.rules.specs.declared.Details.{Details}
use Rattle.rules.specs.Checks.{◌⇒◌else◌, every, some_of, member, same}
use Rattle.rules.specs.Frames.{Object, walk, contents}
use Rattle.rules.specs.Table.{table, known, row_of, sift, present, value_of, complete, measured, length_fits}
use Rattle.rules.specs.Timers.{is_start, action_of}
use Rattle.rules.specs.Profile.{allows_type}
use Rattle.rules.specs.Own.{bare_types}
use Rattle.rules.specs.Reading.{Reading, Body, bare, event_list, open_channel, close_channel, receive_data, send_data, start_timer, manage_timer, bearer_in, pair_in, transport_in, wrong, asked, zeros, details_in, command_in, body_in, kind_of, details_of, addressed, read_objects, reading}
use Rattle.rules.specs.Bench.{error_proper}
use Rattle.rules.specs.Written.{details_bytes}
use Rattle.rules.proofs.Laws.{branch, not_not, both_left, both_right}

-- the details and the objects that count, of the bytes of a command's objects
abbrev pub details_read : List ℕ → Details
details_read s = details_in (value_of 0x01 (walk s).objects)

abbrev pub counted : List ℕ → List Object
counted s = (sift (row_of (details_read s)) [] (walk s).objects).counting

-- what is known of a command that was read
pub record Read (p s : List ℕ) : Type 0 where
  pub kind : known (details_read s).kind ≡ true
  pub allowed : allows_type p (details_read s) ≡ true
  pub whole : complete (row_of (details_read s)) (counted s) ≡ true
  pub lengths : measured (counted s) ≡ true
  pub devices :
      addressed (details_read s).kind (command_in (details_read s) (counted s)).source (command_in (details_read s) (counted s)).destination ≡
      true

-- the errors that the paper lists for a type
error_30 : (d : Details) → known d.kind ≡ true → error_proper d 0x30 ≡ true
unfolding error_proper ◌⇒◌else◌
error_30 d e = e

error_31 : (d : Details) → not (known d.kind) ≡ true → error_proper d 0x31 ≡ true
unfolding error_proper ◌⇒◌else◌
error_31 d e = e

error_32 : (d : Details) → error_proper d 0x32 ≡ true
unfolding error_proper ◌⇒◌else◌
error_32 d = refl

error_36 : (d : Details) → known d.kind ≡ true → error_proper d 0x36 ≡ true
unfolding error_proper ◌⇒◌else◌
error_36 d e = ap (λ (b : Bool). b || same (details_bytes d) (0 ∷ 0 ∷ 0 ∷ [])) e

zeros_36 : error_proper zeros 0x36 ≡ true
unfolding error_proper ◌⇒◌else◌ zeros known table member some_of details_bytes same
zeros_36 = refl

module _ (Q : Reading → Type 0) (p : List ℕ) where
  pub objects_cases :
      (s : List ℕ) →
      ((e : ℕ) → error_proper zeros e ≡ true → Q (wrong zeros e)) →
      ((e : ℕ) → error_proper (details_read s) e ≡ true → Q (wrong (details_read s) e)) →
      (Read p s → (i : Bool) → Q (asked (command_in (details_read s) (counted s)) i)) →
      Q (read_objects p s)
  unfolding read_objects
  objects_cases s blank told f =
      branch Q _ _ _ (λ _. blank 0x36 zeros_36) (λ _.
      branch Q _ _ _ (λ _. blank 0x32 (error_32 zeros)) (λ _.
      branch Q _ _ _ (λ _. blank 0x36 zeros_36) (λ _.
      branch Q _ _ _ (λ _. told 0x32 (error_32 _)) (λ _.
      branch Q _ _ _ (λ u. told 0x31 (error_31 _ u)) (λ e₁.
      branch Q _ _ _ (λ _. told 0x30 (error_30 _ (not_not _ e₁))) (λ e₂.
      branch Q _ _ _ (λ _. told 0x32 (error_32 _)) (λ _.
      branch Q _ _ _ (λ _. told 0x36 (error_36 _ (not_not _ e₁))) (λ e₃.
      branch Q _ _ _ (λ _. told 0x32 (error_32 _)) (λ e₄.
      branch Q _ _ _ (λ _. told 0x32 (error_32 _)) (λ e₅.
      f (record { kind = not_not _ e₁; allowed = not_not _ e₂; whole = not_not _ e₃; lengths = not_not _ e₄; devices = not_not _ e₅ }) _))))))))))

  pub reading_cases :
      (s : List ℕ) →
      ((e : ℕ) → error_proper zeros e ≡ true → Q (wrong zeros e)) →
      ((e : ℕ) → error_proper (details_read (contents s)) e ≡ true → Q (wrong (details_read (contents s)) e)) →
      (Read p (contents s) → (i : Bool) → Q (asked (command_in (details_read (contents s)) (counted (contents s))) i)) →
      Q (reading p s)
  unfolding reading
  reading_cases s blank told f = branch Q _ _ _ (λ _. blank 0x32 (error_32 zeros)) (λ _. objects_cases (contents s) blank told f)

-- a start is of type 27
pub start_kind : (d : Details) → is_start d ≡ true → d.kind ≡ 0x27
unfolding is_start
start_kind d e = eqb-true d.kind 0x27 (both_left _ _ e)

pub starts : (d : Details) → is_start d ≡ true → action_of d.qualifier ≡ 0
unfolding is_start
starts d e = eqb-true (action_of d.qualifier) 0 (both_right (eqb d.kind 0x27) _ e)

-- the values of a type, by the type
module _ (Q : Body → Type 0) (d : Details) (os : List Object) where
  abbrev t : ℕ
  t = d.kind

  pub body_cases :
      (t ≡ 0x05 → Q (event_list (value_of 0x19 os))) →
      (t ≡ 0x40 →
      Q (open_channel (bearer_in (value_of 0x35 os)) (pair_in (value_of 0x39 os)) (present 0x3C os ⇒ some (transport_in (value_of 0x3C os)) else none))) →
      (t ≡ 0x41 → Q close_channel) →
      (t ≡ 0x42 → Q (receive_data (get_or (value_of 0x37 os) 0 0))) →
      (t ≡ 0x43 → Q (send_data (value_of 0x36 os))) →
      (t ≡ 0x27 → is_start d ≡ true → Q (start_timer (get_or (value_of 0x24 os) 0 0) (value_of 0x25 os))) →
      (t ≡ 0x27 → is_start d ≡ false → Q (manage_timer (get_or (value_of 0x24 os) 0 0))) →
      (known t ≡ member t bare_types → Q (bare t)) →
      Q (body_in d os)
  unfolding body_in known table member some_of
  body_cases f₀₅ f₄₀ f₄₁ f₄₂ f₄₃ s₂₇ m₂₇ f =
      branch Q _ _ _ (λ e. f₀₅ (eqb-true _ _ e)) (λ e₀₅.
      branch Q _ _ _ (λ e. f₄₀ (eqb-true _ _ e)) (λ e₄₀.
      branch Q _ _ _ (λ e. f₄₁ (eqb-true _ _ e)) (λ e₄₁.
      branch Q _ _ _ (λ e. f₄₂ (eqb-true _ _ e)) (λ e₄₂.
      branch Q _ _ _ (λ e. f₄₃ (eqb-true _ _ e)) (λ e₄₃.
      branch Q _ _ _ (λ e. s₂₇ (start_kind d e) e) (λ s.
      branch Q _ _ _ (λ e. m₂₇ (eqb-true _ _ e) s) (λ e₂₇. f (rw (e₀₅, e₂₇, e₄₀, e₄₁, e₄₂, e₄₃)))))))))

-- the command that was read has the details that its bytes tell
kind_in : (d : Details) (os : List Object) → kind_of (body_in d os) ≡ d.kind
unfolding kind_of
kind_in d os =
    body_cases (λ (b : Body). kind_of b ≡ d.kind) d os (λ e. sym e) (λ e. sym e) (λ e. sym e) (λ e. sym e) (λ e. sym e) (λ e _. sym e) (λ e _. sym e) (λ _. refl)

pub details_told_lem : (d : Details) (os : List Object) → details_of (command_in d os) ≡ d
unfolding details_of command_in
details_told_lem d os = λ i. record { number = d.number; kind = kind_in d os i; qualifier = d.qualifier }

-- an object that is there has its length
pub value_fits : (n : ℕ) (os : List Object) → present n os ≡ true → measured os ≡ true → length_fits n (value_of n os) ≡ true
unfolding present member some_of measured every value_of
value_fits n [] there fit = absurd (mathlib.Core.Bool.false≢true there)
value_fits n (o ∷ os) there fit =
    branch (λ (v : List ℕ). length_fits n v ≡ true) (eqb n o.number) o.value (value_of n os)
    (λ e. rw (eqb-true n o.number e) (both_left _ _ fit))
    (λ e. value_fits n os (rw e at there) (both_right (length_fits o.number o.value) _ fit))
