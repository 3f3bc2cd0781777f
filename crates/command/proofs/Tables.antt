-- The slots of the object numbers, the rows, and the plans of the types.
-- Assumes nothing.
use Prim.Native.Nat.{ℕ, ◌-◌, ◌*◌, ◌≤◌, ◌<◌}
use mathlib.Core.Path.{◌≡◌, refl, sym, ap, ◌∙◌}
use mathlib.Core.Bool.{Bool, true, false, not, ◌&&◌, ◌||◌, true≢false}
use mathlib.Core.List.{List, [], ◌∷◌, map}
use native.Mathlib.Omega.{arith}
use types.Run.{OneOf}
use lib.Dec.{ltb, leb, eqb}
use mir.Val.{bool_byte}
use borrow.Author.Tests.{ltb-true, leb-true, le-leb, lt-leb, eqb-true, eq-eqb, ne_eqb}
use Rattle.std.specs.Prelude.{Some, None, Result, Ok, Err}
use Rattle.std.specs.Result.{result_ok}
use Rattle.rules.specs.declared.Action.{Action}
use Rattle.rules.specs.declared.Action.TheVariants.{Start, Stop, Ask, Nothing}
use Rattle.rules.specs.declared.CommandType.{CommandType}
use Rattle.rules.specs.declared.UnknownType.{UnknownType}
use Rattle.rules.specs.declared.Details.{Details}
use Rattle.rules.specs.Words.{byte_of, Typed, Acts}
use Rattle.rules.specs.Checks.{◌⇒◌else◌, every, some_of, member}
use Rattle.rules.specs.Profile.{profile_size, bit, allows_type}
use Rattle.rules.specs.Table as rules
use Rattle.rules.specs.Table.{table, row_among, row_of, times, known, start_row}
use Rattle.rules.proofs.Laws.{branch, stop, skip, both_left, both_right, or_right, either_left, both}
use Rattle.profile.specs.declared.Place.{Place}
use Rattle.command.specs.declared.Plan.{Plan}
use Rattle.command.specs.declared.Row.{Row}
use Rattle.command.specs.Plans.{handles, own_number, further_number, needed, besides_by, times_by, bit_of, PlaceFor, PlanOf}
use Rattle.command.specs.Surveys.{slots, slot_of}
use Rattle.command.proofs.Keys.{arm, out_keys, Outside, outside, every_member, no_member, all_true}
use Rattle.rules.specs.Timers.{is_start, action_of, ask_action}
use Rattle.command.specs.declared.Handler.TheVariants.{StartTimer, ManageTimer}
use Rattle.command.specs.declared.Handler.{Handler}

-- the slot of a number that a row may have is its own
abbrev pub has_slot : ℕ → Bool
has_slot n = ltb 0 n && ltb n slots

pub slot_self : (n : ℕ) → has_slot n ≡ true → slot_of n ≡ n
unfolding slot_of
slot_self n h = stop _ _ _ (both_right (ltb 0 n) (ltb n slots) h)

pub slot_one : (n m : ℕ) → has_slot n ≡ true → slot_of n ≡ slot_of m → n ≡ m
unfolding slot_of
slot_one n m h e =
    let some = ltb-true 0 n (both_left (ltb 0 n) (ltb n slots) h) in
    branch (λ (k : ℕ). n ≡ k → n ≡ m) (ltb m slots) m 0 (λ _ q. q) (λ _ q. absurd (omega arith)) (sym (slot_self n h) ∙ e)

pub slot_within : (n : ℕ) → slot_of n < slots
unfolding slot_of
slot_within n = branch (λ (k : ℕ). k < slots) (ltb n slots) n 0 (λ q. ltb-true n slots q) (λ _. omega arith)

-- a test of every number of a row
abbrev row_all : (ℕ → Bool) → rules.Row → Bool
row_all f r = every f r.twice && (every f r.required && every f r.also)

times_out : (f : ℕ → Bool) (r : rules.Row) (n : ℕ) → row_all f r ≡ true → f n ≡ false → times r n ≡ 0
unfolding times
times_out f r n e h =
    let twice = every f r.twice in
    let required = every f r.required in
    let also = every f r.also in
    let rest = both_right twice (required && also) e in
    skip _ _ _ (no_member f n r.twice (both_left twice (required && also) e) h)
    ∙ skip _ _ _ (λ i. no_member f n r.required (both_left required also rest) h i || no_member f n r.also (both_right required also rest) h i)

-- every number of a row has a slot
row_has :
    (f : rules.Row → Bool) (t : ℕ) (rs : List rules.Row) → f (record { kind = t; required = []; also = []; twice = [] }) ≡ true →
    every f rs ≡ true → f (row_among t rs) ≡ true
unfolding row_among every
row_has f t [] z e = z
row_has f t (r ∷ rs) z e =
    branch (λ (x : rules.Row). f x ≡ true) _ _ _ (λ _. both_left (f r) (every f rs) e) (λ _. row_has f t rs z (both_right (f r) (every f rs) e))

slotted : (d : Details) → row_all has_slot (row_of d) ≡ true
unfolding row_of table every
slotted d = branch (λ (r : rules.Row). row_all has_slot r ≡ true) (is_start d) _ _ (λ _. refl) (λ _. row_has (row_all has_slot) d.kind table refl refl)

pub times_none : (d : Details) (n : ℕ) → has_slot n ≡ false → times (row_of d) n ≡ 0
times_none d n h = times_out has_slot (row_of d) n (slotted d) h

-- a required number has a slot, and may stand
pub required_slot : (d : Details) (n : ℕ) → member n (row_of d).required ≡ true → has_slot n ≡ true
required_slot d n e =
    let r = row_of d in
    let rest = both_right (every has_slot r.twice) (every has_slot r.required && every has_slot r.also) (slotted d) in
    every_member has_slot n r.required (both_left (every has_slot r.required) (every has_slot r.also) rest) e

pub required_may : (r : rules.Row) (n : ℕ) → member n r.required ≡ true → 1 ≤ times r n
unfolding times
required_may r n e =
    branch (λ (k : ℕ). 1 ≤ k) _ _ _ (λ _. omega arith)
    (λ _. branch (λ (k : ℕ). 1 ≤ k) _ _ _ (λ _. omega arith) (λ q. absurd (true≢false (sym e ∙ either_left _ (member n r.also) q))))

-- the two objects that a row names are needed
or_self : (a : ℕ) (b : Bool) → eqb a a || b ≡ true
or_self a b = ap (λ (x : Bool). x || b) (eq-eqb a a refl)

pub own_needed : (a b : ℕ) → member a (0x01 ∷ 0x02 ∷ a ∷ b ∷ []) ≡ true
unfolding member some_of
own_needed a b = or_right (eqb a 0x01) _ (or_right (eqb a 0x02) _ (or_self a (eqb a b || false)))

pub further_needed : (a b : ℕ) → member b (0x01 ∷ 0x02 ∷ a ∷ b ∷ []) ≡ true
unfolding member some_of
further_needed a b = or_right (eqb b 0x01) _ (or_right (eqb b 0x02) _ (or_right (eqb b a) _ (or_self b false)))

-- the numbers that a row of the code may have besides those that it needs
abbrev others : List ℕ
others = 0x04 ∷ 0x05 ∷ 0x0D ∷ 0x1E ∷ 0x3C ∷ 0x3E ∷ 0x47 ∷ []

-- a row of the code is one of the rules: tried at each of its numbers, beside which neither row has any
module _ (row : Row) (r : rules.Row) where
  abbrev agrees : ℕ → Bool
  agrees n = eqb (times_by row n) (times r n)

  abbrev among : ℕ → Bool
  among n = member n (needed row) || member n others

  times_by_out : (n : ℕ) → member n (needed row) ≡ false → member n others ≡ false → times_by row n ≡ 0
  unfolding times_by besides_by every member some_of
  times_by_out n h k =
      let out : (ks : List ℕ) → every (λ j. member j others) ks ≡ true → member n ks ≡ false = λ ks e. no_member (λ j. member j others) n ks e k in
      skip _ _ _ h ∙ skip _ _ _ (out (0x05 ∷ 0x1E ∷ []) refl) ∙ skip _ _ _ (out (0x3C ∷ 0x47 ∷ []) refl)
      ∙ skip _ _ _ (out (0x04 ∷ 0x0D ∷ 0x3E ∷ []) refl)

  times_alike : row_all among r ≡ true → every agrees (needed row) ≡ true → every agrees others ≡ true → (n : ℕ) → times_by row n ≡ times r n
  times_alike u e f n = by (member n (needed row)) (member n others) refl refl
    where
      by : (a b : Bool) → member n (needed row) ≡ a → member n others ≡ b → times_by row n ≡ times r n
      by true b h k = eqb-true (times_by row n) (times r n) (every_member agrees n (needed row) e h)
      by false true h k = eqb-true (times_by row n) (times r n) (every_member agrees n others f k)
      by false false h k = times_by_out n h k ∙ sym (times_out among r n u (λ i. h i || k i))

-- the counts of a number, as the code comes to them
module _ (row : Row) (n : ℕ) {b : Bool} (q : b ≡ member n (needed row)) where
  pub times_required : b ≡ true → 1 ≡ times_by row n
  unfolding times_by
  times_required e = sym (stop _ _ _ (sym q ∙ e))

  pub times_besides : {k : ℕ} → b ≡ false → k ≡ besides_by row n → k ≡ times_by row n
  unfolding times_by
  times_besides e f = f ∙ sym (skip _ _ _ (sym q ∙ e))

-- once or twice, where it may stand
once : (b : Bool) → bool_byte b ≡ (b ⇒ 1 else 0)
unfolding ◌⇒◌else◌
once true = refl
once false = refl

twice : (b : Bool) → 2 * bool_byte b ≡ (b ⇒ 2 else 0)
unfolding ◌⇒◌else◌
twice true = refl
twice false = refl

module _ (row : Row) (n : ℕ) where
  pub besides_named : OneOf (0x05 ∷ 0x1E ∷ []) n → bool_byte row.named ≡ besides_by row n
  unfolding besides_by member some_of ◌⇒◌else◌
  besides_named o = once row.named ∙ arm (besides_by row) _ (0x05 ∷ 0x1E ∷ []) n (refl, (refl, tt)) o

  pub besides_once : OneOf (0x3C ∷ 0x47 ∷ []) n → bool_byte row.opening ≡ besides_by row n
  unfolding besides_by member some_of ◌⇒◌else◌
  besides_once o = once row.opening ∙ arm (besides_by row) _ (0x3C ∷ 0x47 ∷ []) n (refl, (refl, tt)) o

  pub besides_twice : OneOf (0x04 ∷ 0x0D ∷ 0x3E ∷ []) n → 2 * bool_byte row.opening ≡ besides_by row n
  unfolding besides_by member some_of ◌⇒◌else◌
  besides_twice o = twice row.opening ∙ arm (besides_by row) _ (0x04 ∷ 0x0D ∷ 0x3E ∷ []) n (refl, (refl, (refl, tt))) o

  pub besides_none :
      ((Unit {0} × (OneOf (0x05 ∷ 0x1E ∷ []) n → ⊥)) × (OneOf (0x3C ∷ 0x47 ∷ []) n → ⊥)) × (OneOf (0x04 ∷ 0x0D ∷ 0x3E ∷ []) n → ⊥) → 0 ≡ besides_by row n
  unfolding besides_by
  besides_none w =
      sym
      (skip _ _ _ (out_keys (0x05 ∷ 0x1E ∷ []) n w.0.0.1) ∙ skip _ _ _ (out_keys (0x3C ∷ 0x47 ∷ []) n w.0.1)
      ∙ skip _ _ _ (out_keys (0x04 ∷ 0x0D ∷ 0x3E ∷ []) n w.1))

-- two tests that come out the same
abbrev same : Bool → Bool → Bool
same a b = a ⇒ b else not b

same_true : (a b : Bool) → same a b ≡ true → a ≡ b
unfolding ◌⇒◌else◌
same_true true true e = refl
same_true true false e = sym e
same_true false true e = e
same_true false false e = refl

-- what makes a plan that of a type with that row
abbrev tests : Plan → ℕ → rules.Row → List Bool
tests p t r =
    known t ∷
    eqb p.row.own (own_number p.handler) ∷
    eqb p.row.further (further_number p.handler) ∷
    same p.row.opening (eqb t 0x40) ∷
    row_all (among p.row r) r ∷
    every (agrees p.row r) (needed p.row) ∷
    every (agrees p.row r) others ∷
    every (λ n. member n r.required) (needed p.row) ∷
    every (λ n. member n (needed p.row)) r.required ∷
    []

unfoldable pub rightly : Plan → ℕ → rules.Row → Bool
rightly p t r = every (λ (b : Bool). b) (tests p t r)

pub plan_right :
    (p : Plan) (d : Details) (k : ℕ) (r : rules.Row) → d.kind ≡ k → row_of d ≡ r → handles p.handler d ≡ true → PlaceFor p.place d →
    rightly p k r ≡ true → PlanOf p d
unfolding rightly
plan_right p d k r q row_is handled place e =
    let t = d.kind in
    let w = all_true (tests p t (row_of d)) ((λ i. rightly p (q i) (row_is i)) ∙ e) in
    let x = w.1.1 in
    let y = x.1.1 in
    record {
      known_is = w.0;
      kind_is = handled;
      own_is = eqb-true p.row.own (own_number p.handler) w.1.0;
      further_is = eqb-true p.row.further (further_number p.handler) x.0;
      opening_is = same_true p.row.opening (eqb t 0x40) x.1.0;
      place = place;
      row =
          record {
            times_are = times_alike p.row (row_of d) y.0 y.1.0 y.1.1.0;
            required = y.1.1.1.0;
            looked_for = y.1.1.1.1.0;
          };
    }

-- the row and the handler of a type whose row does not go by the qualifier
abbrev at_kind : Details → ℕ → Details
at_kind d k = record { number = d.number; kind = k; qualifier = d.qualifier }

pub plan_plain :
    (p : Plan) (d : Details) (k : ℕ) → d.kind ≡ k → PlaceFor p.place d → row_of (at_kind d k) ≡ row_among k table → handles p.handler (at_kind d k) ≡ true →
    rightly p k (row_among k table) ≡ true → PlanOf p d
plan_plain p d k q place row handled e =
    plan_right p d k (row_among k table) q ((λ i. row_of (at_kind d (q i))) ∙ row) ((λ i. handles p.handler (at_kind d (q i))) ∙ handled) place e

-- the same of a plan whose handler and row are told
pub plan_with :
    (p : Plan) (d : Details) (k : ℕ) {h : Handler} {row : Row} → p.handler ≡ h → p.row ≡ row → d.kind ≡ k → PlaceFor p.place d →
    row_of (at_kind d k) ≡ row_among k table → handles h (at_kind d k) ≡ true → rightly (record { handler = h; place = p.place; row = row }) k (row_among k table) ≡ true →
    PlanOf p d
plan_with p d k eh er q place row_is handled e =
    plan_plain p d k q place row_is (ap (λ (x : Handler). handles x (at_kind d k)) eh ∙ handled)
    ((λ i. rightly (record { handler = eh i; place = p.place; row = er i }) k (row_among k table)) ∙ e)

-- a byte that is read as a type, and one that is not
pub typed_kind : (b : ℕ) (r : Result CommandType UnknownType) (t u : CommandType) → Typed b r → Some t ≡ result_ok r → t ≡ u → b ≡ byte_of u
typed_kind b (Ok x) t u w e q = let same : t ≡ x = cc in sym w ∙ ap byte_of (sym same ∙ q)
typed_kind b (Err x) t u w e q = cc

pub untyped : (b : ℕ) (r : Result CommandType UnknownType) → Typed b r → None ≡ result_ok r → known b ≡ false
untyped b (Ok x) w e = cc
untyped b (Err x) w e = w

-- a place that is written out for one type
pub place_at :
    (p : Place) (d : Details) (t : ℕ) → d.kind ≡ t →
    ((q : List ℕ) → bit q p.byte p.bit ≡ allows_type q (record { number = d.number; kind = t; qualifier = d.qualifier })) →
    let low = leb 1 p.byte ∷ leb p.byte profile_size ∷ leb 1 p.bit ∷ leb p.bit 8 ∷ [] in every (λ (b : Bool). b) low ≡ true → PlaceFor p d
place_at p d t e is tried =
    let w = all_true (leb 1 p.byte ∷ leb p.byte profile_size ∷ leb 1 p.bit ∷ leb p.bit 8 ∷ []) tried in
    record {
      is = λ q. is q ∙ sym (λ i. allows_type q (record { number = d.number; kind = e i; qualifier = d.qualifier }));
      byte_low = leb-true 1 p.byte w.0;
      byte_high = leb-true p.byte profile_size w.1.0;
      bit_low = leb-true 1 p.bit w.1.1.0;
      bit_high = leb-true p.bit 8 w.1.1.1.0;
    }

-- the place of a type from 40 to 44
pub channel_place : (d : Details) → 0x40 ≤ d.kind → d.kind ≤ 0x44 → PlaceFor (record { byte = 12; bit = d.kind - 0x3F }) d
unfolding allows_type
channel_place d low high =
    record {
      is = λ q. sym (skip _ _ _ (ne_eqb d.kind 0x02 (omega arith)) ∙ skip _ _ _ (ne_eqb d.kind 0x05 (omega arith)) ∙ skip _ _ _ (ne_eqb d.kind 0x27 (omega arith)));
      byte_low = omega arith;
      byte_high = omega arith;
      bit_low = omega arith;
      bit_high = omega arith;
    }

-- the bit of a timer, by its action
action_bit : (q : ℕ) (a : Action) → Acts q a → bit_of a ≡ (eqb (action_of q) ask_action ⇒ 2 else 1)
unfolding ◌⇒◌else◌
action_bit q Start e = rw (sym e)
action_bit q Stop e = rw (sym e)
action_bit q Ask e = rw (sym e)
action_bit q Nothing e = rw (sym e)

pub no_start : (q : ℕ) (a : Action) → Acts q a → (a ≡ Start → ⊥) → action_of q ≡ 0 → ⊥
no_start q Start e n z = n refl
no_start q Stop e n z = omega arith
no_start q Ask e n z = omega arith
no_start q Nothing e n z = omega arith

-- the place of a timer: asking has its own bit
pub timer_place : (d : Details) (b : ℕ) (a : Action) → d.kind ≡ 0x27 → Acts d.qualifier a → b ≡ bit_of a → PlaceFor (record { byte = 8; bit = b }) d
unfolding allows_type ◌⇒◌else◌
timer_place d b a k w was =
    let e = was ∙ action_bit d.qualifier a w in
    let few = branch (λ (n : ℕ). (1 ≤ n) × (n ≤ 2)) (eqb (action_of d.qualifier) ask_action) 2 1 (λ _. (omega arith, omega arith)) (λ _. (omega arith, omega arith)) in
    record {
      is = λ q. ap (bit q 8) e ∙ sym (λ i. allows_type q (record { number = d.number; kind = k i; qualifier = d.qualifier }));
      byte_low = omega arith;
      byte_high = omega arith;
      bit_low = omega (arith, few.0, e);
      bit_high = omega (arith, few.1, e);
    }

-- the plan of a start and that of all else that is done with a timer
pub start_plan :
    (p : Plan) (d : Details) → d.kind ≡ 0x27 → action_of d.qualifier ≡ 0 → p.handler ≡ StartTimer → PlaceFor p.place d → rightly p 0x27 start_row ≡ true → PlanOf p d
unfolding row_of is_start
start_plan p d k a h place e =
    let start : is_start d ≡ true = both (eqb d.kind 0x27) _ (eq-eqb d.kind 0x27 k) (eq-eqb (action_of d.qualifier) 0 a) in
    plan_right p d 0x27 start_row k (stop _ _ _ start) (ap (λ (x : Handler). handles x d) h ∙ start) place e

pub manage_plan :
    (p : Plan) (d : Details) → d.kind ≡ 0x27 → (action_of d.qualifier ≡ 0 → ⊥) → p.handler ≡ ManageTimer → PlaceFor p.place d →
    rightly p 0x27 (row_among 0x27 table) ≡ true → PlanOf p d
unfolding row_of is_start
manage_plan p d k a h place e =
    let none : is_start d ≡ false = (λ i. eq-eqb d.kind 0x27 k i && ne_eqb (action_of d.qualifier) 0 a i) in
    plan_right p d 0x27 (row_among 0x27 table) k (skip _ _ _ none ∙ ap (λ (t : ℕ). row_among t table) k)
    (ap (λ (x : Handler). handles x d) h ∙ (λ i. eq-eqb d.kind 0x27 k i && not (none i))) place e

-- the types that have a plan: those that have an arm of their own, and the range
abbrev alone : List ℕ
alone = 0x02 ∷ 0x05 ∷ 0x27 ∷ []

abbrev planned : ℕ → Bool
planned t = member t alone || (leb 0x40 t && leb t 0x44)

kinds_planned : every planned (map (λ (r : rules.Row). r.kind) table) ≡ true
unfolding table every member some_of
kinds_planned = refl

module _ (t : ℕ) (w : Outside t alone (Unit {0})) where
  unknown : leb 0x40 t && leb t 0x44 ≡ false → known t ≡ false
  unfolding known
  unknown h = no_member planned t (map (λ (r : rules.Row). r.kind) table) kinds_planned (λ i. outside t alone w i || h i)

  pub unknown_below : t < 0x40 → known t ≡ false
  unknown_below h = unknown (ap (λ (b : Bool). b && leb t 0x44) (lt-leb 0x40 t h))

  pub unknown_above : 0x40 ≤ t → 0x44 < t → known t ≡ false
  unknown_above l h = unknown (λ i. le-leb 0x40 t l i && lt-leb t 0x44 h i)
