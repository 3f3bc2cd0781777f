-- The beginning of a reading: the first object, the ending of the walk, and the plan of the type.
-- Assumes nothing.
use Prim.Native.Nat.{ℕ, ◌+◌, ◌-◌, ◌*◌, ◌≤◌, ◌<◌}
use mathlib.Core.Logic.{◌⊎◌, ⊎_elim}
use mathlib.Core.Path.{◌≡◌, refl, sym, ap, subst, ◌∙◌}
use mathlib.Core.Bool.{Bool, true, false, not, ◌&&◌, ◌||◌, true≢false}
use mathlib.Core.List.{List, [], ◌∷◌}
use native.Mathlib.Omega.{arith}
use lib.ListN.{length, drop, get_or, length-drop}
use lib.Seq.{take_all}
use lib.Dec.{ltb, eqb}
use borrow.Author.Tests.{lt-ltb, le-ltb, eq-eqb, ne_eqb}
use Rattle.rules.specs.declared.Details.{Details}
use Rattle.rules.specs.declared.Ending.{Ending}
use Rattle.rules.specs.declared.Ending.TheVariants.{End, BadTag, BadLength, CutValue}
use Rattle.rules.specs.Checks.{is_empty}
use Rattle.rules.specs.Frames.{Object, object_at, faulty, Walk, walk, framed}
use Rattle.rules.specs.AtHand.{details_first, details_told, packed_details, at_hand}
use Rattle.rules.proofs.HandDetails.{read_with, objects_details, told_first, framed_details}
use Rattle.rules.specs.Table.{known, value_of}
use Rattle.rules.specs.Profile.{bit, allows_type}
use Rattle.rules.specs.Reading.{Reading, wrong, zeros, details_in, starts_with_details, is_fault, read_objects}
use Rattle.rules.proofs.Laws.{stop, skip, or_right}
use Rattle.rules.proofs.Walks.{walk_fault}
use Rattle.octets.specs.Parts.{part}
use Rattle.objects.specs.Places.{object_of, Stands}
use Rattle.objects.proofs.Alike.{part_size}
use Rattle.objects.proofs.Walking.{here_object}
use Rattle.command.specs.declared.Plan.{Plan}
use Rattle.command.specs.declared.Sorted.{Sorted}
use Rattle.command.specs.Plans.{RowFor, PlanOf}
use Rattle.command.specs.Requests.{FramedAt, the_details, details_at, Detailed, Headed, Leads, Typed, SortedBy, Begun}
use Rattle.command.proofs.Lengths.{part_first, part_at}
use Rattle.command.proofs.Steps.{read_began}

no_first : (s : List ℕ) (e : Ending) → is_empty s ≡ false → object_at s ≡ faulty e → is_empty (walk s).objects ≡ true
unfolding is_empty
no_first [] e h f = absurd (true≢false h)
no_first (b ∷ s) e h f = ap (λ (w : Walk). is_empty w.objects) (walk_fault b s e f)

pub none_read : (p s : List ℕ) → is_empty s ≡ true → read_objects p s ≡ wrong zeros 0x36
unfolding read_objects
none_read p s e = stop _ _ _ e

module _ (p s : List ℕ) (h : is_empty s ≡ false) where
  pub faulty_read : (e : Ending) → object_at s ≡ faulty e → read_objects p s ≡ wrong zeros 0x32
  unfolding read_objects
  faulty_read e f = skip _ _ _ h ∙ stop _ _ _ (no_first s e h f)

-- the first object stands
module _ {s : List ℕ} (h : is_empty s ≡ false) {number : ℕ} {flag : Bool} {start n next : ℕ} (st : Stands s 0 number flag start n next) where
  abbrev o : Object
  o = object_of s number flag start n

  first_is : (walk s).objects ≡ o ∷ (walk (drop next s)).objects
  first_is = ap (λ (w : Walk). w.objects) (here_object st)

  some_objects : is_empty (walk s).objects ≡ false
  unfolding is_empty
  some_objects = ap is_empty first_is

  fits : start + n ≤ length s
  fits = omega (arith, st.ends, st.within)

  begins : starts_with_details (walk s).objects ≡ eqb number 0x01 && eqb n 3
  unfolding starts_with_details
  begins = ap starts_with_details first_is ∙ ap (λ (k : ℕ). eqb number 0x01 && eqb k 3) (part_size s start n fits)

  stranger : starts_with_details (walk s).objects ≡ false → (p : List ℕ) → read_objects p s ≡ wrong zeros 0x36
  unfolding read_objects
  stranger e p = skip _ _ _ h ∙ skip _ _ _ some_objects ∙ stop _ _ _ (ap not e)

  pub stranger_number : (number ≡ 0x01 → ⊥) → (p : List ℕ) → read_objects p s ≡ wrong zeros 0x36
  stranger_number e = stranger (begins ∙ ap (λ (b : Bool). b && eqb n 3) (ne_eqb number 0x01 e))

  module _ (e : number ≡ 0x01) where
    pub stranger_length : (n ≡ 3 → ⊥) → (p : List ℕ) → read_objects p s ≡ wrong zeros 0x36
    stranger_length l = stranger (begins ∙ (λ i. eq-eqb number 0x01 e i && ne_eqb n 3 l i))

    module _ (l : n ≡ 3) where
      pub headed : Headed s start
      headed =
          let q : next ≡ start + 3 = omega (arith, st.ends) in
          record { flag = flag; stands = subst (λ (k : ℕ). Stands s 0 0x01 flag start 3 k) q (subst (λ (k : ℕ). Stands s 0 0x01 flag start k next) l (subst (λ (k : ℕ). Stands s 0 k flag start n next) e st)) }

      pub first_within : start + 3 ≤ length s
      first_within = omega (arith, fits)

      pub leads : {d : Details} → d ≡ details_at s start → Leads s d start
      unfolding details_in value_of
      leads q =
          let v : value_of 0x01 (walk s).objects ≡ part start (start + n) s = ap (value_of 0x01) first_is ∙ stop _ _ _ (eq-eqb 0x01 number (sym e)) in
          let a = ap (λ (x : List ℕ). get_or x 0 0) v ∙ part_first s start n (omega arith) in
          let b = ap (λ (x : List ℕ). get_or x 1 0) v ∙ part_at s start n 1 (omega arith) in
          let c = ap (λ (x : List ℕ). get_or x 2 0) v ∙ part_at s start n 2 (omega arith) in
          record {
            began = record { bytes = h; objects = some_objects; details = begins ∙ (λ i. eq-eqb number 0x01 e i && eq-eqb n 3 l i) };
            details = (λ i. record { number = a i; kind = b i; qualifier = c i }) ∙ sym q;
            headed = headed;
          }

-- the details of a command in a right frame
module _ (s : List ℕ) {start : ℕ} (f : FramedAt s start) where
  -- the bytes of its objects, as they are lent
  abbrev objects : List ℕ
  objects = part start (length s) s

  first_there : details_told s ≡ details_first (walk objects).objects
  first_there =
      let rest = take_all (length s - start) (drop start s) (omega (arith, length-drop start s)) in
      framed_details s f.is ∙ ap (λ (t : List ℕ). details_first (walk t).objects) (f.objects ∙ sym rest)

  pub hand_told : {d : Details} {first : ℕ} → Leads objects d first → d ≡ details_told s
  hand_told l = sym (first_there ∙ sym (told_first (walk objects).objects l.began.details) ∙ l.details)

  pub hand_absent : {e : ℕ} → ((p : List ℕ) → read_objects p objects ≡ wrong zeros e) → zeros ≡ details_told s
  hand_absent r = sym (first_there ∙ sym (objects_details [] objects) ∙ ap read_with (r []))

pub hand_unframed : (s : List ℕ) → framed s ≡ false → zeros ≡ details_told s
unfolding details_told
hand_unframed s e = sym (skip _ _ _ e)

-- R2, and the details in one number
pub hand_refused : (s : List ℕ) {b : Bool} → b ≡ is_empty s → (b ≡ true) ⊎ ((b ≡ false) × (256 < length s)) → 0x1000002 ≡ at_hand s
unfolding at_hand
hand_refused s e o =
    sym
    (stop _ _ _
    (⊎_elim (λ q. ap (λ (x : Bool). x || ltb 256 (length s)) (sym e ∙ q)) (λ w. or_right (is_empty s) _ (lt-ltb 256 (length s) w.1)) o))

pub hand_packed :
    (s : List ℕ) → is_empty s ≡ false → length s ≤ 256 → {d : Details} → d ≡ details_told s → {n : ℕ} → n ≡ 0 + d.number * 65536 + d.kind * 256 + d.qualifier →
    n ≡ at_hand s
unfolding at_hand packed_details
hand_packed s h l {d} q {n} e =
    let packed : n ≡ packed_details d = omega (arith, e) in
    packed ∙ ap packed_details q ∙ sym (skip _ _ _ (λ i. h i || le-ltb 256 (length s) l i))

-- an ending that is no end is a fault
no_end : (e : Ending) → (e ≡ End → ⊥) → is_fault e ≡ true
unfolding is_fault
no_end End h = absurd (h refl)
no_end BadTag h = refl
no_end BadLength h = refl
no_end CutValue h = refl

-- step 4, and step 5 for a type without a plan
module _ {s : List ℕ} {d : Details} (g : Detailed s d) where
  told : {r : Reading} {e : ℕ} → r ≡ wrong (the_details s) e → r ≡ wrong d e
  told {e = e} q = q ∙ ap (λ (x : Details). wrong x e) g.details

  fault_read : is_fault (walk s).ending ≡ true → (p : List ℕ) → read_objects p s ≡ wrong d 0x32
  fault_read f p = told (read_began p s g.began ∙ stop _ _ _ f)

  pub cut_read : (e : Ending) → e ≡ (walk s).ending → (e ≡ End → ⊥) → (p : List ℕ) → read_objects p s ≡ wrong d 0x32
  cut_read e q f = fault_read (sym (ap is_fault q) ∙ no_end e f)

  pub unknown_read : End ≡ (walk s).ending → known d.kind ≡ false → (p : List ℕ) → read_objects p s ≡ wrong d 0x31
  unfolding is_fault
  unknown_read q k p =
      told
      (read_began p s g.began ∙ skip _ _ _ (sym (ap is_fault q))
      ∙ stop _ _ _ (ap (λ (x : Details). not (known x.kind)) g.details ∙ ap not k))

  -- the type has a plan
  module _ {plan : Plan} (k : PlanOf plan d) where
    plan_is : PlanOf plan (the_details s)
    plan_is = subst (λ (x : Details). PlanOf plan x) (sym g.details) k

    pub row_is : RowFor plan.row (the_details s)
    row_is = plan_is.row

    pub planned_cut : is_fault (walk s).ending ≡ true → (p : List ℕ) → read_objects p s ≡ wrong d 0x32
    planned_cut = fault_read

    module _ {v : Sorted} (w : SortedBy v s plan.row) where
      pub begun : Begun s d plan v
      begun = record { began = g.began; details = g.details; planned = plan_is; sorted = w }

      module _ (p : List ℕ) {b : Bool} (a : b ≡ bit p plan.place.byte plan.place.bit) where
        allows : allows_type p (the_details s) ≡ b
        allows = sym (a ∙ plan_is.place.is p)

        pub forbidden_read : b ≡ false → read_objects p s ≡ wrong d 0x30
        forbidden_read e =
            told (read_began p s g.began ∙ skip _ _ _ w.whole ∙ skip _ _ _ (ap not plan_is.known_is) ∙ stop _ _ _ (ap not (allows ∙ e)))

        pub typed : b ≡ true → Typed p s
        typed e = record { began = g.began; whole = w.whole; kind = plan_is.known_is; allowed = allows ∙ e }
