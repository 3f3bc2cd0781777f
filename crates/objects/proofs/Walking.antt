-- The loops over objects: what a walk from here says of the whole walk.
-- Assumes nothing.
use Prim.Native.Nat.{ℕ, suc, ◌+◌, ◌-◌, ◌≤◌, ◌<◌}
use mathlib.Core.Path.{◌≡◌, refl, sym, ap, ◌∙◌}
use mathlib.Core.Bool.{Bool}
use mathlib.Core.List.{List, [], ◌∷◌}
use native.Mathlib.Omega.{arith}
use lib.ListN.{length, drop, get_or, length-drop, drop_of_length-le}
use lib.Dec.{eqb}
use Rattle.rules.specs.declared.Ending.{Ending}
use Rattle.rules.specs.declared.Ending.TheVariants.{End}
use Rattle.rules.specs.Checks.{◌⇒◌else◌}
use Rattle.rules.specs.Frames.{ObjectRead, faulty, object_at, Walk, walk}
use Rattle.rules.proofs.Walks.{walk_end, walk_fault, walk_object}
use Rattle.octets.proofs.Copies.{length_part}
use Rattle.objects.specs.Places.{object_of, Stands, place_in, place_up_to}
use Rattle.objects.proofs.Reading.{cons_at}

-- the walk from a place: at the end, at a fault, at an object
pub here_end : (s : List ℕ) (at : ℕ) → length s ≤ at → walk (drop at s) ≡ record { objects = []; ending = End; rest = [] }
here_end s at h = ap walk (drop_of_length-le s h) ∙ walk_end

pub here_fault :
    (s : List ℕ) (at : ℕ) (e : Ending) → at < length s → object_at (drop at s) ≡ faulty e → walk (drop at s) ≡ record { objects = []; ending = e; rest = drop at s }
here_fault s at e h f =
    let k = cons_at s at h in
    ap walk k ∙ walk_fault (get_or s at 0) (drop (at + 1) s) e (ap object_at (sym k) ∙ f)
    ∙ ap (λ (r : List ℕ). record { objects = []; ending = e; rest = r }) (sym k)

pub here_object :
    {s : List ℕ} {at number : ℕ} {flag : Bool} {start n next : ℕ} → Stands s at number flag start n next →
    walk (drop at s) ≡
    record { objects = object_of s number flag start n ∷ (walk (drop next s)).objects; ending = (walk (drop next s)).ending; rest = (walk (drop next s)).rest }
here_object {s} {at} {next = next} st =
    let k = cons_at s at (omega (arith, st.behind, st.ends, st.within)) in
    ap walk k ∙ walk_object (get_or s at 0) (drop (at + 1) s) _ (drop next s) (ap object_at (sym k) ∙ st.is)

-- less is left behind an object
pub nearer : {s : List ℕ} {at number : ℕ} {flag : Bool} {start n next : ℕ} → Stands s at number flag start n next → length s - next < length s - at
nearer st = omega (arith, st.behind, st.ends, st.within)

-- the walk ends as the walk from here does
pub record Ends (s : List ℕ) (at : ℕ) : Type 0 where
  pub within : at ≤ length s
  pub ending : (walk s).ending ≡ (walk (drop at s)).ending
  pub rest : (walk s).rest ≡ (walk (drop at s)).rest

pub ends_start : (s : List ℕ) → Ends s 0
ends_start s = record { within = omega arith; ending = refl; rest = refl }

pub ends_on : {s : List ℕ} {at number : ℕ} {flag : Bool} {start n next : ℕ} → Ends s at → Stands s at number flag start n next → Ends s next
ends_on w st =
    let k = here_object st in
    record {
      within = st.within;
      ending = w.ending ∙ ap (λ (x : Walk). x.ending) k;
      rest = w.rest ∙ ap (λ (x : Walk). x.rest) k;
    }

pub ends_end : (s : List ℕ) (at : ℕ) → Ends s at → length s ≤ at → (End ≡ (walk s).ending) × (at + length (walk s).rest ≡ length s)
ends_end s at w h =
    let k = here_end s at h in
    (sym (w.ending ∙ ap (λ (x : Walk). x.ending) k), place (w.rest ∙ ap (λ (x : Walk). x.rest) k))
  where
    place : (walk s).rest ≡ [] → at + length (walk s).rest ≡ length s
    place e = let l = ap length e in omega (arith, w.within)

pub ends_fault :
    (s : List ℕ) (at : ℕ) (e : Ending) → Ends s at → at < length s → object_at (drop at s) ≡ faulty e →
    (e ≡ (walk s).ending) × (at + length (walk s).rest ≡ length s)
ends_fault s at e w h f =
    let k = here_fault s at e h f in
    (sym (w.ending ∙ ap (λ (x : Walk). x.ending) k), place (w.rest ∙ ap (λ (x : Walk). x.rest) k))
  where
    place : (walk s).rest ≡ drop at s → at + length (walk s).rest ≡ length s
    place q = let l = ap length q ∙ length-drop at s in omega arith

-- where the value of the first object of a number starts, from a place on: here, or behind the object that stands here
pub place_here :
    {s : List ℕ} {at m : ℕ} {flag : Bool} {start n next : ℕ} → Stands s at m flag start n next → (number fuel : ℕ) →
    place_up_to number (suc fuel) (drop at s) ≡ (eqb number m ⇒ start - at else next - at + place_up_to number fuel (drop next s))
unfolding place_up_to place_in
place_here {s} {at} {m} {flag} {start} {n} {next} st number fuel =
    let before = taken (length s) at next _ _ (length-drop at s) (length-drop next s) st.within in
    let value = length_part start (start + n) s (omega (arith, st.ends, st.within)) in
    ap (λ (r : ObjectRead). place_in number (drop at s) r (place_up_to number fuel)) st.is
    ∙ (λ i. eqb number m ⇒ before i - value i else before i + place_up_to number fuel (drop next s))
    ∙ ap (λ (k : ℕ). eqb number m ⇒ k else next - at + place_up_to number fuel (drop next s)) (rest at start n next st.ends)
  where
    taken : (l a b x y : ℕ) → x ≡ l - a → y ≡ l - b → b ≤ l → x - y ≡ b - a
    taken l a b x y e f h = omega arith

    rest : (a b n c : ℕ) → c ≡ b + n → c - a - (b + n - b) ≡ b - a
    rest a b n c e = omega arith
