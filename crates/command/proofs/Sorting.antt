-- The walk over a command's objects, one object at a time: the survey, the ending, and what was met of each number.
-- Assumes nothing.
use Prim.Native.Nat.{ℕ, zero, suc, ◌+◌, ◌-◌, ◌*◌, ◌≤◌, ◌<◌}
use mathlib.Core.Path.{◌≡◌, refl, sym, ap, subst, ◌∙◌}
use mathlib.Core.Bool.{Bool, true, false, not, true≢false}
use mathlib.Core.List.{List, [], ◌∷◌, ◌++◌, append_assoc, append-nil}
use native.Mathlib.Omega.{arith}
use lib.ListN.{length, drop, get_or, set, replicate, length-set, get_or-replicate}
use lib.Seq.{get_or-set_same, get_or-set_other}
use Rattle.std.specs.Prelude.{Option, Some, None}
use lib.Dec.{ltb, eqb}
use borrow.Author.Tests.{eqb-true, eqb-false, le-ltb, eq-eqb, ne_eqb, not-true, not-false}
use Rattle.rules.specs.declared.Ending.{Ending}
use Rattle.rules.specs.Checks.{◌⇒◌else◌, is_empty, every, some_of, occurrences, member}
use Rattle.rules.specs.Frames.{TagRead, tag, no_tag, tag_at, LengthRead, len, no_length, length_at, Object, ObjectRead, object, faulty, value_after, after_tag, object_at, Walk, walk}
use Rattle.rules.specs.Table.{row_of, sift, times, present, value_of, length_fits, measured}
use Rattle.rules.specs.Reading.{is_fault}
use Rattle.rules.proofs.Laws.{branch, stop, skip}
use Rattle.octets.specs.Parts.{part}
use Rattle.objects.specs.Places.{object_of, Stands, place_up_to, place_of}
use Rattle.objects.proofs.Alike.{part_size}
use Rattle.objects.proofs.Walking.{here_end, here_object, Ends, ends_start, ends_on, ends_end, ends_fault, place_here}
use Rattle.command.specs.declared.Row.{Row}
use Rattle.command.specs.declared.Met.{Met}
use Rattle.command.specs.declared.Survey.{Survey}
use Rattle.command.specs.Plans.{besides_by, times_by, RowFor}
use Rattle.command.specs.Surveys.{survey_of, noted, slots, slot_of, met, place_in}
use Rattle.command.specs.Requests.{the_details, Headed, StandsAt, SortedBy}
use Rattle.command.proofs.Needed.{first_there, needed_slot, complete_is}
use Rattle.command.proofs.Sifting.{numbers, occurs_more, occurs_present, value_more, value_none, sift_more, survey_more}
use Rattle.command.proofs.Tables.{has_slot, slot_within, slot_one, times_none, own_needed, further_needed}

-- what was met of a number among the objects before a place: how many, and where the first value starts; so many objects may still stand from there on
pub record MetOf (s : List ℕ) (before : List Object) (at fuel n count start : ℕ) : Type 0 where
  pub counted : count ≡ occurrences n (numbers before)
  pub value : value_of n before ≡ part start (start + length (value_of n before)) s
  pub within : start + length (value_of n before) ≤ length s
  pub there : eqb start 0 ≡ eqb count 0
  pub last : eqb count 0 ≡ false → get_or s (start - 1) 0 ≡ length (value_of n before)
  pub place : place_of n s ≡ (eqb count 0 ⇒ at + place_up_to n fuel (drop at s) else start)

-- one object more
module _
    {s : List ℕ} {before : List Object} {at fuel n count first : ℕ} (w : MetOf s before at (suc fuel) n count first)
    {number : ℕ} {flag : Bool} {start k next : ℕ} (st : Stands s at number flag start k next) where
  abbrev o : Object
  o = object_of s number flag start k

  -- the value that is known, of objects of which another part is known
  keeps :
      (at' fuel' count' : ℕ) (os : List Object) → value_of n os ≡ value_of n before → count' ≡ occurrences n (numbers os) → eqb count' 0 ≡ eqb count 0 →
      place_of n s ≡ (eqb count 0 ⇒ at' + place_up_to n fuel' (drop at' s) else first) → MetOf s os at' fuel' n count' first
  keeps at' fuel' count' os v c z p =
      let l = ap length v in
      record {
        counted = c;
        value = v ∙ w.value ∙ ap (λ (m : ℕ). part first (first + m) s) (sym l);
        within = omega (arith, w.within);
        there = w.there ∙ sym z;
        last = λ q. w.last (sym z ∙ q) ∙ sym l;
        place = p ∙ ap (λ (b : Bool). b ⇒ at' + place_up_to n fuel' (drop at' s) else first) (sym z);
      }

  met_other : (n ≡ number → ⊥) → MetOf s (before ++ (o ∷ [])) next fuel n count first
  unfolding ◌⇒◌else◌
  met_other h =
      let e = ne_eqb n number h in
      let v = value_more n before o ∙ ap (λ (l : List ℕ). eqb (occurrences n (numbers before)) 0 ⇒ l else value_of n before) (skip _ _ _ e) in
      let c : count ≡ occurrences n (numbers (before ++ (o ∷ []))) =
      let a = occurs_more n before o in let z = skip {A = ℕ} (eqb n number) 1 0 e in omega (arith, w.counted) in
      keeps next fuel count (before ++ (o ∷ [])) (v ∙ by (eqb (occurrences n (numbers before)) 0) refl) c refl
      (w.place ∙ ap (λ (x : ℕ). eqb count 0 ⇒ x else first) later)
    where
      by : (b : Bool) → eqb (occurrences n (numbers before)) 0 ≡ b → (b ⇒ [] else value_of n before) ≡ value_of n before
      by true e = sym (value_none n before (eqb-true (occurrences n (numbers before)) 0 e))
      by false e = refl

      later : at + place_up_to n (suc fuel) (drop at s) ≡ next + place_up_to n fuel (drop next s)
      later = let p = place_here st n fuel ∙ skip _ _ _ (ne_eqb n number h) in omega (arith, st.behind, st.ends)

  met_same : n ≡ number → MetOf s (before ++ (o ∷ [])) next fuel n (count + 1) (eqb count 0 ⇒ start else first)
  unfolding ◌⇒◌else◌
  met_same e = by (eqb count 0) refl
    where
      one : count + 1 ≡ occurrences n (numbers (before ++ (o ∷ [])))
      one =
          let a = occurs_more n before o in
          let z = stop {A = ℕ} (eqb n number) 1 0 (eq-eqb n number e) in
          omega (arith, w.counted)

      some : eqb (count + 1) 0 ≡ false
      some = ne_eqb (count + 1) 0 (λ x. absurd (omega arith))

      here : at + place_up_to n (suc fuel) (drop at s) ≡ start
      here = let p = place_here st n fuel ∙ stop _ _ _ (eq-eqb n number e) in omega (arith, st.behind)

      none_or : (b : Bool) → eqb count 0 ≡ b → eqb (occurrences n (numbers before)) 0 ≡ b
      none_or b q = ap (λ (x : ℕ). eqb x 0) (sym w.counted) ∙ q

      by : (b : Bool) → eqb count 0 ≡ b → MetOf s (before ++ (o ∷ [])) next fuel n (count + 1) (b ⇒ start else first)
      by true q =
          let v = value_more n before o ∙ stop _ _ _ (none_or true q) ∙ stop _ _ _ (eq-eqb n number e) in
          let l = ap length v ∙ part_size s start k (omega (arith, st.ends, st.within)) in
          record {
            counted = one;
            value = v ∙ ap (λ (m : ℕ). part start (start + m) s) (sym l);
            within = omega (arith, st.ends, st.within);
            there = ne_eqb start 0 (λ x. absurd (omega (arith, st.behind))) ∙ sym some;
            last = λ _. st.last ∙ sym l;
            place = w.place ∙ stop _ _ _ q ∙ here ∙ sym (skip _ _ _ some);
          }
      by false q =
          keeps next fuel (count + 1) (before ++ (o ∷ [])) (value_more n before o ∙ skip _ _ _ (none_or false q)) one (some ∙ sym q)
          (w.place ∙ skip _ _ _ q ∙ sym (skip _ _ _ q))

-- the objects before a place are sorted
pub record Sorting (s : List ℕ) (m : Met) (v : Survey) (at : ℕ) : Type 0 where
  pub before : List Object
  pub fuel : ℕ
  pub enough : length s ≤ at + fuel
  pub objects : (walk s).objects ≡ before ++ (walk (drop at s)).objects
  pub ends : Ends s at
  pub counts_long : length m.counts ≡ slots
  pub starts_long : length m.starts ≡ slots
  pub few : (k : ℕ) → k < slots → 2 * get_or m.counts k 0 ≤ at
  pub met : (n : ℕ) → has_slot n ≡ true → MetOf s before at fuel n (get_or m.counts (slot_of n) 0) (get_or m.starts (slot_of n) 0)
  pub survey : v ≡ survey_of (sift (row_of (the_details s)) [] before)

-- nothing is met before the first object
abbrev blank : Survey
blank = record { flagged = false; ignored = false; misfit = false }

abbrev zeros : List ℕ
zeros = replicate slots 0

abbrev none_met : Met
none_met = record { counts = zeros; starts = zeros }

zero_at : (k : ℕ) → k < slots → 0 ≡ get_or zeros k 0
zero_at k h = sym (get_or-replicate slots k 0 0 h)

pub none_few : (n : ℕ) → get_or zeros (slot_of n) 0 < 255
none_few n = let e = zero_at (slot_of n) (slot_within n) in omega arith

sorting_none : (s : List ℕ) → Sorting s none_met blank 0
unfolding occurrences value_of sift some_of is_empty measured every
sorting_none s =
    record {
      before = [];
      fuel = length s;
      enough = omega arith;
      objects = refl;
      ends = ends_start s;
      counts_long = refl;
      starts_long = refl;
      few = λ k h. let e = zero_at k h in omega arith;
      met = λ n h. subst (λ (z : ℕ). MetOf s [] 0 (length s) n z z) (zero_at (slot_of n) (slot_within n)) (none n);
      survey = refl;
    }
  where
    none : (n : ℕ) → MetOf s [] 0 (length s) n 0 0
    none n =
        let p : place_of n s ≡ 0 + place_up_to n (length s) (drop 0 s) = omega arith in
        record { counted = refl; value = refl; within = omega arith; there = refl; last = λ q. absurd (true≢false q); place = p ∙ sym (stop _ _ _ refl) }

-- a list of which one entry is another
set_get : (l : List ℕ) (k x j : ℕ) → k < length l → get_or (set l k x) j 0 ≡ (eqb j k ⇒ x else get_or l j 0)
set_get l k x j h = by (eqb j k) refl
  where
    by : (b : Bool) → eqb j k ≡ b → get_or (set l k x) j 0 ≡ (eqb j k ⇒ x else get_or l j 0)
    by true e = ap (λ (i : ℕ). get_or (set l k x) i 0) (eqb-true j k e) ∙ get_or-set_same l k x 0 h ∙ sym (stop _ _ _ e)
    by false e = get_or-set_other l k j x 0 (eqb-false j k e) ∙ sym (skip _ _ _ e)

module _
    {s : List ℕ} {m : Met} {v : Survey} {at : ℕ} (w : Sorting s m v at) {number : ℕ} {flag : Bool} {start n next : ℕ}
    (st : Stands s at number flag start n next) {row : Row} (r : RowFor row (the_details s)) where
  abbrev x : Object
  x = object_of s number flag start n

  abbrev slot : ℕ
  slot = slot_of number

  abbrev seen : ℕ
  seen = get_or m.counts slot 0

  abbrev t : ℕ
  t = times (row_of (the_details s)) number

  abbrev now : Met
  now = met m slot start

  few_more : (k : ℕ) → k < slots → 2 * get_or now.counts k 0 ≤ next
  few_more k h =
      let f = w.few slot (slot_within number) in
      let g = w.few k h in
      subst (λ (j : ℕ). 2 * j ≤ next) (sym (set_get m.counts slot (seen + 1) k (omega (arith, slot_within number, w.counts_long))))
      (branch (λ (j : ℕ). 2 * j ≤ next) _ _ _ (λ _. omega (arith, st.behind, st.ends)) (λ _. omega (arith, st.behind, st.ends)))

  -- what stands in the slot of a number, once this number's is another
  slot_get : (l : List ℕ) (y k : ℕ) → length l ≡ slots → has_slot k ≡ true → (eqb k number ⇒ y else get_or l (slot_of k) 0) ≡ get_or (set l slot y) (slot_of k) 0
  slot_get l y k e h = sym (set_get l slot y (slot_of k) (omega (arith, slot_within number)) ∙ ap (λ (b : Bool). b ⇒ y else get_or l (slot_of k) 0) (by (eqb k number) refl))
    where
      by : (b : Bool) → eqb k number ≡ b → eqb (slot_of k) slot ≡ eqb k number
      by true q = eq-eqb (slot_of k) slot (ap slot_of (eqb-true k number q)) ∙ sym q
      by false q = ne_eqb (slot_of k) slot (λ p. eqb-false k number q (slot_one k number h p)) ∙ sym q

  slot_starts : (k : ℕ) → has_slot k ≡ true → (eqb k number ⇒ (eqb seen 0 ⇒ start else get_or m.starts slot 0) else get_or m.starts (slot_of k) 0) ≡ get_or now.starts (slot_of k) 0
  unfolding ◌⇒◌else◌
  slot_starts k h = by (eqb seen 0)
    where
      same : (b : Bool) → eqb k number ≡ b → (b ⇒ get_or m.starts slot 0 else get_or m.starts (slot_of k) 0) ≡ get_or m.starts (slot_of k) 0
      same true e = ap (λ (j : ℕ). get_or m.starts (slot_of j) 0) (sym (eqb-true k number e))
      same false e = refl

      by : (b : Bool) →
          (eqb k number ⇒ (b ⇒ start else get_or m.starts slot 0) else get_or m.starts (slot_of k) 0) ≡ get_or (b ⇒ set m.starts slot start else m.starts) (slot_of k) 0
      by true = slot_get m.starts start k w.starts_long h
      by false = same (eqb k number) refl

  starts_more : length now.starts ≡ slots
  starts_more = branch (λ (l : List ℕ). length l ≡ slots) _ _ _ (λ _. length-set m.starts slot start ∙ w.starts_long) (λ _. w.starts_long)

  met_now :
      (f k : ℕ) → has_slot k ≡ true → MetOf s w.before at (suc f) k (get_or m.counts (slot_of k) 0) (get_or m.starts (slot_of k) 0) →
      MetOf s (w.before ++ (x ∷ [])) next f k (get_or now.counts (slot_of k) 0) (get_or now.starts (slot_of k) 0)
  unfolding ◌⇒◌else◌
  met_now f k h was =
      subst (λ (j : ℕ). MetOf s (w.before ++ (x ∷ [])) next f k j (get_or now.starts (slot_of k) 0)) (slot_get m.counts (seen + 1) k w.counts_long h)
      (subst (λ (j : ℕ). MetOf s (w.before ++ (x ∷ [])) next f k (eqb k number ⇒ seen + 1 else get_or m.counts (slot_of k) 0) j) (slot_starts k h)
      (by (eqb k number) refl))
    where
      by : (b : Bool) → eqb k number ≡ b →
          MetOf s (w.before ++ (x ∷ [])) next f k (b ⇒ seen + 1 else get_or m.counts (slot_of k) 0)
          (b ⇒ (eqb seen 0 ⇒ start else get_or m.starts slot 0) else get_or m.starts (slot_of k) 0)
      by true e =
          let q = eqb-true k number e in
          met_same (subst (λ (j : ℕ). MetOf s w.before at (suc f) k (get_or m.counts j 0) (get_or m.starts j 0)) (ap slot_of q) was) st q
      by false e = met_other was st (eqb-false k number e)

  counted : ltb seen (times_by row number) ≡ ltb (occurrences number (numbers w.before)) t
  counted = ap (λ (k : ℕ). ltb seen k) (r.times_are number) ∙ by (has_slot number) refl
    where
      by : (b : Bool) → has_slot number ≡ b → ltb seen t ≡ ltb (occurrences number (numbers w.before)) t
      by true h = ap (λ (k : ℕ). ltb k t) (w.met number h).counted
      by false h =
          let z = times_none (the_details s) number h in
          le-ltb seen t (omega arith) ∙ sym (le-ltb (occurrences number (numbers w.before)) t (omega arith))

  sorting_step : (f : ℕ) → w.fuel ≡ f → (u : Survey) → u ≡ noted v (ltb seen (times_by row number)) (length_fits number x.value) flag → Sorting s now u next
  sorting_step zero e u eu = absurd (omega (arith, w.enough, st.behind, st.ends, st.within))
  sorting_step (suc f) e u eu =
      let rs = row_of (the_details s) in
      record {
        before = w.before ++ (x ∷ []);
        fuel = f;
        enough = omega (arith, w.enough, st.behind, st.ends);
        objects =
            w.objects ∙ ap (λ (y : Walk). w.before ++ y.objects) (here_object st)
            ∙ sym (append_assoc w.before (x ∷ []) (walk (drop next s)).objects);
        ends = ends_on w.ends st;
        counts_long = length-set m.counts slot (seen + 1) ∙ w.counts_long;
        starts_long = starts_more;
        few = few_more;
        met = λ k h. met_now f k h (subst (λ (j : ℕ). MetOf s w.before at j k (get_or m.counts (slot_of k) 0) (get_or m.starts (slot_of k) 0)) e (w.met k h));
        survey =
            eu ∙ (λ i. noted (w.survey i) (counted i) (length_fits number x.value) flag)
            ∙ survey_more (sift rs [] w.before) (ltb (occurrences number (numbers w.before)) t) x ∙ ap survey_of (sym (sift_more rs w.before x));
      }

  -- the same, from what the code found
  pub sorting_on :
      {k c : ℕ} {fit : Bool} {u : Survey} {y : Met} → k ≡ seen → y ≡ now → c ≡ times_by row number → fit ≡ length_fits number (part start (start + n) s) →
      u ≡ noted v (ltb k c) fit flag → Sorting s y u next
  sorting_on {u = u} ek ey ec ef eu =
      subst (λ (z : Met). Sorting s z u next) (sym ey) (sorting_step w.fuel refl u (eu ∙ (λ i. noted v (ltb (ek i) (ec i)) (ef i) flag)))

  -- few objects were met in the slot
  pub few_seen : length s ≤ 256 → seen < 255
  few_seen h = omega (arith, w.few slot (slot_within number), w.ends.within)

-- behind the first object, which is 01
module _ {s : List ℕ} {first : ℕ} (g : Headed s first) {row : Row} (r : RowFor row (the_details s)) where
  three : true ≡ length_fits 0x01 (part first (first + 3) s)
  unfolding length_fits ◌⇒◌else◌
  three = sym (eq-eqb (length (part first (first + 3) s)) 3 (part_size s first 3 (omega (arith, g.stands.within))))

  pub sorting_start : {m : Met} → m ≡ met none_met (slot_of 0x01) first → Sorting s m blank (first + 3)
  unfolding times_by besides_by member some_of noted slot_of ◌⇒◌else◌
  sorting_start em = sorting_on (sorting_none s) g.stands r {k = 0} {c = times_by row 0x01} {fit = true} {u = blank} refl em refl three refl

-- what stands no object is a fault
fault_met : (l : List ℕ) (e : Ending) → object_at l ≡ faulty e → is_fault e ≡ true
unfolding object_at tag_at after_tag value_after is_fault
fault_met l e f = sym (ap failing f) ∙ all (tag_at l)
  where
    failing : ObjectRead → Bool
    failing (faulty x) = is_fault x
    failing (object o r) = true

    after : (n : ℕ) (b : Bool) (k : LengthRead) → failing (value_after n b k) ≡ true
    after n b no_length = refl
    after n b (len m r) = branch (λ (x : ObjectRead). failing x ≡ true) _ _ _ (λ _. refl) (λ _. refl)

    all : (t : TagRead) → failing (after_tag t) ≡ true
    all no_tag = refl
    all (tag n b r) = after n b (length_at r)

-- where no object is left, what was met is what stands
module _ {s : List ℕ} {m : Met} {v : Survey} {at : ℕ} (w : Sorting s m v at) where
  module _ (none : (walk (drop at s)).objects ≡ []) where
    all : w.before ≡ (walk s).objects
    all = sym (w.objects ∙ ap (λ (l : List Object). w.before ++ l) none ∙ append-nil w.before)

    module _ (n : ℕ) (h : has_slot n ≡ true) where
      abbrev count : ℕ
      count = get_or m.counts (slot_of n) 0

      abbrev start : ℕ
      start = get_or m.starts (slot_of n) 0

      met_all : MetOf s (walk s).objects at w.fuel n count start
      met_all = subst (λ (os : List Object). MetOf s os at w.fuel n count start) all (w.met n h)

      there : eqb start 0 ≡ not (present n (walk s).objects)
      there = met_all.there ∙ ap (λ (k : ℕ). eqb k 0) met_all.counted ∙ occurs_present n (walk s).objects

      some : eqb start 0 ≡ false → eqb count 0 ≡ false
      some q = sym met_all.there ∙ q

      stands : {a : Option ℕ} → a ≡ place_in m n → StandsAt a s n
      unfolding ◌⇒◌else◌
      stands e = subst (λ (o : Option ℕ). StandsAt o s n) (sym e) (by (eqb start 0) refl)
        where
          by : (b : Bool) → eqb start 0 ≡ b → StandsAt (b ⇒ None else Some start) s n
          by true q = not-true (present n (walk s).objects) (sym there ∙ q)
          by false q =
              record {
                there = not-false (present n (walk s).objects) (sym there ∙ q);
                value = met_all.value;
                within = met_all.within;
                behind = let z = eqb-false start 0 q in omega arith;
                last = met_all.last (some q);
                place = sym (met_all.place ∙ skip _ _ _ (some q));
              }

  -- at the end
  pub sorted_end :
      {first : ℕ} → Headed s first → {row : Row} → RowFor row (the_details s) → length s ≤ at → {a b c d : Option ℕ} → a ≡ place_in m 0x02 → b ≡ place_in m row.own →
      c ≡ place_in m row.further → d ≡ place_in m 0x3C → SortedBy (record { survey = v; devices = a; own = b; further = c; transport = d }) s row
  unfolding member some_of is_fault
  sorted_end g {row} r q {a} {b} {c} {d} ea eb ec ed =
      let none = ap (λ (y : Walk). y.objects) (here_end s at q) in
      let devices = stands none 0x02 refl ea in
      let own = stands none row.own (needed_slot s r row.own (own_needed row.own row.further)) eb in
      let further = stands none row.further (needed_slot s r row.further (further_needed row.own row.further)) ec in
      record {
        whole = sym (ap is_fault (ends_end s at w.ends q).0);
        survey = w.survey ∙ ap (λ (l : List Object). survey_of (sift (row_of (the_details s)) [] l)) (all none);
        complete = complete_is s r (first_there g) a b c devices own further;
        devices = devices;
        own = own;
        further = further;
        transport = stands none 0x3C refl ed;
      }

  -- at a fault
  pub sorted_fault : (e : Ending) → at < length s → object_at (drop at s) ≡ faulty e → is_fault (walk s).ending ≡ true
  sorted_fault e q f = sym (ap is_fault (ends_fault s at e w.ends q f).0) ∙ fault_met (drop at s) e f
