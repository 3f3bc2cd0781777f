-- Statuses: one at a place, and one behind the other, up to the end.
-- Assumes nothing.
use Prim.Native.Nat.{ℕ, ◌+◌, ◌-◌, ◌*◌, ◌≤◌, ◌<◌}
use mathlib.Core.Path.{◌≡◌, refl, sym, ap, subst, ◌∙◌}
use mathlib.Core.Bool.{Bool, true, false, ◌&&◌}
use mathlib.Core.List.{List, [], ◌∷◌, ◌++◌, map}
use native.Mathlib.Omega.{arith}
use lib.ListN.{length, get_or, drop, length-append, length-drop, drop_of_length-le}
use lib.Seq.{drop-cons, drop-append_seam}
use lib.Dec.{ltb, leb}
use borrow.Author.Tests.{lt-ltb, le-ltb, le-leb, ltb-true, leb-true}
use Rattle.rules.specs.declared.ChannelNumber.{ChannelNumber}
use Rattle.rules.specs.declared.Details.{Details}
use Rattle.rules.specs.declared.Link.{Link}
use Rattle.rules.specs.declared.Link.TheVariants.{NotYet, Established, Dropped}
use Rattle.rules.specs.declared.Refusal.TheVariants.{NoResponse}
use Rattle.rules.specs.Checks.{◌⇒◌else◌, same}
use Rattle.rules.specs.Frames.{Object, walk, length_bytes, object_bytes, written}
use Rattle.rules.specs.Own.{Status, statuses, reports, done}
use Rattle.rules.specs.Written.{status_bytes, status_object, status_objects, further_objects, report_objects}
use Rattle.rules.specs.Bench.{rising, further_proper, value_at, status_in, statuses_in, further_in, told, untold, report_proper}
use Rattle.rules.proofs.Laws.{stop, skip, both_left, both_right}
use Rattle.rules.proofs.Forms.{same_refl, same_true, status_back}
use Rattle.rules.proofs.Walks.{walk_end}
use Rattle.octets.specs.Parts.{part}
use Rattle.bench_reader.specs.Heard.{statuses_at, further_of}
use Rattle.bench_reader.specs.declared.Further.TheVariants.{Statuses}
use Rattle.bench_reader.specs.Tails.{Holds, object_with, Bytes, Misfit, Hidden, Displays, checked, followed, listed, Leads}
use Rattle.bench_reader.proofs.Standing.{named, same_object, pair_there, never, silent, same_step, step_on}

-- a status of a channel from 1 to 7
pub rising_first : (last : ℕ) (st : Status) (ss : List Status) → rising last (st ∷ ss) ≡ true → (last < st.number.0) × (st.number.0 ≤ 7) × (rising st.number.0 ss ≡ true)
unfolding rising
rising_first last st ss e =
    let k = st.number.0 in
    let within = both_left (ltb last k && leb k 7) (rising k ss) e in
    (ltb-true last k (both_left (ltb last k) _ within), leb-true k 7 (both_right (ltb last k) _ within), both_right (ltb last k && leb k 7) _ e)

number_fair : (st : Status) → 1 ≤ st.number.0 → st.number.0 ≤ 7 → rising 0 (st ∷ []) ≡ true
unfolding rising
number_fair st l h = rw (lt-ltb 0 st.number.0 l, le-leb st.number.0 7 h)

two_long : (n : ChannelNumber) (l : Link) → length (status_bytes n l) ≡ 2
unfolding status_bytes
two_long n NotYet = refl
two_long n Established = refl
two_long n Dropped = refl

-- no two bytes, the status that two bytes are, and bytes that are none
pub status_missed : {s : List ℕ} {at : ℕ} → Misfit s at 0x38 false 2 → Hidden s at
unfolding status_object
status_missed m = record { never = λ st os _ q. m.never (status_bytes st.number st.link) os (two_long st.number st.link) q }

module _ {s : List ℕ} {at : ℕ} {v : List ℕ} {next : ℕ} (w : Bytes s at 0x38 false 2 v next) where
  abbrev a : ℕ
  a = get_or v 0 0

  abbrev b : ℕ
  b = get_or v 1 0

  displays : (n : ChannelNumber) (l : Link) → 1 ≤ n.0 → n.0 ≤ 7 → a ∷ b ∷ [] ≡ status_bytes n l → Displays s at (record { number = n; link = l }) next
  unfolding status_object
  displays n l low high q =
      record { holds = subst (λ (v : List ℕ). Holds s at (object_with 0x38 false v) next) q (pair_there w); numbered = number_fair _ low high }

  pub as_not_yet : b ≡ 0 → 1 ≤ a → a < 8 → Displays s at (record { number = record { 0 = a }; link = NotYet }) next
  unfolding status_bytes
  as_not_yet q low high = displays _ NotYet low (omega arith) (λ i. a ∷ q i ∷ [])

  pub as_established : b ≡ 0 → 129 ≤ a → a < 136 → Displays s at (record { number = record { 0 = a - 0x80 }; link = Established }) next
  unfolding status_bytes
  as_established q low high =
      let p : a ≡ a - 0x80 + 0x80 = omega arith in
      displays _ Established (omega arith) (omega arith) (λ i. p i ∷ q i ∷ [])

  pub as_dropped : b ≡ 5 → 1 ≤ a → a < 8 → Displays s at (record { number = record { 0 = a }; link = Dropped }) next
  unfolding status_bytes
  as_dropped q low high = displays _ Dropped low (omega arith) (λ i. a ∷ q i ∷ [])

  pub no_status : (b ≡ 0 → 1 ≤ a → a ≤ 7 → ⊥) → (b ≡ 0 → 129 ≤ a → a ≤ 135 → ⊥) → (b ≡ 5 → 1 ≤ a → a ≤ 7 → ⊥) → Hidden s at
  unfolding status_object status_bytes
  no_status f g h =
      record {
        never =
            λ st os k q.
            let p = rising_first 0 st [] k in
            by st.number st.link p.0 p.1 (ap (λ (o : Object). o.value) (same_object (drop at s) _ os (named (omega arith)) q (pair_there w).is));
      }
    where
      by : (n : ChannelNumber) (l : Link) → 1 ≤ n.0 → n.0 ≤ 7 → status_bytes n l ≡ a ∷ b ∷ [] → ⊥
      by n NotYet low high q = let p : n.0 ≡ a = cc in f (sym (cc)) (omega arith) (omega arith)
      by n Established low high q = let p : n.0 + 0x80 ≡ a = cc in g (sym (cc)) (omega arith) (omega arith)
      by n Dropped low high q = let p : n.0 ≡ a = cc in h (sym (cc)) (omega arith) (omega arith)

pub ruleset shows = (status_missed, no_status, arith)

-- the statuses of objects, and the objects of statuses
abbrev seen : List Object → List Status
seen = map (λ (o : Object). status_in o.value)

abbrev written_as : List Status → List Object
written_as = map (λ (st : Status). status_object st.number st.link)

-- none, or a list of them
module _ (d : Details) (x : ℕ) {s : List ℕ} {at : ℕ} where
  pub statuses_missed : Misfit s at 0x38 false 2 → followed d 0x44 x (drop at s) ≡ untold NoResponse
  unfolding followed further_in further_proper further_objects report_objects ◌⇒◌else◌ status_objects status_object
  statuses_missed m = silent _ _ _ _ (λ _ q. only (statuses_in (walk (drop at s)).objects) q)
    where
      only : (ss : List Status) → drop at s ≡ written (status_objects ss) → ⊥
      only [] q = m.never _ _ refl q
      only (st ∷ ss) q = m.never _ _ (two_long st.number st.link) q

  module _ {a b next : ℕ} (h : Holds s at (object_with 0x38 false (a ∷ b ∷ [])) next) where
    pub statuses_none : a ≡ 0 → b ≡ 0 → Leads (followed d 0x44 x (drop at s)) d x s (Statuses next 0) next
    unfolding followed further_in further_proper report_proper further_objects report_objects ◌⇒◌else◌ statuses_in status_objects value_at same rising further_of statuses_at
    statuses_none f g =
        record {
          is = rw h.walked (rw (f, g) (step_on h (named (omega arith)) _ _ _ (λ i. sym f i ∷ sym g i ∷ [])));
          at = λ o. omega (arith, h.within);
        }

    pub statuses_some : ((a ≡ 0) × (b ≡ 0) → ⊥) → followed d 0x44 x (drop at s) ≡ listed d x (drop at s)
    unfolding followed further_in further_proper report_proper further_objects report_objects ◌⇒◌else◌ statuses_in status_objects value_at listed
    statuses_some n =
        let f : same (a ∷ b ∷ []) (0 ∷ 0 ∷ []) ≡ false = never _ (λ q. let z = same_true (a ∷ b ∷ []) (0 ∷ 0 ∷ []) q in n (cc, cc)) in
        rw h.walked (rw f)

-- the statuses from here on rise above a number, and are all that stands here
unfoldable risen : ℕ → List ℕ → Bool
risen last t = let ss = seen (walk t).objects in rising last ss && same (written (written_as ss)) t

module _ (s : List ℕ) (at last : ℕ) where
  module _ {st : Status} {next : ℕ} (h : Displays s at st next) where
    risen_here :
        let ss = seen (walk (drop next s)).objects in
        risen last (drop at s) ≡ rising last (st ∷ ss) && same (written (written_as ss)) (drop next s)
    unfolding risen status_object
    risen_here =
        let n = st.number in
        let l = st.link in
        rw h.holds.walked
        (rw (status_back n l (rising_first 0 st [] h.numbered).1)
        (ap (λ (k : Bool). rising last (st ∷ seen (walk (drop next s)).objects) && k)
        (same_step h.holds (named (omega arith)) (status_bytes n l) _ ∙ rw (same_refl (status_bytes n l)))))

    risen_on : last < st.number.0 → risen last (drop at s) ≡ risen st.number.0 (drop next s)
    unfolding risen rising
    risen_on k = risen_here ∙ rw (lt-ltb last st.number.0 k, le-leb st.number.0 7 (rising_first 0 st [] h.numbered).1)

    risen_order : st.number.0 ≤ last → risen last (drop at s) ≡ false
    unfolding rising
    risen_order k = risen_here ∙ rw (le-ltb last st.number.0 k)

  risen_none : Hidden s at → at < length s → risen last (drop at s) ≡ false
  unfolding risen written
  risen_none h k =
      never _ (λ e.
      let ss = seen (walk (drop at s)).objects in
      only ss (both_left _ _ e) (sym (same_true (written (written_as ss)) (drop at s) (both_right (rising last ss) _ e))))
    where
      only : (ss : List Status) → rising last ss ≡ true → drop at s ≡ written (written_as ss) → ⊥
      only [] r e = let z : ◌≡◌ {A = ℕ} 0 1 = cc (drop-cons s at 0 k) in omega arith
      only (st ∷ ss) r e = let f = rising_first last st ss r in h.never st (written_as ss) (number_fair st (omega (arith, f.0)) f.1) e

  risen_end : length s ≤ at → risen last (drop at s) ≡ true
  unfolding risen rising written same
  risen_end h = rw (drop_of_length-le s h, walk_end)

-- each status takes four bytes
four : (n : ChannelNumber) (l : Link) → length (object_bytes (status_object n l)) ≡ 4
unfolding object_bytes status_object status_bytes length_bytes ◌⇒◌else◌
four n NotYet = refl
four n Established = refl
four n Dropped = refl

written_four : (ss : List Status) → length (written (written_as ss)) ≡ 4 * length ss
unfolding written
written_four [] = refl
written_four (st ∷ ss) =
    let e = length-append (object_bytes (status_object st.number st.link)) (written (written_as ss)) in
    omega (arith, four st.number st.link, written_four ss)

status_in_lem : (n : ChannelNumber) (l : Link) (u : List ℕ) → n.0 ≤ 7 → status_in (part 2 4 (object_bytes (status_object n l) ++ u)) ≡ record { number = n; link = l }
unfolding object_bytes status_object status_bytes length_bytes ◌⇒◌else◌
status_in_lem n NotYet u h = status_back n NotYet h
status_in_lem n Established u h = status_back n Established h
status_in_lem n Dropped u h = status_back n Dropped h

statuses_back : (last : ℕ) (ss : List Status) → rising last ss ≡ true → statuses_at (length ss) (written (written_as ss)) ≡ ss
unfolding statuses_at written
statuses_back last [] e = refl
statuses_back last (st ∷ ss) e =
    let n = st.number in
    let f = rising_first last st ss e in
    let u = written (written_as ss) in
    λ i.
    status_in_lem n st.link u f.1 i
    ∷ (ap (statuses_at (length ss)) (ap (λ (k : ℕ). drop k (object_bytes (status_object n st.link) ++ u)) (sym (four n st.link)) ∙ drop-append_seam (object_bytes (status_object n st.link)) u) ∙ statuses_back n.0 ss f.2) i

-- at every turn: so many statuses stand before here, the last of which has this number
pub record Rises (s : List ℕ) (start at count last : ℕ) : Type 0 where
  pub place : start + 4 * count ≡ at
  pub within : at ≤ length s
  test : risen 0 (drop start s) ≡ risen last (drop at s)

pub rises_none : {s : List ℕ} {start : ℕ} → start ≤ length s → Rises s start start 0 0
rises_none h = record { place = omega arith; within = h; test = refl }

module _ (d : Details) (x : ℕ) {s : List ℕ} {start at count last : ℕ} (r : Rises s start at count last) where
  rising_silent : risen last (drop at s) ≡ false → listed d x (drop start s) ≡ untold NoResponse
  unfolding listed checked risen
  rising_silent e = skip _ _ _ (r.test ∙ e)

  pub rising_hidden : Hidden s at → at < length s → listed d x (drop start s) ≡ untold NoResponse
  rising_hidden m k = rising_silent (risen_none s at last m k)

  pub rising_order : {st : Status} {next : ℕ} → Displays s at st next → st.number.0 ≤ last → listed d x (drop start s) ≡ untold NoResponse
  rising_order m k = rising_silent (risen_order s at last m k)

  pub rising_heard : length s ≤ at → Leads (listed d x (drop start s)) d x s (Statuses start count) at
  unfolding listed checked risen further_of written same
  rising_heard h =
      let ss = seen (walk (drop start s)).objects in
      let t = r.test ∙ risen_end s at last h in
      let e = sym (same_true (written (written_as ss)) (drop start s) (both_right (rising 0 ss) _ t)) in
      let l = sym (written_four ss) ∙ sym (ap length e) ∙ length-drop start s in
      let n : length ss ≡ count = omega (arith, r.place, r.within) in
      let all : ss ≡ statuses_at count (drop start s) = sym (statuses_back 0 ss (both_left _ _ t)) ∙ (λ i. statuses_at (n i) (sym e i)) in
      record {
        is =
            stop _ _ _ t ∙ ap (λ (k : List Status). told (record { details = d; result = done x (reports (statuses k)) })) all
            ∙ sym (stop _ _ _ (ap (same []) (drop_of_length-le s h)));
        at = λ _. omega (arith, r.place, r.within);
      }

module _ {s : List ℕ} {at : ℕ} {st : Status} {next : ℕ} (m : Displays s at st next) where
  pub nearer : length s - next < length s - at
  nearer = let h = m.holds in omega (arith, h.behind, h.within, four st.number st.link)

  pub rises_more : {start count last : ℕ} → Rises s start at count last → last < st.number.0 → Rises s start next (count + 1) st.number.0
  rises_more {last = last} r k =
      record {
        place = omega (arith, r.place, m.holds.behind, four st.number st.link);
        within = m.holds.within;
        test = r.test ∙ risen_on s at last m k;
      }
