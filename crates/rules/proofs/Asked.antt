-- What the bench writes, the modem reads as the same record.
-- Assumes nothing.
use Prim.Native.Nat.{ℕ, suc, ◌+◌, ◌≤◌}
use mathlib.Core.Path.{◌≡◌, refl, ap, subst, ◌∙◌}
use mathlib.Core.Logic.{⊎_elim}
use mathlib.Core.Bool.{Bool, true, false, not, ◌&&◌, false≢true}
use mathlib.Core.List.{List, [], ◌∷◌, ◌++◌}
use mathlib.Core.Option.{Option, none, some}
use native.Mathlib.Omega.{arith}
use lib.ListN.{length, drop, length-append}
use lib.Dec.{eqb}
use borrow.Author.Tests.{eq-eqb, eqb-true, leb-true}
use Rattle.rules.specs.declared.Details.{Details}
use Rattle.rules.specs.declared.Refusal.{Refusal}
use Rattle.rules.specs.Checks.{◌⇒◌else◌, is_empty, every, some_of, occurrences, member}
use Rattle.rules.specs.Frames.{Object, len, length_at, length_bytes, object_bytes, written, fills, following, framed, contents, frame}
use Rattle.rules.specs.Table.{table, known, row_among, row_of, times, sift, present, value_of, complete, bearer_fits, length_fits, measured}
use Rattle.rules.specs.Timers.{is_start}
use Rattle.rules.specs.Profile.{allows_type}
use Rattle.rules.specs.Reading.{wrong, asked, reading, read_objects, Command, Body, Bearer, Transport, bare, event_list, open_channel, close_channel, receive_data, send_data, start_timer, manage_timer, kind_of, details_of, details_in, body_in, command_in, addressed, is_fault, starts_with_details}
use Rattle.rules.specs.Own.{bare_types}
use Rattle.rules.specs.Written.{flagged, unflagged, details_bytes, bearer_bytes, pair_bytes}
use Rattle.rules.specs.Command.{Outcome, wrote, refused}
use Rattle.rules.specs.Bench.{bearer_proper, body_proper, transport_objects, body_objects, command_objects, bench_write}
use Rattle.rules.specs.Sound.{Each}
use Rattle.rules.proofs.Laws.{branch, stop, skip, not_not, both_left, both_right, either, by_equal, each_member}
use Rattle.rules.proofs.Sizes.{length_bytes_lem}
use Rattle.rules.proofs.Forms.{length_back, Named, walk_written, pair_back, bearer_back, transport_back}

-- a frame is read as the bytes of its objects
frame_back : (os : List Object) → length_at (drop 1 (frame os)) ≡ len (length (written os)) (written os)
unfolding frame
frame_back os = length_back (length (written os)) (written os)

frame_framed : (os : List Object) → framed (frame os) ≡ true
unfolding framed frame fills
frame_framed os = ap fills (frame_back os) ∙ eq-eqb (length (written os)) (length (written os)) refl

frame_contents : (os : List Object) → contents (frame os) ≡ written os
unfolding contents following
frame_contents os = ap following (frame_back os)

frame_read : (p : List ℕ) (os : List Object) → reading p (frame os) ≡ read_objects p (written os)
unfolding reading
frame_read p os = skip _ _ _ (rw (frame_framed os)) ∙ ap (read_objects p) (frame_contents os)

-- a bearer that the bench writes has its length
empty_length : (s : List ℕ) → is_empty s ≡ true → length s ≡ 0
unfolding is_empty
empty_length [] e = refl
empty_length (x ∷ s) e = absurd (false≢true e)

bearer_fits_lem : (b : Bearer) → bearer_proper b ≡ true → bearer_fits (bearer_bytes b) ≡ true
unfolding bearer_proper bearer_fits bearer_bytes is_empty
bearer_fits_lem b e =
    let two = eqb b.kind 0x02 in
    let three = eqb b.kind 0x03 in
    let l = length b.parameters in
    let six = eqb l 6 in
    let none-there = is_empty b.parameters in
    skip _ _ _ refl
    ∙ ⊎_elim
    (λ q. let n = eqb-true l 6 (both_right two six q) in stop _ _ _ (both_left two six q) ∙ eq-eqb (suc l) 7 (omega arith))
    (λ q.
    let n = empty_length b.parameters (both_right three none-there q) in
    by_equal (λ (k : ℕ). (eqb k 0x02 ⇒ eqb (suc l) 7 else eqb k 0x03 ⇒ eqb (suc l) 1 else true) ≡ true) b.kind 0x03 (both_left three none-there q)
    (skip _ _ _ refl ∙ stop _ _ _ refl ∙ eq-eqb (suc l) 1 (omega arith)))
    (either (two && six) (three && none-there) e)

-- all objects that the bench writes count, with their lengths, and the values are read as they were
record Kept (d : Details) (os : List Object) (b : Body) : Type 0 where
  kind : known (kind_of b) ≡ true
  named : Each Named os
  counts : sift (row_of d) [] os ≡ record { counting = os; unexpected = [] }
  whole : complete (row_of d) os ≡ true
  lengths : measured os ≡ true
  values : body_in d os ≡ b

kept :
    (n k q from to : ℕ) (b : Body) → body_proper b ≡ true →
    Kept (record { number = n; kind = kind_of b; qualifier = q }) (flagged 0x01 (n ∷ k ∷ q ∷ []) ∷ flagged 0x02 (from ∷ to ∷ []) ∷ body_objects b) b
unfolding body_objects transport_objects body_proper pair_bytes known kind_of table member some_of sift row_of row_among is_start times occurrences complete every present measured length_fits value_of body_in ◌⇒◌else◌
kept n k q from to (bare t) e =
    each_member (λ (x : ℕ). Kept (record { number = n; kind = x; qualifier = q }) (flagged 0x01 (n ∷ k ∷ q ∷ []) ∷ flagged 0x02 (from ∷ to ∷ []) ∷ []) (bare x)) t bare_types
    (record { kind = refl; named = omega arith; counts = refl; whole = refl; lengths = refl; values = refl }, (record { kind = refl; named = omega arith; counts = refl; whole = refl; lengths = refl; values = refl }, tt)) e
kept n k q from to (event_list es) e = record { kind = refl; named = omega arith; counts = refl; whole = refl; lengths = refl; values = refl }
kept n k q from to (open_channel b size none) e =
    record {
      kind = refl;
      named = omega arith;
      counts = refl;
      whole = refl;
      lengths = rw (bearer_fits_lem b e);
      values = λ i. open_channel (bearer_back b i) (pair_back size i) none;
    }
kept n k q from to (open_channel b size (some t)) e =
    record {
      kind = refl;
      named = omega arith;
      counts = refl;
      whole = refl;
      lengths = rw (bearer_fits_lem b e);
      values = λ i. open_channel (bearer_back b i) (pair_back size i) (some (transport_back t i));
    }
kept n k q from to close_channel e = record { kind = refl; named = omega arith; counts = refl; whole = refl; lengths = refl; values = refl }
kept n k q from to (receive_data m) e = record { kind = refl; named = omega arith; counts = refl; whole = refl; lengths = refl; values = refl }
kept n k q from to (send_data s) e = record { kind = refl; named = omega arith; counts = refl; whole = refl; lengths = refl; values = refl }
kept n k q from to (start_timer m v) e = absurd (false≢true e)
kept n k q from to (manage_timer m) e = absurd (false≢true e)

-- a test and its lines, the other way round
turned : {A : Type 0} (b : Bool) (x y : A) → (not b ⇒ x else y) ≡ (b ⇒ y else x)
unfolding ◌⇒◌else◌
turned true x y = refl
turned false x y = refl

-- the objects that the bench writes are read as its record
objects_read :
    (p : List ℕ) (c : Command) → addressed (kind_of c.body) c.source c.destination ≡ true → body_proper c.body ≡ true →
    read_objects p (written (command_objects c)) ≡ (allows_type p (details_of c) ⇒ asked c false else wrong (details_of c) 0x30)
unfolding read_objects command_objects written object_bytes is_empty starts_with_details is_fault details_bytes details_of details_in value_of some_of command_in ◌⇒◌else◌
objects_read p c a e =
    let k = kept c.number (kind_of c.body) c.qualifier c.source.0 c.destination.0 c.body e in
    rw (walk_written (command_objects c) k.named, k.kind, k.counts, k.whole, k.lengths, k.values, a)
    (turned (allows_type p (details_of c)) (wrong (details_of c) 0x30) (asked c false))

-- the bytes that the bench writes: at most 256
object_short : (o : Object) → length (object_bytes o) ≤ 3 + length o.value
unfolding object_bytes
object_short o =
    let n = length o.value in
    let few = length_bytes_lem n in
    let e = length-append (length_bytes n) o.value in
    omega (arith, few, e)

last_short : (o : Object) → length (written (o ∷ [])) ≤ 3 + length o.value
unfolding written
last_short o = let e = length-append (object_bytes o) [] in omega (arith, object_short o, e)

bearer_short : (b : Bearer) → bearer_proper b ≡ true → length (bearer_bytes b) ≤ 7
unfolding bearer_proper bearer_bytes
bearer_short b e =
    let two = eqb b.kind 0x02 in
    let three = eqb b.kind 0x03 in
    ⊎_elim (λ q. let n = eqb-true (length b.parameters) 6 (both_right two _ q) in omega arith)
    (λ q. let n = empty_length b.parameters (both_right three _ q) in omega arith) (either (two && eqb (length b.parameters) 6) (three && is_empty b.parameters) e)

transport_short : (t : Option Transport) → length (written (transport_objects t)) ≤ 6
unfolding transport_objects written pair_bytes
transport_short none = omega arith
transport_short (some t) = omega (arith, last_short (unflagged 0x3C (t.protocol ∷ pair_bytes t.port)))

body_short : (b : Body) → body_proper b ≡ true → length (written (body_objects b)) ≤ 244
unfolding body_proper body_objects written pair_bytes
body_short (bare t) e = omega arith
body_short (event_list es) e = omega (arith, last_short (flagged 0x19 es), leb-true (length es) 241 e)
body_short (open_channel b size t) e =
    let three = object_short (flagged 0x35 (bearer_bytes b)) in
    let two = object_short (flagged 0x39 (pair_bytes size)) in
    let p = length-append (object_bytes (flagged 0x35 (bearer_bytes b))) (object_bytes (flagged 0x39 (pair_bytes size)) ++ written (transport_objects t)) in
    let q = length-append (object_bytes (flagged 0x39 (pair_bytes size))) (written (transport_objects t)) in
    omega (arith, three, two, p, q, bearer_short b e, transport_short t)
body_short close_channel e = omega arith
body_short (receive_data n) e = omega (arith, last_short (flagged 0x37 (n ∷ [])))
body_short (send_data s) e = omega (arith, last_short (flagged 0x36 s), leb-true (length s) 241 e)
body_short (start_timer n v) e = absurd (false≢true e)
body_short (manage_timer n) e = absurd (false≢true e)

frame_short : (c : Command) → body_proper c.body ≡ true → length (frame (command_objects c)) ≤ 256
unfolding frame command_objects written object_bytes length_bytes details_bytes ◌⇒◌else◌
frame_short c e =
    let s = written (command_objects c) in
    let few = length_bytes_lem (length s) in
    let p = length-append (length_bytes (length s)) s in
    omega (arith, few, p, body_short c.body e)

-- a refusal writes nothing
unwritten : (r : Refusal) (s : List ℕ) → refused r ≡ wrote s → ⊥
unwritten r s e = false≢true (cc)

-- the modem's reading of what the bench writes is the same record, with nothing ignored; a type that the profile forbids is told 30; and the command is not too long
pub read_back :
    (p : List ℕ) (buffer : ℕ) (c : Command) (s : List ℕ) → bench_write buffer c ≡ wrote s →
    (reading p s ≡ (allows_type p (details_of c) ⇒ asked c false else wrong (details_of c) 0x30)) × (length s ≤ 256)
unfolding bench_write
read_back p buffer c s =
    branch P _ _ _ (λ _ e. absurd (unwritten _ s e)) (λ _.
    branch P _ _ _ (λ _ e. absurd (unwritten _ s e)) (λ a.
    branch P _ _ _ (λ _ e. absurd (unwritten _ s e)) (λ b e.
    let is : frame (command_objects c) ≡ s = cc in
    subst R is (frame_read p (command_objects c) ∙ objects_read p c (not_not _ a) (not_not _ b), frame_short c (not_not _ b)))))
  where
    R : List ℕ → Type 0
    R x = (reading p x ≡ (allows_type p (details_of c) ⇒ asked c false else wrong (details_of c) 0x30)) × (length x ≤ 256)

    P : Outcome → Type 0
    P x = x ≡ wrote s → R s
