-- Every response has at most 255 bytes, every event at most 16.
-- Assumes nothing.
use Prim.Native.Nat.{ℕ, suc, ◌+◌, ◌*◌, ◌≤◌, min}
use mathlib.Core.Path.{◌≡◌, refl, subst}
use mathlib.Core.Bool.{Bool, true, false, false≢true}
use mathlib.Core.List.{List, [], ◌∷◌, map}
use native.Mathlib.Omega.{arith}
use lib.ListN.{length, length-append, length-take}
use lib.Dec.{eqb}
use borrow.Author.Tests.{eqb-true}
use Rattle.rules.specs.declared.ChannelNumber.{ChannelNumber}
use Rattle.rules.specs.declared.Details.{Details}
use Rattle.rules.specs.declared.Link.{Link}
use Rattle.rules.specs.declared.Link.TheVariants.{NotYet, Established, Dropped}
use Rattle.rules.specs.Checks.{◌⇒◌else◌, is_empty, every}
use Rattle.rules.specs.Words.{channel_of}
use Rattle.rules.specs.Frames.{Object, contents, length_bytes, object_bytes, written}
use Rattle.rules.specs.Table.{table, row_among, row_of, complete, present, value_of, bearer_fits, length_fits}
use Rattle.rules.specs.Profile.{bit, allows_bearer}
use Rattle.rules.specs.declared.Way.TheVariants.{Receive, Send}
use Rattle.rules.specs.State.{State, Chan, chan, held, at_once, timer}
use Rattle.rules.specs.Reading.{Reading, reading, Command, Body, Bearer, bare, event_list, open_channel, close_channel, receive_data, send_data, bearer_in, command_in, start_timer, manage_timer}
use Rattle.rules.specs.Own.{Reply, Result, Status, error, problem, done, nothing, opened, received, sent, statuses, statuses_from, own, protocol_of, reports, started, leaves}
use Rattle.rules.specs.Written.{unflagged, details_bytes, bearer_bytes, pair_bytes, status_bytes, status_object, status_objects, further_objects, result_bytes, result_objects, response_objects, response_bytes, event_bytes, report_objects, timer_object, envelope_bytes, time_object}
use Rattle.rules.specs.Command.{Answer, meant_by}
use Rattle.rules.specs.Radio.{arrival_event, drop_event, arrives, takes, drops}
use Rattle.rules.specs.Run.{Call, starting, commanding, radio, step, timing}
use Rattle.rules.specs.Sound.{Sound, most, Within}
use Rattle.rules.proofs.Laws.{branch, both_left, both_right}
use Rattle.rules.proofs.Cases.{arrival_cases, taking_cases, dropping_cases, command_cases, listing_cases, opening_cases, closing_cases, receiving_cases, sending_cases, telling_cases, starting_timer_cases, managing_timer_cases, enveloping_cases}
use Rattle.rules.proofs.Readings.{Read, details_read, counted, reading_cases, body_cases, value_fits}
use Rattle.rules.specs.Timers.{is_start, time_bytes, started_of}
use Rattle.rules.specs.TimerCalls.{passing, envelope, second}
use Rattle.rules.specs.declared.Time.{Time}

-- a length takes at most two bytes, so an object at most three more than its value
pub length_bytes_lem : (n : ℕ) → length (length_bytes n) ≤ 2
unfolding length_bytes
length_bytes_lem n = branch (λ (s : List ℕ). length s ≤ 2) _ _ _ (λ _. omega arith) (λ _. omega arith)

object_bytes_lem : (o : Object) → length (object_bytes o) ≤ 3 + length o.value
unfolding object_bytes
object_bytes_lem o =
    let h = length_bytes_lem (length o.value) in
    let e = length-append (length_bytes (length o.value)) o.value in
    omega arith

-- what follows a result
abbrev Short : Result → Type 0
Short (error e) = Unit {0}
Short (problem cause) = Unit {0}
Short (done r f) = length (written (further_objects f)) ≤ 243

response_short : (d : Details) (r : Result) → Short r → length (response_bytes (record { details = d; result = r })) ≤ 255
unfolding response_bytes response_objects result_bytes result_objects details_bytes written object_bytes length_bytes ◌⇒◌else◌
response_short d (error e) h = omega arith
response_short d (problem cause) h = omega arith
response_short d (done r f) h = omega arith

-- the status of a channel takes two bytes
status_length : (n : ChannelNumber) (l : Link) → length (status_bytes n l) ≡ 2
unfolding status_bytes
status_length n NotYet = refl
status_length n Established = refl
status_length n Dropped = refl

opened_short : (s : Status) (b : Bearer) (g : ℕ) → length (bearer_bytes b) ≤ 7 → length (written (further_objects (opened s b g))) ≤ 243
unfolding further_objects status_object written pair_bytes
opened_short s b g h =
    let x = object_bytes_lem (unflagged 0x38 (status_bytes s.number s.link)) in
    let y = object_bytes_lem (unflagged 0x35 (bearer_bytes b)) in
    let z = object_bytes_lem (unflagged 0x39 (pair_bytes g)) in
    let w = status_length s.number s.link in
    simp length-append (omega arith)

count_length : (n : ℕ) → length (object_bytes (unflagged 0x37 (n ∷ []))) ≡ 3
unfolding object_bytes length_bytes ◌⇒◌else◌
count_length n = refl

nothing_short : length (written (further_objects nothing)) ≤ 243
unfolding further_objects written
nothing_short = omega arith

received_short : (s : List ℕ) (left : ℕ) → length s ≤ 237 → length (written (further_objects (received s left))) ≤ 243
unfolding further_objects written
received_short s left h =
    let x = object_bytes_lem (unflagged 0x36 s) in
    let y = count_length left in
    simp length-append (omega arith)

sent_short : (room : ℕ) → length (written (further_objects (sent room))) ≤ 243
unfolding further_objects written
sent_short room = let y = count_length room in simp length-append (omega arith)

-- at most as many statuses as channels, of at most five bytes each
statuses_few : (n : ℕ) (cs : List Chan) → length (statuses_from n cs) ≤ length cs
unfolding statuses_from
statuses_few n [] = omega arith
statuses_few n (c ∷ cs) =
    let ih = statuses_few (n + 1) cs in
    branch (λ (ss : List Status). length ss ≤ suc (length cs)) _ _ _ (λ _. omega arith) (λ _. omega arith)

status_objects_lem : (ss : List Status) → length (written (map (λ (t : Status). status_object t.number t.link) ss)) ≤ 5 * length ss
unfolding written status_object
status_objects_lem [] = omega arith
status_objects_lem (s ∷ ss) =
    let x = object_bytes_lem (unflagged 0x38 (status_bytes s.number s.link)) in
    let w = status_length s.number s.link in
    let ih = status_objects_lem ss in
    simp length-append (omega arith)

none_short : length (written (unflagged 0x38 (0x00 ∷ 0x00 ∷ []) ∷ [])) ≤ 243
unfolding written object_bytes length_bytes ◌⇒◌else◌
none_short = omega arith

started_short : (n : ℕ) → length (written (further_objects (started n))) ≤ 243
unfolding further_objects timer_object written object_bytes length_bytes ◌⇒◌else◌
started_short n = omega arith

leaves_short : (n : ℕ) (t : Time) → length (written (further_objects (leaves n t))) ≤ 243
unfolding further_objects timer_object time_object time_bytes written object_bytes length_bytes ◌⇒◌else◌
leaves_short n t = omega arith

statuses_short : (ss : List Status) → length ss ≤ 7 → length (written (further_objects (reports (statuses ss)))) ≤ 243
unfolding further_objects report_objects status_objects
statuses_short [] h =
    none_short
statuses_short (s ∷ ss) h = let x = status_objects_lem (s ∷ ss) in omega arith

-- a bearer that is served has seven bytes for type 02, or one for type 03
bearer_by :
    (P : Type 0) (two three a : Bool) (l : ℕ) → (three ⇒ true else two ⇒ a else false) ≡ true → (two ⇒ eqb l 7 else three ⇒ eqb l 1 else true) ≡ true →
    (two ≡ true → l ≡ 7 → P) → (three ≡ true → l ≡ 1 → P) → P
unfolding ◌⇒◌else◌
bearer_by P true three a l s e f g = f refl (eqb-true l 7 e)
bearer_by P false true a l s e f g = g refl (eqb-true l 1 e)
bearer_by P false false a l s e f g = absurd (false≢true s)

pub bearer_lengths :
    (P : Type 0) (p : List ℕ) (b : Bearer) → allows_bearer p b.kind ≡ true → bearer_fits (bearer_bytes b) ≡ true →
    (eqb b.kind 0x02 ≡ true → length (bearer_bytes b) ≡ 7 → P) → (eqb b.kind 0x03 ≡ true → length (bearer_bytes b) ≡ 1 → P) → P
unfolding allows_bearer bearer_fits bearer_bytes is_empty ◌⇒◌else◌
bearer_lengths P p b = bearer_by P (eqb b.kind 2) (eqb b.kind 3) (bit p 13 2) (suc (length b.parameters))

pub bearer_short : (p : List ℕ) (b : Bearer) → allows_bearer p b.kind ≡ true → bearer_fits (bearer_bytes b) ≡ true → length (bearer_bytes b) ≤ 7
bearer_short p b s e = bearer_lengths (length (bearer_bytes b) ≤ 7) p b s e (λ _ l. omega arith) (λ _ l. omega arith)

-- a command that was read has a bearer of its length
abbrev pub BearerMeasured : Body → Type 0
BearerMeasured (bare t) = Unit {0}
BearerMeasured (event_list es) = Unit {0}
BearerMeasured (open_channel b size t) = bearer_fits (bearer_bytes b) ≡ true
BearerMeasured close_channel = Unit {0}
BearerMeasured (receive_data n) = Unit {0}
BearerMeasured (send_data s) = Unit {0}
BearerMeasured (start_timer n v) = Unit {0}
BearerMeasured (manage_timer n) = Unit {0}

bearer_in_lem : (v : List ℕ) → bearer_fits v ≡ true → bearer_fits (bearer_bytes (bearer_in v)) ≡ true
unfolding bearer_in bearer_bytes bearer_fits is_empty ◌⇒◌else◌
bearer_in_lem [] e = absurd (false≢true e)
bearer_in_lem (x ∷ v) e = e

bearer_there : (d : Details) (os : List Object) → d.kind ≡ 0x40 → complete (row_of d) os ≡ true → present 0x35 os ≡ true
unfolding complete row_of row_among table every is_start ◌⇒◌else◌
bearer_there d os k w =
    let e = subst (λ (t : ℕ). complete (row_of (record { number = d.number; kind = t; qualifier = d.qualifier })) os ≡ true) k w in
    both_left (present 0x35 os) _ (both_right (present 0x02 os) _ (both_right (present 0x01 os) _ e))

bearer_length : (v : List ℕ) → length_fits 0x35 v ≡ true → bearer_fits v ≡ true
unfolding length_fits ◌⇒◌else◌
bearer_length v e = e

pub bearer_read : (p s : List ℕ) → Read p s → BearerMeasured (command_in (details_read s) (counted s)).body
unfolding command_in
bearer_read p s h =
    body_cases BearerMeasured (details_read s) (counted s) (λ _. tt)
    (λ e.
    bearer_in_lem (value_of 0x35 (counted s))
    (bearer_length (value_of 0x35 (counted s))
    (value_fits 0x35 (counted s) (bearer_there (details_read s) (counted s) e h.whole) h.lengths)))
    (λ _. tt) (λ _. tt) (λ _. tt) (λ _ _. tt) (λ _ _. tt) (λ _. tt)

-- every command's result is short
abbrev After : Reply → Type 0
After r = Short r.result

own_short : (a : State) (c : Command) (b : Body) (i : Bool) → Sound a → BearerMeasured b → Short (own a c b i).result
unfolding own
own_short a c (bare t) i h m =
    telling_cases Short a t i (statuses_short (statuses_from 1 a.chans) (let x = statuses_few 1 a.chans in omega (arith, h.seven))) nothing_short
own_short a c (event_list es) i h m = listing_cases After a es i tt (λ _. nothing_short)
own_short a c (open_channel b size t) i h m =
    opening_cases After a (λ _ _. tt) c.qualifier b size (protocol_of t) i tt
    (λ n l g _ _ _ o. opened_short (record { number = n; link = l }) b g (bearer_short a.profile b o.bearer m))
own_short a c close_channel i h m = closing_cases After a (λ _ _. tt) (channel_of c.destination) i (λ _. nothing_short)
own_short a c (receive_data r) i h m =
    receiving_cases After a (λ _ _. tt) (channel_of c.destination) r i
    (λ k e _. received_short _ _ (let x = length-take k (held (chan a (channel_of c.destination)) Receive) in omega arith))
own_short a c (send_data s) i h m =
    sending_cases After a (λ _ _. tt) c.qualifier (channel_of c.destination) s i (λ x _ _ _ _ _. sent_short _)
own_short a c (start_timer n v) i h m = starting_timer_cases After a n v i tt (λ _ _ _. started_short n)
own_short a c (manage_timer n) i h m = managing_timer_cases After a c.qualifier n i tt (λ _. tt) (λ _ _ l _ _. leaves_short n l)

-- the two events, and the envelope

pub arrival_told_lem : (n : ChannelNumber) (l : Link) (k : ℕ) → length (event_bytes 0x09 (status_object n l ∷ unflagged 0x37 (k ∷ []) ∷ [])) ≤ 16
unfolding event_bytes written object_bytes status_object status_bytes length_bytes ◌⇒◌else◌
arrival_told_lem n NotYet k = omega arith
arrival_told_lem n Established k = omega arith
arrival_told_lem n Dropped k = omega arith

arrival_short : (a : State) (n : ChannelNumber) (s : List ℕ) → length (arrival_event a n s) ≤ 16
unfolding arrival_event
arrival_short a n s =
    branch (λ (t : List ℕ). length t ≤ 16) _ _ _ (λ _. arrival_told_lem n _ _) (λ _. omega arith)

pub drop_told_lem : (n : ChannelNumber) (l : Link) → length (event_bytes 0x0A (status_object n l ∷ [])) ≤ 16
unfolding event_bytes written object_bytes status_object status_bytes length_bytes ◌⇒◌else◌
drop_told_lem n NotYet = omega arith
drop_told_lem n Established = omega arith
drop_told_lem n Dropped = omega arith

drop_short : (a : State) (n : ChannelNumber) → length (drop_event a n) ≤ 16
unfolding drop_event
drop_short a n = branch (λ (t : List ℕ). length t ≤ 16) _ _ _ (λ _. drop_told_lem n _) (λ _. omega arith)

pub envelope_told : (n : ℕ) (t : Time) → length (envelope_bytes n t) ≡ 14
unfolding envelope_bytes written object_bytes timer_object time_object time_bytes length_bytes ◌⇒◌else◌
envelope_told n t = refl

-- what is meant by a command
meant_short : (a : State) (s : List ℕ) → Sound a → length (response_bytes (meant_by a (reading a.profile s)).response) ≤ 255
unfolding meant_by
meant_short a s h =
    reading_cases (λ (r : Reading). length (response_bytes (meant_by a r).response) ≤ 255) a.profile s
    (λ e _. response_short _ (error e) tt) (λ e _. response_short _ (error e) tt)
    (λ r i. response_short _ _ (own_short a (command_in (details_read (contents s)) (counted (contents s))) _ i h (bearer_read a.profile (contents s) r)))

abbrev Fits : ℕ → Answer → Type 0
Fits k r = Within k r.outcome

-- every response has at most 255 bytes, every event at most 16, a take at most its buffer, an envelope 14
pub written_within : (a : State) (c : Call) → Sound a → Within (most c) (step a c).outcome
unfolding step passing
written_within a (starting p) h = omega arith
written_within a (commanding terms s) h = command_cases (Fits 255) a (λ _. tt) terms s (λ _ _. meant_short a s h)
written_within a (radio buffer n (arrives s)) h = arrival_cases (Fits 16) a (λ _. tt) buffer n s (λ _ _ _ _. arrival_short a n s)
written_within a (radio buffer n takes) h =
    taking_cases (Fits buffer) a (λ _. tt) buffer n
    (λ _ _. let x = length-take (min buffer (at_once (chan a n) Send)) (held (chan a n) Send) in omega arith)
written_within a (radio buffer n drops) h = dropping_cases (Fits 16) a (λ _. tt) buffer n (λ _ _. drop_short a n)
written_within a (timing second) h = omega arith
written_within a (timing (envelope buffer)) h = enveloping_cases (Fits 14) a (λ _. tt) buffer (λ _ n _ _. omega (arith, envelope_told n (started_of (timer a n))))
