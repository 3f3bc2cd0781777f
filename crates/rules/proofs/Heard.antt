-- The bench and the modem hear each other: what one writes, the other reads as it was meant, and from one form only.
-- Assumes nothing.
use Prim.Native.Nat.{ℕ, ◌+◌, ◌≤◌, ◌<◌}
use mathlib.Core.Path.{◌≡◌, refl, sym, ap, subst, ◌∙◌}
use mathlib.Core.Logic.{⊎_elim}
use mathlib.Core.Bool.{Bool, true, false, not, ◌&&◌, ◌||◌, false≢true}
use mathlib.Core.List.{List, [], ◌∷◌, map}
use native.Mathlib.Omega.{arith}
use lib.ListN.{drop}
use lib.Dec.{ltb, leb, eqb}
use borrow.Author.Tests.{ne_eqb, ltb-true, leb-true, eqb-true}
use Rattle.rules.specs.declared.ChannelNumber.{ChannelNumber}
use Rattle.rules.specs.declared.Details.{Details}
use Rattle.rules.specs.declared.Link.{Link}
use Rattle.rules.specs.declared.Link.TheVariants.{NotYet, Established, Dropped}
use Rattle.rules.specs.declared.Refusal.TheVariants.{NoResponse}
use Rattle.rules.specs.Checks.{◌⇒◌else◌, some_of, member, same}
use Rattle.rules.specs.Frames.{Object, Walk}
use Rattle.rules.specs.State.{State, is_dropped}
use Rattle.rules.specs.Reading.{details_in, reading}
use Rattle.rules.specs.Own.{Status, Further, Result, nothing, opened, received, sent, statuses, error, problem, done, reports, Report, started, leaves}
use Rattle.rules.specs.Written.{Response, details_bytes, status_bytes, status_object, status_objects, further_objects, result_bytes, result_objects, response_objects, response_bytes, report_objects, timer_object, time_object}
use Rattle.rules.specs.Bench.{bearer_proper, error_proper, success_proper, unfollowed, further_proper, result_proper, rising, proper, value_at, status_in, statuses_in, further_in, result_in, response_in, Told, told, untold, bench_read, report_proper, asks_left}
use Rattle.rules.specs.Command.{Answer, wrote, command, meant_by, Terms}
use Rattle.rules.specs.Sound.{Each, Sound}
use Rattle.rules.proofs.Laws.{branch, stop, skip, both_left, both_right, either, by_equal, each_member}
use Rattle.rules.proofs.Cases.{command_cases}
use Rattle.rules.proofs.Meant.{meant_proper}
use Rattle.rules.proofs.Forms.{Named, walk_written, same_refl, same_true, pair_back, bearer_back, status_back}
use Rattle.rules.specs.Timers.{action_of, is_start, is_time, is_timer}
use Rattle.rules.proofs.Readings.{start_kind, starts}
use Rattle.rules.proofs.Timers.{time_back}

-- the objects of a response have numbers of seven bits
statuses_named : (ss : List Status) → Each Named (map (λ (t : Status). status_object t.number t.link) ss)
unfolding status_object
statuses_named [] = tt
statuses_named (s ∷ ss) = (omega arith, statuses_named ss)

report_named : (r : Report) → Each Named (report_objects r)
unfolding report_objects status_object status_objects
report_named (statuses []) = omega arith
report_named (statuses (s ∷ ss)) = statuses_named (s ∷ ss)

further_named : (f : Further) → Each Named (further_objects f)
unfolding further_objects status_object timer_object time_object
further_named nothing = tt
further_named (opened s b g) = omega arith
further_named (received s left) = omega arith
further_named (sent room) = omega arith
further_named (started n) = omega arith
further_named (leaves n t) = omega arith
further_named (reports r) = report_named r

result_named : (x : Result) → Each Named (result_objects x)
unfolding result_objects
result_named (error e) = tt
result_named (problem cause) = tt
result_named (done r f) = further_named f

pub response_named : (r : Response) → Each Named (response_objects r)
unfolding response_objects
response_named r = (omega arith, (omega arith, (omega arith, result_named r.result)))

-- statuses that rise are read as they were written
rising_first : (n : ℕ) (s : Status) (ss : List Status) → rising n (s ∷ ss) ≡ true → (n < s.number.0) × (s.number.0 ≤ 7) × (rising s.number.0 ss ≡ true)
unfolding rising
rising_first n s ss e =
    let k = s.number.0 in
    let within = both_left (ltb n k && leb k 7) (rising k ss) e in
    (ltb-true n k (both_left (ltb n k) (leb k 7) within), leb-true k 7 (both_right (ltb n k) (leb k 7) within), both_right (ltb n k && leb k 7) (rising k ss) e)

statuses_back :
    (n : ℕ) (ss : List Status) → rising n ss ≡ true →
    map (λ (o : Object). status_in o.value) (map (λ (t : Status). status_object t.number t.link) ss) ≡ ss
unfolding status_object
statuses_back n [] e = refl
statuses_back n (s ∷ ss) e =
    let h = rising_first n s ss e in
    λ i. status_back s.number s.link h.1 i ∷ statuses_back s.number.0 ss h.2 i

-- a status is not the 00 00 that stands for none
no_zeros : (n : ChannelNumber) (l : Link) → 1 ≤ n.0 → same (status_bytes n l) (0 ∷ 0 ∷ []) ≡ false
unfolding status_bytes same
no_zeros n NotYet h = rw (ne_eqb n.0 0 (omega arith))
no_zeros n Established h = rw (ne_eqb (n.0 + 0x80) 0 (omega arith))
no_zeros n Dropped h = rw (ne_eqb n.0 0 (omega arith))

list_back : (ss : List Status) → rising 0 ss ≡ true → statuses_in (status_objects ss) ≡ ss
unfolding statuses_in status_objects status_object value_at same
list_back [] e = stop _ _ _ refl
list_back (s ∷ ss) e =
    skip _ [] _ (no_zeros s.number s.link (rising_first 0 s ss e).0) ∙ statuses_back 0 (s ∷ ss) e

report_back : (d : Details) (r : Report) → report_proper d.kind r ≡ true → further_in d (report_objects r) ≡ reports r
unfolding report_proper further_in report_objects ◌⇒◌else◌
report_back d (statuses ss) e =
    let t = d.kind in
    rw (eqb-true t 0x44 (both_left (eqb t 0x44) _ e)) (ap (λ (x : List Status). reports (statuses x)) (list_back ss (both_right (eqb t 0x44) _ e)))

-- a timer that is stopped or asked for is not started
asks_not_start : (d : Details) → asks_left d ≡ true → eqb (action_of d.qualifier) 0 ≡ false
unfolding asks_left
asks_not_start d e =
    let q = action_of d.qualifier in
    ⊎_elim (λ x. by_equal (λ (k : ℕ). eqb k 0 ≡ false) q 1 x refl) (λ x. by_equal (λ (k : ℕ). eqb k 0 ≡ false) q 2 x refl)
    (either (eqb q 1) (eqb q 2) (both_right (eqb d.kind 0x27) _ e))

-- what follows a result is read as it was written, for the type that has it
further_back : (d : Details) (f : Further) → further_proper d f ≡ true → further_in d (further_objects f) ≡ f
unfolding further_proper further_in further_objects status_object timer_object time_object value_at is_start asks_left ◌⇒◌else◌
further_back d nothing e =
    each_member (λ (k : ℕ). further_in (record { number = d.number; kind = k; qualifier = d.qualifier }) [] ≡ nothing) d.kind unfollowed (refl, (refl, (refl, tt))) e
further_back d (opened s b g) e =
    let t = d.kind in
    let fit : eqb t 0x40 && rising 0 (s ∷ []) ≡ true = both_left _ (not (is_dropped s.link)) (both_left _ (bearer_proper b) (both_left _ (leb 1 g) (both_left _ (leb g 1500) e))) in
    let first = rising_first 0 s [] (both_right (eqb t 0x40) (rising 0 (s ∷ [])) fit) in
    rw (eqb-true t 0x40 (both_left (eqb t 0x40) (rising 0 (s ∷ [])) fit))
    (λ i. opened (status_back s.number s.link first.1 i) (bearer_back b i) (pair_back g i))
further_back d (received s left) e = let t = d.kind in rw (eqb-true t 0x42 (both_left (eqb t 0x42) _ (both_left _ (leb left 255) e))) refl
further_back d (sent room) e = let t = d.kind in rw (eqb-true t 0x43 (both_left (eqb t 0x43) _ e)) refl
further_back d (started n) e = let s = both_left (is_start d) (is_timer n) e in rw (start_kind d s, starts d s) refl
further_back d (leaves n t) e =
    let left = both_left (asks_left d) _ (both_left _ (is_time t) e) in
    rw (eqb-true d.kind 0x27 (both_left (eqb d.kind 0x27) _ left), asks_not_start d left) (ap (leaves n) (time_back t (both_right (asks_left d && is_timer n) _ e)))
further_back d (reports r) e = report_back d r e

-- an error, a problem and a success are told apart by the result's first byte
error_back : (d : Details) (e : ℕ) → error_proper d e ≡ true → result_in d (e ∷ []) [] ≡ error e
unfolding error_proper result_in member some_of ◌⇒◌else◌
error_back d e =
    branch P (eqb e 0x24) _ _ (λ q _. by_equal R e 0x24 q refl) (λ _.
    branch P (eqb e 0x30) _ _ (λ q _. by_equal R e 0x30 q refl) (λ _.
    branch P (eqb e 0x31) _ _ (λ q _. by_equal R e 0x31 q refl) (λ _.
    branch P (eqb e 0x32) _ _ (λ q _. by_equal R e 0x32 q refl) (λ _.
    branch P (eqb e 0x36) _ _ (λ q _. by_equal R e 0x36 q refl) (λ _ f. absurd (false≢true f))))))
  where
    R : ℕ → Type 0
    R k = result_in d (k ∷ []) [] ≡ error k

    P : Bool → Type 0
    P b = b ≡ true → R e

success_back : (d : Details) (r : ℕ) (os : List Object) → success_proper d.kind r ≡ true → result_in d (r ∷ []) os ≡ done r (further_in d os)
unfolding success_proper result_in member some_of ◌⇒◌else◌
success_back d r os =
    branch P (eqb r 0x00 || eqb r 0x01) _ _ (λ q _. ⊎_elim (λ x. by_equal R r 0x00 x refl) (λ x. by_equal R r 0x01 x refl) (either (eqb r 0x00) (eqb r 0x01) q)) (λ _.
    branch P (eqb r 0x02) _ _ (λ q _. by_equal R r 0x02 q refl) (λ _.
    branch P (eqb r 0x07) _ _ (λ q _. by_equal R r 0x07 q refl) (λ _ f. absurd (false≢true f))))
  where
    R : ℕ → Type 0
    R k = result_in d (k ∷ []) os ≡ done k (further_in d os)

    P : Bool → Type 0
    P b = b ≡ true → R r

problem_back : (d : Details) (cause : ℕ) (os : List Object) → result_in d (0x3A ∷ cause ∷ []) os ≡ problem cause
unfolding result_in
problem_back d cause os = stop _ _ _ refl

result_back : (d : Details) (x : Result) → result_proper d x ≡ true → result_in d (result_bytes x) (result_objects x) ≡ x
unfolding result_proper result_bytes result_objects
result_back d (error e) h = error_back d e h
result_back d (problem cause) h = problem_back d cause []
result_back d (done r f) h =
    let t = d.kind in
    success_back d r (further_objects f) (both_left (success_proper t r) _ h)
    ∙ ap (done r) (further_back d f (both_right (success_proper t r) _ h))

-- the only response whose form the bytes can be is the one that was written
response_back : (r : Response) → proper r ≡ true → response_in (response_bytes r) ≡ r
unfolding proper response_in response_bytes response_objects value_at details_in details_bytes
response_back r e =
    ap from (ap (λ (w : Walk). w.objects) (walk_written (response_objects r) (response_named r)))
    ∙ (λ i. record { details = r.details; result = result_back r.details r.result e i })
  where
    from : List Object → Response
    from os =
        let d = details_in (value_at os 0) in
        record { details = d; result = result_in d (value_at os 2) (drop 3 os) }

-- the written form of a response that the paper lists is read as that response
pub form_read : (r : Response) → proper r ≡ true → bench_read (response_bytes r) ≡ told r
unfolding bench_read
form_read r e =
    subst (λ (x : Response). (proper x && same (response_bytes x) (response_bytes r) ⇒ told x else untold NoResponse) ≡ told r)
    (sym (response_back r e)) (stop _ _ _ (rw (e, same_refl (response_bytes r))))

untold_told : (r : Response) → untold NoResponse ≡ told r → ⊥
untold_told r e = false≢true (cc)

-- bytes that are read as a response are its written form
pub one_form : (s : List ℕ) (r : Response) → bench_read s ≡ told r → (proper r ≡ true) × (s ≡ response_bytes r)
unfolding bench_read
one_form s r =
    branch (λ (x : Told). x ≡ told r → (proper r ≡ true) × (s ≡ response_bytes r)) _ _ _
    (λ e h.
    let x = response_in s in
    let is : x ≡ r = cc in
    subst (λ (y : Response). (proper y ≡ true) × (s ≡ response_bytes y)) is
    (both_left (proper x) (same (response_bytes x) s) e, sym (same_true (response_bytes x) s (both_right (proper x) (same (response_bytes x) s) e))))
    (λ _ h. absurd (untold_told r h))

-- two strings that read as the same response are the same
pub same_form : (s t : List ℕ) (r : Response) → bench_read s ≡ told r → bench_read t ≡ told r → s ≡ t
same_form s t r e f = (one_form s r e).1 ∙ sym (one_form t r f).1

-- what the modem answers is read by the bench, as the response that the command call meant
pub modem_heard :
    (a : State) (terms : Terms) (s t : List ℕ) → Sound a → (command a terms s).outcome ≡ wrote t →
    bench_read t ≡ told (meant_by a (reading a.profile s)).response
modem_heard a terms s t h =
    let r = (meant_by a (reading a.profile s)).response in
    command_cases (λ (x : Answer). x.outcome ≡ wrote t → bench_read t ≡ told r) a (λ w e. cc) terms s
    (λ _ _ e. let is : response_bytes r ≡ t = cc in subst (λ (x : List ℕ). bench_read x ≡ told r) is (form_read r (meant_proper a s h)))
