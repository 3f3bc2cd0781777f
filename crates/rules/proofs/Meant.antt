-- The response that the command call means is one that the paper lists.
-- Assumes nothing.
use Prim.Native.Nat.{ℕ, suc, ◌+◌, ◌≤◌, ◌<◌, min, ◌-◌, ◌%◌}
use mathlib.Core.Path.{◌≡◌, refl, sym, subst, ◌∙◌}
use mathlib.Core.Bool.{Bool, true, false, not, ◌&&◌, true≢false, ◌||◌}
use mathlib.Core.List.{List, [], ◌∷◌}
use native.Mathlib.Omega.{arith}
use lib.ListN.{length, take, length-take}
use lib.Dec.{ltb, leb, eqb}
use borrow.Author.Tests.{lt-ltb, le-leb, eq-eqb, eqb-false}
use Rattle.rules.specs.declared.ChannelNumber.{ChannelNumber}
use Rattle.rules.specs.declared.Details.{Details}
use Rattle.rules.specs.declared.Link.{Link}
use Rattle.rules.specs.declared.Link.TheVariants.{NotYet, Established}
use Rattle.rules.specs.Checks.{◌⇒◌else◌, is_empty, some_of, member}
use Rattle.rules.specs.Words.{channel_of}
use Rattle.rules.specs.Frames.{Object, contents}
use Rattle.rules.specs.Table.{table, known, bearer_fits}
use Rattle.rules.specs.declared.Way.TheVariants.{Receive}
use Rattle.rules.specs.Profile.{allows_bearer}
use Rattle.rules.specs.State.{State, Chan, chan, is_dropped, held, timer}
use Rattle.rules.specs.Pool.{unpromised}
use Rattle.rules.specs.Reading.{Reading, reading, Command, Body, Bearer, bare, event_list, open_channel, close_channel, receive_data, send_data, body_in, command_in, kind_of, details_of, start_timer, manage_timer}
use Rattle.rules.specs.Own.{Reply, Status, bit1, capped, plain, opened, statuses_from, own, protocol_of, bare_types, reply, telling}
use Rattle.rules.specs.Written.{bearer_bytes}
use Rattle.rules.specs.Command.{meant_by}
use Rattle.rules.specs.Bench.{bearer_proper, error_proper, success_proper, further_proper, result_proper, rising, proper, report_proper, asks_left}
use Rattle.rules.specs.Sound.{Sound, SoundTimer}
use Rattle.rules.proofs.Laws.{branch, both, or_right, each_member, each_get}
use Rattle.rules.proofs.Cases.{listing_cases, opening_cases, closing_cases, receiving_cases, sending_cases, starting_timer_cases, managing_timer_cases}
use Rattle.rules.proofs.Readings.{details_read, counted, reading_cases, body_cases, starts}
use Rattle.rules.proofs.Sizes.{BearerMeasured, bearer_read, bearer_lengths}
use Rattle.rules.proofs.Soundness.{opened_place}
use Rattle.rules.proofs.Grants.{Granted, grant_law}
use Rattle.rules.specs.Timers.{action_of, is_start, running, is_time, idle}
use Rattle.rules.specs.declared.Time.{Time}

-- 00 and 01 are for each of the seven
plain_proper : (t : ℕ) (i : Bool) → known t ≡ true → success_proper t (plain i) ≡ true
unfolding success_proper plain ◌⇒◌else◌
plain_proper t true e = e
plain_proper t false e = e

or_plain_proper : (t r : ℕ) (b i : Bool) → success_proper t r ≡ true → known t ≡ true → success_proper t (b ⇒ r else plain i) ≡ true
or_plain_proper t r b i h e = branch (λ (x : ℕ). success_proper t x ≡ true) b r (plain i) (λ _. h) (λ _. plain_proper t i e)

-- a bearer that is served and has its length
no_parameters : (s : List ℕ) → suc (length s) ≡ 1 → is_empty s ≡ true
unfolding is_empty
no_parameters [] e = refl
no_parameters (x ∷ s) e = absurd (omega arith)

bearer_proper_lem : (p : List ℕ) (b : Bearer) → allows_bearer p b.kind ≡ true → bearer_fits (bearer_bytes b) ≡ true → bearer_proper b ≡ true
unfolding bearer_proper bearer_bytes
bearer_proper_lem p b s e =
    bearer_lengths (bearer_proper b ≡ true) p b s e
    (λ two l. let six = eq-eqb (length b.parameters) 6 (omega arith) in rw (two, six))
    (λ three l. rw (three, no_parameters b.parameters l) (or_right (eqb b.kind 0x02 && eqb (length b.parameters) 6) true refl))

-- statuses are counted up from n, one for each open channel
statuses_rise : (m n : ℕ) (cs : List Chan) → m < n → n + length cs ≤ 8 → rising m (statuses_from n cs) ≡ true
unfolding statuses_from rising
statuses_rise m n [] h l = refl
statuses_rise m n (c ∷ cs) h l =
    branch (λ (ss : List Status). rising m ss ≡ true) _ _ _
    (λ _.
    both (ltb m n && leb n 7) (rising n (statuses_from (n + 1) cs)) (both (ltb m n) (leb n 7) (lt-ltb m n h) (le-leb n 7 (omega arith)))
    (statuses_rise n (n + 1) cs (omega arith) (omega arith)))
    (λ _. statuses_rise m (n + 1) cs (omega arith) (omega arith))

-- a fresh channel's link is not dropped
link_kept : (q : ℕ) (l : Link) → l ≡ (bit1 q ⇒ Established else NotYet) → not (is_dropped l) ≡ true
unfolding is_dropped
link_kept q l e =
    subst (λ (x : Link). not (is_dropped x) ≡ true) (sym e)
    (branch (λ (x : Link). not (is_dropped x) ≡ true) _ _ _ (λ _. refl) (λ _. refl))

opened_proper :
    (d : Details) → d.kind ≡ 0x40 → (n : ChannelNumber) (l : Link) (b : Bearer) (g : ℕ) → 1 ≤ n.0 → n.0 ≤ 7 → not (is_dropped l) ≡ true → bearer_proper b ≡ true → 1 ≤ g → g ≤ 1500 →
    further_proper d (opened (record { number = n; link = l }) b g) ≡ true
unfolding further_proper rising
opened_proper d k n l b g low high kept fit some capped =
    rw (eq-eqb d.kind 0x40 k, lt-ltb 0 n.0 low, le-leb n.0 7 high, kept, fit, le-leb 1 g some, le-leb g 1500 capped)

-- the details of a command with these values
abbrev details_with : Command → Body → Details
details_with c b = record { number = c.number; kind = kind_of b; qualifier = c.qualifier }

-- a type without values is one of those that change nothing, and the values of a timer are those of its qualifier
abbrev Fits : ℕ → Body → Type 0
Fits q (bare t) = member t bare_types ≡ true
Fits q (event_list es) = Unit {0}
Fits q (open_channel b size t) = Unit {0}
Fits q close_channel = Unit {0}
Fits q (receive_data n) = Unit {0}
Fits q (send_data s) = Unit {0}
Fits q (start_timer n v) = action_of q ≡ 0
Fits q (manage_timer n) = action_of q ≡ 0 → ⊥

abbrev Listed : Details → Reply → Type 0
Listed d r = result_proper d r.result ≡ true

-- at most 237 bytes are handed out
few_handed : (k : ℕ) (s : List ℕ) → k ≤ 237 → leb (length (take k s)) 237 ≡ true
few_handed k s h = let e = length-take k s in le-leb (length (take k s)) 237 (omega arith)

-- a count is told up to FF
capped_fits : (n : ℕ) → leb (capped n) 255 ≡ true
unfolding capped
capped_fits n = le-leb (min n 255) 255 (omega arith)

-- a qualifier that neither starts a timer nor has value 3 stops or asks for one
asks_left_lem : (q : ℕ) → (action_of q ≡ 0 → ⊥) → (action_of q ≡ 3 → ⊥) → (eqb (action_of q) 1 || eqb (action_of q) 2) ≡ true
unfolding action_of
asks_left_lem q a b = by (eqb (q % 4) 1) refl
  where
    by : (x : Bool) → eqb (q % 4) 1 ≡ x → (x || eqb (q % 4) 2) ≡ true
    by true e = refl
    by false e = let f = eqb-false (q % 4) 1 e in eq-eqb (q % 4) 2 (omega arith)

starts_not : (d : Details) → d.kind ≡ 0x27 → is_start d ≡ false → action_of d.qualifier ≡ 0 → ⊥
unfolding is_start
starts_not d k e f = true≢false (sym (both _ _ (eq-eqb d.kind 0x27 k) (eq-eqb (action_of d.qualifier) 0 f)) ∙ e)

-- the time left of a timer that runs is one from one second on
running_left : (a : State) (n : ℕ) (left from : Time) → Sound a → timer a n ≡ running left from → is_time left ≡ true
unfolding timer
running_left a n left from h e = (subst SoundTimer e (each_get SoundTimer a.timers (n - 1) idle tt h.timed)).0

-- every command's result is one that the paper lists for its type
own_proper : (a : State) (c : Command) (b : Body) (i : Bool) → Sound a → BearerMeasured b → Fits c.qualifier b → Listed (details_with c b) (own a c b i)
unfolding own telling kind_of result_proper error_proper success_proper report_proper further_proper asks_left is_start known table member some_of ◌⇒◌else◌
own_proper a c (bare t) i h m u =
    each_member (λ (k : ℕ). Listed (details_with c (bare k)) (reply a (telling a k i))) t bare_types
    (both _ _ (plain_proper 0x02 i refl) refl, (both _ _ (plain_proper 0x44 i refl) (statuses_rise 0 1 a.chans (omega arith) (omega (arith, h.seven))), tt)) u
own_proper a c (event_list es) i h m u =
    listing_cases (Listed (details_with c (event_list es))) a es i refl (λ _. both _ _ (plain_proper 0x05 i refl) refl)
own_proper a c (open_channel b size t) i h m u =
    opening_cases (Listed (details_with c (open_channel b size t))) a (λ _ e. e) c.qualifier b size (protocol_of t) i refl
    (λ n l g eₙ eₗ e f.
    let place = opened_place a n.0 h eₙ f.unused in
    let law = subst (Granted size (unpromised a)) (sym e) (grant_law size (unpromised a)) in
    both _ _ (or_plain_proper 0x40 0x07 (ltb g size) i refl refl)
    (opened_proper (details_with c (open_channel b size t)) refl n l b g place.0 place.1 (link_kept c.qualifier l eₗ) (bearer_proper_lem a.profile b f.bearer m) (law.some f.free f.asks) law.capped))
own_proper a c close_channel i h m u =
    closing_cases (Listed (details_with c close_channel)) a (λ _ e. e) (channel_of c.destination) i (λ _. both _ _ (plain_proper 0x41 i refl) refl)
own_proper a c (receive_data r) i h m u =
    receiving_cases (Listed (details_with c (receive_data r))) a (λ _ e. e) (channel_of c.destination) r i
    (λ k e _. both _ _ (or_plain_proper 0x42 0x02 (ltb k r) i refl refl) (both _ _ (few_handed k (held (chan a (channel_of c.destination)) Receive) (omega arith)) (capped_fits _)))
own_proper a c (send_data s) i h m u =
    sending_cases (Listed (details_with c (send_data s))) a (λ _ e. e) c.qualifier (channel_of c.destination) s i
    (λ _ _ _ _ _ _. both _ _ (plain_proper 0x43 i refl) (capped_fits _))
own_proper a c (start_timer n v) i h m u =
    starting_timer_cases (Listed (details_with c (start_timer n v))) a n v i refl
    (λ timer _ _. both _ _ (plain_proper 0x27 i refl) (both _ _ (eq-eqb (action_of c.qualifier) 0 u) timer))
own_proper a c (manage_timer n) i h m u =
    managing_timer_cases (Listed (details_with c (manage_timer n))) a c.qualifier n i refl (λ none. asks_left_lem c.qualifier u none)
    (λ none timer left from e. both _ _ (plain_proper 0x27 i refl) (both _ _ (both _ _ (asks_left_lem c.qualifier u none) timer) (running_left a n left from h e)))

values_fit : (d : Details) (os : List Object) → known d.kind ≡ true → Fits d.qualifier (body_in d os)
values_fit d os k =
    body_cases (Fits d.qualifier) d os (λ _. tt) (λ _. tt) (λ _. tt) (λ _. tt) (λ _. tt) (λ _ e. starts d e) (λ e f. starts_not d e f) (λ e. sym e ∙ k)

-- the response that the command call means is one that the paper lists
pub meant_proper : (a : State) (s : List ℕ) → Sound a → proper (meant_by a (reading a.profile s)).response ≡ true
unfolding proper meant_by result_proper details_of command_in
meant_proper a s h =
    reading_cases (λ (r : Reading). proper (meant_by a r).response ≡ true) a.profile s (λ _ e. e) (λ _ e. e)
    (λ r i.
    let os = contents s in
    let c = command_in (details_read os) (counted os) in
    own_proper a c c.body i h (bearer_read a.profile os r) (values_fit (details_read os) (counted os) r.kind))
