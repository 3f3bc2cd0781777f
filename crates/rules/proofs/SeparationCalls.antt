-- M-110, the calls of the radio and of timers and the own checks, from two states that differ in the bytes that one channel holds.
-- Assumes nothing.
use Rattle.rules.specs.Results.{data_cap, modified, missing_information}
use Rattle.rules.specs.Pool.{cell_count, promised, unpromised, grant_for}
use Prim.Native.Nat.{ℕ, zero, suc, ◌+◌, ◌-◌, ◌≤◌, min}
use mathlib.Core.Path.{◌≡◌, refl, ap, subst, subst₂, ◌∙◌}
use mathlib.Core.Bool.{Bool, true, false, not, ◌&&◌}
use mathlib.Core.List.{List, [], ◌∷◌, map}
use native.Mathlib.Omega.{arith}
use lib.ListN.{length, get_or, take, set}
use lib.Dec.{ltb, eqb}
use Rattle.rules.specs.declared.ChannelNumber.{ChannelNumber}
use Rattle.rules.specs.declared.Way.TheVariants.{Receive, Send}
use Rattle.rules.specs.Checks.{◌⇒◌else◌, every}
use Rattle.rules.specs.Words.{channel_of}
use Rattle.rules.specs.Profile.{allows_event, allows_bearer, channels}
use Rattle.rules.specs.Reading.{Command, Bearer, Body, bare, start_timer, manage_timer, event_list, open_channel, close_channel, receive_data, send_data, kind_of}
use Rattle.rules.specs.State.{State, Chan, closed, is_open, is_stream, is_established, is_dropped, chan, with_chan, held, at_once, marked, fresh, appended, arrived, removed, readied, dropped, timer, with_timer}
use Rattle.rules.specs.Own.{Result, Reply, reply, done, nothing, opened, received, sent, reports, statuses, open_before, telling, starting_timer, tells_left, managing_timer, capped, bit1, plain, listed, listing, opening, closing, receiving, sending, own, protocol_of, carried_by}
use Rattle.rules.specs.Written.{unflagged, status_object, event_bytes, envelope_bytes}
use Rattle.rules.specs.Command.{Outcome, Answer, wrote, refusal}
use Rattle.rules.specs.Radio.{numbered, arrival_event, arrival, taking, drop_event, dropping}
use Rattle.rules.specs.Run.{Call, timing, arriving, taking_out, dropping_link}
use Rattle.rules.specs.declared.Refusal.{Refusal}
use Rattle.rules.specs.declared.Refusal.TheVariants.{ShortBuffer, NoChannel, Unopened, Unlinked, Overfull, NoPlace, Undersized, NoneWaits}
use Rattle.rules.specs.declared.Link.{Link}
use Rattle.rules.specs.declared.Link.TheVariants.{NotYet, Established, Dropped}
use Rattle.rules.specs.Separation.{LikeChan, LikeAt, Like, LikeOutcome}
use borrow.Author.Tests.{eqb-true, eqb-false}
use Rattle.rules.proofs.Laws.{branch₂, not_not}
use Rattle.rules.proofs.Matching.{numbered_from}
use Rattle.rules.specs.Timers.{Timer, idle, running, waiting, timer_count, ticked, started_of, before_waiting}
use Rattle.rules.specs.TimerCalls.{second, envelope, passing, enveloping}
use Rattle.rules.proofs.SeparationChannels.{like_refl, same_empty, like_open, like_room, like_once, like_crowded, appended_like, taken_length, arrived_like, removed_like, readied_like, dropped_like, like_at, same_at, set_like, promised_like, before_like, statuses_like}

-- one call

-- a place is the one, or another
by_place : {A : Type 0} (j k : ℕ) → (j ≡ k → A) → ((j ≡ k → ⊥) → A) → A
by_place {A} j k f g = by (eqb j k) refl
  where
    by : (b : Bool) → eqb j k ≡ b → A
    by true e = f (eqb-true j k e)
    by false e = g (eqb-false j k e)

pub record LikeAnswer (n : ChannelNumber) (c : Call) (r q : Answer) : Type 0 where
  pub state : Like n r.state q.state
  pub outcome : LikeOutcome n c r.outcome q.outcome

-- two results: equal, or of RECEIVE DATA, of type k, on the channel m at n's place, with other data
pub data LikeResult (n m : ChannelNumber) (k : ℕ) : Result → Result → Type 0 where
  equal : (r : Result) → LikeResult n m k r r
  hands :
      (x : ℕ) (v w : List ℕ) (left : ℕ) → k ≡ 0x42 → m.0 - 1 ≡ n.0 - 1 → length v ≡ length w →
      LikeResult n m k (done x (received v left)) (done x (received w left))

pub record LikeReply (n m : ChannelNumber) (k : ℕ) (r q : Reply) : Type 0 where
  pub state : Like n r.state q.state
  pub result : LikeResult n m k r.result q.result

-- a state is like itself, and what is equal is alike
equal_at : (k : ℕ) (cs : List Chan) → LikeAt k cs cs
unfolding LikeAt
equal_at k [] = tt
equal_at zero (c ∷ cs) = (like_refl c, refl)
equal_at (suc k) (c ∷ cs) = (refl, equal_at k cs)

pub like_same : (n : ChannelNumber) (a : State) → Like n a a
like_same n a = record { profile = refl; events = refl; chans = equal_at (n.0 - 1) a.chans; timers = refl }

result_same : (n m : ChannelNumber) (k : ℕ) (r q : Result) → r ≡ q → LikeResult n m k r q
result_same n m k r q e = subst (LikeResult n m k r) e (LikeResult.equal r)

outcome_same : (n : ChannelNumber) (c : Call) (o q : Outcome) → o ≡ q → LikeOutcome n c o q
outcome_same n c o q e = subst (LikeOutcome n c o) e (LikeOutcome.equal c o)

module _ (n : ChannelNumber) (a b : State) (h : Like n a b) where
  abbrev Elsewhere : ChannelNumber → Type 0
  Elsewhere m = m.0 - 1 ≡ n.0 - 1 → ⊥

  -- the channel of a number; the same where the number has another place
  pub at : (m : ChannelNumber) → LikeChan (chan a m) (chan b m)
  unfolding chan
  at m = like_at (n.0 - 1) a.chans b.chans (m.0 - 1) h.chans

  same : (m : ChannelNumber) → Elsewhere m → chan a m ≡ chan b m
  unfolding chan
  same m e = same_at (n.0 - 1) a.chans b.chans (m.0 - 1) e h.chans

  -- another channel in a place
  with_like : (m : ChannelNumber) (x y : Chan) → LikeChan x y → (Elsewhere m → x ≡ y) → Like n (with_chan a m x) (with_chan b m y)
  unfolding with_chan
  with_like m x y l s =
      record { profile = h.profile; events = h.events; chans = set_like (n.0 - 1) a.chans b.chans (m.0 - 1) x y l s h.chans; timers = h.timers }

  -- a refusal, and what each call asks first
  pub refuse : (c : Call) (r : Refusal) → LikeAnswer n c (refusal a r) (refusal b r)
  refuse c r = record { state = h; outcome = LikeOutcome.equal c _ }

  linked : (m : ChannelNumber) → not (is_established (chan a m).link) ≡ not (is_established (chan b m).link)
  linked m = ap (λ (l : Link). not (is_established l)) (at m).link

  opens : (m : ChannelNumber) → not (is_open (chan a m)) ≡ not (is_open (chan b m))
  opens m = ap not (like_open _ _ (at m))

  -- an arrival
  arrival_event_lem : (m : ChannelNumber) (s t : List ℕ) → length s ≡ length t → arrival_event a m s ≡ arrival_event b m t
  unfolding arrival_event
  arrival_event_lem m s t e =
      let c = appended_like _ _ (at m) Receive s t e in
      λ i.
      same_empty (held (chan a m) Receive) (held (chan b m) Receive) ((at m).counts Receive) i && not (same_empty s t e i) && (h.events i).available ⇒
      event_bytes 0x09 (status_object m (c.link i) ∷ unflagged 0x37 (capped (c.counts Receive i) ∷ []) ∷ []) else []

  pub arrival_like :
      (buffer : ℕ) (m : ChannelNumber) (s t : List ℕ) → length s ≡ length t → (Elsewhere m → s ≡ t) →
      LikeAnswer n (arriving buffer m s) (arrival a buffer m s) (arrival b buffer m t)
  unfolding arrival
  arrival_like buffer m s t e f =
      let c = arriving buffer m s in
      let R : Answer → Answer → Type 0 = LikeAnswer n c in
      branch₂ R _ _ _ _ _ _ refl (λ _. refuse c ShortBuffer) (λ _.
      branch₂ R _ _ _ _ _ _ refl (λ _. refuse c NoChannel) (λ _.
      branch₂ R _ _ _ _ _ _ (opens m) (λ _. refuse c Unopened) (λ _.
      branch₂ R _ _ _ _ _ _ (linked m) (λ _. refuse c Unlinked) (λ _.
      branch₂ R _ _ _ _ _ _ (λ i. ltb (like_room _ _ (at m) Receive i) (e i)) (λ _. refuse c Overfull) (λ _.
      branch₂ R _ _ _ _ _ _ (like_crowded _ _ (at m) Receive s t e) (λ _. refuse c NoPlace) (λ _.
      record {
        state = with_like m _ _ (arrived_like _ _ (at m) s t e) (λ g. λ i. arrived (same m g i) (f g i));
        outcome = outcome_same n c _ _ (ap wrote (arrival_event_lem m s t e));
      }))))))

  -- the bytes of a take, by how many are ready in the first of the two
  abbrev taken : ℕ → ChannelNumber → Chan → List ℕ
  taken buffer m x = take (min buffer (at_once (chan a m) Send)) (held x Send)

  taken_like : 1 ≤ n.0 → (buffer : ℕ) (m : ChannelNumber) → numbered m ≡ true → LikeOutcome n (taking_out buffer m) (wrote (taken buffer m (chan a m))) (wrote (taken buffer m (chan b m)))
  taken_like from buffer m q =
      by_place (m.0 - 1) (n.0 - 1)
      (λ e.
      let is : n.0 ≡ m.0 = omega (arith, (numbered_from m q).0) in
      let nm : n ≡ m = λ i. record { 0 = is i } in
      subst (λ (j : ChannelNumber). LikeOutcome n (taking_out buffer j) (wrote (taken buffer m (chan a m))) (wrote (taken buffer m (chan b m)))) nm
      (LikeOutcome.takes buffer _ _ (taken_length (min buffer (at_once (chan a m) Send)) _ _ ((at m).counts Send))))
      (λ e. outcome_same n _ _ _ (λ i. wrote (taken buffer m (same m e i))))

  -- a take
  pub taking_like : 1 ≤ n.0 → (buffer : ℕ) (m : ChannelNumber) → LikeAnswer n (taking_out buffer m) (taking a buffer m) (taking b buffer m)
  unfolding taking
  taking_like from buffer m =
      let c = taking_out buffer m in
      let R : Answer → Answer → Type 0 = LikeAnswer n c in
      let once = like_once _ _ (at m) Send in
      branch₂ R _ _ _ _ _ _ refl (λ _. refuse c NoChannel) (λ e.
      branch₂ R _ _ _ _ _ _ (opens m) (λ _. refuse c Unopened) (λ _.
      branch₂ R _ _ _ _ _ _ (linked m) (λ _. refuse c Unlinked) (λ _.
      branch₂ R _ _ _ _ _ _ (λ i. not (is_stream ((at m).carries i)) && ltb buffer (once i)) (λ _. refuse c Undersized) (λ _.
      record {
        state =
            subst (λ (k : ℕ). Like n (with_chan a m (removed (chan a m) Send (min buffer (at_once (chan a m) Send)))) (with_chan b m (removed (chan b m) Send (min buffer k)))) once
            (with_like m _ _ (removed_like _ _ (at m) Send _) (λ g. ap (λ (x : Chan). removed x Send (min buffer (at_once (chan a m) Send))) (same m g)));
        outcome = subst (λ (k : ℕ). LikeOutcome n c (wrote (taken buffer m (chan a m))) (wrote (take (min buffer k) (held (chan b m) Send)))) once (taken_like from buffer m (not_not _ e));
      }))))

  -- a drop
  pub dropping_like : (buffer : ℕ) (m : ChannelNumber) → LikeAnswer n (dropping_link buffer m) (dropping a buffer m) (dropping b buffer m)
  unfolding dropping drop_event dropped marked
  dropping_like buffer m =
      let c = dropping_link buffer m in
      let R : Answer → Answer → Type 0 = LikeAnswer n c in
      branch₂ R _ _ _ _ _ _ refl (λ _. refuse c ShortBuffer) (λ _.
      branch₂ R _ _ _ _ _ _ refl (λ _. refuse c NoChannel) (λ _.
      branch₂ R _ _ _ _ _ _ (opens m) (λ _. refuse c Unopened) (λ _.
      branch₂ R _ _ _ _ _ _ (linked m) (λ _. refuse c Unlinked) (λ _.
      record {
        state = with_like m _ _ (dropped_like _ _ (at m)) (λ g. ap dropped (same m g));
        outcome = outcome_same n c _ _ (λ i. wrote ((h.events i).status ⇒ event_bytes 0x0A (status_object m Dropped ∷ []) else []));
      }))))

  -- the own checks
  listed_like : (es : List ℕ) → Like n (listed a es) (listed b es)
  unfolding listed
  listed_like es = record { profile = h.profile; events = refl; chans = h.chans; timers = h.timers }

  abbrev stays : (m : ChannelNumber) (k : ℕ) (r : Result) → LikeReply n m k (reply a r) (reply b r)
  stays m k r = record { state = h; result = LikeResult.equal r }

  -- 40: the cells that are free, and the lowest unused number
  cells_like : unpromised a ≡ unpromised b
  unfolding unpromised promised
  cells_like = ap (λ (k : ℕ). cell_count - k) (promised_like (n.0 - 1) a.chans b.chans h.chans)

  lowest_like : open_before (channels a.profile) a.chans ≡ open_before (channels b.profile) b.chans
  lowest_like = before_like (n.0 - 1) (channels a.profile) a.chans b.chans h.chans ∙ ap (λ (p : List ℕ). open_before (channels p) b.chans) h.profile

  opening_like : (m : ChannelNumber) (k q : ℕ) (x : Bearer) (size protocol : ℕ) (i : Bool) → LikeReply n m k (opening a q x size protocol i) (opening b q x size protocol i)
  unfolding opening
  opening_like m k q x size protocol i =
      let R : Reply → Reply → Type 0 = LikeReply n m k in
      let g = ap (grant_for size) cells_like in
      let link : Link = bit1 q ⇒ Established else NotYet in
      branch₂ R _ _ _ _ _ _ (ap (λ (p : List ℕ). not (allows_bearer p x.kind)) h.profile) (λ _. stays m k _) (λ _.
      branch₂ R _ _ _ _ _ _ refl (λ _. stays m k _) (λ _.
      branch₂ R _ _ _ _ _ _ refl (λ _. stays m k _) (λ _.
      branch₂ R _ _ _ _ _ _ (λ j. eqb (lowest_like j) (channels (h.profile j))) (λ _. stays m k _) (λ _.
      branch₂ R _ _ _ _ _ _ (ap (λ (f : ℕ). ltb f 2) cells_like) (λ _. stays m k _) (λ _.
      record {
        state =
            subst₂ (λ (j y : ℕ). Like n (with_chan a (record { 0 = open_before (channels a.profile) a.chans + 1 }) (fresh (grant_for size (unpromised a)) link (carried_by protocol))) (with_chan b (record { 0 = j + 1 }) (fresh y link (carried_by protocol)))) lowest_like g
            (with_like (record { 0 = open_before (channels a.profile) a.chans + 1 }) _ _ (like_refl _) (λ _. refl));
        result =
            result_same n m k _ _ (λ j. done (ltb (g j) size ⇒ modified else plain i) (opened (record { number = record { 0 = lowest_like j + 1 }; link = link }) x (g j)));
      })))))

  -- 41
  closing_like : (m : ChannelNumber) (k : ℕ) (i : Bool) → LikeReply n m k (closing a m i) (closing b m i)
  unfolding closing
  closing_like m k i =
      branch₂ (LikeReply n m k) _ _ _ _ _ _ (opens m) (λ _. stays m k _)
      (λ _. record { state = with_like m _ _ (like_refl closed) (λ _. refl); result = LikeResult.equal _ })

  -- k bytes are handed out
  abbrev handed : State → ChannelNumber → ℕ → ℕ → Bool → Reply
  handed z m request k i =
      reply (with_chan z m (removed (chan z m) Receive k))
      (done (ltb k request ⇒ missing_information else plain i) (received (take k (held (chan z m) Receive)) (capped (length (held (removed (chan z m) Receive k) Receive)))))

  handed_like : (m : ChannelNumber) (request k : ℕ) (i : Bool) → LikeReply n m 0x42 (handed a m request k i) (handed b m request k i)
  handed_like m request k i =
      let after = removed_like _ _ (at m) Receive k in
      let x = ltb k request ⇒ missing_information else plain i in
      record {
        state = with_like m _ _ after (λ g. ap (λ (y : Chan). removed y Receive k) (same m g));
        result =
            by_place (m.0 - 1) (n.0 - 1)
            (λ e.
            subst (λ (l : ℕ). LikeResult n m 0x42 (handed a m request k i).result (done x (received (take k (held (chan b m) Receive)) (capped l)))) (after.counts Receive)
            (LikeResult.hands x _ _ _ refl e (taken_length k _ _ ((at m).counts Receive))))
            (λ e. result_same n m 0x42 _ _ (λ j. let y = same m e j in done x (received (take k (held y Receive)) (capped (length (held (removed y Receive k) Receive))))));
      }

  -- 42
  receiving_like : (m : ChannelNumber) (request : ℕ) (i : Bool) → LikeReply n m 0x42 (receiving a m request i) (receiving b m request i)
  unfolding receiving
  receiving_like m request i =
      branch₂ (LikeReply n m 0x42) _ _ _ _ _ _ (opens m) (λ _. stays m 0x42 _)
      (λ _.
      let k = min request (min (at_once (chan a m) Receive) data_cap) in
      subst (λ (j : ℕ). LikeReply n m 0x42 (handed a m request k i) (handed b m request (min request (min j data_cap)) i)) (like_once _ _ (at m) Receive) (handed_like m request k i))

  -- 43, with the same data, or on n with other data
  pub sending_like :
      (m : ChannelNumber) (k q : ℕ) (s t : List ℕ) (i : Bool) → length s ≡ length t → (Elsewhere m → s ≡ t) → LikeReply n m k (sending a q m s i) (sending b q m t i)
  unfolding sending
  sending_like m k q s t i e f =
      let R : Reply → Reply → Type 0 = LikeReply n m k in
      let joins = appended_like _ _ (at m) Send s t e in
      let after = branch₂ LikeChan (bit1 q) (bit1 q) _ _ _ _ refl (λ _. readied_like _ _ joins) (λ _. joins) in
      branch₂ R _ _ _ _ _ _ (opens m) (λ _. stays m k _) (λ _.
      branch₂ R _ _ _ _ _ _ (ap is_dropped (at m).link) (λ _. stays m k _) (λ _.
      branch₂ R _ _ _ _ _ _ (λ j. ltb (like_room _ _ (at m) Send j) (e j)) (λ _. stays m k _) (λ _.
      branch₂ R _ _ _ _ _ _ (like_crowded _ _ (at m) Send s t e) (λ _. stays m k _) (λ _.
      record {
        state =
            with_like m _ _ after
            (λ g j. let x = appended (same m g j) Send (f g j) in bit1 q ⇒ readied x else x);
        result = result_same n m k _ _ (λ j. done (plain i) (sent (capped (like_room _ _ after Send j))));
      }))))

  -- 05
  listing_like : (m : ChannelNumber) (es : List ℕ) (i : Bool) → LikeReply n m 0x05 (listing a es i) (listing b es i)
  unfolding listing
  listing_like m es i =
      branch₂ (LikeReply n m 0x05) _ _ _ _ _ _ (ap (λ (p : List ℕ). not (every (allows_event p) es)) h.profile) (λ _. stays m 0x05 _)
      (λ _. record { state = listed_like es; result = LikeResult.equal _ })

  -- types that change nothing
  telling_like : (t : ℕ) (i : Bool) → telling a t i ≡ telling b t i
  unfolding telling
  telling_like t i =
      λ j. eqb t 0x44 ⇒ done (plain i) (reports (statuses (statuses_like (n.0 - 1) 1 a.chans b.chans h.chans j))) else done (plain i) nothing

  -- 27: another timer in a place, a start, a stop and an ask
  timed_like : (k : ℕ) (t : Timer) → Like n (with_timer a k t) (with_timer b k t)
  unfolding with_timer
  timed_like k t = record { profile = h.profile; events = h.events; chans = h.chans; timers = ap (λ (ts : List Timer). set ts (k - 1) t) h.timers }

  starting_timer_like : (m : ChannelNumber) (k x : ℕ) (v : List ℕ) (i : Bool) → LikeReply n m k (starting_timer a x v i) (starting_timer b x v i)
  unfolding starting_timer
  starting_timer_like m k x v i =
      let R : Reply → Reply → Type 0 = LikeReply n m k in
      branch₂ R _ _ _ _ _ _ refl (λ _. stays m k _) (λ _.
      branch₂ R _ _ _ _ _ _ refl (λ _. stays m k _) (λ _.
      branch₂ R _ _ _ _ _ _ refl (λ _. stays m k _) (λ _.
      branch₂ R _ _ _ _ _ _ refl (λ _. stays m k _) (λ _.
      record { state = timed_like x _; result = LikeResult.equal _ }))))

  tells_left_like : (m : ChannelNumber) (k q x : ℕ) (i : Bool) (t : Timer) → LikeReply n m k (tells_left a q x i t) (tells_left b q x i t)
  unfolding tells_left
  tells_left_like m k q x i idle = stays m k _
  tells_left_like m k q x i (running left from) =
      record { state = branch₂ (Like n) _ _ _ _ _ _ refl (λ _. timed_like x idle) (λ _. h); result = LikeResult.equal _ }
  tells_left_like m k q x i (waiting from) = stays m k _

  managing_timer_like : (m : ChannelNumber) (k q x : ℕ) (i : Bool) → LikeReply n m k (managing_timer a q x i) (managing_timer b q x i)
  unfolding managing_timer timer
  managing_timer_like m k q x i =
      let R : Reply → Reply → Type 0 = LikeReply n m k in
      branch₂ R _ _ _ _ _ _ refl (λ _. stays m k _) (λ _.
      branch₂ R _ _ _ _ _ _ refl (λ _. stays m k _) (λ _.
      subst (λ (ts : List Timer). R (tells_left a q x i (timer a x)) (tells_left b q x i (get_or ts (x - 1) idle))) h.timers (tells_left_like m k q x i (timer a x))))

  -- step 9, a line for each type
  pub own_like : (c : Command) (x : Body) (i : Bool) → LikeReply n (channel_of c.destination) (kind_of x) (own a c x i) (own b c x i)
  unfolding own kind_of
  own_like c (bare t) i = record { state = h; result = result_same n _ _ _ _ (telling_like t i) }
  own_like c (event_list es) i = listing_like (channel_of c.destination) es i
  own_like c (open_channel x size t) i = opening_like _ _ c.qualifier x size (protocol_of t) i
  own_like c close_channel i = closing_like (channel_of c.destination) _ i
  own_like c (receive_data k) i = receiving_like (channel_of c.destination) k i
  own_like c (send_data s) i = sending_like (channel_of c.destination) _ c.qualifier s s i refl (λ _. refl)
  own_like c (start_timer k v) i = starting_timer_like _ _ k v i
  own_like c (manage_timer k) i = managing_timer_like _ _ c.qualifier k i

  -- the calls of timers
  pub passing_like : LikeAnswer n (timing second) (passing a) (passing b)
  unfolding passing
  passing_like =
      record {
        state = record { profile = h.profile; events = h.events; chans = h.chans; timers = ap (map ticked) h.timers };
        outcome = LikeOutcome.equal _ _;
      }

  pub enveloping_like : (buffer : ℕ) → LikeAnswer n (timing (envelope buffer)) (enveloping a buffer) (enveloping b buffer)
  unfolding enveloping with_timer timer
  enveloping_like buffer =
      let c = timing (envelope buffer) in
      let R : Answer → Answer → Type 0 = LikeAnswer n c in
      let t = h.timers in
      branch₂ R _ _ _ _ _ _ refl (λ _. refuse c ShortBuffer) (λ _.
      branch₂ R _ _ _ _ _ _ (λ i. eqb (before_waiting (t i)) timer_count) (λ _. refuse c NoneWaits) (λ _.
      record {
        state = record { profile = h.profile; events = h.events; chans = h.chans; timers = λ i. set (t i) (before_waiting (t i) + 1 - 1) idle };
        outcome = outcome_same n c _ _ (λ i. let k = before_waiting (t i) + 1 in wrote (envelope_bytes k (started_of (get_or (t i) (k - 1) idle))));
      }))
