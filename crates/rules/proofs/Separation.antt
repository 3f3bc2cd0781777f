-- M-110: two runs that differ in the data of one channel end alike but for that data.
-- Assumes nothing.
use Rattle.rules.specs.Results.{command_cap}
use Prim.Native.Nat.{ℕ, zero, suc, ◌-◌}
use mathlib.Core.Path.{◌≡◌, refl, sym, ap, subst, ◌∙◌}
use mathlib.Core.Bool.{true, ◌||◌}
use mathlib.Core.List.{List, [], ◌∷◌}
use native.Mathlib.Omega.{arith}
use lib.ListN.{length, get_or}
use lib.Dec.{ltb}
use Rattle.rules.specs.declared.ChannelNumber.{ChannelNumber}
use Rattle.rules.specs.declared.Details.{Details}
use Rattle.rules.specs.declared.Way.{Way}
use Rattle.rules.specs.declared.Way.TheVariants.{Receive, Send}
use Rattle.rules.specs.Words.{channel_of}
use Rattle.rules.specs.Reading.{Reading, wrong, asked, kind_of, details_of, reading}
use Rattle.rules.specs.State.{State, Chan, closed, start, chan, queue, held}
use Rattle.rules.specs.Own.{Result, own}
use Rattle.rules.specs.Written.{response_bytes}
use Rattle.rules.specs.Command.{Terms, Answer, Meant, wrote, answered, meant_by, command}
use Rattle.rules.specs.Radio.{numbered, arrives, takes, drops}
use Rattle.rules.specs.Run.{Call, starting, commanding, radio, timing, step, after, outcomes, run}
use Rattle.rules.specs.declared.Refusal.TheVariants.{ShortBuffer, CommandSize}
use Rattle.rules.specs.Separation.{OtherData, Asks, LikeChan, LikeAt, Like, LikeOutcome, LikeCall, LikeCalls, LikeOutcomes}
use Rattle.rules.proofs.Laws.{branch₂}
use Rattle.rules.proofs.Matching.{numbered_from}
use Rattle.rules.specs.TimerCalls.{second, envelope}
use Rattle.rules.specs.Checks.{◌⇒◌else◌}
use Rattle.rules.specs.AtHand.{at_hand, packed_details}
use Rattle.rules.proofs.SeparationReading.{details_alike, LikeReading, asked_asks, reading_like}
use Rattle.rules.proofs.SeparationBytes.{data_frames}
use Rattle.rules.proofs.SeparationCalls.{LikeAnswer, LikeResult, like_same, refuse, arrival_like, taking_like, dropping_like, passing_like, enveloping_like, own_like, sending_like}
use Rattle.rules.proofs.SeparationChannels.{same_empty}

-- the answer to a command

-- a result as an outcome
told_out :
    (n m : ChannelNumber) (k : ℕ) (terms : Terms) (s : List ℕ) (d : Details) {r q : Result} → (k ≡ 0x42 → m.0 - 1 ≡ n.0 - 1 → Asks 0x42 n s) → LikeResult n m k r q →
    LikeOutcome n (commanding terms s) (wrote (response_bytes (record { details = d; result = r }))) (wrote (response_bytes (record { details = d; result = q })))
told_out n m k terms s d f (LikeResult.equal r) = LikeOutcome.equal _ _
told_out n m k terms s d f (LikeResult.hands x v w left e p l) = LikeOutcome.hands terms s d x v w left (f e p) l

module _ (n : ChannelNumber) (numbers : numbered n ≡ true) (a b : State) (h : Like n a b) where
  abbrev answers : Meant → Answer
  answers m = answered m.state (response_bytes m.response)

  -- the same reading, and readings that are alike
  same_meant : (terms : Terms) (s : List ℕ) (r : Reading) → reading a.profile s ≡ r → LikeAnswer n (commanding terms s) (answers (meant_by a r)) (answers (meant_by b r))
  unfolding meant_by
  same_meant terms s (wrong d e) q = record { state = h; outcome = LikeOutcome.equal _ _ }
  same_meant terms s (asked c i) q =
      let r = own_like n a b h c c.body i in
      record {
        state = r.state;
        outcome =
            told_out n _ _ terms s (details_of c)
            (λ k place.
            let asks = asked_asks a.profile s c i q k in
            let is : (channel_of c.destination).0 ≡ n.0 = omega (arith, (numbered_from (channel_of c.destination) asks.1).0, (numbered_from n numbers).0) in
            let same : channel_of c.destination ≡ n = λ j. record { 0 = is j } in
            subst (λ (m : ChannelNumber). Asks 0x42 m s) same asks.0)
            r.result;
      }

  meant_like :
      (terms : Terms) (s : List ℕ) {r q : Reading} → reading a.profile s ≡ r → LikeReading n r q →
      LikeAnswer n (commanding terms s) (answers (meant_by a r)) (answers (meant_by b q))
  unfolding meant_by own details_of kind_of
  meant_like terms s e (LikeReading.equal r) = same_meant terms s r e
  meant_like terms s e (LikeReading.stores k q at to v w i m l) =
      let r = sending_like n a b h (channel_of to) 0x43 q v w i l (λ f. absurd (f (ap (λ (x : ChannelNumber). x.0 - 1) m))) in
      record { state = r.state; outcome = told_out n _ _ terms s _ (λ z _. absurd (let y : ◌≡◌ {A = ℕ} 0x43 0x42 = z in omega arith)) r.result }

  -- the command call
  command_like :
      (terms : Terms) (s t : List ℕ) → length s ≡ length t → LikeReading n (reading a.profile s) (reading a.profile t) →
      LikeAnswer n (commanding terms s) (command a terms s) (command b terms t)
  unfolding command
  command_like terms s t e r =
      let c = commanding terms s in
      let R : Answer → Answer → Type 0 = LikeAnswer n c in
      branch₂ R _ _ _ _ _ _ refl (λ _. refuse n a b h c ShortBuffer) (λ _.
      branch₂ R _ _ _ _ _ _ (λ i. same_empty s t e i || ltb command_cap (e i)) (λ _. refuse n a b h c CommandSize) (λ _.
      subst (λ (p : List ℕ). LikeAnswer n c (answers (meant_by a (reading a.profile s))) (answers (meant_by b (reading p t)))) h.profile
      (meant_like terms s refl r)))

  -- one step: from states that are alike, two calls that are alike end alike and leave states that are alike
  pub step_like : {c d : Call} → LikeCall n c d → LikeAnswer n c (step a c) (step b d)
  unfolding step
  step_like (LikeCall.equal c) = same_call c
    where
      same_call : (c : Call) → LikeAnswer n c (step a c) (step b c)
      same_call (starting p) = record { state = like_same n (start p); outcome = LikeOutcome.equal _ _ }
      same_call (commanding terms s) = command_like terms s s refl (LikeReading.equal _)
      same_call (radio buffer m (arrives s)) = arrival_like n a b h buffer m s s refl (λ _. refl)
      same_call (radio buffer m takes) = taking_like n a b h (numbered_from n numbers).0 buffer m
      same_call (radio buffer m drops) = dropping_like n a b h buffer m
      same_call (timing second) = passing_like n a b h
      same_call (timing (envelope buffer)) = enveloping_like n a b h buffer
  step_like (LikeCall.arrives buffer s t e) = arrival_like n a b h buffer n s t e (λ f. absurd (f refl))
  step_like (LikeCall.sends terms s t e) =
      let f = data_frames n s t e in command_like terms s t f.long (reading_like n (numbered_from n numbers).1 a.profile s t f)

-- calls in turn
outcomes_like : (n : ChannelNumber) → numbered n ≡ true → (a b : State) → Like n a b → {cs ds : List Call} → LikeCalls n cs ds → LikeOutcomes n cs (outcomes a cs) (outcomes b ds)
unfolding outcomes
outcomes_like n from a b h LikeCalls.ends = LikeOutcomes.ends
outcomes_like n from a b h (LikeCalls.more c d cs ds l ls) =
    let r = step_like n from a b h l in
    LikeOutcomes.more c _ _ cs _ _ r.outcome (outcomes_like n from (step a c).state (step b d).state r.state ls)

-- M-110: two runs from the same profile whose calls differ in the data of the channel n alone end alike, call by call, but for that data
pub separation : (n : ChannelNumber) → numbered n ≡ true → (p : List ℕ) {cs ds : List Call} → LikeCalls n cs ds → LikeOutcomes n cs (run p cs) (run p ds)
unfolding run
separation n from p l = outcomes_like n from (start p) (start p) (like_same n (start p)) l

-- the states behind calls
after_like : (n : ChannelNumber) → numbered n ≡ true → (a b : State) → Like n a b → {cs ds : List Call} → LikeCalls n cs ds → Like n (after a cs) (after b ds)
unfolding after
after_like n from a b h LikeCalls.ends = h
after_like n from a b h (LikeCalls.more c d cs ds l ls) = after_like n from (step a c).state (step b d).state (step_like n from a b h l).state ls

-- and leave states that are equal but for the bytes that n holds
pub separated : (n : ChannelNumber) → numbered n ≡ true → (p : List ℕ) {cs ds : List Call} → LikeCalls n cs ds → Like n (after (start p) cs) (after (start p) ds)
separated n from p l = after_like n from (start p) (start p) (like_same n (start p)) l

-- what is at hand of two SEND DATA with other data is the same
pub at_hand_same : (n : ChannelNumber) (s t : List ℕ) → OtherData n s t → at_hand s ≡ at_hand t
unfolding at_hand
at_hand_same n s t h =
    let f = data_frames n s t h in
    λ i. same_empty s t f.long i || ltb command_cap (f.long i) ⇒ 0x1000002 else packed_details (details_alike n s t f i)

-- where n holds nothing they are equal

-- no bytes, by their count
pub no_bytes : (s : List ℕ) → length s ≡ 0 → s ≡ []
no_bytes [] e = refl
no_bytes (x ∷ s) e = absurd (let q : suc (length s) ≡ 0 = e in omega arith)

chan_empty : (c d : Chan) → LikeChan c d → ((w : Way) → held c w ≡ []) → c ≡ d
unfolding queue
chan_empty c d h nil =
    let bytes : (w : Way) → held c w ≡ held d w = λ w. nil w ∙ sym (no_bytes (held d w) (sym (h.counts w) ∙ ap (λ (l : List ℕ). length l) (nil w))) in
    λ i.
    record {
      grant = h.grant i;
      link = h.link i;
      carries = h.carries i;
      receive = record { bytes = bytes Receive i; lengths = h.lengths Receive i };
      send = record { bytes = bytes Send i; lengths = h.lengths Send i };
      ready = h.ready i;
    }

empty_at : (k : ℕ) (cs ds : List Chan) → LikeAt k cs ds → ((w : Way) → held (get_or cs k closed) w ≡ []) → cs ≡ ds
unfolding LikeAt
empty_at k [] [] h nil = refl
empty_at k [] (d ∷ ds) h nil = absurd h
empty_at k (c ∷ cs) [] h nil = absurd h
empty_at zero (c ∷ cs) (d ∷ ds) h nil = let e = chan_empty c d h.0 nil in λ i. e i ∷ h.1 i
empty_at (suc k) (c ∷ cs) (d ∷ ds) h nil = let e = empty_at k cs ds h.1 nil in λ i. h.0 i ∷ e i

pub equal_where_empty : (n : ChannelNumber) (a b : State) → Like n a b → ((w : Way) → held (chan a n) w ≡ []) → a ≡ b
unfolding chan
equal_where_empty n a b h nil =
    let e = empty_at (n.0 - 1) a.chans b.chans h.chans nil in
    λ i. record { profile = h.profile i; events = h.events i; chans = e i; timers = h.timers i }
