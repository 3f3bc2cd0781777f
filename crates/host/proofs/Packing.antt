-- A call writes at most 1500 bytes, so however it ends, one number tells it, and that is read back from the number.
-- Assumes nothing.
use Prim.Native.Nat.{ℕ, ◌+◌, ◌-◌, ◌*◌, ◌%◌, ◌≤◌, ◌<◌, min}
use mathlib.Core.Path.{◌≡◌, refl, sym, ap, subst, ◌∙◌}
use mathlib.Core.List.{List}
use native.Mathlib.Omega.{arith}
use lib.ListN.{length, length-take}
use lib.Dec.{ltb}
use borrow.Author.Tests.{lt-ltb, le-ltb, ltb-false}
use Rattle.rules.specs.declared.ChannelNumber.{ChannelNumber}
use Rattle.rules.specs.declared.Way.TheVariants.{Send}
use Rattle.rules.specs.Words.{number_of, refusal_of}
use Rattle.rules.specs.Pool.{grant_cap}
use Rattle.rules.specs.State.{State, chan, held, at_once}
use Rattle.rules.specs.Command.{Answer, Outcome, wrote, refused, ended_of, Terms}
use Rattle.rules.specs.Fetch as rules
use Rattle.rules.specs.Fetch.{fetch}
use Rattle.rules.specs.Radio.{taking, arrives, takes, drops}
use Rattle.rules.specs.TimerCalls.{second, envelope}
use Rattle.rules.specs.Run.{Call, starting, commanding, step, radio, timing}
use Rattle.rules.specs.Sound.{Sound, Within}
use Rattle.rules.specs.declared.Refusal.TheVariants.{ShortText}
use Rattle.rules.proofs.Laws.{stop, skip, branch}
use Rattle.rules.proofs.Told.{refusal_back, number_small}
use Rattle.rules.proofs.Cases.{taking_cases}
use Rattle.rules.proofs.Fetch.{fetch_within}
use Rattle.rules.proofs.Sizes.{written_within}
use Rattle.rules.proofs.Soundness.{chan_sound}
use Rattle.rules.specs.Words.{Ended}
use Rattle.std.specs.Prelude.{Ok, Err}
use Rattle.session.specs.Calls.{Answers}
use Rattle.fetch.specs.declared.Fetched.{Fetched}
use Rattle.fetch.specs.Gathers.{Fetches}
use Rattle.host.specs.Packed.{packed, unpacked, left_cap, packed_burst, ended_in, left_in, packed_text, unpacked_text, Texts, Fits, Packs, PacksBurst}
use Rattle.alpha.specs.Reads.{Text, units, malformed}
use Rattle.alpha.specs.Calls.{fitted, ended_of as textEnded}

-- what was packed is read back: each count and each refusal has a number of its own
pub unpacked_packed : (e : Ended) → Fits e → unpacked (packed e) ≡ e
unfolding packed unpacked Fits
unpacked_packed (Ok count) h = stop _ _ _ (lt-ltb count 0x1000000 (omega (arith, h)))
unpacked_packed (Err r) h =
    let e : 0x1000000 + number_of r - 0x1000000 ≡ number_of r = omega arith in
    skip _ _ _ (le-ltb (0x1000000 + number_of r) 0x1000000 (omega arith)) ∙ ap (λ (k : ℕ). Err (refusal_of k)) e ∙ ap Err (refusal_back r)

-- the same of a text, whose count is that of a lent buffer at most, and so below the flag
Below : Ended → Type 0
Below (Ok count) = count < 0x8000000000000000
Below (Err r) = Unit {0}

text_back : (e : Ended) → Below e → unpacked_text (packed_text e) ≡ e
unfolding packed_text unpacked_text Below
text_back (Ok count) h = stop _ _ _ (lt-ltb count 0x8000000000000000 h)
text_back (Err r) h =
    let e : 0x8000000000000000 + number_of r - 0x8000000000000000 ≡ number_of r = omega arith in
    skip _ _ _ (le-ltb (0x8000000000000000 + number_of r) 0x8000000000000000 (omega arith)) ∙ ap (λ (k : ℕ). Err (refusal_of k)) e ∙ ap Err (refusal_back r)

fitted_below : (s : List ℕ) (room : ℕ) → room < 0x8000000000000000 → Below (fitted s room)
unfolding Below fitted
fitted_below s room h =
    branch Below (ltb room (length s)) (Err ShortText) (Ok (length s)) (λ _. tt) (λ e. let k = ltb-false room (length s) e in omega arith)

read_below : (t : Text) (room : ℕ) → room < 0x8000000000000000 → Below (textEnded t room)
unfolding Below textEnded
read_below malformed room h = tt
read_below (units us) room h = fitted_below us room h

told_back : (e x : Ended) (r : ℕ) → Below e → x ≡ e → r ≡ packed_text x → Texts e r
told_back e x r b is p =
    let q = p ∙ ap packed_text is in
    record { told = q; back = ap unpacked_text q ∙ text_back e b }

pub text_read : (t : Text) (room : ℕ) (x : Ended) (r : ℕ) → room < 0x8000000000000000 → x ≡ textEnded t room → r ≡ packed_text x → Texts (textEnded t room) r
text_read t room x r h is p = told_back (textEnded t room) x r (read_below t room h) is p

pub text_written : (s : List ℕ) (room : ℕ) (x : Ended) (r : ℕ) → room < 0x8000000000000000 → x ≡ fitted s room → r ≡ packed_text x → Texts (fitted s room) r
text_written s room x r h is p = told_back (fitted s room) x r (fitted_below s room h) is p

within_fits : (k : ℕ) (o : Outcome) → k ≤ grant_cap → Within k o → Fits (ended_of o)
unfolding Fits ended_of
within_fits k (wrote s) h w = omega arith
within_fits k (refused r) h w = tt

-- what a take hands out is held, and so within the grant
take_within : (a : State) (buffer : ℕ) (n : ChannelNumber) → Sound a → Within grant_cap (taking a buffer n).outcome
take_within a buffer n h =
    taking_cases (λ (x : Answer). Within grant_cap x.outcome) a (λ _. tt) buffer n
    (λ _ _.
    let s = chan_sound a n h in
    let t = length-take (min buffer (at_once (chan a n) Send)) (held (chan a n) Send) in omega (arith, s.capped, s.fits Send))

call_fits : (a : State) (c : Call) → Sound a → Fits (ended_of (step a c).outcome)
unfolding step
call_fits a (starting p) h = within_fits 0 _ (omega arith) (written_within a (starting p) h)
call_fits a (commanding terms s) h = within_fits 255 _ (omega arith) (written_within a (commanding terms s) h)
call_fits a (radio buffer n (arrives s)) h = within_fits 16 _ (omega arith) (written_within a (radio buffer n (arrives s)) h)
call_fits a (radio buffer n takes) h = within_fits grant_cap _ (omega arith) (take_within a buffer n h)
call_fits a (radio buffer n drops) h = within_fits 16 _ (omega arith) (written_within a (radio buffer n drops) h)
call_fits a (timing second) h = within_fits 0 _ (omega arith) (written_within a (timing second) h)
call_fits a (timing (envelope buffer)) h = within_fits 14 _ (omega arith) (written_within a (timing (envelope buffer)) h)

module _ (a : State) (c : Call) (t p : List ℕ) (e : Ended) (before after : List ℕ) (h : Answers (step a c) t p e before after) where
  -- how the call ended can be packed
  pub answer_fits : Sound a → Fits e
  answer_fits s = subst Fits (sym h.ended) (call_fits a c s)

  -- and once it is packed, the call is told
  pub answer_packs : (r : ℕ) → r ≡ packed e → Packs (step a c) t p r before after
  answer_packs r m =
      record {
        answers = record { shows = h.shows; good = h.good; ended = refl; lent = h.lent };
        told = m ∙ ap packed h.ended;
      }

-- what a call packed tells, read back from its number, how it ended
pub packs_back :
    (a : State) (c : Call) (t p : List ℕ) (r : ℕ) (before after : List ℕ) → Sound a → Packs (step a c) t p r before after →
    Answers (step a c) t p (unpacked r) before after
packs_back a c t p r before after s h =
    let k = h.answers in
    record { shows = k.shows; good = k.good; ended = ap unpacked h.told ∙ unpacked_packed _ (call_fits a c s); lent = k.lent }

-- the number of a burst, with so many bytes left or as many as can be told
pub burst_few : (x : Fetched) (told : ℕ) → told ≡ packed x.ended → x.left < left_cap → 0x100000000 * x.left + told ≡ packed_burst x
unfolding packed_burst
burst_few x told e h =
    let m : x.left ≡ min x.left left_cap = omega (arith, h) in λ i. 0x100000000 * m i + e i

pub burst_many : (x : Fetched) (told : ℕ) → told ≡ packed x.ended → left_cap ≤ x.left → 0x100000000 * left_cap + told ≡ packed_burst x
unfolding packed_burst
burst_many x told e h =
    let m : left_cap ≡ min x.left left_cap = omega (arith, h) in λ i. 0x100000000 * m i + e i

-- how a burst ended can be packed
pub fetch_fits : (a : State) (terms : Terms) (g s : List ℕ) → Sound a → Fits (ended_of (fetch a terms g s).answer.outcome)
fetch_fits a terms g s sound = within_fits 255 _ (omega arith) (fetch_within a terms g s sound)

pub burst_fits :
    (a : State) (terms : Terms) (g s : List ℕ) (t p r : List ℕ) (x : Fetched) (before after : List ℕ) → Sound a → Fetches (fetch a terms g s) t p r x before after → Fits x.ended
burst_fits a terms g s t p r x before after sound h =
    subst Fits (sym h.leaves.answers.ended) (fetch_fits a terms g s sound)

-- and once it is packed, the burst is told
pub burst_packs :
    (f : rules.Fetched) (t p r : List ℕ) (x : Fetched) (before after : List ℕ) (n : ℕ) → Fetches f t p r x before after → n ≡ packed_burst x → PacksBurst f t p r n before after
burst_packs f t p r x before after n h e =
    let k = h.leaves.answers in
    record {
      leaves = record { answers = record { shows = k.shows; good = k.good; ended = refl; lent = k.lent }; gathered = h.leaves.gathered; lacks = h.leaves.lacks };
      told = e ∙ (λ i. packed_burst (record { ended = k.ended i; left = h.left i }));
    }

-- the number of a call that ended so fits the lower half
packed_small : (e : Ended) → Fits e → packed e < 0x100000000
unfolding packed Fits
packed_small (Ok count) h = omega (arith, h)
packed_small (Err r) h = let k = number_small r in omega (arith, k)

-- and both halves of a burst's number are read back
pub burst_back : (x : Fetched) → Fits x.ended → (ended_in (packed_burst x) ≡ x.ended) × (left_in (packed_burst x) ≡ min x.left left_cap)
unfolding packed_burst
burst_back x h =
    let k = packed_small x.ended h in
    let low : (0x100000000 * min x.left left_cap + packed x.ended) % 0x100000000 ≡ packed x.ended = omega (arith, k) in (ap unpacked low ∙ unpacked_packed x.ended h, omega (arith, k))
