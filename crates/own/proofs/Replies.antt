-- How a reply becomes what a call hands back; CLOSE CHANNEL and RECEIVE DATA over what the code has found.
-- Assumes nothing.
use Prim.Native.Nat.{ℕ, ◌+◌, ◌-◌, ◌≤◌, ◌<◌, min}
use mathlib.Core.Path.{◌≡◌, refl, sym, ap, subst, ◌∙◌}
use mathlib.Core.Bool.{Bool, true, false, not}
use mathlib.Core.List.{List}
use native.Mathlib.Omega.{arith}
use lib.ListN.{length, take, length-drop}
use lib.Dec.{leb, ltb}
use borrow.Author.Tests.{le-leb, lt-leb}
use Rattle.rules.specs.declared.ChannelNumber.{ChannelNumber}
use Rattle.rules.specs.declared.Details.{Details}
use Rattle.rules.specs.declared.Way.TheVariants.{Receive}
use Rattle.rules.specs.Checks.{◌⇒◌else◌}
use Rattle.rules.specs.Sound.{Sound}
use Rattle.rules.specs.State.{State, Chan, chan, with_chan, closed, is_open, queue, with_queue, held, due, at_once, without, removed}
use Rattle.rules.specs.Own.{Reply, Result, reply, error, problem, done, nothing, received, capped, plain, closing, receiving}
use Rattle.rules.specs.Written.{result_bytes, result_objects, response_objects, response_bytes, further_objects}
use Rattle.rules.proofs.Laws.{stop, skip, not_not}
use Rattle.rules.proofs.Soundness.{once_due, chan_sound, closed_sound, removed_sound, with_sound, same_sound, closed_cells}
use Rattle.rules.specs.Command.{ended_of, written_by}
use Rattle.octets.specs.Parts.{part}
use Rattle.session.specs.declared.Channel.{Channel}
use Rattle.std.specs.Prelude.{Ok}
use Rattle.session.specs.Book.{entry_in}
use Rattle.session.specs.Picture.{Shows, GoodIn, shown, entry, start_in}
use Rattle.session.specs.Calls.{Answers}
use Rattle.session.specs.Changed.{Numbered, Changed}
use Rattle.session.proofs.Facts.{place, entry_is, held_read}
use Rattle.session.proofs.Views.{shows_good}
use Rattle.responses.specs.Filled.{response, Filled}
use Rattle.own.specs.Replies.{told}

-- a reply with this state, which is sound and shown by the session, and this result, which stands in the buffer
pub told_answers :
    (d : Details) (r : Reply) (b : State) (x : Result) (t p : List ℕ) (k : ℕ) (before after : List ℕ) → r ≡ reply b x →
    Sound b → Shows b t p → Filled (response d x) k before after → Answers (told d r) t p (Ok k) before after
unfolding ended_of written_by
told_answers d r b x t p k before after e h s w =
    subst (λ (y : Reply). Answers (told d y) t p (Ok k) before after) (sym e)
    (record { shows = s; good = shows_good b t p h s; ended = ap Ok w.counted; lent = w.lent })

-- a reply that leaves the session
pub left_answers :
    (d : Details) (r : Reply) (x : Result) (t p : List ℕ) (k : ℕ) (before after : List ℕ) → r ≡ reply (shown t p) x → GoodIn t p →
    Filled (response d x) k before after → Answers (told d r) t p (Ok k) before after
left_answers d r x t p k before after e g w = told_answers d r (shown t p) x t p k before after e g.sound g.shows w

-- a result that nothing follows has the bytes of an error
pub plain_stands :
    (d : Details) (x : ℕ) (i : Bool) (k : ℕ) (before after : List ℕ) → x ≡ plain i → Filled (response d (error x)) k before after →
    Filled (response d (done (plain i) nothing)) k before after
unfolding response_bytes response_objects result_bytes result_objects further_objects
plain_stands d x i k before after e w = subst (λ (y : ℕ). Filled (response d (done y nothing)) k before after) e w

-- at the entry that was found
module _ (t p : List ℕ) (n : ChannelNumber) (h : Numbered t p n) (e : Channel) (q : e ≡ entry_in t n) where
  abbrev a : State
  a = shown t p

  abbrev c : Chan
  c = chan a n

  pub found : e ≡ entry c
  found = q ∙ entry_is t p n h

  grant_found : e.grant ≡ c.grant
  unfolding entry
  grant_found = ap (λ (x : Channel). x.grant) found

  -- whether the entry has a grant is whether the channel is open
  pub unopened : e.grant < 1 → not (is_open c) ≡ true
  unfolding is_open
  unopened o = ap (λ (g : ℕ). not (leb 1 g)) (sym grant_found) ∙ ap not (lt-leb 1 e.grant o)

  pub unclosed : 1 ≤ e.grant → not (is_open c) ≡ false
  unfolding is_open
  unclosed o = ap (λ (g : ℕ). not (leb 1 g)) (sym grant_found) ∙ ap not (le-leb 1 e.grant o)

  -- CLOSE CHANNEL
  module _ (d : Details) (i : Bool) (k : ℕ) (before after : List ℕ) where
    pub close_unopened : e.grant < 1 → Filled (response d (problem 0x03)) k before after → Answers (told d (closing a n i)) t p (Ok k) before after
    unfolding closing
    close_unopened o w = left_answers d (closing a n i) (problem 0x03) t p k before after (stop _ _ _ (unopened o)) h.good w

    pub close_done :
        (x : ℕ) (u r : List ℕ) → 1 ≤ e.grant → Changed t p n closed u r → x ≡ plain i → Filled (response d (error x)) k before after →
        Answers (told d (closing a n i)) u r (Ok k) before after
    unfolding closing
    close_done x u r o s m w =
        told_answers d (closing a n i) (with_chan a n closed) (done (plain i) nothing) u r k before after (skip _ _ _ (unclosed o))
        (with_sound a n closed h.good.sound (place t p n h) closed_sound (closed_cells a n)) s (plain_stands d x i k before after m w)

  -- RECEIVE DATA
  module _ (d : Details) (w : ℕ) (i : Bool) (count : ℕ) (before after : List ℕ) where
    pub receive_unopened : e.grant < 1 → Filled (response d (problem 0x03)) count before after → Answers (told d (receiving a n w i)) t p (Ok count) before after
    unfolding receiving
    receive_unopened o s = left_answers d (receiving a n w i) (problem 0x03) t p count before after (stop _ _ _ (unopened o)) h.good s

  -- so many bytes are handed out
  module _ (w k m once : ℕ) (y : k ≡ min w m) (z : m ≡ min once 237) (o₁ : once ≡ at_once c Receive) where
    rx_found : e.rx ≡ length (held c Receive)
    unfolding entry
    rx_found = ap (λ (x : Channel). x.rx) found

    pub handed_few : (k ≤ 237) × (k ≤ e.rx)
    unfolding due
    handed_few = let r = rx_found in let u = once_due c Receive (chan_sound a n h.good.sound) in (omega arith, omega arith)

    pub handed_once : k ≤ at_once c Receive
    handed_once = omega arith

    handed_is : k ≡ min w (min (at_once c Receive) 237)
    handed_is = y ∙ ap (min w) (z ∙ ap (λ (j : ℕ). min j 237) o₁)

    left_is : capped (e.rx - k) ≡ capped (length (held (removed c Receive k) Receive))
    unfolding removed with_queue without queue
    left_is = ap capped (ap (λ (j : ℕ). j - k) rx_found ∙ sym (length-drop k c.receive.bytes))

    pub receive_done :
        (d : Details) (i : Bool) (count x left at : ℕ) (u r before after : List ℕ) → 1 ≤ e.grant → at ≡ start_in t n e.grant Receive →
        Changed t p n (removed c Receive k) u r → x ≡ (ltb k w ⇒ 0x02 else plain i) → left ≡ capped (e.rx - k) →
        Filled (response d (done x (received (part at (at + k) p) left))) count before after →
        Answers (told d (receiving a n w i)) u r (Ok count) before after
    unfolding receiving removed with_queue
    receive_done d i count x left at u r before after o l s v g f =
        let from = l ∙ ap (λ (b : Channel). start_in t n b.grant Receive) q in
        let data_is = ap (λ (j : ℕ). part j (j + k) p) from ∙ held_read t p n h Receive k (omega (arith, rx_found, handed_few)) in
        told_answers d (receiving a n w i) (with_chan a n (removed c Receive k))
        (done (ltb k w ⇒ 0x02 else plain i) (received (take k (held c Receive)) (capped (length (held (removed c Receive k) Receive))))) u r count before after
        (skip _ _ _ (unclosed o)
        ∙ ap
        (λ (j : ℕ).
        reply (with_chan a n (removed c Receive j))
        (done (ltb j w ⇒ 0x02 else plain i) (received (take j (held c Receive)) (capped (length (held (removed c Receive j) Receive))))))
        (sym handed_is))
        (same_sound a n (removed c Receive k) h.good.sound (not_not _ (unclosed o)) (removed_sound c (chan_sound a n h.good.sound) Receive k handed_once) refl)
        s (subst (λ (b : List ℕ). Filled b count before after) (λ j. response d (done (v j) (received (data_is j) ((g ∙ left_is) j)))) f)
