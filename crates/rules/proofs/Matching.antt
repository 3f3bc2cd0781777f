-- Each change of a channel, beside what is seen of it: the history goes on telling the channel.
-- Assumes nothing.
use Prim.Native.Nat.{ℕ, ◌+◌, ◌-◌, ◌≤◌}
use mathlib.Core.Path.{◌≡◌, refl, sym, ap, subst, ◌∙◌}
use mathlib.Core.Bool.{Bool, true, false, ◌&&◌, true≢false}
use mathlib.Core.List.{List, [], ◌∷◌, ◌++◌, append_assoc}
use native.Mathlib.Omega.{arith}
use lib.ListN.{length, take, drop, length-append, length-take, take-append-drop}
use lib.Seq.{length-take-le, drop-append-add}
use lib.Dec.{leb, eqb}
use borrow.Author.Tests.{leb-true, le-leb, eqb-true, eqb-false}
use Rattle.rules.specs.declared.Carries.{Carries}
use Rattle.rules.specs.declared.ChannelNumber.{ChannelNumber}
use Rattle.rules.specs.declared.Details.{Details}
use Rattle.rules.specs.declared.DeviceIdentity.{DeviceIdentity}
use Rattle.rules.specs.declared.Link.{Link}
use Rattle.rules.specs.Checks.{◌⇒◌else◌, is_empty}
use Rattle.rules.specs.Datagrams.{lessened, total, pieces, behind, joined_by, bytes_of}
use Rattle.rules.specs.Words.{channel_of}
use Rattle.rules.specs.declared.Way.{Way}
use Rattle.rules.specs.declared.Way.TheVariants.{Receive, Send}
use Rattle.rules.specs.State.{State, Chan, closed, is_open, is_stream, chan, with_chan, establish, fresh, readied, dropped, queue, with_queue, held, joined, without, counting, due, at_once, marked, appended, whole, arrived, removed, unfinished}
use Rattle.rules.specs.Reading.{Command, Body, kind_of, details_of, command_in, to_modem, addressed}
use Rattle.rules.specs.Radio.{numbered}
use Rattle.rules.specs.Sound.{SoundChan, Sound}
use Rattle.rules.specs.History.{History, ended, opened_with, readied_in, dropped_in, same_number, side, with_side, accepted_in, whole_in, out_in, datagrams_by}
use Rattle.rules.specs.Demands.{Tells, Follows}
use Rattle.rules.proofs.Laws.{branch, by_way, skip, both_left, both_right}
use Rattle.rules.proofs.Readings.{Read, details_read, counted, details_told_lem}
use Rattle.rules.proofs.Datagrams.{first, pieces_front, pieces_rest, pieces_more, pieces_less, pieces_taken, behind_add, behind_more, bytes_joined}
use Rattle.rules.proofs.Soundness.{once_due, once_first}
use Rattle.rules.proofs.Told.{chan_changed, chan_other}

-- each change of a channel, beside what is seen of it
pub closed_told : Tells closed ended
unfolding closed ended is_open queue side datagrams_by behind pieces bytes_of
closed_told =
    record {
      stands = refl;
      grant = refl;
      link = refl;
      carries = refl;
      order = by_way _ refl refl;
      ready = omega arith;
      arrivals = refl;
      received = λ _. refl;
      finished = λ _. refl;
    }

pub fresh_told : (g : ℕ) (l : Link) (k : Carries) → 1 ≤ g → Tells (fresh g l k) (opened_with g l k)
unfolding fresh opened_with is_open queue side datagrams_by behind pieces bytes_of
fresh_told g l k h =
    record {
      stands = sym (le-leb 1 g h);
      grant = refl;
      link = refl;
      carries = refl;
      order = by_way _ refl refl;
      ready = omega arith;
      arrivals = refl;
      received = λ _. refl;
      finished = λ _. refl;
    }

-- bytes behind those held, and bytes from the front of those held
more : (out held accepted s : List ℕ) → out ++ held ≡ accepted → out ++ (held ++ s) ≡ accepted ++ s
more out held accepted s e = sym (append_assoc out held s) ∙ ap (λ (t : List ℕ). t ++ s) e

less : (out held accepted : List ℕ) (k : ℕ) → out ++ held ≡ accepted → (out ++ take k held) ++ drop k held ≡ accepted
less out held accepted k e = append_assoc out (take k held) (drop k held) ∙ ap (λ (t : List ℕ). out ++ t) (take-append-drop k held) ∙ e

-- datagrams, one of them more behind others
joined_behind : (ds es : List (List ℕ)) (s : List ℕ) → ds ++ joined_by es s ≡ joined_by (ds ++ es) s
unfolding joined_by ◌⇒◌else◌
joined_behind ds es s = by (is_empty s)
  where
    by : (b : Bool) → ds ++ (b ⇒ es else es ++ s ∷ []) ≡ (b ⇒ ds ++ es else (ds ++ es) ++ s ∷ [])
    by true = refl
    by false = sym (append_assoc ds es (s ∷ []))

module _ (c : Chan) (h : History) (m : Tells c h) (o : SoundChan c) where
  -- the bytes of a way: handed out, and held
  sizes : (w : Way) → length (side h w).accepted ≡ length (side h w).out + length (held c w)
  sizes w = sym (ap (λ (t : List ℕ). length t) (m.order w)) ∙ length-append (side h w).out (held c w)

  pub arrived_told : (s : List ℕ) → Tells (arrived c s) (whole_in (accepted_in h Receive s) Receive s)
  unfolding arrived whole appended with_queue joined counting queue accepted_in whole_in with_side side is_open datagrams_by due
  arrived_told s =
      let bytes = more h.receive.out c.receive.bytes h.receive.accepted s (m.order Receive) in
      let arrived-so = bytes_joined h.receive.whole s ∙ ap (λ (t : List ℕ). t ++ s) m.arrivals in
      let gone = ap (λ (t : List ℕ). length t) m.arrivals in
      let all = sizes Receive in
      branch (λ (d : Chan). Tells d (whole_in (accepted_in h Receive s) Receive s)) (is_stream c.carries) _ _
      (λ e.
      record {
        stands = m.stands;
        grant = m.grant;
        link = m.link;
        carries = m.carries;
        order = by_way _ bytes (m.order Send);
        ready = m.ready;
        arrivals = arrived-so;
        received = λ q. absurd (true≢false (sym e ∙ q));
        finished = m.finished;
      })
      (λ e.
      record {
        stands = m.stands;
        grant = m.grant;
        link = m.link;
        carries = m.carries;
        order = by_way _ bytes (m.order Send);
        ready = m.ready;
        arrivals = arrived-so;
        received =
            λ _.
            pieces_more c.receive.lengths c.receive.bytes s ((o.lengths Receive).all e) ∙ ap (λ (ds : List (List ℕ)). joined_by ds s) (m.received e)
            ∙ sym (behind_more (length h.receive.out) h.receive.whole s (omega (arith, gone, all)));
        finished = m.finished;
      })

  pub sent_told : (s : List ℕ) → Tells (appended c Send s) (accepted_in h Send s)
  unfolding appended with_queue joined queue accepted_in with_side side is_open datagrams_by due
  sent_told s =
      record {
        stands = m.stands;
        grant = m.grant;
        link = m.link;
        carries = m.carries;
        order = by_way _ (m.order Receive) (more h.send.out c.send.bytes h.send.accepted s (m.order Send));
        ready = m.ready;
        arrivals = m.arrivals;
        received = m.received;
        finished =
            λ e.
            ap (λ (ds : List (List ℕ)). h.send.given ++ ds) (pieces_front c.send.lengths c.send.bytes s (omega (arith, (o.lengths Send).all e, o.ready_held)))
            ∙ m.finished e;
      }

  pub handed_told : (k : ℕ) → k ≤ at_once c Receive → Tells (removed c Receive k) (out_in h Receive (take k (held c Receive)))
  unfolding removed with_queue without queue out_in with_side side is_open datagrams_by due
  handed_told k f =
      let ls = c.receive.lengths in
      let s = c.receive.bytes in
      let few = once_due c Receive o in
      let size = length-append h.receive.out (take k s) in
      let taken = length-take-le k s (omega arith) in
      let far : length (h.receive.out ++ take k s) ≡ length h.receive.out + k = omega arith in
      record {
        stands = m.stands;
        grant = m.grant;
        link = m.link;
        carries = m.carries;
        order = by_way _ (less h.receive.out s h.receive.accepted k (m.order Receive)) (m.order Send);
        ready = m.ready;
        arrivals = m.arrivals;
        received =
            λ e.
            pieces_less ls s k (o.lengths Receive).some (once_first c Receive k f e) (omega (arith, (o.lengths Receive).all e)) ∙ ap (behind k) (m.received e)
            ∙ sym (behind_add (length h.receive.out) k h.receive.whole) ∙ ap (λ (j : ℕ). behind j h.receive.whole) (sym far);
        finished = m.finished;
      }

  pub taken_told :
      (k : ℕ) → k ≤ at_once c Send → (is_stream c.carries ≡ false → k ≡ first c.send.lengths) →
      Tells (removed c Send k) (out_in h Send (take k (held c Send)))
  unfolding removed with_queue without marked queue out_in with_side side is_open datagrams_by due
  taken_told k f g =
      let ls = c.send.lengths in
      let s = c.send.bytes in
      let few = once_due c Send o in
      let size = length-append h.send.out (take k s) in
      let taken = length-take k s in
      record {
        stands = m.stands;
        grant = m.grant;
        link = m.link;
        carries = m.carries;
        order = by_way _ (m.order Receive) (less h.send.out s h.send.accepted k (m.order Send));
        ready = omega (arith, m.ready, o.ready_held, f, few);
        arrivals = m.arrivals;
        received = m.received;
        finished =
            λ e.
            ap (λ (j : ℕ). joined_by h.send.given (take j s) ++ pieces (lessened ls j) (drop j s)) (g e)
            ∙ pieces_taken h.send.given ls s (o.lengths Send).some (omega (arith, (o.lengths Send).all e, o.ready_held)) ∙ m.finished e;
      }

  -- what was accepted since the last time is what is not ready
  built : drop h.readied h.send.accepted ≡ drop c.ready c.send.bytes
  unfolding side queue
  built =
      (λ i. drop (m.ready i) (sym (m.order Send) i)) ∙ drop-append-add h.send.out c.send.bytes c.ready

  pub readied_told : Tells (readied c) (readied_in h)
  unfolding readied whole marked with_queue counting readied_in whole_in with_side is_open queue side datagrams_by due unfinished
  readied_told =
      let ls = c.send.lengths in
      let s = c.send.bytes in
      let all = sizes Send in
      branch (λ (d : Chan). Tells (marked d (establish c.link) (length s)) (readied_in h)) (is_stream c.carries) _ _
      (λ e.
      record {
        stands = m.stands;
        grant = m.grant;
        link = ap establish m.link;
        carries = m.carries;
        order = by_way _ (m.order Receive) (m.order Send);
        ready = all;
        arrivals = m.arrivals;
        received = m.received;
        finished = λ q. absurd (true≢false (sym e ∙ q));
      })
      (λ e.
      record {
        stands = m.stands;
        grant = m.grant;
        link = ap establish m.link;
        carries = m.carries;
        order = by_way _ (m.order Receive) (m.order Send);
        ready = all;
        arrivals = m.arrivals;
        received = m.received;
        finished =
            λ _.
            ap (λ (ds : List (List ℕ)). h.send.given ++ ds) (pieces_rest ls s (length s - c.ready) (omega (arith, (o.lengths Send).all e, o.ready_held)))
            ∙ joined_behind h.send.given (pieces ls s) (drop (total ls) s)
            ∙ (λ i. joined_by (m.finished e i) ((ap (λ (j : ℕ). drop j s) ((o.lengths Send).all e) ∙ sym built) i));
      })

  pub dropped_told : Tells (dropped c) (dropped_in h)
  unfolding dropped marked dropped_in is_open queue side datagrams_by
  dropped_told =
      record {
        stands = m.stands;
        grant = m.grant;
        link = refl;
        carries = m.carries;
        order = by_way _ (m.order Receive) (m.order Send);
        ready = m.ready;
        arrivals = m.arrivals;
        received = m.received;
        finished = m.finished;
      }

-- the channels 1 to 7, as a call tests them
pub numbered_from : (n : ChannelNumber) → numbered n ≡ true → (1 ≤ n.0) × (n.0 ≤ 7)
unfolding numbered
numbered_from n e = (leb-true 1 n.0 (both_left _ _ e), leb-true n.0 7 (both_right (leb 1 n.0) _ e))

pub numbered_of : (n : ChannelNumber) → 1 ≤ n.0 → n.0 ≤ 7 → numbered n ≡ true
unfolding numbered
numbered_of n from upto = rw (le-leb 1 n.0 from) (le-leb n.0 7 upto)

-- a command to a channel is to one of 1 to 7
abbrev pub Aimed : Command → Body → Type 0
Aimed c b = to_modem (kind_of b) ≡ false → numbered (channel_of c.destination) ≡ true

aimed : (t : ℕ) (from to : DeviceIdentity) → to_modem t ≡ false → addressed t from to ≡ true → numbered (channel_of to) ≡ true
unfolding addressed
aimed t from to e a =
    let to-channel = both_right (eqb from.0 0x81) _ a in
    let within : leb 0x21 to.0 && leb to.0 0x27 ≡ true = sym (skip _ _ _ e) ∙ to-channel in
    let low = leb-true 0x21 to.0 (both_left _ _ within) in
    let high = leb-true to.0 0x27 (both_right (leb 0x21 to.0) _ within) in
    numbered_of (channel_of to) (omega arith) (omega arith)

pub read_aimed : (p s : List ℕ) → Read p s → Aimed (command_in (details_read s) (counted s)) (command_in (details_read s) (counted s)).body
unfolding details_of
read_aimed p s r e =
    let d = details_read s in
    aimed d.kind _ _ (ap to_modem (sym (ap (λ (x : Details). x.kind) (details_told_lem d (counted s)))) ∙ e) r.devices

-- one channel changes, and what is seen is told of that channel
pub changed :
    (n m : ChannelNumber) (a : State) (c : Chan) (h k : History) → 1 ≤ n.0 → Sound a → numbered m ≡ true → Follows n a h →
    (n ≡ m → Tells c k) → Follows n (with_chan a m c) (same_number n m ⇒ k else h)
changed n m a c h k from o e f g =
    let at = numbered_from m e in
    branch (Follows n (with_chan a m c)) (same_number n m) k h
    (λ t.
    let same : n ≡ m = λ i. record { 0 = eqb-true n.0 m.0 t i } in
    subst (λ (x : Chan). Tells x k)
    (sym (ap (λ (x : ChannelNumber). chan (with_chan a m c) x) same ∙ chan_changed a m c (omega (arith, at, o.seven)))) (g same))
    (λ t.
    let other = eqb-false n.0 m.0 t in
    subst (λ (x : Chan). Tells x h) (sym (chan_other a m n c (λ q. other (omega (arith, at, from, q))))) f)

pub either_told :
    (b : Bool) (c d : Chan) (h k : History) → Tells c h → Tells d k → Tells (b ⇒ c else d) (b ⇒ h else k)
unfolding ◌⇒◌else◌
either_told true c d h k x y = x
either_told false c d h k x y = y
