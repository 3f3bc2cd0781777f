-- What the histories promise, over any list of calls: order, bounds, what is accepted and what is done, the counts told, and what ends.
-- Assumes nothing.
use Prim.Native.Nat.{ℕ, zero, suc, ◌+◌, ◌-◌, ◌≤◌, min}
use mathlib.Core.Path.{◌≡◌, refl, sym, ap, subst, ◌∙◌}
use mathlib.Core.Bool.{Bool, true, false, not, ◌&&◌, ◌||◌, true≢false, false≢true}
use mathlib.Core.List.{List, [], ◌∷◌, ◌++◌, map}
use mathlib.Core.Option.{some}
use native.Mathlib.Omega.{arith}
use lib.ListN.{length, get_or, take, drop, length-append, length-take, length-drop}
use lib.Seq.{take-take, drop-append_seam, drop-append-add}
use lib.Dec.{ltb, leb, eqb}
use borrow.Author.Tests.{le-leb, lt-leb, eq-eqb, eqb-true}
use Rattle.rules.specs.declared.ChannelNumber.{ChannelNumber}
use Rattle.rules.specs.declared.Events.{Events}
use Rattle.rules.specs.declared.Link.{Link}
use Rattle.rules.specs.declared.Link.TheVariants.{Dropped}
use Rattle.rules.specs.Checks.{◌⇒◌else◌, is_empty, some_of, member}
use Rattle.rules.specs.Words.{channel_of}
use Rattle.rules.specs.declared.Way.{Way}
use Rattle.rules.specs.declared.Way.TheVariants.{Receive, Send}
use Rattle.rules.specs.State.{State, Chan, closed, is_open, is_stream, is_established, is_dropped, chan, room, queue, held, due, at_once, without, joined, with_queue, marked, removed, appended, dropped, unfinished, places_used, crowded}
use Rattle.rules.specs.Datagrams.{total, pieces, behind}
use Rattle.rules.specs.Reading.{reading, kind_of, to_modem, Command, Body, Bearer, close_channel, receive_data, send_data}
use Rattle.rules.specs.Sound.{SoundChan}
use Rattle.rules.specs.declared.Refusal.TheVariants.{Undersized}
use Rattle.rules.specs.Own.{Reply, Result, Further, nothing, opened, received, sent, error, problem, done, capped, plain, closing, receiving, own, reports, started, leaves}
use Rattle.rules.specs.Written.{unflagged, status_object, event_bytes}
use Rattle.rules.specs.Command.{Answer, Outcome, wrote, refused, meant_by, Terms}
use Rattle.rules.specs.Radio.{numbered, arrival_event, taking, drop_event}
use Rattle.rules.specs.Run.{Call, starting, commanding, radio, arriving, taking_out, dropping_link, step, timing}
use Rattle.rules.specs.Bench.{Told, told, untold, bench_read}
use Rattle.rules.specs.History.{History, ended, opened_with, command_seen, closes, same_number, answer_tells, heard_tells, tells, accepted_in, whole_in, with_side, carried_in, oldest_ready, side, held_by, datagrams_by, finished_by, building_by, wholes_by, at_once_by, places_by, radio_tells}
use Rattle.rules.specs.Demands.{Tells, Follows, reached, told_of, next, latest, accepted, is_done, result_told, heard, heard_done, answer_to, listed_by, raised_by, crowded_by, Passed, opens_number, touches}
use Rattle.rules.proofs.Laws.{by_way, branch, stop, skip, both_left, either_left, either_right, and-false, same_kind, empty_length}
use Rattle.rules.proofs.Cases.{arrival_cases, taking_cases, dropping_cases, receiving_cases}
use Rattle.rules.proofs.Datagrams.{first, first_taken, first_piece, length_pieces, pieces_lengths}
use Rattle.rules.proofs.Soundness.{closed_sound, chan_sound, reached_sound}
use Rattle.rules.proofs.Told.{open_changed}
use Rattle.rules.proofs.Matching.{closed_told, numbered_of}
use Rattle.rules.proofs.Answers.{arrival_last, sending_last, meant_own, seen_read, Counts, meant_counts, unaccepted_stays, undone_stays}
use Rattle.rules.proofs.Histories.{follows}
use Rattle.rules.proofs.Listed.{lists}
use Rattle.rules.proofs.Outside.{reached_next, told_next, answer_meant, answer_tells_lem, done_asked, read_reached, own_heard, own_next, aimed_number}

-- what a history leaves held for a way is what the channel holds
pub held_told : (c : Chan) (h : History) → Tells c h → (w : Way) → held_by h w ≡ length (held c w)
unfolding held_by
held_told c h f w =
    let e = sym (ap (λ (l : List ℕ). length l) (f.order w)) ∙ length-append (side h w).out (held c w) in
    omega (arith, e)

-- as many bytes as were taken, taken again
take_back : (k : ℕ) (s : List ℕ) → take (length (take k s)) s ≡ take k s
take_back zero s = refl
take_back (suc k) [] = refl
take_back (suc k) (x ∷ s) = ap (λ (t : List ℕ). x ∷ t) (take_back k s)

-- what follows the bytes handed out is what is held
rest_is : (x y z : List ℕ) → x ++ y ≡ z → drop (length x) z ≡ y
rest_is x y z e = ap (λ (l : List ℕ). drop (length x) l) (sym e) ∙ drop-append_seam x y

pub rest_told : (c : Chan) (h : History) → Tells c h → (w : Way) → drop (length (side h w).out) (side h w).accepted ≡ held c w
rest_told c h f w = rest_is (side h w).out (held c w) (side h w).accepted (f.order w)

-- what came where nothing was held, as the history has it
event_same :
    (n : ChannelNumber) (c : Chan) (h : History) → Tells c h → (s : List ℕ) → is_empty (held c Receive) ≡ true →
    event_bytes 0x09 (status_object n (appended c Receive s).link ∷ unflagged 0x37 (capped (length (held (appended c Receive s) Receive)) ∷ []) ∷ []) ≡
    event_bytes 0x09 (status_object n h.link ∷ unflagged 0x37 (capped (length s) ∷ []) ∷ [])
unfolding appended with_queue joined queue
event_same n c h f s none =
    let empty = eqb-true (length c.receive.bytes) 0 (empty_length c.receive.bytes ∙ none) in
    let sum = length-append c.receive.bytes s in
    let all : length (c.receive.bytes ++ s) ≡ length s = omega (arith, empty, sum) in
    λ i. event_bytes 0x09 (status_object n (sym f.link i) ∷ unflagged 0x37 (capped (all i) ∷ []) ∷ [])

-- of datagrams: those to send that are finished, the bytes behind them, and the first of each way
finished_rest : (c : Chan) (h : History) → Tells c h → is_stream c.carries ≡ false → finished_by h ≡ pieces c.send.lengths c.send.bytes
unfolding finished_by
finished_rest c h f e =
    ap (λ (l : List (List ℕ)). drop (length h.send.given) l) (sym (f.finished e)) ∙ drop-append_seam h.send.given (pieces c.send.lengths c.send.bytes)

pub building_told : (c : Chan) (h : History) → Tells c h → building_by h ≡ drop c.ready (held c Send)
unfolding building_by queue side
building_told c h f = (λ i. drop (f.ready i) (sym (f.order Send) i)) ∙ drop-append-add h.send.out c.send.bytes c.ready

module _ (c : Chan) (h : History) (f : Tells c h) (o : SoundChan c) where
  enough : (w : Way) → is_stream c.carries ≡ false → total (queue c w).lengths ≤ length (held c w)
  unfolding due
  enough Receive e = omega (arith, (o.lengths Receive).all e)
  enough Send e = omega (arith, (o.lengths Send).all e, o.ready_held)

  datagram_told : is_stream c.carries ≡ false → is_stream h.carries ≡ false
  datagram_told e = ap is_stream f.carries ∙ e

  -- what may be handed out at once, and the places used, by the history
  pub once_told : (w : Way) → at_once c w ≡ at_once_by h w
  unfolding at_once at_once_by due queue
  once_told Receive =
      same_kind (is_stream c.carries) (is_stream h.carries) _ _ _ _ (ap is_stream f.carries) (λ _. sym (held_told c h f Receive))
      (λ e. sym (first_piece c.receive.lengths c.receive.bytes (enough Receive e)) ∙ ap (λ (ds : List (List ℕ)). length (get_or ds 0 [])) (f.received e))
  once_told Send =
      same_kind (is_stream c.carries) (is_stream h.carries) _ _ _ _ (ap is_stream f.carries) (λ _. omega (arith, f.ready))
      (λ e. sym (first_piece c.send.lengths c.send.bytes (enough Send e)) ∙ ap (λ (ds : List (List ℕ)). length (get_or ds 0 [])) (sym (finished_rest c h f e)))

  building_size : length (building_by h) ≡ unfinished c
  unfolding unfinished
  building_size = ap (λ (l : List ℕ). length l) (building_told c h f) ∙ length-drop c.ready (held c Send)

  pub places_told : (w : Way) → is_stream c.carries ≡ false → places_used c w ≡ places_by h w
  unfolding places_used places_by
  places_told Receive e = sym (ap (λ (ds : List (List ℕ)). length ds) (sym (f.received e)) ∙ length_pieces c.receive.lengths c.receive.bytes)
  places_told Send e =
      let n = ap (λ (ds : List (List ℕ)). length ds) (finished_rest c h f e) ∙ length_pieces c.send.lengths c.send.bytes in
      omega (arith, n, building_size)

  pub crowded_told : (w : Way) (s : List ℕ) → crowded c w s ≡ crowded_by h w s
  unfolding crowded crowded_by places_used queue
  crowded_told Receive s = by (is_stream c.carries) refl
    where
      by : (b : Bool) → is_stream c.carries ≡ b → crowded c Receive s ≡ crowded_by h Receive s
      by true e =
          ap (λ (l : List ℕ). not (is_empty s) && leb 16 (length l)) ((o.lengths Receive).none e) ∙ and-false (not (is_empty s))
          ∙ sym (ap (λ (t : Bool). not t && not (is_empty s) && leb 16 (places_by h Receive)) (ap is_stream f.carries ∙ e))
      by false e =
          ap (λ (n : ℕ). not (is_empty s) && leb 16 n) (places_told Receive e)
          ∙ sym (ap (λ (t : Bool). not t && not (is_empty s) && leb 16 (places_by h Receive)) (datagram_told e))
  crowded_told Send s = by (is_stream c.carries) refl
    where
      by : (b : Bool) → is_stream c.carries ≡ b → crowded c Send s ≡ crowded_by h Send s
      by true e =
          let none : length c.send.lengths ≡ 0 = ap (λ (l : List ℕ). length l) ((o.lengths Send).none e) in
          ap (λ (t : Bool). not (is_empty s) && eqb (unfinished c) 0 && t) (lt-leb 16 (length c.send.lengths + min 1 (unfinished c)) (omega arith))
          ∙ and-false (not (is_empty s) && eqb (unfinished c) 0)
          ∙ sym (ap (λ (t : Bool). not t && not (is_empty s) && is_empty (building_by h) && leb 16 (places_by h Send)) (ap is_stream f.carries ∙ e))
      by false e =
          (λ i. not (is_empty s) && (ap (λ (n : ℕ). eqb n 0) (sym building_size) ∙ empty_length (building_by h)) i && leb 16 (places_told Send e i))
          ∙ sym (ap (λ (t : Bool). not t && not (is_empty s) && is_empty (building_by h) && leb 16 (places_by h Send)) (datagram_told e))

  -- the lengths of a way, by the history
  lengths_are : (w : Way) → is_stream c.carries ≡ false → map (λ (d : List ℕ). length d) (wholes_by h w) ≡ (queue c w).lengths
  unfolding wholes_by queue
  lengths_are Receive e =
      ap (λ (ds : List (List ℕ)). map (λ (d : List ℕ). length d) ds) (sym (f.received e)) ∙ pieces_lengths c.receive.lengths c.receive.bytes (enough Receive e)
  lengths_are Send e =
      ap (λ (ds : List (List ℕ)). map (λ (d : List ℕ). length d) ds) (finished_rest c h f e) ∙ pieces_lengths c.send.lengths c.send.bytes (enough Send e)

-- a history tells one channel
pub one_told : (c d : Chan) (h : History) → Tells c h → Tells d h → SoundChan c → SoundChan d → c ≡ d
unfolding queue
one_told c d h f g o u =
    let grant = sym f.grant ∙ g.grant in
    let link = sym f.link ∙ g.link in
    let carries = sym f.carries ∙ g.carries in
    let bytes : (w : Way) → held c w ≡ held d w = λ w. sym (rest_told c h f w) ∙ rest_told d h g w in
    let ready : c.ready ≡ d.ready = omega (arith, f.ready, g.ready) in
    let lengths : (w : Way) → (queue c w).lengths ≡ (queue d w).lengths =
    λ w.
    by_kind (is_stream c.carries) (queue c w).lengths (queue d w).lengths
    (λ e. (o.lengths w).none e ∙ sym ((u.lengths w).none (sym (ap is_stream carries) ∙ e)))
    (λ e. sym (lengths_are c h f o w e) ∙ lengths_are d h g u w (sym (ap is_stream carries) ∙ e))
    in
    λ i.
    record {
      grant = grant i;
      link = link i;
      carries = carries i;
      receive = record { bytes = bytes Receive i; lengths = lengths Receive i };
      send = record { bytes = bytes Send i; lengths = lengths Send i };
      ready = ready i;
    }
  where
    by_kind : (b : Bool) (x y : List ℕ) → (b ≡ true → x ≡ y) → (b ≡ false → x ≡ y) → x ≡ y
    by_kind true x y p q = p refl
    by_kind false x y p q = q refl

closed_only : (c : Chan) → Tells c ended → SoundChan c → c ≡ closed
closed_only c f o = one_told c closed ended f closed_told o closed_sound

-- a call that does not touch a channel tells nothing of it
untouched_answer :
    (n : ChannelNumber) (h : History) (c : Command) (r : Result) → same_number n (channel_of c.destination) ≡ false → opens_number n (some r) ≡ false →
    answer_tells n h c r ≡ h
unfolding answer_tells opens_number
untouched_answer n h c (done x (opened s b g)) e f = skip _ _ _ f
untouched_answer n h c (done x (received d left)) e f = skip _ _ _ e
untouched_answer n h c (done x (sent space)) e f = skip _ _ _ e
untouched_answer n h c (done x nothing) e f = branch (λ (k : History). k ≡ h) (closes c.body) _ _ (λ _. skip _ _ _ e) (λ _. refl)
untouched_answer n h c (done x (started m)) e f = refl
untouched_answer n h c (done x (leaves m t)) e f = refl
untouched_answer n h c (done x (reports r)) e f = refl
untouched_answer n h c (error x) e f = refl
untouched_answer n h c (problem cause) e f = refl

untouched_heard :
    (n : ChannelNumber) (h : History) (c : Command) (t : Told) → same_number n (channel_of c.destination) || opens_number n (result_told t) ≡ false →
    heard_tells n h c t ≡ h
unfolding heard_tells result_told
untouched_heard n h c (told r) e =
    let to = same_number n (channel_of c.destination) in
    untouched_answer n h c r.result (either_left to _ e) (either_right to _ e)
untouched_heard n h c (untold why) e = refl

untouched_tells : (n : ChannelNumber) (h : History) (c : Call) (o : Outcome) → touches n c o ≡ false → tells n h c o ≡ h
unfolding tells touches heard
untouched_tells n h (starting p) o e = absurd (true≢false e)
untouched_tells n h (commanding terms s) (wrote t) e = untouched_heard n h (command_seen s) (bench_read t) e
untouched_tells n h (commanding terms s) (refused r) e = refl
untouched_tells n h (radio buffer m act) (wrote t) e = skip _ _ _ e
untouched_tells n h (radio buffer m act) (refused r) e = refl
untouched_tells n h (timing act) o e = refl

-- what fits is accepted exactly where there is a place
fits_so : (k space : ℕ) (t : Bool) → k ≤ space → (u : Bool) → t ≡ u → leb k space && not t ≡ not u
fits_so k space t h u e = (λ i. le-leb k space h i && not (e i))

-- a call that was not accepted, and a command that was not done, change nothing
pub refused_stays : (p : List ℕ) (cs : List Call) (c : Call) → accepted (step (reached p cs) c).outcome ≡ false → reached p (next cs c) ≡ reached p cs
refused_stays p cs c e = reached_next p cs c ∙ unaccepted_stays (reached p cs) c e

pub undone_keeps :
    (p : List ℕ) (cs : List Call) (terms : Terms) (s : List ℕ) (x : Result) → answer_to p cs terms s ≡ some x → is_done x ≡ false →
    reached p (next cs (commanding terms s)) ≡ reached p cs
undone_keeps p cs terms s x e u =
    let w = answer_meant p cs terms s x e in
    w.state ∙ undone_stays (reached p cs) (reading (reached p cs).profile s) (ap is_done (sym w.result) ∙ u)

module _ (n : ChannelNumber) (from : 1 ≤ n.0) (upto : n.0 ≤ 7) (p : List ℕ) (cs : List Call) where
  -- the state after the calls, and what was seen of the channel
  abbrev a : State
  a = reached p cs

  abbrev h : History
  h = told_of n p cs

  seen : Follows n a h
  seen = follows n p cs from

  -- the bytes handed out, followed by those held, are the bytes accepted since the opening, each way
  pub order : (w : Way) → (side h w).out ++ held (chan a n) w ≡ (side h w).accepted
  order = seen.order

  -- accepted less handed out is held, each way
  pub held_is : (w : Way) → held_by h w ≡ length (held (chan a n) w)
  held_is = held_told (chan a n) h seen

  -- never more is held than the grant, each way, in the channel and in the history
  pub bounds : (w : Way) → (length (held (chan a n) w) ≤ h.grant) × (held_by h w ≤ h.grant)
  bounds w =
      let o = chan_sound a n (reached_sound p cs) in
      omega (arith, o.fits w, seen.grant, held_is w)

  sound : SoundChan (chan a n)
  sound = chan_sound a n (reached_sound p cs)

  -- an arrival on an established link is accepted exactly when it fits the grant less what is held, and there is a place for a datagram that it begins
  pub arrival_accepted :
      (buffer : ℕ) (s : List ℕ) → 16 ≤ buffer → h.stands ≡ true → is_established h.link ≡ true →
      accepted (step a (arriving buffer n s)).outcome ≡ leb (length s) (h.grant - held_by h Receive) && not (crowded_by h Receive s)
  unfolding step accepted room
  arrival_accepted buffer s b o l =
      let space = h.grant - held_by h Receive in
      let place = crowded_told (chan a n) h seen sound Receive s in
      arrival_last (λ (r : Answer). accepted r.outcome ≡ leb (length s) space && not (crowded_by h Receive s)) a buffer n s b
      (record { number = numbered_of n from upto; stands = sym seen.stands ∙ o; link = ap is_established (sym seen.link) ∙ l })
      (λ f. sym (ap (λ (t : Bool). t && not (crowded_by h Receive s)) (lt-leb (length s) space (omega (arith, f, seen.grant, held_is Receive)))))
      (λ f q. sym (fits_so (length s) space (crowded_by h Receive s) (omega (arith, f, seen.grant, held_is Receive)) true (sym place ∙ q)))
      (λ f q. sym (fits_so (length s) space (crowded_by h Receive s) (omega (arith, f, seen.grant, held_is Receive)) false (sym place ∙ q)))

  -- an accepted arrival raises event 09 exactly where nothing was held to be received, bytes came and 09 is listed; it tells the bytes that came, up to FF
  pub event_raised : (buffer : ℕ) (s t : List ℕ) → (step a (arriving buffer n s)).outcome ≡ wrote t → t ≡ raised_by n h (listed_by p cs) s
  unfolding step arrival_event raised_by
  event_raised buffer s t =
      let none : eqb (held_by h Receive) 0 ≡ is_empty (held (chan a n) Receive) = ap (λ (k : ℕ). eqb k 0) (held_is Receive) ∙ empty_length (held (chan a n) Receive) in
      arrival_cases (λ (r : Answer). r.outcome ≡ wrote t → t ≡ raised_by n h (listed_by p cs) s) a (λ _ q. absurd (false≢true (cc))) buffer n s
      (λ _ _ _ _ q.
      let is : arrival_event a n s ≡ t = cc in
      sym is ∙ same_kind _ _ _ _ _ _ (λ i. none i && not (is_empty s) && (lists p cs i).available) (λ e. event_same n (chan a n) h seen s (both_left _ _ (both_left _ _ e))) (λ _. refl))

  -- and these are then all that are held
  pub event_counts :
      (buffer : ℕ) (s t : List ℕ) → (step a (arriving buffer n s)).outcome ≡ wrote t → is_empty t ≡ false →
      held_by (told_of n p (next cs (arriving buffer n s))) Receive ≡ length s
  unfolding is_empty raised_by tells radio_tells whole_in accepted_in with_side side held_by
  event_counts buffer s t e f =
      let all : ℕ = held_by (told_of n p (next cs (arriving buffer n s))) Receive in
      branch (λ (x : List ℕ). t ≡ x → all ≡ length s) _ _ _
      (λ b _.
      let none = eqb-true (held_by h Receive) 0 (both_left _ _ (both_left _ _ b)) in
      let now = told_next n p cs (arriving buffer n s) ∙ ap (tells n h (arriving buffer n s)) e ∙ stop _ _ _ (eq-eqb n.0 n.0 refl) in
      let sum = length-append h.receive.accepted s in
      let whole = sym (ap (λ (l : List ℕ). length l) (seen.order Receive)) ∙ length-append h.receive.out (held (chan a n) Receive) in
      let counted : length (h.receive.accepted ++ s) - length h.receive.out ≡ length s = omega (arith, none, sum, whole) in
      ap (λ (x : History). held_by x Receive) now ∙ counted)
      (λ _ q. absurd (false≢true (sym f ∙ ap (λ (l : List ℕ). is_empty l) q)))
      (event_raised buffer s t e)

  -- an accepted drop raises event 0A exactly where it is listed
  pub drop_raised :
      (buffer : ℕ) (t : List ℕ) → (step a (dropping_link buffer n)).outcome ≡ wrote t →
      t ≡ ((listed_by p cs).status ⇒ event_bytes 0x0A (status_object n Dropped ∷ []) else [])
  unfolding step drop_event dropped marked
  drop_raised buffer t =
      let E : Events → List ℕ = λ (e : Events). e.status ⇒ event_bytes 0x0A (status_object n Dropped ∷ []) else [] in
      dropping_cases (λ (r : Answer). r.outcome ≡ wrote t → t ≡ E (listed_by p cs)) a (λ _ q. absurd (false≢true (cc))) buffer n
      (λ _ _ q.
      let is : drop_event a n ≡ t = cc in
      sym is ∙ ap E (sym (lists p cs)))

  -- of a take the number, the channel and its link pass
  permitted_so : (x y z w : Answer) → h.stands ≡ true → is_established h.link ≡ true → (not (numbered n) ⇒ x else not (is_open (chan a n)) ⇒ y else not (is_established (chan a n).link) ⇒ z else w) ≡ w
  permitted_so x y z w o l =
      skip _ _ _ (ap not (numbered_of n from upto)) ∙ skip _ _ _ (ap not (sym seen.stands ∙ o)) ∙ skip _ _ _ (ap not (ap is_established (sym seen.link) ∙ l))

  short_told : (buffer : ℕ) → not (is_stream (chan a n).carries) && ltb buffer (at_once (chan a n) Send) ≡ not (is_stream h.carries) && ltb buffer (at_once_by h Send)
  short_told buffer = λ i. not (is_stream (sym seen.carries i)) && ltb buffer (once_told (chan a n) h seen sound Send i)

  ready_bytes : (buffer : ℕ) → take (min buffer (at_once (chan a n) Send)) (held (chan a n) Send) ≡ oldest_ready h buffer
  unfolding oldest_ready side
  ready_bytes buffer = λ i. take (min buffer (once_told (chan a n) h seen sound Send i)) (sym (rest_told (chan a n) h seen Send) i)

  -- what a take hands out is the oldest bytes that are ready, as many as fit
  pub ready : (buffer : ℕ) (t : List ℕ) → (step a (taking_out buffer n)).outcome ≡ wrote t → t ≡ oldest_ready h buffer
  unfolding step
  ready buffer t =
      taking_cases (λ (r : Answer). r.outcome ≡ wrote t → t ≡ oldest_ready h buffer) a (λ _ e. absurd (false≢true (cc))) buffer n
      (λ _ _ e. let is : take (min buffer (at_once (chan a n) Send)) (held (chan a n) Send) ≡ t = cc in sym is ∙ ready_bytes buffer)

  -- and on an open channel with an established link a take hands them out, of datagrams where the buffer has room for the first
  pub take_done :
      (buffer : ℕ) → h.stands ≡ true → is_established h.link ≡ true → not (is_stream h.carries) && ltb buffer (at_once_by h Send) ≡ false →
      (step a (taking_out buffer n)).outcome ≡ wrote (oldest_ready h buffer)
  unfolding step taking
  take_done buffer o l fit =
      ap (λ (r : Answer). r.outcome) (permitted_so _ _ _ _ o l ∙ skip _ _ _ (short_told buffer ∙ fit)) ∙ ap wrote (ready_bytes buffer)

  -- where it has not, nothing is handed over
  pub take_short :
      (buffer : ℕ) → h.stands ≡ true → is_established h.link ≡ true → not (is_stream h.carries) && ltb buffer (at_once_by h Send) ≡ true →
      (step a (taking_out buffer n)).outcome ≡ refused Undersized
  unfolding step taking
  take_short buffer o l short = ap (λ (r : Answer). r.outcome) (permitted_so _ _ _ _ o l ∙ stop _ _ _ (short_told buffer ∙ short))

  -- what a RECEIVE DATA hands out is the oldest bytes held: the least of the request, what may be handed out at once and 237
  pub oldest :
      (terms : Terms) (s : List ℕ) (request x : ℕ) (d : List ℕ) (left : ℕ) → channel_of (command_seen s).destination ≡ n →
      (command_seen s).body ≡ receive_data request → answer_to p cs terms s ≡ some (done x (received d left)) →
      d ≡ take (min request (min (at_once_by h Receive) 237)) (drop (length h.receive.out) h.receive.accepted)
  unfolding own side
  oldest terms s request x d left eⁿ eᵇ e =
      let w = answer_meant p cs terms s (done x (received d left)) e in
      let c = done_asked a (reading a.profile s) x (received d left) (sym w.result) in
      let k = seen_read a.profile s c.0 c.1 c.2 in
      let meant =
      meant_own a (reading a.profile s) c.0 c.1 (receive_data request) c.2 (ap (λ (j : Command). j.body) (sym k) ∙ eᵇ)
      ∙ ap (λ (j : Command). receiving a (channel_of j.destination) request c.1) (sym k)
      ∙ ap (λ (m : ChannelNumber). receiving a m request c.1) eⁿ
      in
      receiving_cases (λ (r : Reply). done x (received d left) ≡ r.result → d ≡ take (min request (min (at_once_by h Receive) 237)) (drop (length h.receive.out) h.receive.accepted)) a
      (λ _ _ q. absurd (false≢true (cc))) n request c.1
      (λ k eᵏ _ q. rw (rest_told (chan a n) h seen Receive, sym (once_told (chan a n) h seen sound Receive)) (cc))
      (w.result ∙ ap (λ (r : Reply). r.result) meant)

  -- the count that an answer tells is what the history behind it leaves held, or the room that it leaves, up to FF
  pub counts :
      (terms : Terms) (s : List ℕ) (x : ℕ) → channel_of (command_seen s).destination ≡ n →
      let h' = told_of n p (next cs (commanding terms s)) in
      ((d : List ℕ) (left : ℕ) → answer_to p cs terms s ≡ some (done x (received d left)) → left ≡ capped (held_by h' Receive)) ×
      ((space : ℕ) → answer_to p cs terms s ≡ some (done x (sent space)) → space ≡ capped (h'.grant - held_by h' Send))
  unfolding room
  counts terms s x eⁿ =
      let c = commanding terms s in
      let h' = told_of n p (next cs c) in
      let now = follows n p (next cs c) from in
      let left = held_told (chan (reached p (next cs c)) n) h' now in
      let roomy : room (chan (reached p (next cs c)) n) Send ≡ h'.grant - held_by h' Send = omega (arith, now.grant, left Send) in
      (λ d k e. told_count (received d k) e ∙ ap capped (sym (left Receive)), λ k e. told_count (sent k) e ∙ ap capped roomy)
    where
      told_count : (f : Further) → answer_to p cs terms s ≡ some (done x f) → Counts (chan (reached p (next cs (commanding terms s))) n) (done x f)
      told_count f e =
          let w = answer_meant p cs terms s (done x f) e in
          let c = done_asked a (reading a.profile s) x f (sym w.result) in
          let k = seen_read a.profile s c.0 c.1 c.2 in
          subst (λ (b : State). Counts (chan b n) (done x f)) (sym w.state)
          (subst (Counts (chan (meant_by a (reading a.profile s)).state n)) (sym w.result)
          (meant_counts a (reading a.profile s) c.0 c.1 n c.2 (ap (λ (j : Command). channel_of j.destination) (sym k) ∙ eⁿ)))

  -- starting anew ends every channel: nothing of it is left, in the history and in the session
  pub start_ends : (q : List ℕ) → (told_of n p (next cs (starting q)) ≡ ended) × (chan (reached p (next cs (starting q))) n ≡ closed)
  unfolding tells step
  start_ends q =
      let e = told_next n p cs (starting q) in
      (e, closed_only (chan (reached p (next cs (starting q))) n) (subst (Tells (chan (reached p (next cs (starting q))) n)) e (follows n p (next cs (starting q)) from)) (chan_sound (reached p (next cs (starting q))) n (reached_sound p (next cs (starting q)))))

  -- an answer that tells of an opening begins the channel anew: it has the grant and the link told, holds nothing either way, and nothing is ready
  pub opening_begins :
      (terms : Terms) (s : List ℕ) (x : ℕ) (l : Link) (b : Bearer) (g : ℕ) → answer_to p cs terms s ≡ some (done x (opened (record { number = n; link = l }) b g)) →
      let c = chan (reached p (next cs (commanding terms s))) n in
      (told_of n p (next cs (commanding terms s)) ≡ opened_with g l (carried_in (command_seen s).body)) × (c.grant ≡ g) × (c.link ≡ l) × ((w : Way) → held c w ≡ []) × (c.ready ≡ 0)
  unfolding answer_tells opened_with side
  opening_begins terms s x l b g e =
      let c = chan (reached p (next cs (commanding terms s))) n in
      let told = answer_tells_lem n p cs terms s _ e ∙ stop _ _ _ (eq-eqb n.0 n.0 refl) in
      let f : Tells c (opened_with g l (carried_in (command_seen s).body)) = subst (Tells c) told (follows n p (next cs (commanding terms s)) from) in
      (told, sym f.grant, sym f.link, by_way (λ (w : Way). held c w ≡ []) (f.order Receive) (f.order Send), omega (arith, f.ready))

  -- a call that does not touch a channel leaves it as it was
  pub others_keep : (c : Call) → touches n c (step a c).outcome ≡ false → chan (reached p (next cs c)) n ≡ chan a n
  others_keep c e =
      let same = told_next n p cs c ∙ untouched_tells n h c (step a c).outcome e in
      one_told (chan (reached p (next cs c)) n) (chan a n) h (subst (Tells (chan (reached p (next cs c)) n)) same (follows n p (next cs c) from)) seen
      (chan_sound (reached p (next cs c)) n (reached_sound p (next cs c))) sound

module _ (p : List ℕ) (cs : List Call) (terms : Terms) (s : List ℕ) (c : Command) (i : Bool) (w : Passed (latest p cs) terms s c i) where
  -- of a command that passed steps 1 to 8: the channel that it goes to, and its history
  abbrev to : ChannelNumber
  to = channel_of c.destination

  abbrev of : History
  of = told_of to p cs

  pub follows_to : to_modem (kind_of c.body) ≡ false → Follows to (reached p cs) of
  follows_to e = follows to p cs (aimed_number p cs terms s c i w e).0

  -- a SEND DATA on an open channel whose link was not dropped is done exactly when its data fits the grant less what is held, and there is a place for a datagram that it begins
  pub send_accepted :
      (d : List ℕ) → c.body ≡ send_data d → of.stands ≡ true → is_dropped of.link ≡ false →
      heard_done (answer_to p cs terms s) ≡ leb (length d) (of.grant - held_by of Send) && not (crowded_by of Send d)
  unfolding own heard_done is_done room kind_of to_modem member some_of
  send_accepted d e o l =
      let f = follows_to (ap (λ (b : Body). to_modem (kind_of b)) e) in
      let space = of.grant - held_by of Send in
      let left = held_told (chan (reached p cs) to) of f Send in
      let place = crowded_told (chan (reached p cs) to) of f (chan_sound (reached p cs) to (reached_sound p cs)) Send d in
      ap heard_done (own_heard p cs terms s c i w (send_data d) e)
      ∙ sending_last (λ (r : Result). is_done r ≡ leb (length d) space && not (crowded_by of Send d)) (reached p cs) c.qualifier to d i (sym f.stands ∙ o) (ap is_dropped (sym f.link) ∙ l)
      (λ g. sym (ap (λ (t : Bool). t && not (crowded_by of Send d)) (lt-leb (length d) space (omega (arith, g, f.grant, left)))))
      (λ g q. sym (fits_so (length d) space (crowded_by of Send d) (omega (arith, g, f.grant, left)) true (sym place ∙ q)))
      (λ g q _ _. sym (fits_so (length d) space (crowded_by of Send d) (omega (arith, g, f.grant, left)) false (sym place ∙ q)))

  -- a RECEIVE DATA on an open channel is done: it hands out the oldest bytes, and tells what is left
  pub receive_done :
      (request : ℕ) → c.body ≡ receive_data request → of.stands ≡ true →
      let k = min request (min (at_once_by of Receive) 237) in
      answer_to p cs terms s ≡
      some (done (ltb k request ⇒ 0x02 else plain i) (received (take k (drop (length of.receive.out) of.receive.accepted)) (capped (held_by of Receive - k))))
  unfolding own receiving removed with_queue without queue side kind_of to_modem member some_of
  receive_done request e o =
      let f = follows_to (ap (λ (b : Body). to_modem (kind_of b)) e) in
      let x = chan (reached p cs) to in
      own_heard p cs terms s c i w (receive_data request) e
      ∙ ap (λ (r : Reply). some r.result) (skip _ _ _ (ap not (sym f.stands ∙ o)))
      ∙ rw (held_told x of f Receive, sym (once_told x of f (chan_sound (reached p cs) to (reached_sound p cs)) Receive), rest_told x of f Receive, length-drop (min request (min (at_once x Receive) 237)) (held x Receive)) refl

  -- a CLOSE CHANNEL of an open channel is done, and ends it, in the history and in the session
  pub close_done :
      c.body ≡ close_channel → of.stands ≡ true →
      (answer_to p cs terms s ≡ some (done (plain i) nothing)) × (told_of to p (next cs (commanding terms s)) ≡ ended) ×
      (chan (reached p (next cs (commanding terms s))) to ≡ closed)
  unfolding own closing kind_of to_modem member some_of answer_tells closes
  close_done e o =
      let to-channel = ap (λ (b : Body). to_modem (kind_of b)) e in
      let f = follows_to to-channel in
      let stands = sym f.stands ∙ o in
      let done-so = skip _ _ _ (ap not stands) in
      let answer = own_heard p cs terms s c i w close_channel e ∙ ap (λ (r : Reply). some r.result) done-so in
      let gone = ap (λ (b : State). chan b to) (own_next p cs terms s c i w close_channel e ∙ ap (λ (r : Reply). r.state) done-so) in (
        answer,
        answer_tells_lem to p cs terms s _ answer
            ∙ ap (λ (k : Command). answer_tells to of k (done (plain i) nothing)) (seen_read (reached p cs).profile s c i (read_reached p cs terms s c i w))
            ∙ stop _ _ _ (ap closes e) ∙ stop _ _ _ (eq-eqb to.0 to.0 refl),
        gone ∙ open_changed (reached p cs) to closed stands,
      )

-- datagram channels, after any list of calls
module _ (n : ChannelNumber) (from : 1 ≤ n.0) (p : List ℕ) (cs : List Call) (kind : is_stream (told_of n p cs).carries ≡ false) where
  abbrev at : Chan
  at = chan (reached p cs) n

  abbrev seen_of : History
  seen_of = told_of n p cs

  tells_of : Tells at seen_of
  tells_of = follows n p cs from

  datagrams_so : is_stream at.carries ≡ false
  datagrams_so = sym (ap is_stream tells_of.carries) ∙ kind

  sound_of : SoundChan at
  sound_of = chan_sound (reached p cs) n (reached_sound p cs)

  -- whole, receive: the datagrams held are the arrivals that had bytes, less what was handed out from their front
  pub whole_receive : pieces at.receive.lengths at.receive.bytes ≡ behind (length seen_of.receive.out) seen_of.receive.whole
  unfolding datagrams_by
  whole_receive = tells_of.received datagrams_so

  -- whole, send: what the takes handed over, followed by the finished datagrams held, is the list of datagrams that SEND DATA finished
  pub whole_send : seen_of.send.given ++ pieces at.send.lengths at.send.bytes ≡ seen_of.send.whole
  whole_send = tells_of.finished datagrams_so

  -- and the bytes accepted since the last finished one are the unfinished one
  pub building : drop seen_of.readied seen_of.send.accepted ≡ drop at.ready at.send.bytes
  unfolding building_by queue
  building = building_told at seen_of tells_of

  -- places: at most 16 each way, the unfinished one included, in the session and in the history
  pub places : (w : Way) → (places_used at w ≤ 16) × (places_by seen_of w ≤ 16)
  places w = let e = places_told at seen_of tells_of sound_of w datagrams_so in ((sound_of.lengths w).few, omega (arith, e, (sound_of.lengths w).few))

  -- what an answer to RECEIVE DATA hands out lies within the first datagram held, from its front
  pub within_first :
      (terms : Terms) (s : List ℕ) (request x : ℕ) (d : List ℕ) (left : ℕ) → n.0 ≤ 7 → channel_of (command_seen s).destination ≡ n →
      (command_seen s).body ≡ receive_data request → answer_to p cs terms s ≡ some (done x (received d left)) →
      d ≡ take (length d) (get_or (datagrams_by seen_of) 0 [])
  unfolding side queue at_once
  within_first terms s request x d left upto eⁿ eᵇ e =
      let held-now = at.receive.bytes in
      let ls = at.receive.lengths in
      let most = min request (min (at_once_by seen_of Receive) 237) in
      let same : d ≡ take most held-now =
      oldest n from upto p cs terms s request x d left eⁿ eᵇ e ∙ ap (take most) (rest_told at seen_of tells_of Receive)
      in
      let once : at_once_by seen_of Receive ≡ first ls = sym (once_told at seen_of tells_of sound_of Receive) ∙ skip _ _ _ datagrams_so in
      let size = ap (λ (l : List ℕ). length l) same ∙ length-take most held-now in
      sym
      (ap (λ (ds : List (List ℕ)). take (length d) (get_or ds 0 [])) (sym (tells_of.received datagrams_so)) ∙ ap (take (length d)) (first_taken ls held-now)
      ∙ take-take (length d) (first ls) held-now (omega arith) ∙ ap (λ (m : ℕ). take m held-now) (ap (λ (l : List ℕ). length l) same) ∙ take_back most held-now ∙ sym same)
