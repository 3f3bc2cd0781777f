-- SEND DATA over what the code has found.
-- Assumes nothing.
use Prim.Native.Nat.{ℕ, ◌+◌, ◌-◌, ◌≤◌, ◌<◌, min}
use mathlib.Core.Path.{◌≡◌, refl, sym, ap, subst, ◌∙◌}
use mathlib.Core.Bool.{Bool, true, false, not, ◌&&◌, false≢true}
use mathlib.Core.List.{List, [], ◌∷◌}
use native.Mathlib.Omega.{arith}
use lib.ListN.{length, length-append}
use lib.Dec.{leb, eqb}
use borrow.Author.Tests.{lt-ltb, le-ltb, eq-eqb, ne_eqb}
use Rattle.rules.specs.declared.ChannelNumber.{ChannelNumber}
use Rattle.rules.specs.declared.Details.{Details}
use Rattle.rules.specs.declared.Link.{Link}
use Rattle.rules.specs.declared.Link.TheVariants.{NotYet, Established, Dropped}
use Rattle.rules.specs.declared.Way.TheVariants.{Send}
use Rattle.rules.specs.Checks.{◌⇒◌else◌, is_empty}
use Rattle.rules.specs.Datagrams.{another}
use Rattle.rules.specs.State.{State, Chan, is_stream, chan, with_chan, establish, is_dropped, queue, with_queue, held, room, joined, counting, marked, appended, whole, readied, unfinished, places_used, crowded}
use Rattle.rules.specs.Own.{problem, done, sent, capped, bit1, plain, sending}
use Rattle.rules.proofs.Laws.{branch, stop, skip, not_not, and-false}
use Rattle.rules.proofs.Soundness.{chan_sound, sent_sound, readied_sound, same_sound, whole_grant}
use Rattle.rules.proofs.Told.{whole_held}
use Rattle.rules.specs.Sound.{SoundChan}
use Rattle.session.specs.declared.Channel.{Channel}
use Rattle.std.specs.Prelude.{Ok}
use Rattle.session.specs.Book.{entry_in}
use Rattle.session.specs.Picture.{link_of, shown, entry}
use Rattle.session.specs.Calls.{Answers}
use Rattle.session.specs.Changed.{Numbered, chan_in, Changed, Marks}
use Rattle.session.proofs.Facts.{bounds}
use Rattle.session.proofs.Views.{link_back}
use Rattle.responses.specs.Filled.{response, Filled}
use Rattle.own.specs.Replies.{told, sent_entry, sent_whole}
use Rattle.own.proofs.Replies.{told_answers, left_answers, found, unopened, unclosed}

-- a link that was not dropped is established by bytes that are sent at once
established : (l : Link) → is_dropped l ≡ false → Established ≡ establish l
unfolding is_dropped establish
established NotYet e = refl
established Established e = refl
established Dropped e = absurd (false≢true (sym e))

-- what is made of either of two entries
chosen : (f : Channel → Chan) (b : Bool) (x y : Channel) (v w : Chan) → f x ≡ v → f y ≡ w → f (b ⇒ x else y) ≡ (b ⇒ v else w)
unfolding ◌⇒◌else◌
chosen f true x y v w m l = m
chosen f false x y v w m l = l

-- a whole datagram more, beside the marks and of no bytes
either : (f : Chan → Chan) (b : Bool) (x y : Chan) → (b ⇒ f x else f y) ≡ f (b ⇒ x else y)
unfolding ◌⇒◌else◌
either f true x y = refl
either f false x y = refl

whole_marked : (c : Chan) (l : Link) (j : ℕ) (s : List ℕ) (m : ℕ) → whole (appended (marked c l j) Send s) Send m ≡ marked (whole (appended c Send s) Send m) l j
unfolding whole appended with_queue marked queue joined counting
whole_marked c l j s m =
    either (λ (d : Chan). marked d l j) (is_stream c.carries) (appended c Send s) (with_queue (appended c Send s) Send (counting (queue (appended c Send s) Send) m))

whole_none : (c : Chan) → whole c Send 0 ≡ c
unfolding whole with_queue counting queue another
whole_none c = branch (λ (d : Chan). d ≡ c) (is_stream c.carries) _ _ (λ _. refl) (λ _. refl)

-- what fits, and the entry that it joins
module _ (t p : List ℕ) (n : ChannelNumber) (h : Numbered t p n) (e : Channel) (q : e ≡ entry_in t n) where
  room_found : e.grant - e.tx ≡ room (chan_in t p n) Send
  unfolding room entry
  room_found = λ j. (found t p n h e q j).grant - (found t p n h e q j).tx

  pub send_fits : (m : ℕ) → m ≤ e.grant - e.tx → m ≤ room (chan_in t p n) Send
  send_fits m f = subst (λ (r : ℕ). m ≤ r) room_found f

  pub sent_marks : (v : Channel) (k m : ℕ) → v ≡ sent_entry e k m → Marks v (entry_in t n)
  unfolding sent_entry
  sent_marks v k m z =
      let g = ap (λ (u : Channel). u.grant) q in
      let r = ap (λ (u : Channel). u.rx) q in
      let w = ap (λ (u : Channel). u.tx) q in
      let l = ap (λ (u : Channel). u.link) q in
      let z' = ap (λ (u : Channel). u.carries) q in
      subst (λ (u : Channel). Marks u (entry_in t n)) (sym z)
      (branch (λ (u : Channel). Marks u (entry_in t n)) (bit1 k) _ _
      (λ _. record { grant = g; rx = r; tx = w; carries = z'; link = omega arith })
      (λ _. record { grant = g; rx = r; tx = w; carries = z'; link = omega (arith, (bounds t p n h).link_known) }))

  tx_found : e.tx ≡ length (chan_in t p n).send.bytes
  unfolding entry queue
  tx_found = ap (λ (u : Channel). u.tx) (found t p n h e q)

  ready_found : e.ready ≡ (chan_in t p n).ready
  unfolding entry
  ready_found = ap (λ (u : Channel). u.ready) (found t p n h e q)

  -- whether bytes lack a place, test by test
  pub lacks_none : (s : List ℕ) → length s < 1 → false ≡ crowded (chan_in t p n) Send s
  unfolding crowded is_empty
  lacks_none [] f = refl
  lacks_none (x ∷ s) f = absurd (omega arith)

  pub lacks_joins : (s : List ℕ) → e.ready < e.tx → false ≡ crowded (chan_in t p n) Send s
  unfolding crowded unfinished queue
  lacks_joins s f =
      let u = tx_found in
      let v = ready_found in
      let c = chan_in t p n in
      let some : eqb (length c.send.bytes - c.ready) 0 ≡ false = ne_eqb (length c.send.bytes - c.ready) 0 (omega arith) in
      sym ((λ i. not (is_empty s) && some i && leb 16 (places_used c Send)) ∙ ap (λ (b : Bool). b && leb 16 (places_used c Send)) (and-false (not (is_empty s))))

  pub lacks_last : (s : List ℕ) (b : Bool) → 1 ≤ length s → e.tx ≤ e.ready → b ≡ leb 16 (length (queue (chan_in t p n) Send).lengths) → b ≡ crowded (chan_in t p n) Send s
  unfolding crowded unfinished queue places_used is_empty
  lacks_last [] b f g l = absurd (omega arith)
  lacks_last (x ∷ s) b f g l =
      let u = tx_found in
      let v = ready_found in
      let c = chan_in t p n in
      let none : length c.send.bytes - c.ready ≡ 0 = omega arith in
      let same : length c.send.lengths ≡ length c.send.lengths + min 1 (length c.send.bytes - c.ready) = omega arith in
      l ∙ (λ i. sym (eq-eqb (length c.send.bytes - c.ready) 0 none) i && leb 16 (same i))

module _ (t p : List ℕ) (n : ChannelNumber) (h : Numbered t p n) (e : Channel) (q : e ≡ entry_in t n) (d : Details) (s : List ℕ) (i : Bool) (k : ℕ) (before after : List ℕ) where
  abbrev a : State
  a = shown t p

  abbrev c : Chan
  c = chan a n

  abbrev answer : List ℕ → List ℕ → Type 0
  answer u r = Answers (told d (sending a d.qualifier n s i)) u r (Ok k) before after

  link_found : link_of e.link ≡ c.link
  unfolding entry
  link_found = ap (λ (x : Channel). link_of x.link) (found t p n h e q) ∙ link_back c.link

  pub send_unopened : e.grant < 1 → Filled (response d (problem 0x03)) k before after → answer t p
  unfolding sending
  send_unopened o w = left_answers d _ (problem 0x03) t p k before after (stop _ _ _ (unopened t p n h e q o)) h.good w

  pub send_dropped : (b : Bool) → 1 ≤ e.grant → b ≡ is_dropped (link_of e.link) → b ≡ true → Filled (response d (problem 0x02)) k before after → answer t p
  unfolding sending
  send_dropped b o x y w =
      left_answers d _ (problem 0x02) t p k before after
      (skip _ _ _ (unclosed t p n h e q o) ∙ stop _ _ _ (ap is_dropped (sym link_found) ∙ sym x ∙ y)) h.good w

  -- the link was not dropped
  module _ (b : Bool) (o : 1 ≤ e.grant) (x : b ≡ is_dropped (link_of e.link)) (y : b ≡ false) where
    undropped : is_dropped c.link ≡ false
    undropped = ap is_dropped (sym link_found) ∙ sym x ∙ y

    pub send_overfull : e.grant - e.tx < length s → Filled (response d (problem 0x04)) k before after → answer t p
    unfolding sending
    send_overfull f w =
        left_answers d _ (problem 0x04) t p k before after
        (skip _ _ _ (unclosed t p n h e q o) ∙ skip _ _ _ undropped ∙ stop _ _ _ (lt-ltb (room c Send) (length s) (subst (λ (r : ℕ). r < length s) (room_found t p n h e q) f))) h.good w

    pub send_crowded :
        (v : Bool) → length s ≤ e.grant - e.tx → v ≡ crowded c Send s → v ≡ true → Filled (response d (problem 0x04)) k before after → answer t p
    unfolding sending
    send_crowded v f z l w =
        left_answers d _ (problem 0x04) t p k before after
        (skip _ _ _ (unclosed t p n h e q o) ∙ skip _ _ _ undropped ∙ skip _ _ _ (le-ltb (room c Send) (length s) (send_fits t p n h e q (length s) f)) ∙ stop _ _ _ (sym z ∙ l)) h.good w

    -- and the bytes fit, and have a place
    module _ (f : length s ≤ e.grant - e.tx) (v₀ : Bool) (z₀ : v₀ ≡ crowded c Send s) (l₀ : v₀ ≡ false) where
      fit : length s ≤ room c Send
      fit = send_fits t p n h e q (length s) f

      uncrowded : crowded c Send s ≡ false
      uncrowded = sym z₀ ∙ l₀

      abbrev joins : Chan
      joins = appended c Send s

      abbrev after_send : Chan
      after_send = bit1 d.qualifier ⇒ readied joins else joins

      joins_sound : SoundChan joins
      joins_sound = sent_sound c (chan_sound a n h.good.sound) s fit uncrowded

      all_sent : e.tx + length s ≡ length (held joins Send)
      unfolding appended with_queue joined queue
      all_sent = ap (λ (j : ℕ). j + length s) (tx_found t p n h e q) ∙ sym (length-append c.send.bytes s)

      all_whole : e.tx + length s - e.ready ≡ unfinished joins
      unfolding unfinished appended with_queue
      all_whole = λ i. all_sent i - ready_found t p n h e q i

      both_sent :
          (x : Bool) → whole (appended (marked c Established (e.tx + length s)) Send s) Send (e.tx + length s - e.ready) ≡ readied joins →
          whole (appended (marked c (link_of e.link) e.ready) Send s) Send 0 ≡ joins →
          let u : Channel = x ⇒ record { grant = e.grant; link = 1; rx = e.rx; tx = e.tx; ready = e.tx + length s; carries = e.carries } else e in
          whole (appended (marked c (link_of u.link) u.ready) Send s) Send (x ⇒ e.tx + length s - e.ready else 0) ≡ (x ⇒ readied joins else joins)
      unfolding ◌⇒◌else◌
      both_sent true p₁ p₂ = p₁
      both_sent false p₁ p₂ = p₂

      -- the channel so marked, with the bytes behind those held and the datagram that they end, is the channel after the command
      sent_is :
          (v : Channel) (m : ℕ) → v ≡ sent_entry e d.qualifier (length s) → m ≡ sent_whole e d.qualifier (length s) →
          whole (appended (marked c (link_of v.link) v.ready) Send s) Send m ≡ after_send
      unfolding sent_entry sent_whole readied appended with_queue marked
      sent_is v m z l =
          (λ i. whole (appended (marked c (link_of (z i).link) (z i).ready) Send s) Send (l i))
          ∙ both_sent (bit1 d.qualifier)
          (whole_marked c Established (e.tx + length s) s (e.tx + length s - e.ready) ∙ (λ i. marked (whole joins Send (all_whole i)) (established c.link undropped i) (all_sent i)))
          ((λ i. whole (appended (marked c (link_found i) (ready_found t p n h e q i)) Send s) Send 0) ∙ whole_none joins)

      after_sound : SoundChan after_send
      after_sound = branch SoundChan _ _ _ (λ _. readied_sound joins joins_sound) (λ _. joins_sound)

      after_grant : after_send.grant ≡ c.grant
      unfolding readied marked appended with_queue
      after_grant = branch (λ (u : Chan). u.grant ≡ c.grant) _ _ _ (λ _. whole_grant joins Send (unfinished joins)) (λ _. refl)

      joins_room : e.grant - e.tx - length s ≡ joins.grant - length (held joins Send)
      unfolding room appended with_queue joined queue
      joins_room =
          let r = room_found t p n h e q in
          let l = length-append c.send.bytes s in
          omega arith

      after_room : e.grant - e.tx - length s ≡ room after_send Send
      unfolding room readied marked queue
      after_room =
          branch (λ (u : Chan). e.grant - e.tx - length s ≡ u.grant - length (held u Send)) _ _ _
          (λ _. joins_room ∙ (λ i. sym (whole_grant joins Send (unfinished joins)) i - length (sym (whole_held joins Send Send (unfinished joins)) i))) (λ _. joins_room)

      -- the datagram that the bytes end has a place
      pub send_place : (m : ℕ) → m ≡ sent_whole e d.qualifier (length s) → (m ≤ 65535) × (length (queue c Send).lengths + min 1 m ≤ 16)
      unfolding sent_whole places_used unfinished appended with_queue joined queue
      send_place m l =
          let few = (joins_sound.lengths Send).few in
          let b = bounds t p n h in
          let g = ap (λ (u : Channel). u.grant) q in
          let x₀ = ap (λ (u : Channel). u.tx) q in
          let w = all_whole in
          subst (λ (j : ℕ). (j ≤ 65535) × (length c.send.lengths + min 1 j ≤ 16)) (sym l)
          (branch (λ (j : ℕ). (j ≤ 65535) × (length c.send.lengths + min 1 j ≤ 16)) (bit1 d.qualifier) _ _
          (λ _. (omega (arith, f, g, b.capped, b.tx_fits), omega arith)) (λ _. (omega arith, omega arith)))

      pub send_done :
          (m left len : ℕ) (v : Channel) (u r : List ℕ) → v ≡ sent_entry e d.qualifier (length s) → len ≡ sent_whole e d.qualifier (length s) →
          Changed t p n (whole (appended (marked c (link_of v.link) v.ready) Send s) Send len) u r → m ≡ plain i → left ≡ capped (e.grant - e.tx - length s) →
          Filled (response d (done m (sent left))) k before after → answer u r
      unfolding sending
      send_done m left len v u r z y₀ w j l g =
          told_answers d _ (with_chan a n after_send) (done (plain i) (sent (capped (room after_send Send)))) u r k before after
          (skip _ _ _ (unclosed t p n h e q o) ∙ skip _ _ _ undropped ∙ skip _ _ _ (le-ltb (room c Send) (length s) fit) ∙ skip _ _ _ uncrowded)
          (same_sound a n after_send h.good.sound (not_not _ (unclosed t p n h e q o)) after_sound after_grant)
          (subst (λ (y : Chan). Changed t p n y u r) (sent_is v len z y₀) w)
          (subst (λ (y : List ℕ). Filled y k before after) (λ i. response d (done (j i) (sent ((l ∙ ap capped after_room) i)))) g)
