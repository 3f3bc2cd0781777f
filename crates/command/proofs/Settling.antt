-- The end of a reading: the devices, the places of the values, and what is asked.
-- Assumes nothing.
use Prim.Native.Nat.{ℕ, ◌+◌, ◌-◌, ◌*◌, ◌≤◌, ◌<◌}
use mathlib.Core.Path.{◌≡◌, refl, sym, ap, subst, ◌∙◌}
use mathlib.Core.Bool.{Bool, true, false}
use mathlib.Core.List.{List}
use mathlib.Core.Option.{Option, none, some}
use native.Mathlib.Omega.{arith}
use lib.ListN.{length, get_or}
use Rattle.std.specs.Prelude as std
use Rattle.std.specs.Prelude.{Some, None, IfSome}
use lib.Dec.{eqb}
use borrow.Author.Tests.{eqb-true, not-true}
use Rattle.rules.specs.declared.Details.{Details}
use Rattle.rules.specs.Checks.{◌⇒◌else◌, some_of, member}
use Rattle.rules.specs.Frames.{Object, walk}
use Rattle.rules.specs.Table.{row_of, present, value_of, length_fits}
use Rattle.rules.specs.Reading.{Transport, bare, event_list, open_channel, receive_data, send_data, start_timer, manage_timer, transport_in, pair_in, bearer_in, body_in, command_in, addressed, read_objects, wrong}
use Rattle.rules.specs.Own.{bare_types, protocol_of}
use Rattle.rules.proofs.Laws.{branch, stop, skip, each_member, both_right, both_left}
use Rattle.rules.proofs.Readings.{value_fits, start_kind}
use Rattle.octets.specs.Parts.{part}
use Rattle.objects.specs.Places.{place_of}
use Rattle.command.specs.declared.Handler.{Handler}
use Rattle.command.specs.declared.Handler.TheVariants.{Bare, EventList, Open, Close, Receive, Send, StartTimer, ManageTimer}
use Rattle.command.specs.declared.Plan.{Plan}
use Rattle.command.specs.declared.Request.{Request}
use Rattle.command.specs.declared.Sorted.{Sorted}
use Rattle.command.specs.Plans.{handles, own_number, further_number, needed, besides_by, times_by}
use Rattle.command.specs.Requests.{the_details, the_objects, the_command, size_at, protocol_at, BodyIs, place_or_none, ValueAt, StandsAt, AskedFor, Typed}
use Rattle.command.proofs.Counting.{Alike, alike}
use Rattle.command.proofs.Known.{Fitted, known_misaddressed, known_asked, needed_value, needed_fits}
use Rattle.command.proofs.Lengths.{part_first, part_at}
use Rattle.command.proofs.Tables.{own_needed, further_needed}
use Rattle.rules.specs.Timers.{is_start}

-- a value that stands somewhere, and is so long
module _ {at n : ℕ} {s : List ℕ} (w : ValueAt at s n) {k : ℕ} (l : length (value_of n (walk s).objects) ≡ k) where
  stands_within : at + k ≤ length s
  stands_within = omega (arith, w.within)

  byte_first : 1 ≤ k → get_or (value_of n (walk s).objects) 0 0 ≡ get_or s at 0
  byte_first h = ap (λ (v : List ℕ). get_or v 0 0) w.value ∙ part_first s at (length (value_of n (walk s).objects)) (omega arith)

  byte_at : (i : ℕ) → i + 1 ≤ k → get_or (value_of n (walk s).objects) i 0 ≡ get_or s (at + i) 0
  byte_at i h = ap (λ (v : List ℕ). get_or v i 0) w.value ∙ part_at s at (length (value_of n (walk s).objects)) i (omega arith)

-- a command that starts a timer, and one of type 27 that does not, at the type's number
starts_at : (d : Details) → is_start d ≡ true → is_start (record { number = d.number; kind = 0x27; qualifier = d.qualifier }) ≡ true
unfolding is_start
starts_at d e = both_right (eqb d.kind 0x27) _ e

starts_not_at : (d : Details) → d.kind ≡ 0x27 → is_start d ≡ false → is_start (record { number = d.number; kind = 0x27; qualifier = d.qualifier }) ≡ false
starts_not_at d k e = (λ i. is_start (record { number = d.number; kind = sym k i; qualifier = d.qualifier })) ∙ e

-- the values of a type, by its number
module _ (d : Details) (os : List Object) where
  body_at : (k : ℕ) → d.kind ≡ k → body_in d os ≡ body_in (record { number = d.number; kind = k; qualifier = d.qualifier }) os
  body_at k e = λ i. body_in (record { number = d.number; kind = e i; qualifier = d.qualifier }) os

module _ {s : List ℕ} {d : Details} {plan : Plan} {v : Sorted} {devices own further : ℕ} (z : Fitted s d plan v devices own further) where
  abbrev all : List Object
  all = (walk s).objects

  abbrev counts : List Object
  counts = (the_objects s).counting

  -- the devices, in two bytes
  two : length (value_of 0x02 all) ≡ 2
  unfolding length_fits member some_of ◌⇒◌else◌
  two = eqb-true (length (value_of 0x02 all)) 2 (needed_fits z 0x02 refl)

  pub devices_within : devices + 2 ≤ length s
  devices_within = stands_within z.at_devices two

  source_is : (the_command s).source ≡ record { 0 = get_or s devices 0 }
  unfolding command_in member some_of
  source_is =
      λ i. record { 0 = (ap (λ (l : List ℕ). get_or l 0 0) (needed_value z 0x02 refl) ∙ byte_first z.at_devices two (omega arith)) i }

  destination_is : (the_command s).destination ≡ record { 0 = get_or s (devices + 1) 0 }
  unfolding command_in member some_of
  destination_is =
      λ i. record { 0 = (ap (λ (l : List ℕ). get_or l 1 0) (needed_value z 0x02 refl) ∙ byte_at z.at_devices two 1 (omega arith)) i }

  by_bytes :
      addressed (the_details s).kind (the_command s).source (the_command s).destination ≡
      addressed d.kind (record { 0 = get_or s devices 0 }) (record { 0 = get_or s (devices + 1) 0 })
  by_bytes = λ i. addressed (z.begun.details i).kind (source_is i) (destination_is i)

  pub settle_wrong :
      {b : Bool} → b ≡ addressed d.kind (record { 0 = get_or s devices 0 }) (record { 0 = get_or s (devices + 1) 0 }) → b ≡ false →
      (p : List ℕ) → Typed p s → read_objects p s ≡ wrong d 0x32
  settle_wrong e f = known_misaddressed z (by_bytes ∙ sym e ∙ f)

  -- the own value stands behind a byte
  needs_own : member plan.row.own (needed plan.row) ≡ true
  needs_own = own_needed plan.row.own plan.row.further

  -- the further object, which a row of its own may have
  needs_further : member plan.row.further (needed plan.row) ≡ true
  needs_further = further_needed plan.row.own plan.row.further

  -- an OPEN CHANNEL has its size in two bytes, and its transport level in three where one stands
  module _ (h : plan.handler ≡ Open) where
    o : plan.row.opening ≡ true
    o = z.begun.planned.opening_is ∙ subst (λ (k : Handler). handles k (the_details s) ≡ true) h z.begun.planned.kind_is

    further_is : plan.row.further ≡ 0x39
    further_is = z.begun.planned.further_is ∙ ap further_number h

    size_needed : member 0x39 (needed plan.row) ≡ true
    size_needed = subst (λ (n : ℕ). member n (needed plan.row) ≡ true) further_is needs_further

    size_stands : ValueAt further s 0x39
    size_stands = subst (λ (n : ℕ). ValueAt further s n) further_is z.at_further

    size_two : length (value_of 0x39 all) ≡ 2
    unfolding length_fits ◌⇒◌else◌
    size_two = eqb-true (length (value_of 0x39 all)) 2 (needed_fits z 0x39 size_needed)

    size_within : further + 2 ≤ length s
    size_within = stands_within size_stands size_two

    size_is : pair_in (value_of 0x39 counts) ≡ size_at s further
    unfolding pair_in size_at
    size_is =
        let high = ap (λ (l : List ℕ). get_or l 0 0) (needed_value z 0x39 size_needed) ∙ byte_first size_stands size_two (omega arith) in
        let low = ap (λ (l : List ℕ). get_or l 1 0) (needed_value z 0x39 size_needed) ∙ byte_at size_stands size_two 1 (omega arith) in
        λ i. 256 * high i + low i

    transport_alike : Alike 0x3C counts all
    unfolding times_by besides_by member some_of
    transport_alike =
        let t = z.begun.planned.row.times_are 0x3C in
        let once : 1 ≤ times_by plan.row 0x3C =
        branch (λ (k : ℕ). 1 ≤ k) _ _ _ (λ _. omega arith) (λ _. subst (λ (k : ℕ). 1 ≤ k) (sym (skip _ _ _ refl ∙ stop _ _ _ refl ∙ stop _ _ _ o)) (omega arith)) in
        alike (row_of (the_details s)) 0x3C all (omega arith)

    abbrev level : Option Transport
    level = present 0x3C counts ⇒ some (transport_in (value_of 0x3C counts)) else none

    tcp_is : present 0x3C all ≡ false → protocol_of level ≡ 0x02
    unfolding protocol_of
    tcp_is e = ap protocol_of (skip _ _ _ (transport_alike.there ∙ e))

    module _ {at : ℕ} (w : ValueAt at s 0x3C) where
      there : present 0x3C counts ≡ true
      there = transport_alike.there ∙ w.there

      three : length (value_of 0x3C all) ≡ 3
      unfolding length_fits ◌⇒◌else◌
      three = eqb-true (length (value_of 0x3C all)) 3 (ap (length_fits 0x3C) (sym transport_alike.value) ∙ value_fits 0x3C counts there z.fit)

      told_is : protocol_of level ≡ get_or s at 0
      unfolding protocol_of transport_in
      told_is = ap protocol_of (stop _ _ _ there) ∙ ap (λ (l : List ℕ). get_or l 0 0) transport_alike.value ∙ byte_first w three (omega arith)

    protocol_is : (o : std.Option ℕ) → StandsAt o s 0x3C → protocol_of level ≡ protocol_at s o
    protocol_is None w = tcp_is w
    protocol_is (Some at) w = told_is w

    transport_within : (o : std.Option ℕ) → StandsAt o s 0x3C → IfSome o (λ at. at < length s)
    transport_within None w = tt
    transport_within (Some at) w = let l = stands_within w (three w) in omega arith

  -- what is asked
  module _ where
    abbrev asks : Handler → Request
    asks h =
        record {
          details = d;
          handler = h;
          destination = record { 0 = get_or s (devices + 1) 0 };
          ignored = v.survey.ignored;
          start = own;
          len = get_or s (own - 1) 0;
          further = further;
          transport = v.transport;
        }

    abbrev own_bytes : List ℕ
    own_bytes = part own (own + get_or s (own - 1) 0) s

    own_size : get_or s (own - 1) 0 ≡ length (value_of plan.row.own all)
    own_size = z.at_own.last

    own_part : value_of plan.row.own all ≡ own_bytes
    own_part = z.at_own.value ∙ ap (λ (k : ℕ). part own (own + k) s) (sym own_size)

    -- the own value and the values of the type, by its handler
    module _ (h : Handler) (eh : plan.handler ≡ h) where
      number_is : plan.row.own ≡ own_number h
      number_is = z.begun.planned.own_is ∙ ap own_number eh

      own_value : value_of (own_number h) counts ≡ own_bytes
      own_value = subst (λ (n : ℕ). value_of n counts ≡ own_bytes) number_is (needed_value z plan.row.own needs_own ∙ own_part)

      own_fits : length_fits (own_number h) own_bytes ≡ true
      own_fits = subst (λ (n : ℕ). length_fits n own_bytes ≡ true) number_is (ap (length_fits plan.row.own) (sym own_part) ∙ needed_fits z plan.row.own needs_own)

      handled : handles h (the_details s) ≡ true
      handled = subst (λ (k : Handler). handles k (the_details s) ≡ true) eh z.begun.planned.kind_is

      body_is : (k : ℕ) → (the_details s).kind ≡ k → (the_command s).body ≡ body_in (record { number = (the_details s).number; kind = k; qualifier = (the_details s).qualifier }) counts
      unfolding command_in
      body_is k e = body_at (the_details s) counts k e

    -- a value of one byte, by its handler
    one : (h : Handler) → plan.handler ≡ h → own_number h ≡ 0x24 → get_or s (own - 1) 0 ≡ 1
    unfolding length_fits ◌⇒◌else◌
    one h e n = own_size ∙ ap length own_part ∙ eqb-true (length own_bytes) 1 (subst (λ (k : ℕ). length_fits k own_bytes ≡ true) n (own_fits h e))

    -- the time of a start, in three bytes
    module _ (h : plan.handler ≡ StartTimer) where
      time_further : plan.row.further ≡ 0x25
      time_further = z.begun.planned.further_is ∙ ap further_number h

      time_needed : member 0x25 (needed plan.row) ≡ true
      time_needed = subst (λ (n : ℕ). member n (needed plan.row) ≡ true) time_further needs_further

      time_stands : ValueAt further s 0x25
      time_stands = subst (λ (n : ℕ). ValueAt further s n) time_further z.at_further

      time_three : length (value_of 0x25 all) ≡ 3
      unfolding length_fits ◌⇒◌else◌
      time_three = eqb-true (length (value_of 0x25 all)) 3 (needed_fits z 0x25 time_needed)

      time_within : further + 3 ≤ length s
      time_within = stands_within time_stands time_three

      time_is : value_of 0x25 counts ≡ part further (further + 3) s
      time_is = needed_value z 0x25 time_needed ∙ time_stands.value ∙ ap (λ (k : ℕ). part further (further + k) s) time_three

    -- the values that are asked with, type by type
    asked_body : (h : Handler) → plan.handler ≡ h → BodyIs h (asks h) s (the_command s).body
    unfolding body_in is_start length_fits ◌⇒◌else◌
    asked_body Bare e =
        each_member (λ (k : ℕ). (the_details s).kind ≡ k → (the_command s).body ≡ bare k) (the_details s).kind bare_types
        (body_is Bare e 0x02, (body_is Bare e 0x44, tt)) (handled Bare e) refl
        ∙ ap (λ (x : Details). bare x.kind) z.begun.details
    asked_body EventList e = body_is EventList e 0x05 (eqb-true _ _ (handled EventList e)) ∙ ap event_list (own_value EventList e)
    asked_body Open e =
        record {
          level = level e;
          is = body_is Open e 0x40 (eqb-true _ _ (handled Open e)) ∙ (λ i. open_channel (bearer_in (own_value Open e i)) (size_is e i) (level e));
          protocol = protocol_is e v.transport z.begun.sorted.transport;
          bearer = own_fits Open e;
          size_within = size_within e;
          protocol_within = transport_within e v.transport z.begun.sorted.transport;
        }
    asked_body Close e = body_is Close e 0x41 (eqb-true _ _ (handled Close e))
    asked_body Receive e =
        let one = own_size ∙ ap length own_part ∙ eqb-true (length own_bytes) 1 (own_fits Receive e) in
        (body_is Receive e 0x42 (eqb-true _ _ (handled Receive e)) ∙ ap (λ (l : List ℕ). receive_data (get_or l 0 0)) (own_value Receive e) ∙ ap receive_data (part_first s own (get_or s (own - 1) 0) (omega arith)), one)
    asked_body Send e = body_is Send e 0x43 (eqb-true _ _ (handled Send e)) ∙ ap send_data (own_value Send e)
    asked_body StartTimer e =
        let b = start_kind (the_details s) (handled StartTimer e) in (
          body_is StartTimer e 0x27 b ∙ stop _ _ _ (starts_at (the_details s) (handled StartTimer e))
              ∙ (λ i. start_timer ((ap (λ (l : List ℕ). get_or l 0 0) (own_value StartTimer e) ∙ part_first s own (get_or s (own - 1) 0) (omega (arith, one StartTimer e refl))) i) (time_is e i)),
          one StartTimer e refl,
          time_within e,
        )
    asked_body ManageTimer e =
        let k = both_left (eqb (the_details s).kind 0x27) _ (handled ManageTimer e) in
        let not_start = not-true (is_start (the_details s)) (both_right (eqb (the_details s).kind 0x27) _ (handled ManageTimer e)) in (
          body_is ManageTimer e 0x27 (eqb-true _ _ k) ∙ skip _ _ _ (starts_not_at (the_details s) (eqb-true _ _ k) not_start)
              ∙ ap manage_timer (ap (λ (l : List ℕ). get_or l 0 0) (own_value ManageTimer e) ∙ part_first s own (get_or s (own - 1) 0) (omega (arith, one ManageTimer e refl))),
          one ManageTimer e refl,
        )

    transport_placed : (o : std.Option ℕ) → StandsAt o s 0x3C → o ≡ place_or_none 0x3C s
    transport_placed None w = sym (skip _ _ _ w)
    transport_placed (Some at) w = ap Some w.place ∙ sym (stop _ _ _ w.there)

    pub settle_asked :
        {b : Bool} → b ≡ addressed d.kind (record { 0 = get_or s devices 0 }) (record { 0 = get_or s (devices + 1) 0 }) → b ≡ true →
        (p : List ℕ) → Typed p s → AskedFor (asks plan.handler) p s
    settle_asked e f p ty =
        let right = by_bytes ∙ sym e ∙ f in
        let number = z.begun.planned.own_is in
        record {
          is = known_asked z right p ty;
          details = z.begun.details;
          kind = subst (λ (x : Details). handles plan.handler x ≡ true) z.begun.details z.begun.planned.kind_is;
          destination = destination_is;
          devices = right;
          body = asked_body plan.handler refl;
          within = omega (arith, z.at_own.within, own_size);
          own_place = subst (λ (n : ℕ). own ≡ place_of n s) number z.at_own.place;
          own_length = subst (λ (n : ℕ). get_or s (own - 1) 0 ≡ length (value_of n all)) number own_size;
          further_place = subst (λ (n : ℕ). further ≡ place_of n s) z.begun.planned.further_is z.at_further.place;
          transport_place = transport_placed v.transport z.begun.sorted.transport;
        }
