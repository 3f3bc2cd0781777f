-- A request that was read: what its handler's own checks come to is what the command comes to.
-- Assumes nothing.
use Prim.Native.Nat.{ℕ, ◌+◌, ◌≤◌}
use mathlib.Core.Path.{◌≡◌, refl, sym, ap, subst, ◌∙◌}
use mathlib.Core.Bool.{Bool, true, false, ◌&&◌}
use mathlib.Core.List.{List}
use native.Mathlib.Omega.{arith}
use lib.ListN.{length, get_or}
use lib.Dec.{leb, eqb}
use borrow.Author.Tests.{leb-true}
use Rattle.rules.specs.declared.ChannelNumber.{ChannelNumber}
use Rattle.rules.specs.declared.Details.{Details}
use Rattle.rules.specs.Checks.{◌⇒◌else◌}
use Rattle.rules.specs.Words.{channel_of}
use Rattle.rules.specs.Profile.{profile_size}
use Rattle.rules.specs.State.{State}
use Rattle.rules.specs.Reading.{Reading, wrong, Command, Body, bare, event_list, open_channel, close_channel, receive_data, send_data, start_timer, manage_timer, bearer_in, command_in, to_modem, addressed, read_objects}
use Rattle.rules.specs.Own.{Reply, reply, error, telling, own, listing, opening, closing, receiving, sending, starting_timer, managing_timer}
use Rattle.rules.specs.Written.{response_bytes}
use Rattle.rules.specs.Command.{Answer, answered, meant_by}
use Rattle.rules.proofs.Laws.{skip, both_left, both_right}
use Rattle.rules.proofs.Readings.{details_told_lem}
use Rattle.octets.specs.Parts.{part}
use Rattle.rules.specs.Words.{Ended}
use Rattle.std.specs.Prelude.{Ok}
use Rattle.session.specs.Picture.{GoodIn, shown}
use Rattle.session.specs.Calls.{Answers}
use Rattle.session.specs.Changed.{Numbered}
use Rattle.command.specs.declared.Handler.{Handler}
use Rattle.command.specs.declared.Handler.TheVariants.{Bare, EventList, Open, Close, Receive, Send, StartTimer, ManageTimer}
use Rattle.command.specs.declared.Request.{Request}
use Rattle.command.specs.Plans.{handles}
use Rattle.command.specs.Requests as requests
use Rattle.command.specs.Requests.{AskedFor, Opens, BodyIs, size_at, protocol_at, the_details, the_objects, the_command}
use Rattle.responses.specs.Filled.{response, Filled}
use Rattle.own.specs.Replies.{told}
use Rattle.own.proofs.Replies.{left_answers}
use Rattle.modem.specs.Obeyed.{obeyed}

-- an answer by what the command comes to
pub as_obeyed :
    (x y : Answer) (t p : List ℕ) (e : Ended) (before after : List ℕ) → x ≡ y → Answers y t p e before after → Answers x t p e before after
as_obeyed x y t p e before after q w = subst (λ (z : Answer). Answers z t p e before after) (sym q) w

-- an error of the reading is told with its details
pub wrong_answers :
    (t p s : List ℕ) (d : Details) (e k : ℕ) (before after : List ℕ) → GoodIn t p → read_objects (part 0 profile_size t) s ≡ wrong d e →
    Filled (response d (error e)) k before after → Answers (obeyed (shown t p) s) t p (Ok k) before after
unfolding obeyed shown meant_by
wrong_answers t p s d e k before after g h w =
    as_obeyed (obeyed (shown t p) s) (told d (reply (shown t p) (error e))) t p (Ok k) before after
    (ap (λ (r : Reading). answered (meant_by (shown t p) r).state (response_bytes (meant_by (shown t p) r).response)) h)
    (left_answers d (reply (shown t p) (error e)) (error e) t p k before after refl g w)

module _ (t p s : List ℕ) (q : Request) (g : GoodIn t p) (h : AskedFor q (part 0 profile_size t) s) where
  abbrev a : State
  a = shown t p

  abbrev c : Command
  c = the_command s

  abbrev d : Details
  d = q.details

  asked_told : (r : Reply) → own a c c.body q.ignored ≡ r → obeyed a s ≡ told d r
  unfolding obeyed shown meant_by
  asked_told r e =
      ap (λ (x : Reading). answered (meant_by a x).state (response_bytes (meant_by a x).response)) h.is
      ∙ (λ i. told ((details_told_lem (the_details s) (the_objects s).counting ∙ h.details) i) (e i))

  -- the body, in the arm of a handler
  body_is : (k : Handler) → q.handler ≡ k → BodyIs k q s c.body
  body_is k e = subst (λ (j : Handler). BodyIs j q s c.body) e h.body

  qualifier_is : c.qualifier ≡ d.qualifier
  unfolding command_in
  qualifier_is = ap (λ (x : Details). x.qualifier) h.details

  -- what the own checks come to, with the arrays and the buffer that they leave
  module _ (u r : List ℕ) (k : ℕ) (before after : List ℕ) where
    abbrev ends : Reply → Type 0
    ends x = Answers (told d x) u r (Ok k) before after

    abbrev obeys : Type 0
    obeys = Answers (obeyed a s) u r (Ok k) before after

    as_body : (b : Body) (x : Reply) → c.body ≡ b → own a c b q.ignored ≡ x → ends x → obeys
    as_body b x e f w = as_obeyed (obeyed a s) (told d x) u r (Ok k) before after (asked_told x (ap (λ (y : Body). own a c y q.ignored) e ∙ f)) w

    pub bare_answers : q.handler ≡ Bare → ends (reply a (telling a d.kind q.ignored)) → obeys
    unfolding own
    bare_answers e = as_body (bare d.kind) _ (body_is Bare e) refl

    pub events_answers : q.handler ≡ EventList → ends (listing a (requests.own q s) q.ignored) → obeys
    unfolding own
    events_answers e = as_body (event_list (requests.own q s)) _ (body_is EventList e) refl

    pub open_answers :
        q.handler ≡ Open → {size protocol : ℕ} → size ≡ size_at s q.further → protocol ≡ protocol_at s q.transport →
        ends (opening a d.qualifier (bearer_in (requests.own q s)) size protocol q.ignored) → obeys
    unfolding own
    open_answers e f g =
        let o = body_is Open e in
        as_body (open_channel (bearer_in (requests.own q s)) (size_at s q.further) o.level) _ o.is
        (λ i. opening a (qualifier_is i) (bearer_in (requests.own q s)) (sym f i) ((o.protocol ∙ sym g) i) q.ignored)

    -- a timer, and at a start its time
    pub start_answers :
        q.handler ≡ StartTimer → {v : List ℕ} → v ≡ part q.further (q.further + 3) s → ends (starting_timer a (get_or s q.start 0) v q.ignored) → obeys
    unfolding own
    start_answers e f =
        as_body (start_timer (get_or s q.start 0) (part q.further (q.further + 3) s)) _ (body_is StartTimer e).0
        (ap (λ (v : List ℕ). starting_timer a (get_or s q.start 0) v q.ignored) (sym f))

    pub manage_answers : q.handler ≡ ManageTimer → ends (managing_timer a d.qualifier (get_or s q.start 0) q.ignored) → obeys
    unfolding own
    manage_answers e =
        as_body (manage_timer (get_or s q.start 0)) _ (body_is ManageTimer e).0 (λ i. managing_timer a (qualifier_is i) (get_or s q.start 0) q.ignored)

    -- a command to the channel that its destination names
    module _ (n : ChannelNumber) (v : n ≡ channel_of q.destination) where
      number_is : channel_of c.destination ≡ n
      number_is = ap channel_of h.destination ∙ sym v

      pub close_answers : q.handler ≡ Close → ends (closing a n q.ignored) → obeys
      unfolding own
      close_answers e = as_body close_channel _ (body_is Close e) (ap (λ (m : ChannelNumber). closing a m q.ignored) number_is)

      pub receive_answers : q.handler ≡ Receive → ends (receiving a n (get_or s q.start 0) q.ignored) → obeys
      unfolding own
      receive_answers e =
          as_body (receive_data (get_or s q.start 0)) _ (body_is Receive e).0
          (ap (λ (m : ChannelNumber). receiving a m (get_or s q.start 0) q.ignored) number_is)

      pub send_answers : q.handler ≡ Send → ends (sending a d.qualifier n (requests.own q s) q.ignored) → obeys
      unfolding own
      send_answers e =
          as_body (send_data (requests.own q s)) _ (body_is Send e) (λ i. sending a (qualifier_is i) (number_is i) (requests.own q s) q.ignored)

  pub one_byte : q.handler ≡ Receive → q.start + 1 ≤ length s
  one_byte e = omega (arith, h.within, (body_is Receive e).1)

  pub start_byte : q.handler ≡ StartTimer → q.start + 1 ≤ length s
  start_byte e = omega (arith, h.within, (body_is StartTimer e).1)

  pub start_time : q.handler ≡ StartTimer → q.further + 3 ≤ length s
  start_time e = (body_is StartTimer e).2

  pub manage_byte : q.handler ≡ ManageTimer → q.start + 1 ≤ length s
  manage_byte e = omega (arith, h.within, (body_is ManageTimer e).1)

  pub opens : q.handler ≡ Open → Opens q s c.body
  opens e = body_is Open e

  -- a command to a channel has one of the seven numbers
  pub numbered : (n : ChannelNumber) (k : Handler) → n ≡ channel_of q.destination → q.handler ≡ k → (j : ℕ) → (handles k d ≡ true → d.kind ≡ j) → to_modem j ≡ false → Numbered t p n
  unfolding addressed
  numbered n k v e j is f =
      let kind : (the_details s).kind ≡ j = ap (λ (x : Details). x.kind) h.details ∙ is (subst (λ (x : Handler). handles x d ≡ true) e h.kind) in
      let to : addressed j c.source q.destination ≡ true =
      sym (λ i. addressed (kind i) c.source (h.destination i)) ∙ h.devices in
      let from : Bool = leb 0x21 q.destination.0 in
      let upto : Bool = leb q.destination.0 0x27 in
      let modem : Bool = eqb q.destination.0 0x82 in
      let within = sym (skip (to_modem j) modem (from && upto) f) ∙
      both_right (eqb c.source.0 0x81) (to_modem j ⇒ modem else from && upto) to in
      let low = leb-true 0x21 q.destination.0 (both_left from upto within) in
      let high = leb-true q.destination.0 0x27 (both_right from upto within) in
      let z = ap (λ (m : ChannelNumber). m.0) v in
      record { good = g; low = omega (arith, low, high, z); high = omega (arith, low, high, z) }
