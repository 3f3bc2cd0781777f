-- Two outcomes that meet one contract are the same.
-- Assumes nothing.
use Prim.Native.Nat.{ℕ}
use mathlib.Core.Path.{◌≡◌, refl, sym, ap, ◌∙◌}
use mathlib.Core.Bool.{true≢false, false≢true, true, not, ◌&&◌}
use mathlib.Core.List.{List}
use lib.ListN.{length}
use lib.Dec.{eqb}
use borrow.Author.Tests.{eqb-true, not-true}
use Rattle.rules.specs.Own.{bare_types}
use Rattle.rules.proofs.Laws.{each_member, skip, both_left, both_right}
use Rattle.rules.specs.declared.Details.{Details}
use Rattle.rules.specs.Checks.{◌⇒◌else◌}
use Rattle.rules.specs.Frames.{walk}
use Rattle.rules.specs.Table.{value_of}
use Rattle.objects.specs.Places.{place_of}
use Rattle.objects.proofs.Alike.{drop_alike}
use Rattle.std.specs.Prelude.{Option, Some, None, Result, Ok, Err}
use Rattle.command.specs.declared.Handler.{Handler}
use Rattle.command.specs.declared.Handler.TheVariants.{Bare, EventList, Open, Close, Receive, Send, StartTimer, ManageTimer}
use Rattle.command.specs.declared.Request.{Request}
use Rattle.command.specs.declared.Wrong.{Wrong}
use Rattle.command.specs.Plans.{handles, own_number, further_number}
use Rattle.command.specs.Requests.{Frames, AskedFor, Reads}
use Rattle.rules.specs.Timers.{is_start, action_of, start_action}
use Rattle.rules.proofs.Readings.{start_kind, starts}

-- where the objects start
pub framed_alike : (x y : Option ℕ) (s : List ℕ) → Frames x s → Frames y s → x ≡ y
framed_alike (Some a) (Some b) s p q = ap Some (drop_alike s a b p.within q.within (sym p.objects ∙ q.objects))
framed_alike (Some a) None s p q = absurd (true≢false (sym p.is ∙ q))
framed_alike None (Some b) s p q = absurd (false≢true (sym p ∙ q.is))
framed_alike None None s p q = refl

-- a handler, read back from its details
handler_in : Details → Handler
handler_in d =
    let k = d.kind in
    eqb k 0x05 ⇒ EventList else
    eqb k 0x40 ⇒ Open else
    eqb k 0x41 ⇒ Close else
    eqb k 0x42 ⇒ Receive else
    eqb k 0x43 ⇒ Send else
    is_start d ⇒ StartTimer else
    eqb k 0x27 ⇒ ManageTimer else
    Bare

handler_back : (h : Handler) (d : Details) → handles h d ≡ true → handler_in d ≡ h
unfolding handler_in is_start ◌⇒◌else◌
handler_back Bare d e =
    each_member (λ (t : ℕ). handler_in (record { number = d.number; kind = t; qualifier = d.qualifier }) ≡ Bare) d.kind bare_types (refl, (refl, tt)) e
handler_back EventList d e = rw (eqb-true d.kind 0x05 e)
handler_back Open d e = rw (eqb-true d.kind 0x40 e)
handler_back Close d e = rw (eqb-true d.kind 0x41 e)
handler_back Receive d e = rw (eqb-true d.kind 0x42 e)
handler_back Send d e = rw (eqb-true d.kind 0x43 e)
handler_back StartTimer d e = rw (start_kind d e, starts d e)
handler_back ManageTimer d e = by_start d.kind (eqb-true d.kind 0x27 (both_left (eqb d.kind 0x27) _ e)) (both_right (eqb d.kind 0x27) _ e)
  where
    by_start : (k : ℕ) → k ≡ 0x27 → not (eqb k 0x27 && eqb (action_of d.qualifier) start_action) ≡ true → handler_in (record { number = d.number; kind = k; qualifier = d.qualifier }) ≡ ManageTimer
    by_start k q f = rw q (skip _ _ _ (not-true (eqb (action_of d.qualifier) start_action) (rw q at f)))

module _ {q r : Request} {p s : List ℕ} (u : AskedFor q p s) (w : AskedFor r p s) where
  details_alike : q.details ≡ r.details
  details_alike = sym u.details ∙ w.details

  handler_alike : q.handler ≡ r.handler
  handler_alike =
      sym (handler_back q.handler _ u.kind) ∙ ap handler_in details_alike ∙ handler_back r.handler _ w.kind

  ignored_alike : q.ignored ≡ r.ignored
  ignored_alike = cc (u.is, w.is)

  request_alike : q ≡ r
  request_alike =
      λ i.
      record {
        details = details_alike i;
        handler = handler_alike i;
        destination = (sym u.destination ∙ w.destination) i;
        ignored = ignored_alike i;
        start = (u.own_place ∙ ap (λ (h : Handler). place_of (own_number h) s) handler_alike ∙ sym w.own_place) i;
        len = (u.own_length ∙ ap (λ (h : Handler). length (value_of (own_number h) (walk s).objects)) handler_alike ∙ sym w.own_length) i;
        further = (u.further_place ∙ ap (λ (h : Handler). place_of (further_number h) s) handler_alike ∙ sym w.further_place) i;
        transport = (u.transport_place ∙ sym w.transport_place) i;
      }

pub read_alike : (x y : Result Request Wrong) (p s : List ℕ) → Reads x p s → Reads y p s → x ≡ y
read_alike (Err a) (Err b) p s u w =
    let details : a.details ≡ b.details = cc (u, w) in
    let result : a.result ≡ b.result = cc (u, w) in
    λ i. Err (record { details = details i; result = result i })
read_alike (Err a) (Ok r) p s u w = cc (u, w.is)
read_alike (Ok q) (Err b) p s u w = cc (u.is, w)
read_alike (Ok q) (Ok r) p s u w = let same : q ≡ r = request_alike u w in λ i. Ok (same i)
