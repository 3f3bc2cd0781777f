-- The statuses of the open channels, one behind the other.
-- Assumes nothing.
use Prim.Native.Nat.{ℕ, zero, suc, ◌+◌, ◌-◌, ◌*◌, ◌≤◌, ◌<◌}
use mathlib.Core.Path.{◌≡◌, refl, sym, ap, subst, ◌∙◌}
use mathlib.Core.List.{List, [], ◌∷◌, ◌++◌, map, append_assoc, append-nil}
use native.Mathlib.Omega.{arith}
use native.Mathlib.Numerals.{add-one}
use native.Mathlib.Nat.{add-zero}
use lib.ListN.{length, drop, get_or, length-append}
use lib.Seq.{drop-cons, drop-length}
use lib.Dec.{leb}
use borrow.Author.Tests.{le-leb, lt-leb}
use Rattle.rules.specs.declared.ChannelNumber.{ChannelNumber}
use Rattle.rules.specs.declared.Details.{Details}
use Rattle.rules.specs.declared.Link.{Link}
use Rattle.rules.specs.declared.Link.TheVariants.{NotYet, Established, Dropped}
use Rattle.rules.specs.Checks.{◌⇒◌else◌}
use Rattle.rules.specs.Frames.{length_bytes, object_bytes, written}
use Rattle.rules.specs.Timers.{timer_count}
use Rattle.rules.specs.Profile.{profile_size}
use Rattle.rules.specs.State.{State, closed, is_open}
use Rattle.rules.specs.Own.{Status, error, done, statuses, reports, statuses_from}
use Rattle.rules.specs.Written.{further_objects, status_bytes, status_object, status_objects, report_objects}
use Rattle.rules.proofs.Laws.{stop, skip}
use Rattle.octets.specs.Parts.{pasted}
use Rattle.octets.proofs.Stores.{paste_none}
use Rattle.octets.proofs.Pastes.{paste_after, length_pasted}
use Rattle.session.specs.declared.Channel.{Channel}
use Rattle.session.specs.Book.{entry_at, entry_from}
use Rattle.session.specs.Picture.{link_of, ledger_of, shown, GoodIn}
use Rattle.session.proofs.Ledgers.{grant_read, link_read}
use Rattle.session.proofs.Views.{link_back}
use Rattle.responses.specs.Filled.{response, Filled, statuses_in}
use Rattle.responses.proofs.Writes.{behind_head, head_size, more}

-- a status as bytes: four of them
abbrev bytes_of : List Status → List ℕ
bytes_of ss = written (map (λ (t : Status). status_object t.number t.link) ss)

pub status_bytes_lem :
    (n : ChannelNumber) (l : Link) (pair : List ℕ) → pair ≡ status_bytes n l →
    0x38 ∷ 0x02 ∷ get_or pair 0 0 ∷ get_or pair 1 0 ∷ [] ≡ object_bytes (status_object n l)
unfolding object_bytes status_object status_bytes length_bytes ◌⇒◌else◌
status_bytes_lem n NotYet pair e = rw e refl
status_bytes_lem n Established pair e = rw e refl
status_bytes_lem n Dropped pair e = rw e refl

status_size : (n : ChannelNumber) (l : Link) → length (object_bytes (status_object n l)) ≡ 4
unfolding object_bytes status_object status_bytes length_bytes ◌⇒◌else◌
status_size n NotYet = refl
status_size n Established = refl
status_size n Dropped = refl

-- what is told of the channels from k on
pub rest : List ℕ → ℕ → List ℕ
rest t k = bytes_of (statuses_in t k (7 - k))

-- the status of a channel, as its entry tells it
abbrev pub status_of : Channel → ℕ → List ℕ
status_of e n = object_bytes (status_object (record { 0 = n }) (link_of e.link))

one_less : (k : ℕ) → k < 7 → 7 - k ≡ suc (7 - (k + 1))
one_less k h = omega arith

rest_open : (t : List ℕ) (k : ℕ) (e : Channel) → k < 7 → e ≡ entry_from t (entry_at k) → 1 ≤ e.grant → rest t k ≡ status_of e (k + 1) ++ rest t (k + 1)
unfolding rest statuses_in written
rest_open t k e h q o =
    ap (λ (m : ℕ). bytes_of (statuses_in t k m)) (one_less k h)
    ∙ ap bytes_of (stop _ _ _ (le-leb 1 (get_or t (entry_at k) 0) (subst (λ (x : Channel). 1 ≤ x.grant) q o)))
    ∙ ap (λ (x : Channel). status_of x (k + 1) ++ bytes_of (statuses_in t (k + 1) (7 - (k + 1)))) (sym q)

rest_closed : (t : List ℕ) (k : ℕ) (e : Channel) → k < 7 → e ≡ entry_from t (entry_at k) → e.grant ≤ 0 → rest t k ≡ rest t (k + 1)
unfolding rest statuses_in
rest_closed t k e h q o =
    let z : get_or t (entry_at k) 0 ≤ 0 = subst (λ (x : Channel). x.grant ≤ 0) q o in
    ap (λ (m : ℕ). bytes_of (statuses_in t k m)) (one_less k h) ∙ ap bytes_of (skip _ _ _ (lt-leb 1 (get_or t (entry_at k) 0) (omega arith)))

length_nil : (s : List ℕ) → length s ≡ 0 → s ≡ []
length_nil [] e = refl
length_nil (x ∷ s) e = absurd (let z : suc (length s) ≡ 0 = e in omega arith)

-- k entries are told: what was put behind the head, and the rest, are all
pub record Sofar (t : List ℕ) (head : ℕ) (begun : List ℕ) (k at : ℕ) (out : List ℕ) : Type 0 where
  pub text : List ℕ
  pub is : out ≡ pasted begun head text
  pub counted : at ≡ head + length text
  pub whole : text ++ rest t k ≡ rest t 0
  pub few : at ≤ head + 4 * k
  pub upto : k ≤ 7
  pub room : head + 28 ≤ length begun
  pub same : length out ≡ length begun

module _ (t : List ℕ) (head : ℕ) (begun : List ℕ) where
  pub sofar_none : head + 28 ≤ length begun → Sofar t head begun 0 head begun
  sofar_none w =
      record {
        text = [];
        is = paste_none begun head;
        counted = sym (add-zero head);
        whole = refl;
        few = omega arith;
        upto = omega arith;
        room = w;
        same = refl;
      }

  -- one more is told, the entry of the place k; n are told then
  module _ (k n : ℕ) (at m : ℕ) (out after : List ℕ) (e : Channel) (h : Sofar t head begun k at out) (b : k < 7) (p : n ≡ k + 1) (q : e ≡ entry_from t (entry_at k)) where
    pub sofar_closed : e.grant ≤ 0 → m ≡ at → after ≡ out → Sofar t head begun n m after
    sofar_closed o c l =
        subst (λ (j : ℕ). Sofar t head begun j m after) (sym p)
        (record {
          text = h.text;
          is = l ∙ h.is;
          counted = c ∙ h.counted;
          whole = ap (λ (r : List ℕ). h.text ++ r) (sym (rest_closed t k e b q o)) ∙ h.whole;
          few = let f = h.few in omega arith;
          upto = omega arith;
          room = h.room;
          same = ap length l ∙ h.same;
        })

    pub sofar_open : (i : ℕ) → i ≡ k + 1 → 1 ≤ e.grant → m ≡ at + 4 → after ≡ pasted out at (status_of e i) → Sofar t head begun n m after
    sofar_open i i' o c l =
        let f = h.few in
        let r = h.room in
        let a = h.counted in
        let s = status_of e (k + 1) in
        let z : length s ≡ 4 = status_size (record { 0 = k + 1 }) (link_of e.link) in
        let y : length (h.text ++ s) ≡ length h.text + length s = length-append h.text s in
        let l' : after ≡ pasted out at s = l ∙ ap (λ (j : ℕ). pasted out at (status_of e j)) i' in
        subst (λ (j : ℕ). Sofar t head begun j m after) (sym p)
        (record {
          text = h.text ++ s;
          is = l' ∙ (λ j. pasted (h.is j) (a j) s) ∙ paste_after begun head h.text (omega arith) s;
          counted = omega arith;
          whole = append_assoc h.text s (rest t (k + 1)) ∙ ap (λ (x : List ℕ). h.text ++ x) (sym (rest_open t k e b q o)) ∙ h.whole;
          few = omega arith;
          upto = omega arith;
          room = r;
          same = ap length l' ∙ length_pasted out at s (let y = h.same in omega arith) ∙ h.same;
        })

  pub sofar_end : (k at : ℕ) (out : List ℕ) → Sofar t head begun k at out → 7 ≤ k → Sofar t head begun 7 at out
  sofar_end k at out h b = let u = h.upto in let e : k ≡ 7 = omega arith in subst (λ (j : ℕ). Sofar t head begun j at out) e h

  -- all seven are told
  all_told : (at : ℕ) (out : List ℕ) (h : Sofar t head begun 7 at out) → h.text ≡ bytes_of (statuses_in t 0 7)
  unfolding rest written statuses_in
  all_told at out h = sym (append-nil h.text) ∙ h.whole

told_some : (ss : List Status) → 0 < length (bytes_of ss) → written (further_objects (reports (statuses ss))) ≡ bytes_of ss
unfolding further_objects report_objects status_objects written
told_some [] h = absurd (let z : 0 < 0 = h in omega arith)
told_some (s ∷ ss) h = refl

told_none : (ss : List Status) → length (bytes_of ss) ≡ 0 → written (further_objects (reports (statuses ss))) ≡ 0x38 ∷ 0x02 ∷ 0x00 ∷ 0x00 ∷ []
unfolding further_objects report_objects status_objects written object_bytes length_bytes ◌⇒◌else◌
told_none [] h = refl
told_none (s ∷ ss) h = absurd (let z : suc _ ≡ 0 = h in omega arith)

-- the text that was put behind the head is that of the statuses
module _ (d : Details) (x : ℕ) (t : List ℕ) (before : List ℕ) (head : ℕ) (begun : List ℕ) (at : ℕ) (out : List ℕ)
    (b : Filled (response d (error x)) head before begun) (h : Sofar t head begun 7 at out) (w : 40 ≤ length before) where
  abbrev ss : List Status
  ss = statuses_in t 0 7

  text_stands : Filled (response d (error x) ++ bytes_of ss) at before out
  text_stands =
      let z = b.counted ∙ head_size d x in
      let f = h.few in
      subst (λ (u : List ℕ). Filled (response d (error x) ++ u) at before out) (all_told t head begun at out h)
      (more (response d (error x)) h.text head at before begun out b h.counted (omega arith) h.is)

  text_size : at ≡ head + length (bytes_of ss)
  text_size = h.counted ∙ ap (λ (u : List ℕ). head + length u) (all_told t head begun at out h)

  pub some_stand : head < at → Filled (response d (done x (reports (statuses ss)))) at before out
  some_stand g =
      let z = text_size in
      subst (λ (u : List ℕ). Filled u at before out)
      (ap (λ (u : List ℕ). response d (error x) ++ u) (sym (told_some ss (omega arith))) ∙ sym (behind_head d x (reports (statuses ss))))
      text_stands

  pub none_stands :
      at ≤ head → (m : ℕ) (after : List ℕ) → m ≡ at + 4 → after ≡ pasted out at (0x38 ∷ 0x02 ∷ 0x00 ∷ 0x00 ∷ []) →
      Filled (response d (done x (reports (statuses ss)))) m before after
  none_stands g m after f e =
      let z = text_size in
      let c = b.counted ∙ head_size d x in
      let n : bytes_of ss ≡ [] = length_nil (bytes_of ss) (omega arith) in
      subst (λ (u : List ℕ). Filled u m before after)
      (ap (λ (u : List ℕ). (response d (error x) ++ u) ++ (0x38 ∷ 0x02 ∷ 0x00 ∷ 0x00 ∷ [])) n
      ∙ ap (λ (u : List ℕ). u ++ (0x38 ∷ 0x02 ∷ 0x00 ∷ 0x00 ∷ [])) (append-nil (response d (error x)))
      ∙ ap (λ (u : List ℕ). response d (error x) ++ u) (sym (told_none ss (omega arith)))
      ∙ sym (behind_head d x (reports (statuses ss))))
      (more (response d (error x) ++ bytes_of ss) (0x38 ∷ 0x02 ∷ 0x00 ∷ 0x00 ∷ []) at m before out after text_stands f (omega arith) e)

-- the statuses that the ledger tells are those of the state whose ledger it is
from_entries : (a : State) → length a.profile ≡ profile_size → length a.timers ≡ timer_count → (k m : ℕ) → k + m ≡ length a.chans → statuses_in (ledger_of a) k m ≡ statuses_from (k + 1) (drop k a.chans)
unfolding statuses_in statuses_from is_open
from_entries a h g k zero e =
    sym (ap (statuses_from (k + 1)) (ap (λ (j : ℕ). drop j a.chans) (let q : k ≡ length a.chans = omega arith in q) ∙ drop-length a.chans))
from_entries a h g k (suc m) e =
    let c = get_or a.chans k closed in
    let l = ap link_of (link_read a h g k) ∙ link_back c.link in
    let later = from_entries a h g (k + 1) m (omega arith) ∙ ap (λ (j : ℕ). statuses_from (k + 1 + 1) (drop j a.chans)) (add-one k) in
    (λ i. leb 1 (grant_read a h g k i) ⇒ record { number = record { 0 = k + 1 }; link = l i } ∷ later i else later i)
    ∙ sym (ap (statuses_from (k + 1)) (drop-cons a.chans k closed (omega arith)))

-- and so those of the state that a good session shows
pub statuses_shown : (t p : List ℕ) → GoodIn t p → statuses_in t 0 7 ≡ statuses_from 1 (shown t p).chans
statuses_shown t p g =
    ap (λ (u : List ℕ). statuses_in u 0 7) g.shows.ledger ∙ from_entries (shown t p) g.sound.thirteen g.sound.eight 0 7 (sym g.sound.seven)
