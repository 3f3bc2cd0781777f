-- R3, R4 and R5, which the code finds in the entry, as the definitions have them of the channel.
-- Assumes nothing.
use Prim.Native.Nat.{ℕ, ◌≤◌, ◌<◌}
use mathlib.Core.Path.{◌≡◌, refl, sym, ap, subst, ◌∙◌}
use mathlib.Core.Bool.{true, not, false≢true}
use mathlib.Core.List.{List}
use lib.ListN.{length}
use lib.Dec.{leb, eqb}
use borrow.Author.Tests.{lt-ltb, le-ltb, le-leb, leb-true}
use Rattle.rules.specs.declared.ChannelNumber.{ChannelNumber}
use Rattle.rules.specs.declared.Link.{Link}
use Rattle.rules.specs.declared.Link.TheVariants.{NotYet, Established, Dropped}
use Rattle.rules.specs.declared.Refusal.{Refusal}
use Rattle.rules.specs.declared.Refusal.TheVariants.{NoChannel, Unopened, Unlinked, ShortBuffer}
use Rattle.rules.specs.Checks.{◌⇒◌else◌}
use Rattle.rules.specs.State.{is_open, is_established}
use Rattle.rules.specs.Command.{Answer, refusal}
use Rattle.rules.specs.Radio.{numbered, arrival, taking, dropping}
use Rattle.rules.proofs.Laws.{branch, stop, skip, not_not, both_left, both_right}
use Rattle.session.specs.declared.Channel.{Channel}
use Rattle.std.specs.Prelude.{Result, Ok, Err}
use Rattle.session.specs.Picture.{link_number, entry, shown, GoodIn}
use Rattle.session.specs.Calls.{Answers}
use Rattle.session.specs.Changed.{Numbered, chan_in}
use Rattle.session.proofs.Facts.{entry_is}
use Rattle.session.proofs.Answers.{refuse_answers}
use Rattle.radio.specs.Permits.{permit_in, Usable}

linked_by : (l : Link) → eqb (link_number l) 1 ≡ is_established l
unfolding is_established
linked_by NotYet = refl
linked_by Established = refl
linked_by Dropped = refl

established_is : (l : Link) → is_established l ≡ true → l ≡ Established
unfolding is_established
established_is NotYet e = absurd (false≢true e)
established_is Established e = refl
established_is Dropped e = absurd (false≢true e)

module _ (t p : List ℕ) (n : ChannelNumber) where
  -- R3, R4 and R5 as the definitions have them, before what a call does
  abbrev checked : Answer → Answer
  checked x =
      not (numbered n) ⇒ refusal (shown t p) NoChannel else
      not (is_open (chan_in t p n)) ⇒ refusal (shown t p) Unopened else
      not (is_established (chan_in t p n).link) ⇒ refusal (shown t p) Unlinked else
      x

  -- a channel that may be used passes them
  pub passing : {x : Channel} → Usable t p n x → (y : Answer) → checked y ≡ y
  unfolding numbered is_established ◌⇒◌else◌
  passing u y = simp (le-leb 1 n.0 u.numbered.low, le-leb n.0 7 u.numbered.high, u.stands, u.link)

  -- what a permit tells of them
  abbrev Verdict : Result Channel Refusal → Type 0
  Verdict (Ok x) = Usable t p n x
  Verdict (Err why) = (y : Answer) → checked y ≡ refusal (shown t p) why

  verdict : GoodIn t p → Verdict (permit_in t n)
  unfolding permit_in numbered is_open entry
  verdict g =
      branch Verdict _ _ _ (λ e₃ y. stop _ _ _ e₃) (λ e₃.
      let low = leb-true 1 n.0 (both_left (leb 1 n.0) (leb n.0 7) (not_not _ e₃)) in
      let high = leb-true n.0 7 (both_right (leb 1 n.0) (leb n.0 7) (not_not _ e₃)) in
      let h : Numbered t p n = record { good = g; low = low; high = high } in
      let is = sym (entry_is t p n h) in
      let opens = ap (λ (x : Channel). not (leb 1 x.grant)) is in
      let links = ap not (sym (linked_by (chan_in t p n).link)) ∙ ap (λ (x : Channel). not (eqb x.link 1)) is in
      branch Verdict _ _ _ (λ e₄ y. skip _ _ _ e₃ ∙ stop _ _ _ (opens ∙ e₄)) (λ e₄.
      branch Verdict _ _ _ (λ e₅ y. skip _ _ _ e₃ ∙ skip _ _ _ (opens ∙ e₄) ∙ stop _ _ _ (links ∙ e₅)) (λ e₅.
      record { numbered = h; entry = refl; stands = not_not _ (opens ∙ e₄); link = established_is _ (not_not _ (links ∙ e₅)) })))

  module _ (g : GoodIn t p) where
    pub usable : (x : Channel) → Ok x ≡ permit_in t n → Usable t p n x
    usable x e = subst Verdict (sym e) (verdict g)

    -- a permit that refuses, refuses each of the calls
    module _ (why : Refusal) (e : Err why ≡ permit_in t n) (out : List ℕ) where
      refused : (x y : Answer) → x ≡ checked y → Answers x t p (Err why) out out
      refused x y k = refuse_answers x t p out why g (k ∙ subst Verdict (sym e) (verdict g) y)

      pub arrival_refused : (s : List ℕ) → 16 ≤ length out → Answers (arrival (shown t p) (length out) n s) t p (Err why) out out
      unfolding arrival
      arrival_refused s b = refused _ _ (skip _ _ _ (le-ltb (length out) 16 b))

      pub taking_refused : Answers (taking (shown t p) (length out) n) t p (Err why) out out
      unfolding taking
      taking_refused = refused _ _ refl

      pub dropping_refused : 16 ≤ length out → Answers (dropping (shown t p) (length out) n) t p (Err why) out out
      unfolding dropping
      dropping_refused b = refused _ _ (skip _ _ _ (le-ltb (length out) 16 b))

-- R1
module _ (t p : List ℕ) (n : ChannelNumber) (out : List ℕ) (g : GoodIn t p) (h : length out < 16) where
  pub arrival_short : (s : List ℕ) → Answers (arrival (shown t p) (length out) n s) t p (Err ShortBuffer) out out
  unfolding arrival
  arrival_short s = refuse_answers _ t p out _ g (stop _ _ _ (lt-ltb (length out) 16 h))

  pub dropping_short : Answers (dropping (shown t p) (length out) n) t p (Err ShortBuffer) out out
  unfolding dropping
  dropping_short = refuse_answers _ t p out _ g (stop _ _ _ (lt-ltb (length out) 16 h))
