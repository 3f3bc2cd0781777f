-- OPEN CHANNEL: what it comes to at each check, over what the code has found.
-- Assumes nothing.
use Prim.Native.Nat.{ℕ, zero, suc, ◌+◌, ◌-◌, ◌*◌, ◌≤◌, ◌<◌}
use mathlib.Core.Path.{◌≡◌, refl, sym, ap, subst, ◌∙◌}
use mathlib.Core.Bool.{Bool, true, false, not, false≢true}
use mathlib.Core.List.{List, [], ◌∷◌}
use native.Mathlib.Omega.{arith}
use lib.ListN.{length, get_or}
use lib.Dec.{ltb, eqb}
use borrow.Author.Tests.{lt-ltb, le-ltb, leb-false, eq-eqb, ne_eqb}
use Rattle.rules.specs.declared.Carries.{Carries}
use Rattle.rules.specs.declared.ChannelNumber.{ChannelNumber}
use Rattle.rules.specs.declared.Details.{Details}
use Rattle.rules.specs.declared.Link.{Link}
use Rattle.rules.specs.declared.Link.TheVariants.{NotYet, Established}
use Rattle.rules.specs.Checks.{◌⇒◌else◌, is_empty}
use Rattle.rules.specs.Profile.{allows_bearer, channels}
use Rattle.rules.specs.State.{State, Chan, closed, is_open, chan, with_chan, fresh}
use Rattle.rules.specs.Pool.{cells, unpromised, grant_for}
use Rattle.rules.specs.Table.{bearer_fits}
use Rattle.rules.specs.Reading.{bearer_in}
use Rattle.rules.specs.Own.{Reply, reply, error, problem, done, opened, bit1, plain, open_before, opening, served, carried_by}
use Rattle.rules.specs.Written.{bearer_bytes}
use Rattle.rules.proofs.Laws.{branch, stop, skip, not_not}
use Rattle.rules.proofs.Grants.{Granted, grant_law}
use Rattle.rules.proofs.Soundness.{opened_place, with_sound, fresh_sound, fresh_cells}
use Rattle.rules.proofs.Sizes.{bearer_short}
use Rattle.profile.proofs.Bits.{front_bearer, front_channels}
use Rattle.std.specs.Prelude.{Ok}
use Rattle.session.specs.Book.{free_in}
use Rattle.session.specs.Picture.{GoodIn, shown}
use Rattle.session.specs.Calls.{Answers}
use Rattle.session.specs.Changed.{Numbered, chan_in, Changed}
use Rattle.session.proofs.Facts.{place, unpromised_kept}
use Rattle.responses.specs.Filled.{response, Filled}
use Rattle.own.specs.Replies.{told}
use Rattle.opening.specs.Unused.{open_from}
use Rattle.opening.proofs.Unused.{open_shown}
use Rattle.own.proofs.Replies.{told_answers, left_answers}

-- a bearer that fits is there, and is written as it was read
pub bearer_there : (v : List ℕ) → bearer_fits v ≡ true → 0 < length v
unfolding bearer_fits is_empty ◌⇒◌else◌
bearer_there [] e = absurd (false≢true e)
bearer_there (x ∷ v) e = omega arith

pub bearer_back : (v : List ℕ) → bearer_fits v ≡ true → bearer_bytes (bearer_in v) ≡ v
unfolding bearer_fits is_empty ◌⇒◌else◌ bearer_bytes bearer_in
bearer_back [] e = absurd (false≢true e)
bearer_back (x ∷ v) e = refl

-- one that is served has at most seven bytes
pub bearer_few : (t v : List ℕ) (x : Bool) → x ≡ allows_bearer t (get_or v 0 0) → not x ≡ false → bearer_fits v ≡ true → length v ≤ 7
unfolding bearer_in
bearer_few t v x bearer s e =
    let back = bearer_back v e in
    subst (λ (w : List ℕ). length w ≤ 7) back
    (bearer_short t (bearer_in v) (sym bearer ∙ not_not x s) (subst (λ (w : List ℕ). bearer_fits w ≡ true) (sym back) e))

-- the first channel that does not stand open, if it is not the one behind the first n, has no grant
first_closed : (n : ℕ) (cs : List Chan) → (open_before n cs ≡ n → ⊥) → (get_or cs (open_before n cs) closed).grant ≡ 0
unfolding open_before is_open closed
first_closed zero cs h = absurd (h refl)
first_closed (suc n) [] h = refl
first_closed (suc n) (c ∷ cs) h =
    branch (λ (k : ℕ). (k ≡ suc n → ⊥) → (get_or (c ∷ cs) k closed).grant ≡ 0) _ _ _ (λ _ u. first_closed n cs (λ e. u (ap suc e)))
    (λ e _. let z = leb-false 1 c.grant e in omega arith)
    h

-- the profile allows at most seven channels
pub few_channels : (p : List ℕ) (n : ℕ) → n ≡ channels p → n ≤ 7
unfolding channels
few_channels p n e = omega arith

-- the number that is opened, and the cells that are free, as the rules have them
module _ (t p : List ℕ) (g : GoodIn t p) where
  abbrev a : State
  a = shown t p

  module _ (n k : ℕ) (en : n ≡ channels t) (ek : k ≡ open_from t 0 n) where
    channels_is : n ≡ channels a.profile
    unfolding shown
    channels_is = en ∙ sym (front_channels t)

    number_is : k ≡ open_before (channels a.profile) a.chans
    number_is = ek ∙ open_shown t p g n (few_channels t n en) ∙ ap (λ (m : ℕ). open_before m a.chans) channels_is

    module _ (u : k ≡ n → ⊥) where
      unused : open_before (channels a.profile) a.chans ≡ channels a.profile → ⊥
      unused e = u (number_is ∙ e ∙ sym channels_is)

      pub numbered : Numbered t p (record { 0 = k + 1 })
      numbered =
          let z = opened_place a (k + 1) g.sound (ap (λ (j : ℕ). j + 1) number_is) unused in
          record { good = g; low = z.0; high = z.1 }

      pub unopened : (chan_in t p (record { 0 = k + 1 })).grant ≡ 0
      unfolding chan
      unopened =
          let z : k + 1 - 1 ≡ open_before (channels a.profile) a.chans = omega (arith, number_is) in
          ap (λ (j : ℕ). (get_or a.chans j closed).grant) z ∙ first_closed _ _ unused

  module _ (f : ℕ) (ef : f ≡ free_in t) where
    free_is : f ≡ unpromised a
    free_is = ef ∙ unpromised_kept t p g

    grant_is : (size w : ℕ) → w ≡ grant_for size f → w ≡ grant_for size (unpromised a)
    grant_is size w e = e ∙ ap (grant_for size) free_is

    granted : (size w : ℕ) → w ≡ grant_for size f → Granted size (unpromised a) w
    granted size w e = subst (Granted size (unpromised a)) (sym (grant_is size w e)) (grant_law size (unpromised a))

    pub grant_fits : (size w : ℕ) → w ≡ grant_for size f → 2 * cells w ≤ unpromised a
    grant_fits size w e = (granted size w e).fits

-- the checks in their order: the bearer, of which the code tells x; the protocol; the size; the number, k of n; the free cells, f
module _ (t p : List ℕ) (g : GoodIn t p) (d : Details) (v : List ℕ) (size protocol : ℕ) (i : Bool) (x : Bool) (bearer : x ≡ allows_bearer t (get_or v 0 0))
    (count : ℕ) (before after : List ℕ) where
  abbrev b : State
  b = shown t p

  abbrev all : Reply
  all = opening b d.qualifier (bearer_in v) size protocol i

  abbrev answer : List ℕ → List ℕ → Type 0
  answer u r = Answers (told d all) u r (Ok count) before after

  served_is : not (allows_bearer b.profile (bearer_in v).kind) ≡ not x
  unfolding shown bearer_in
  served_is = ap not (front_bearer t (get_or v 0 0) ∙ sym bearer)

  pub unserved : not x ≡ true → Filled (response d (error 0x30)) count before after → answer t p
  unfolding opening
  unserved e w = left_answers d all (error 0x30) t p count before after (stop _ _ _ (served_is ∙ e)) g w

  module _ (s : not x ≡ false) where
    pub uncarried : (y₁ : Bool) → y₁ ≡ served protocol → not y₁ ≡ true → Filled (response d (problem 0x06)) count before after → answer t p
    unfolding opening
    uncarried y₁ q e w = left_answers d all (problem 0x06) t p count before after (skip _ _ _ (served_is ∙ s) ∙ stop _ _ _ (ap not (sym q) ∙ e)) g w

    module _ (y₁ : Bool) (q : y₁ ≡ served protocol) (c : not y₁ ≡ false) where
      carried : not (served protocol) ≡ false
      carried = ap not (sym q) ∙ c

      pub sizeless : size < 1 → Filled (response d (problem 0x04)) count before after → answer t p
      unfolding opening
      sizeless e w =
          left_answers d all (problem 0x04) t p count before after
          (skip _ _ _ (served_is ∙ s) ∙ skip _ _ _ carried ∙ stop _ _ _ (eq-eqb size 0 (omega arith))) g w

      module _ (z : 1 ≤ size) (n k : ℕ) (en : n ≡ channels t) (ek : k ≡ open_from t 0 n) where
        asked : eqb size 0 ≡ false
        asked = ne_eqb size 0 (λ e. omega arith)

        pub numberless : k ≡ n → Filled (response d (problem 0x01)) count before after → answer t p
        unfolding opening
        numberless e w =
            left_answers d all (problem 0x01) t p count before after
            (skip _ _ _ (served_is ∙ s) ∙ skip _ _ _ carried ∙ skip _ _ _ asked
            ∙ stop _ _ _ (eq-eqb _ _ (sym (number_is t p g n k en ek) ∙ e ∙ channels_is t p g n k en ek))) g w

        module _ (u : k ≡ n → ⊥) (f : ℕ) (ef : f ≡ free_in t) where
          pub cellless : f < 2 → Filled (response d (problem 0x04)) count before after → answer t p
          unfolding opening
          cellless e w =
              left_answers d all (problem 0x04) t p count before after
              (skip _ _ _ (served_is ∙ s) ∙ skip _ _ _ carried ∙ skip _ _ _ asked ∙ skip _ _ _ (ne_eqb _ _ (unused t p g n k en ek u))
              ∙ stop _ _ _ (lt-ltb _ 2 (subst (λ (j : ℕ). j < 2) (free_is t p g f ef) e))) g w

          -- the reply that opens the channel j + 1 with the grant w
          abbrev made : ℕ → ℕ → Link → ℕ → Reply
          made j w link y =
              reply (with_chan b (record { 0 = j + 1 }) (fresh w link (carried_by protocol)))
              (done y (opened (record { number = record { 0 = j + 1 }; link = link }) (bearer_in v) w))

          module _ (w : ℕ) (link : Link) (y : ℕ) (ew : w ≡ grant_for size f) (el : link ≡ (bit1 d.qualifier ⇒ Established else NotYet))
              (ey : y ≡ (ltb w size ⇒ 0x07 else plain i)) where
            opens : 2 ≤ f → all ≡ made k w link y
            unfolding opening
            opens e =
                let ek' = number_is t p g n k en ek in
                let ew' = grant_is t p g f ef size w ew in
                skip _ _ _ (served_is ∙ s) ∙ skip _ _ _ carried ∙ skip _ _ _ asked ∙ skip _ _ _ (ne_eqb _ _ (unused t p g n k en ek u))
                ∙ skip _ _ _ (le-ltb _ 2 (subst (λ (j : ℕ). 2 ≤ j) (free_is t p g f ef) e))
                ∙ sym (λ j. made (ek' j) (ew' j) (el j) (ltb (ew' j) size ⇒ 0x07 else plain i)) ∙ ap (made k w link) (sym ey)

            pub open_done :
                (m r : List ℕ) (j : Carries) → 2 ≤ f → j ≡ carried_by protocol → Changed t p (record { 0 = k + 1 }) (fresh w link j) m r →
                Filled (response d (done y (opened (record { number = record { 0 = k + 1 }; link = link }) (bearer_in v) w))) count before after →
                answer m r
            open_done m r j e kind h stands =
                let grant = granted t p g f ef size w ew in
                let number : ChannelNumber = record { 0 = k + 1 } in
                told_answers d all _ _ m r count before after (opens e)
                (with_sound b number (fresh w link (carried_by protocol)) g.sound (place t p number (numbered t p g n k en ek u)) (fresh_sound w link (carried_by protocol) grant.capped)
                (fresh_cells b number w link (carried_by protocol) grant.fits))
                (subst (λ (x : Carries). Changed t p number (fresh w link x) m r) kind h) stands
