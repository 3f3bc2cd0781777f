-- The channels that stand open before the first that does not, read from the ledger.
-- Assumes nothing.
use Prim.Native.Nat.{ℕ, zero, suc, ◌+◌, ◌-◌, ◌≤◌, ◌<◌}
use mathlib.Core.Path.{◌≡◌, refl, sym, ap, subst, ◌∙◌}
use mathlib.Core.List.{List}
use native.Mathlib.Omega.{arith}
use native.Mathlib.Numerals.{add-one}
use lib.ListN.{length, get_or, drop}
use lib.Seq.{drop-cons}
use lib.Dec.{leb}
use borrow.Author.Tests.{le-leb, lt-leb}
use Rattle.rules.specs.Checks.{◌⇒◌else◌}
use Rattle.rules.specs.Timers.{timer_count}
use Rattle.rules.specs.Profile.{profile_size}
use Rattle.rules.specs.State.{State, closed, is_open}
use Rattle.rules.specs.Own.{open_before}
use Rattle.rules.proofs.Laws.{stop, skip}
use Rattle.session.specs.declared.Channel.{Channel}
use Rattle.session.specs.Book.{entry_at, entry_from}
use Rattle.session.specs.Picture.{ledger_of, shown, GoodIn}
use Rattle.session.proofs.Ledgers.{grant_read}
use Rattle.opening.specs.Unused.{open_from}

-- the first k of the n stand open, and the count goes on from there
pub record Seen (t : List ℕ) (n k : ℕ) : Type 0 where
  pub upto : k ≤ n
  pub on : open_from t 0 n ≡ k + open_from t k (n - k)

module _ (t : List ℕ) (n : ℕ) where
  pub seen_none : Seen t n 0
  seen_none =
      let e : open_from t 0 n ≡ open_from t 0 (n - 0) = ap (open_from t 0) (let z : n ≡ n - 0 = omega arith in z) in
      record { upto = omega arith; on = omega arith }

  -- an entry that was read at the place k
  module _ (k : ℕ) (e : Channel) (s : Seen t n k) (h : k < n) (q : e ≡ entry_from t (entry_at (k + 1 - 1))) where
    grant_at : e.grant ≡ get_or t (entry_at k) 0
    grant_at = ap (λ (x : Channel). x.grant) q ∙ ap (λ (j : ℕ). get_or t (entry_at j) 0) (let z : k + 1 - 1 ≡ k = omega arith in z)

    here : open_from t k (n - k) ≡ (leb 1 (get_or t (entry_at k) 0) ⇒ suc (open_from t (k + 1) (n - (k + 1))) else 0)
    unfolding open_from
    here = ap (open_from t k) (let z : n - k ≡ suc (n - (k + 1)) = omega arith in z)

    pub seen_more : 1 ≤ e.grant → Seen t n (k + 1)
    seen_more o =
        let m = here ∙ stop _ _ _ (le-leb 1 _ (subst (λ (g : ℕ). 1 ≤ g) grant_at o)) in
        record { upto = omega arith; on = let z = s.on in omega arith }

    pub seen_stop : e.grant < 1 → k ≡ open_from t 0 n
    seen_stop o =
        let m = here ∙ skip _ _ _ (lt-leb 1 _ (subst (λ (g : ℕ). g < 1) grant_at o)) in
        let z = s.on in
        omega arith

  pub seen_all : (k : ℕ) → Seen t n k → n ≤ k → k ≡ open_from t 0 n
  unfolding open_from
  seen_all k s h =
      let e : n - k ≡ 0 = omega arith in
      let z : open_from t 0 n ≡ k + 0 = s.on ∙ ap (λ (m : ℕ). k + open_from t k m) e in
      omega arith

-- it is the count of the state whose ledger it is
from_entries : (a : State) → length a.profile ≡ profile_size → length a.timers ≡ timer_count → (k m : ℕ) → k + m ≤ length a.chans → open_from (ledger_of a) k m ≡ open_before m (drop k a.chans)
unfolding open_from open_before is_open
from_entries a h g k zero e = refl
from_entries a h g k (suc m) e =
    let later = from_entries a h g (k + 1) m (omega arith) ∙ ap (λ (j : ℕ). open_before m (drop j a.chans)) (add-one k) in
    (λ i. leb 1 (grant_read a h g k i) ⇒ suc (later i) else 0)
    ∙ sym (ap (open_before (suc m)) (drop-cons a.chans k closed (omega arith)))

pub open_shown : (t p : List ℕ) → GoodIn t p → (n : ℕ) → n ≤ 7 → open_from t 0 n ≡ open_before n (shown t p).chans
open_shown t p g n h =
    ap (λ (u : List ℕ). open_from u 0 n) g.shows.ledger ∙ from_entries (shown t p) g.sound.thirteen g.sound.eight 0 n (omega (arith, g.sound.seven))
