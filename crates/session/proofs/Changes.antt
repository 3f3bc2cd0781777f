-- Every change of one channel, as the leaf that makes it in the pool.
-- Assumes nothing.
use Prim.Native.Nat.{ℕ, suc, ◌+◌, ◌-◌, ◌*◌, ◌≤◌, ◌<◌}
use mathlib.Core.Path.{◌≡◌, refl, sym, ap, ◌∙◌}
use mathlib.Core.List.{List, [], ◌∷◌, ◌++◌}
use native.Mathlib.Omega.{arith}
use lib.ListN.{length, take, replicate, length-append, length-replicate, replicate-append-replicate}
use Rattle.rules.specs.declared.Carries.{Carries}
use Rattle.rules.specs.declared.ChannelNumber.{ChannelNumber}
use Rattle.rules.specs.declared.Link.{Link}
use Rattle.rules.specs.declared.Way.{Way}
use Rattle.rules.specs.declared.Way.TheVariants.{Receive, Send}
use Rattle.rules.specs.State.{State, Chan, Queue, closed, chan, with_chan, queue, with_queue, held, room, due, at_once, joined, without, counting, marked, fresh, appended, removed}
use Rattle.rules.specs.Pool.{pool_size, cells}
use Rattle.rules.specs.Sound.{SoundChan, Sound}
use Rattle.rules.proofs.Laws.{by_way}
use Rattle.rules.proofs.Soundness.{once_due, chan_sound, removed_sound}
use Rattle.octets.specs.Parts.{part, pasted, cut_out, spread, pad}
use Rattle.octets.proofs.Pastes.{cut_parts, spread_parts}
use Rattle.session.specs.Picture.{space, region, pool_of, offset}
use Rattle.session.proofs.Regions.{Fits, held_space, length_region, front, rest, used, used_fits, used_parts, pool_split, pool_with, pool_same, way_put, way_cut, way_part, before, behind, ways, way_before, same_queue}

abbrev zeros : ℕ → List ℕ
zeros n = replicate n 0

-- the regions of a closed channel and of a fresh one
closed_region : region closed ≡ []
unfolding region pad closed space cells queue
closed_region = refl

fresh_region : (g : ℕ) (l : Link) (k : Carries) → region (fresh g l k) ≡ zeros (2 * space g)
unfolding region pad fresh queue
fresh_region g l k =
    let m : space g - 0 + (space g - 0) ≡ 2 * space g = omega arith in
    replicate-append-replicate (space g - 0) (space g - 0) 0 ∙ ap zeros m

nothing : (l : List ℕ) → length l ≡ 0 → l ≡ []
nothing [] e = refl
nothing (y ∷ l) e = absurd (let z : suc (length l) ≡ 0 = e in omega arith)

empty_region : (c : Chan) → Fits c → c.grant ≡ 0 → region c ≡ []
unfolding space cells
empty_region c h o = nothing (region c) (length_region c h ∙ ap (λ (g : ℕ). 2 * space g) o)

-- what a way holds stands in its part, whatever the link and the ready bytes
module _ (c : Chan) (l : Link) (k : ℕ) (s : List ℕ) where
  appended_region : (w : Way) → region (appended (marked c l k) w s) ≡ region (with_queue c w (joined (queue c w) s))
  unfolding region appended with_queue marked queue joined
  appended_region Receive = refl
  appended_region Send = refl

  pub appended_grant : (w : Way) → (appended (marked c l k) w s).grant ≡ c.grant
  unfolding appended with_queue marked
  appended_grant Receive = refl
  appended_grant Send = refl

  pub appended_fits : Fits c → (w : Way) → length s ≤ room c w → Fits (appended (marked c l k) w s)
  unfolding appended with_queue marked queue joined room
  appended_fits h Receive f = by_way _ (simp length-append (omega (arith, f, h Receive))) (h Send)
  appended_fits h Send f = by_way _ (h Receive) (simp length-append (omega (arith, f, h Send)))

module _ (c : Chan) (k : ℕ) where
  removed_region : (w : Way) → region (removed c w k) ≡ region (with_queue c w (without (queue c w) k))
  unfolding region removed with_queue marked queue without
  removed_region Receive = refl
  removed_region Send = refl

  pub removed_grant : (w : Way) → (removed c w k).grant ≡ c.grant
  unfolding removed with_queue marked
  removed_grant Receive = refl
  removed_grant Send = refl

module _ (d : Chan) where
  counted_region : (w : Way) (k : ℕ) → region d ≡ region (with_queue d w (counting (queue d w) k))
  unfolding region with_queue queue counting
  counted_region Receive k = refl
  counted_region Send k = refl

  pub counted_grant : (w : Way) (k : ℕ) → (with_queue d w (counting (queue d w) k)).grant ≡ d.grant
  unfolding with_queue
  counted_grant Receive k = refl
  counted_grant Send k = refl

  counted_fits : (w : Way) (k : ℕ) → Fits d → Fits (with_queue d w (counting (queue d w) k))
  unfolding with_queue queue counting
  counted_fits Receive k h = by_way _ (h Receive) (h Send)
  counted_fits Send k h = by_way _ (h Receive) (h Send)

-- bytes that are due are held, and those that fit the room fit the grant with what is held
pub due_held : (c : Chan) → SoundChan c → (w : Way) → due c w ≤ length (held c w)
unfolding due
due_held c h Receive = omega arith
due_held c h Send = h.ready_held

room_fits : (c : Chan) (w : Way) (m : ℕ) → length (held c w) ≤ c.grant → m ≤ room c w → length (held c w) + m ≤ c.grant
unfolding room
room_fits c w m h f = omega arith

module _ (a : State) (n : ChannelNumber) (h : Sound a) (place : n.0 - 1 < length a.chans) where
  abbrev c : Chan
  c = chan a n

  abbrev sp : ℕ
  sp = space c.grant

  hc : SoundChan c
  hc = chan_sound a n h

  -- what stands before the region, and behind it
  abbrev x : List ℕ
  x = front a n h place

  abbrev b : List ℕ
  b = rest a n h place ++ zeros (pool_size - used a n h place)

  whole : (w : Way) → pool_of a ≡ before c x b w ++ (pad sp (held c w) ++ behind c x b w)
  whole w = pool_split a n h place ∙ ap (λ (d : Chan). x ++ (region d ++ b)) (sym (same_queue c w)) ∙ ways c x b w (queue c w)

  -- the pool with another queue for a way
  other : (d : Chan) (w : Way) (q : Queue) → Fits d → d.grant ≡ c.grant → region d ≡ region (with_queue c w q) → pool_of (with_chan a n d) ≡ before c x b w ++ (pad sp q.bytes ++ behind c x b w)
  other d w q f e r = pool_same a n h place d hc.fits f e ∙ ap (λ (l : List ℕ). x ++ (l ++ b)) r ∙ ways c x b w q

  module _ (at : ℕ) (e : length x ≡ at) where
    pub appended_pool :
        (l : Link) (k : ℕ) (w : Way) (s : List ℕ) → length s ≤ room c w →
        pasted (pool_of a) (at + offset c.grant w + length (held c w)) s ≡ pool_of (with_chan a n (appended (marked c l k) w s))
    unfolding joined
    appended_pool l k w s f =
        let start = at + offset c.grant w in
        let fit = held_space c.grant (length (held c w) + length s) (room_fits c w (length s) (hc.fits w) f) in
        ap (λ (p : List ℕ). pasted p (start + length (held c w)) s) (whole w)
        ∙ way_put (before c x b w) (held c w) (behind c x b w) start sp (way_before c x b w at hc.fits e) s fit
        ∙ sym (other (appended (marked c l k) w s) w (joined (queue c w) s) (appended_fits c l k s hc.fits w f) (appended_grant c l k s w) (appended_region c l k s w))

    pub removed_pool :
        (w : Way) (k : ℕ) → k ≤ at_once c w →
        cut_out (pool_of a) (at + offset c.grant w) k (at + offset c.grant w + length (held c w)) ≡ pool_of (with_chan a n (removed c w k))
    unfolding without
    removed_pool w k f =
        let start = at + offset c.grant w in
        let d = due_held c hc w in
        let u = once_due c w hc in
        ap (λ (p : List ℕ). cut_out p start k (start + length (held c w))) (whole w)
        ∙ way_cut (before c x b w) (held c w) (behind c x b w) start sp (way_before c x b w at hc.fits e) k (omega arith)
        (held_space c.grant (length (held c w)) (hc.fits w))
        ∙ sym (other (removed c w k) w (without (queue c w) k) (removed_sound c hc w k f).fits (removed_grant c k w) (removed_region c k w))

    -- the first bytes held are read from the front of their way
    pub held_part : (w : Way) (k : ℕ) → k ≤ length (held c w) → part (at + offset c.grant w) (at + offset c.grant w + k) (pool_of a) ≡ take k (held c w)
    held_part w k f =
        let start = at + offset c.grant w in
        ap (λ (p : List ℕ). part start (start + k) p) (whole w)
        ∙ way_part (before c x b w) (held c w) (behind c x b w) start sp (way_before c x b w at hc.fits e) k f

    -- the region goes, and the later ones move down
    pub closed_pool : cut_out (pool_of a) at (2 * sp) (used a n h place) ≡ pool_of (with_chan a n closed)
    closed_pool =
        let r = rest a n h place in
        let u = used a n h place in
        let lc = length_region c hc.fits in
        let parts = used_parts a n h place in
        let fits = used_fits a n h place in
        let l0 = ap length closed_region in
        let end : at + 2 * sp + length r ≡ u = omega arith in
        let left : length x + (length (region closed) + length r) ≡ u - 2 * sp = omega arith in
        let m : 2 * sp + (pool_size - u) ≡ pool_size - (u - 2 * sp) = omega arith in
        ap (λ (p : List ℕ). cut_out p at (2 * sp) u) (pool_split a n h place)
        ∙ cut_parts x (region c) r (zeros (pool_size - u)) at (2 * sp) u e lc end
        ∙ ap (λ (z : List ℕ). x ++ (r ++ z)) (replicate-append-replicate (2 * sp) (pool_size - u) 0 ∙ ap zeros m)
        ∙ ap (λ (l : List ℕ). x ++ (l ++ (r ++ zeros (pool_size - (u - 2 * sp))))) (sym closed_region)
        ∙ sym (pool_with a n h place closed (u - 2 * sp) left)

    -- an empty region comes, and the later ones move up
    pub opened_pool :
        (g : ℕ) (l : Link) (j : Carries) → c.grant ≡ 0 → used a n h place + 2 * space g ≤ pool_size →
        spread (pool_of a) at (2 * space g) (used a n h place) ≡ pool_of (with_chan a n (fresh g l j))
    opened_pool g l j o f =
        let r = rest a n h place in
        let u = used a n h place in
        let k = 2 * space g in
        let none = empty_region c hc.fits o in
        let l0 = ap length none in
        let parts = used_parts a n h place in
        let lf = ap length (fresh_region g l j) ∙ length-replicate {A = ℕ} k 0 in
        let end : at + length r ≡ u = omega arith in
        let m : k + (pool_size - (u + k)) ≡ pool_size - u = omega arith in
        let left : length x + (length (region (fresh g l j)) + length r) ≡ u + k = omega arith in
        ap (λ (p : List ℕ). spread p at k u)
        (pool_split a n h place ∙ ap (λ (y : List ℕ). x ++ (y ++ (r ++ zeros (pool_size - u)))) none
        ∙ ap (λ (z : List ℕ). x ++ (r ++ z)) (sym (replicate-append-replicate k (pool_size - (u + k)) 0 ∙ ap zeros m)))
        ∙ spread_parts x r (zeros k) (zeros (pool_size - (u + k))) at k u e (length-replicate k 0) end
        ∙ ap (λ (y : List ℕ). x ++ (y ++ (r ++ zeros (pool_size - (u + k))))) (sym (fresh_region g l j))
        ∙ sym (pool_with a n h place (fresh g l j) (u + k) left)

  -- another link and another count of ready bytes leave the pool
  pub marked_pool : (l : Link) (k : ℕ) → pool_of (with_chan a n (marked c l k)) ≡ pool_of a
  unfolding region marked queue
  marked_pool l k = pool_same a n h place (marked c l k) hc.fits (by_way _ (hc.fits Receive) (hc.fits Send)) refl ∙ sym (pool_split a n h place)

  -- the lengths of datagrams leave the pool
  pub counted_pool : (d : Chan) (w : Way) (k : ℕ) → Fits d → d.grant ≡ c.grant → pool_of (with_chan a n d) ≡ pool_of (with_chan a n (with_queue d w (counting (queue d w) k)))
  counted_pool d w k f e =
      pool_same a n h place d hc.fits f e ∙ ap (λ (l : List ℕ). x ++ (l ++ b)) (counted_region d w k)
      ∙ sym (pool_same a n h place (with_queue d w (counting (queue d w) k)) hc.fits (counted_fits d w k f) (counted_grant d w k ∙ e))
