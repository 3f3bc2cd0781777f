-- M-110, the channels: what depends on the bytes held by their count alone is the same of two channels that hold as many.
-- Assumes nothing.
use Prim.Native.Nat.{ℕ, zero, suc, ◌+◌, ◌-◌, ◌*◌, min}
use mathlib.Core.Path.{◌≡◌, refl, sym, ap, subst, ◌∙◌}
use mathlib.Core.Bool.{not, ◌&&◌}
use mathlib.Core.List.{List, [], ◌∷◌}
use native.Mathlib.Omega.{arith}
use lib.ListN.{length, get_or, take, drop, set, length-append, length-drop, length-take}
use lib.Dec.{leb, eqb}
use Rattle.rules.specs.declared.Way.{Way}
use Rattle.rules.specs.declared.Way.TheVariants.{Receive, Send}
use Rattle.rules.specs.Checks.{◌⇒◌else◌, is_empty}
use Rattle.rules.specs.Datagrams.{place_count, another, lessened}
use Rattle.rules.specs.State.{Chan, Queue, closed, is_open, is_stream, establish, queue, with_queue, held, room, due, at_once, joined, without, counting, marked, appended, whole, arrived, removed, unfinished, readied, dropped, places_used, crowded}
use Rattle.rules.specs.Pool.{cells, promised_to}
use Rattle.rules.specs.Own.{Status, open_before, statuses_from}
use Rattle.rules.specs.declared.Link.{Link}
use Rattle.rules.specs.Separation.{LikeChan, LikeAt}
use Rattle.rules.proofs.Laws.{branch₂, by_way, empty_length}

-- channels that hold other bytes, as many

pub like_refl : (c : Chan) → LikeChan c c
like_refl c = record { grant = refl; link = refl; carries = refl; counts = λ _. refl; lengths = λ _. refl; ready = refl }

-- as many bytes: none in both, or some in both
pub same_empty : (s t : List ℕ) → length s ≡ length t → is_empty s ≡ is_empty t
same_empty s t e = sym (empty_length s) ∙ ap (λ (k : ℕ). eqb k 0) e ∙ empty_length t

module _ (c d : Chan) (h : LikeChan c d) where
  -- what is asked of a channel
  pub like_open : is_open c ≡ is_open d
  unfolding is_open
  like_open = ap (leb 1) h.grant

  pub like_room : (w : Way) → room c w ≡ room d w
  unfolding room
  like_room w = λ i. h.grant i - h.counts w i

  like_due : (w : Way) → due c w ≡ due d w
  unfolding due
  like_due Receive = h.counts Receive
  like_due Send = h.ready

  pub like_once : (w : Way) → at_once c w ≡ at_once d w
  unfolding at_once
  like_once w = λ i. is_stream (h.carries i) ⇒ like_due w i else get_or (h.lengths w i) 0 0

  like_unfinished : unfinished c ≡ unfinished d
  unfolding unfinished
  like_unfinished = λ i. h.counts Send i - h.ready i

  like_places : (w : Way) → places_used c w ≡ places_used d w
  unfolding places_used queue
  like_places Receive = ap (λ (l : List ℕ). length l) (h.lengths Receive)
  like_places Send = λ i. length (h.lengths Send i) + min 1 (like_unfinished i)

  pub like_crowded : (w : Way) (s t : List ℕ) → length s ≡ length t → crowded c w s ≡ crowded d w t
  unfolding crowded
  like_crowded Receive s t e = λ i. not (same_empty s t e i) && leb place_count (like_places Receive i)
  like_crowded Send s t e = λ i. not (same_empty s t e i) && eqb (like_unfinished i) 0 && leb place_count (like_places Send i)

  -- what happens to a channel
  queue_like : (w : Way) (q r : Queue) → length q.bytes ≡ length r.bytes → q.lengths ≡ r.lengths → LikeChan (with_queue c w q) (with_queue d w r)
  unfolding with_queue queue
  queue_like Receive q r l m =
      record { grant = h.grant; link = h.link; carries = h.carries; counts = by_way _ l (h.counts Send); lengths = by_way _ m (h.lengths Send); ready = h.ready }
  queue_like Send q r l m =
      record { grant = h.grant; link = h.link; carries = h.carries; counts = by_way _ (h.counts Receive) l; lengths = by_way _ (h.lengths Receive) m; ready = h.ready }

  marked_like : (l m : Link) (k j : ℕ) → l ≡ m → k ≡ j → LikeChan (marked c l k) (marked d m j)
  unfolding marked queue
  marked_like l m k j e f =
      record { grant = h.grant; link = e; carries = h.carries; counts = by_way _ (h.counts Receive) (h.counts Send); lengths = by_way _ (h.lengths Receive) (h.lengths Send); ready = f }

  pub appended_like : (w : Way) (s t : List ℕ) → length s ≡ length t → LikeChan (appended c w s) (appended d w t)
  unfolding appended joined
  appended_like w s t e =
      queue_like w _ _ (length-append (held c w) s ∙ (λ i. h.counts w i + e i) ∙ sym (length-append (held d w) t)) (h.lengths w)

  whole_like : (w : Way) (k j : ℕ) → k ≡ j → LikeChan (whole c w k) (whole d w j)
  unfolding whole counting
  whole_like w k j e =
      branch₂ LikeChan _ _ _ _ _ _ (ap is_stream h.carries) (λ _. h) (λ _. queue_like w _ _ (h.counts w) (λ i. another (h.lengths w i) (e i)))

-- without the first k of as many bytes, and the first k
dropped_length : (k : ℕ) (s t : List ℕ) → length s ≡ length t → length (drop k s) ≡ length (drop k t)
dropped_length k s t e = length-drop k s ∙ (λ i. e i - k) ∙ sym (length-drop k t)

pub taken_length : (k : ℕ) (s t : List ℕ) → length s ≡ length t → length (take k s) ≡ length (take k t)
taken_length k s t e = length-take k s ∙ (λ i. min k (e i)) ∙ sym (length-take k t)

module _ (c d : Chan) (h : LikeChan c d) where
  -- bytes arrive, go, are readied, and the link is dropped
  pub arrived_like : (s t : List ℕ) → length s ≡ length t → LikeChan (arrived c s) (arrived d t)
  unfolding arrived
  arrived_like s t e = whole_like _ _ (appended_like c d h Receive s t e) Receive _ _ e

  pub removed_like : (w : Way) (k : ℕ) → LikeChan (removed c w k) (removed d w k)
  unfolding removed without queue
  removed_like Receive k = queue_like c d h Receive _ _ (dropped_length k _ _ (h.counts Receive)) (ap (λ (l : List ℕ). lessened l k) (h.lengths Receive))
  removed_like Send k =
      queue_like _ _ (marked_like c d h _ _ _ _ h.link (λ i. h.ready i - k)) Send _ _ (dropped_length k _ _ (h.counts Send)) (ap (λ (l : List ℕ). lessened l k) (h.lengths Send))

  pub readied_like : LikeChan (readied c) (readied d)
  unfolding readied
  readied_like = marked_like _ _ (whole_like c d h Send _ _ (like_unfinished c d h)) _ _ _ _ (ap establish h.link) (h.counts Send)

  pub dropped_like : LikeChan (dropped c) (dropped d)
  unfolding dropped
  dropped_like = marked_like c d h _ _ _ _ refl h.ready

-- lists of channels, by place

-- at each place as many bytes; the same channel at every other place; and with another channel in a place
pub like_at : (k : ℕ) (cs ds : List Chan) (j : ℕ) → LikeAt k cs ds → LikeChan (get_or cs j closed) (get_or ds j closed)
unfolding LikeAt
like_at k [] [] j h = like_refl closed
like_at k [] (d ∷ ds) j h = absurd h
like_at k (c ∷ cs) [] j h = absurd h
like_at zero (c ∷ cs) (d ∷ ds) zero h = h.0
like_at zero (c ∷ cs) (d ∷ ds) (suc j) h = subst (λ (es : List Chan). LikeChan (get_or cs j closed) (get_or es j closed)) h.1 (like_refl _)
like_at (suc k) (c ∷ cs) (d ∷ ds) zero h = subst (LikeChan c) h.0 (like_refl c)
like_at (suc k) (c ∷ cs) (d ∷ ds) (suc j) h = like_at k cs ds j h.1

pub same_at : (k : ℕ) (cs ds : List Chan) (j : ℕ) → (j ≡ k → ⊥) → LikeAt k cs ds → get_or cs j closed ≡ get_or ds j closed
unfolding LikeAt
same_at k [] [] j n h = refl
same_at k [] (d ∷ ds) j n h = absurd h
same_at k (c ∷ cs) [] j n h = absurd h
same_at zero (c ∷ cs) (d ∷ ds) zero n h = absurd (n refl)
same_at zero (c ∷ cs) (d ∷ ds) (suc j) n h = ap (λ (es : List Chan). get_or es j closed) h.1
same_at (suc k) (c ∷ cs) (d ∷ ds) zero n h = h.0
same_at (suc k) (c ∷ cs) (d ∷ ds) (suc j) n h = same_at k cs ds j (λ e. n (ap (λ (m : ℕ). suc m) e)) h.1

pub set_like : (k : ℕ) (cs ds : List Chan) (j : ℕ) (x y : Chan) → LikeChan x y → ((j ≡ k → ⊥) → x ≡ y) → LikeAt k cs ds → LikeAt k (set cs j x) (set ds j y)
unfolding LikeAt
set_like k [] [] j x y l s h = h
set_like k [] (d ∷ ds) j x y l s h = absurd h
set_like k (c ∷ cs) [] j x y l s h = absurd h
set_like zero (c ∷ cs) (d ∷ ds) zero x y l s h = (l, h.1)
set_like zero (c ∷ cs) (d ∷ ds) (suc j) x y l s h = (h.0, λ i. set (h.1 i) j (s (λ e. omega arith) i))
set_like (suc k) (c ∷ cs) (d ∷ ds) zero x y l s h = (s (λ e. omega arith), h.1)
set_like (suc k) (c ∷ cs) (d ∷ ds) (suc j) x y l s h = (h.0, set_like k cs ds j x y l (λ n. s (λ e. n (omega arith))) h.1)

-- what is told of all channels: the cells promised, the lowest unused number, the statuses
pub promised_like : (k : ℕ) (cs ds : List Chan) → LikeAt k cs ds → promised_to cs ≡ promised_to ds
unfolding LikeAt promised_to
promised_like k [] [] h = refl
promised_like k [] (d ∷ ds) h = absurd h
promised_like k (c ∷ cs) [] h = absurd h
promised_like zero (c ∷ cs) (d ∷ ds) h = λ i. 2 * cells (h.0.grant i) + promised_to (h.1 i)
promised_like (suc k) (c ∷ cs) (d ∷ ds) h = λ i. 2 * cells (h.0 i).grant + promised_like k cs ds h.1 i

pub before_like : (k m : ℕ) (cs ds : List Chan) → LikeAt k cs ds → open_before m cs ≡ open_before m ds
unfolding LikeAt open_before
before_like k zero cs ds h = refl
before_like k (suc m) [] [] h = refl
before_like k (suc m) [] (d ∷ ds) h = absurd h
before_like k (suc m) (c ∷ cs) [] h = absurd h
before_like zero (suc m) (c ∷ cs) (d ∷ ds) h = λ i. like_open c d h.0 i ⇒ suc (open_before m (h.1 i)) else 0
before_like (suc k) (suc m) (c ∷ cs) (d ∷ ds) h = λ i. is_open (h.0 i) ⇒ suc (before_like k m cs ds h.1 i) else 0

told_like : (m : ℕ) (c d : Chan) (xs ys : List Status) → LikeChan c d → xs ≡ ys →
    is_open c ⇒ record { number = record { 0 = m }; link = c.link } ∷ xs else xs ≡ is_open d ⇒ record { number = record { 0 = m }; link = d.link } ∷ ys else ys
told_like m c d xs ys h e = λ i. like_open c d h i ⇒ record { number = record { 0 = m }; link = h.link i } ∷ e i else e i

pub statuses_like : (k m : ℕ) (cs ds : List Chan) → LikeAt k cs ds → statuses_from m cs ≡ statuses_from m ds
unfolding LikeAt statuses_from
statuses_like k m [] [] h = refl
statuses_like k m [] (d ∷ ds) h = absurd h
statuses_like k m (c ∷ cs) [] h = absurd h
statuses_like zero m (c ∷ cs) (d ∷ ds) h = told_like m c d _ _ h.0 (ap (statuses_from (m + 1)) h.1)
statuses_like (suc k) m (c ∷ cs) (d ∷ ds) h = told_like m c d _ _ (subst (LikeChan c) h.0 (like_refl c)) (statuses_like k (m + 1) cs ds h.1)
