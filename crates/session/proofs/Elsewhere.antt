-- Nothing of a held byte stands outside its place in the pool: every other byte there is 0, and the ledger has no more than the counts.
-- Assumes nothing.
use Prim.Native.Nat.{ℕ, zero, suc, ◌+◌, ◌-◌, ◌*◌, ◌≤◌, ◌<◌}
use mathlib.Core.Path.{◌≡◌, refl, sym, ap, subst, ◌∙◌}
use mathlib.Core.List.{List, [], ◌∷◌, ◌++◌}
use native.Mathlib.Omega.{arith}
use native.Mathlib.Nat.{zero-add}
use lib.ListN.{length, take, get_or, replicate}
use Rattle.rules.specs.declared.ChannelNumber.{ChannelNumber}
use Rattle.rules.specs.declared.Way.{Way}
use Rattle.rules.specs.declared.Way.TheVariants.{Receive, Send}
use Rattle.rules.specs.State.{State, Chan, closed, chan, queue, held}
use Rattle.rules.specs.Pool.{cell_size, pool_size, cells, promised_to, promised, unpromised}
use Rattle.rules.specs.Sound.{Each, SoundChan, Sound}
use Rattle.octets.specs.Parts.{pad}
use Rattle.session.specs.Book.{numbers_of, places}
use Rattle.session.specs.Picture.{space, region, regions, pool_of, link_number, carries_number, entry, chan_numbers, entries_of, heads_with, heads_of, ledger_of, offset, shown, GoodIn, blocks}
use Rattle.session.specs.Cells.{HeldAt, SameLengths}
use Rattle.session.proofs.Regions.{Fits, length_way, length_region}
use Rattle.session.proofs.Owners.{first_start}
use Rattle.session.proofs.Ledgers.{zeros_get}

-- what is 0 in the front of a list or in its rest is 0 in the list
append_zero :
    (x y : List ℕ) (j : ℕ) → (j < length x → get_or x j 0 ≡ 0) → ((i : ℕ) → j ≡ length x + i → get_or y i 0 ≡ 0) →
    get_or (x ++ y) j 0 ≡ 0
append_zero [] y j f g = g j (sym (zero-add j))
append_zero (v ∷ x) y zero f g = f (omega arith)
append_zero (v ∷ x) y (suc j) f g =
    append_zero x y j (λ h. f (omega arith)) (λ i e. g i (let q : suc j ≡ suc (length x) + i = omega arith in q))

-- behind a list nothing but zeros is padded
pad_zero : (n : ℕ) (l : List ℕ) (j : ℕ) → (j < length l → get_or l j 0 ≡ 0) → get_or (pad n l) j 0 ≡ 0
unfolding pad
pad_zero n l j f = append_zero l (replicate (n - length l) 0) j f (λ i _. zeros_get (n - length l) i)

-- a region is 0 where neither way holds a byte
region_zero :
    (c : Chan) → Fits c → (j : ℕ) → ((w : Way) (i : ℕ) → i < length (held c w) → j ≡ offset c.grant w + i → ⊥) →
    get_or (region c) j 0 ≡ 0
unfolding region offset
region_zero c fits j h =
    let sp = space c.grant in
    append_zero (pad sp (held c Receive)) (pad sp (held c Send)) j
    (λ _. pad_zero sp (held c Receive) j (λ f. absurd (h Receive j f (sym (zero-add j)))))
    (λ i e. pad_zero sp (held c Send) i (λ f. absurd (h Send i f (e ∙ ap (λ (k : ℕ). k + i) (length_way c fits Receive)))))

-- what the channel at a place of a list holds for a way, and where in the regions of the list its bytes stand
abbrev bytes : List Chan → ℕ → Way → List ℕ
bytes cs k w = held (get_or cs k closed) w

abbrev standing : List Chan → ℕ → Way → ℕ → ℕ
standing cs k w i = cell_size * promised_to (take k cs) + offset (get_or cs k closed).grant w + i

-- the regions are 0 where no channel holds a byte
regions_zero :
    (cs : List Chan) → Each SoundChan cs → (j : ℕ) →
    ((k : ℕ) (w : Way) (i : ℕ) → k < length cs → i < length (bytes cs k w) → j ≡ standing cs k w i → ⊥) →
    get_or (regions cs) j 0 ≡ 0
unfolding regions promised_to space
regions_zero [] s j h = refl
regions_zero (c ∷ cs) s j h =
    let l : length (region c) ≡ 2 * (cell_size * cells c.grant) = length_region c s.0.fits in
    append_zero (region c) (regions cs) j
    (λ _. region_zero c s.0.fits j (λ w i f e. h 0 w i (omega arith) f (omega arith)))
    (λ i e. regions_zero cs s.1 i (λ k w m b f q. h (suc k) w m (omega arith) f (omega arith)))

-- a byte that a channel of the state holds is held at its place in the pool
held_at :
    (a : State) → Sound a → (k : ℕ) (w : Way) (i j : ℕ) → k < length a.chans →
    i < length (bytes a.chans k w) → j ≡ standing a.chans k w i → HeldAt a j
unfolding chan
held_at a s k w i j b =
    let n : ChannelNumber = record { 0 = suc k } in
    let seven = s.seven in
    let at : n.0 - 1 ≡ k = omega arith in
    subst (λ (m : ℕ). i < length (bytes a.chans m w) → j ≡ standing a.chans m w i → HeldAt a j) at
    (λ f e.
    record {
      number = n;
      way = w;
      index = i;
      low = omega arith;
      high = omega arith;
      within = f;
      place = e ∙ ap (λ (m : ℕ). m + i) (sym (first_start a n w));
    })

-- where no held byte stands, the pool of a good session is 0
pub zero_elsewhere : (t p : List ℕ) → GoodIn t p → (j : ℕ) → (HeldAt (shown t p) j → ⊥) → get_or p j 0 ≡ 0
unfolding pool_of
zero_elsewhere t p g j h =
    let a = shown t p in
    ap (λ (l : List ℕ). get_or l j 0) g.shows.pool
    ∙ pad_zero pool_size (regions a.chans) j (λ _.
    regions_zero a.chans g.sound.each j (λ k w i b f e. h (held_at a g.sound k w i j b f e)))

-- channels that differ at most in the values of what they hold have one entry
entry_same : (c d : Chan) → SameLengths c d → entry c ≡ entry d
unfolding entry
entry_same c d s =
    λ i.
    record {
      grant = s.grant i;
      link = link_number (s.link i);
      rx = s.lengths Receive i;
      tx = s.lengths Send i;
      ready = s.ready i;
      carries = carries_number (s.carries i);
    }

-- and the same numbers
numbers_same : (c d : Chan) → SameLengths c d → chan_numbers c ≡ chan_numbers d
unfolding chan_numbers queue
numbers_same c d s = λ i. numbers_of (entry_same c d s i) ++ (places (s.datagrams Receive i) ++ places (s.datagrams Send i))

entries_same :
    (cs ds : List Chan) → length cs ≡ length ds → ((k : ℕ) → k < length cs → SameLengths (get_or cs k closed) (get_or ds k closed)) →
    entries_of cs ≡ entries_of ds
unfolding blocks
entries_same [] [] e s = refl
entries_same [] (d ∷ ds) e s = absurd (let q : 0 ≡ suc (length ds) = e in omega arith)
entries_same (c ∷ cs) [] e s = absurd (let q : suc (length cs) ≡ 0 = e in omega arith)
entries_same (c ∷ cs) (d ∷ ds) e s =
    let rest = entries_same cs ds (let q : suc (length cs) ≡ suc (length ds) = e in omega arith) (λ k h. s (suc k) (omega arith)) in
    λ i. numbers_same c d (s 0 (omega arith)) i ++ rest i

-- and promise the same cells
promised_same :
    (cs ds : List Chan) → length cs ≡ length ds → ((k : ℕ) → k < length cs → SameLengths (get_or cs k closed) (get_or ds k closed)) →
    promised_to cs ≡ promised_to ds
unfolding promised_to
promised_same [] [] e s = refl
promised_same [] (d ∷ ds) e s = absurd (let q : 0 ≡ suc (length ds) = e in omega arith)
promised_same (c ∷ cs) [] e s = absurd (let q : suc (length cs) ≡ 0 = e in omega arith)
promised_same (c ∷ cs) (d ∷ ds) e s =
    let rest = promised_same cs ds (let q : suc (length cs) ≡ suc (length ds) = e in omega arith) (λ k h. s (suc k) (omega arith)) in
    λ i. 2 * cells ((s 0 (omega arith)).grant i) + rest i

-- the ledgers of two good sessions that differ at most in the values of held bytes are the same
pub ledger_by_lengths :
    (t p u q : List ℕ) → GoodIn t p → GoodIn u q →
    (shown t p).profile ≡ (shown u q).profile → (shown t p).events ≡ (shown u q).events → (shown t p).timers ≡ (shown u q).timers →
    ((n : ChannelNumber) → 1 ≤ n.0 → n.0 ≤ 7 → SameLengths (chan (shown t p) n) (chan (shown u q) n)) → t ≡ u
unfolding ledger_of heads_of unpromised promised chan
ledger_by_lengths t p u q g h profile events timers same =
    let a = shown t p in
    let b = shown u q in
    let seven = g.sound.seven in
    let at : (k : ℕ) → suc k - 1 ≡ k = λ k. omega arith in
    let each : (k : ℕ) → k < length a.chans → SameLengths (get_or a.chans k closed) (get_or b.chans k closed) =
    λ k f. subst (λ (m : ℕ). SameLengths (get_or a.chans m closed) (get_or b.chans m closed)) (at k) (same (record { 0 = suc k }) (omega arith) (omega arith)) in
    let grants = promised_same a.chans b.chans (g.sound.seven ∙ sym h.sound.seven) each in
    let entries = entries_same a.chans b.chans (g.sound.seven ∙ sym h.sound.seven) each in
    g.shows.ledger
    ∙ (λ i. profile i ++ (heads_with (events i) (256 - grants i) (timers i) ++ entries i))
    ∙ sym h.shows.ledger
