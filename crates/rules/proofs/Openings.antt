-- Opening and closing, over any list of calls: which number is opened, when none or no cell is left, and that closed cells come back.
-- Assumes nothing.
use Prim.Native.Nat.{ℕ, zero, suc, ◌+◌, ◌-◌, ◌*◌, ◌≤◌, ◌<◌, min}
use mathlib.Core.Path.{◌≡◌, refl, sym, ap, subst, ◌∙◌}
use mathlib.Core.Logic.{◌↔◌}
use mathlib.Core.Bool.{Bool, true, false, not, true≢false, false≢true}
use mathlib.Core.List.{List, [], ◌∷◌}
use mathlib.Core.Option.{Option, some}
use native.Mathlib.Omega.{arith}
use native.Mathlib.Nat.{not-suc-le-zero, le_of_suc-le-suc}
use lib.ListN.{length, get_or}
use lib.Dec.{ltb}
use borrow.Author.Tests.{ne_eqb, ltb-true, ltb-false, eqb-true, eqb-false}
use Rattle.rules.specs.declared.ChannelNumber.{ChannelNumber}
use Rattle.rules.specs.declared.Link.TheVariants.{NotYet, Established}
use Rattle.rules.specs.Checks.{◌⇒◌else◌, some_of, member}
use Rattle.rules.specs.Words.{channel_of}
use Rattle.rules.specs.Profile.{channels, allows_bearer}
use Rattle.rules.specs.State.{State, Chan, closed, is_open, chan, with_chan}
use Rattle.rules.specs.Pool.{cells, promised_to, promised, unpromised, grant_for}
use Rattle.rules.specs.Reading.{reading, Command, Body, Bearer, Transport, bare, event_list, open_channel, close_channel, receive_data, send_data, kind_of, to_modem, start_timer, manage_timer}
use Rattle.rules.specs.Own.{Reply, Result, Status, Further, problem, done, opened, bit1, plain, open_before, protocol_of, served, opening, closing, own}
use Rattle.rules.specs.Run.{Call, commanding}
use Rattle.rules.specs.History.{History, ended}
use Rattle.rules.specs.Demands.{reached, told_of, next, begun, latest, is_done, heard_done, answer_to, Passed, cells_from, free_by, free_cells, standing, AllOpen, Lowest}
use Rattle.rules.specs.Command.{Terms}
use Rattle.rules.proofs.Laws.{branch, skip}
use Rattle.rules.proofs.Cases.{listing_cases, opening_cases, closing_cases, receiving_cases, sending_cases, telling_cases, starting_timer_cases, managing_timer_cases}
use Rattle.rules.proofs.Grants.{promised_set, grant_whole}
use Rattle.rules.proofs.Soundness.{open_place, open_before_le, reached_sound}
use Rattle.rules.proofs.Answers.{meant_own}
use Rattle.rules.proofs.Histories.{follows}
use Rattle.rules.proofs.Outside.{latest_next, reached_channels, reached_bearer, answer_meant, done_asked, own_heard, own_next, aimed_number}
use Rattle.rules.proofs.Demands.{follows_to, close_done}

-- no more cells are promised than there are, after any list of calls
pub cells_bound : (p : List ℕ) (cs : List Call) → promised (reached p cs) ≤ 256
cells_bound p cs = (reached_sound p cs).within

-- a closed channel takes the cells of its grant out of the sum
closed_sum :
    (a : State) (n : ChannelNumber) (i : Bool) → is_open (chan a n) ≡ true →
    promised (closing a n i).state + 2 * cells (chan a n).grant ≡ promised a
unfolding closing promised with_chan chan closed cells
closed_sum a n i o =
    let e = promised_set a.chans (n.0 - 1) closed (open_place a.chans (n.0 - 1) o) in
    subst (λ (r : Reply). promised r.state + 2 * cells (chan a n).grant ≡ promised a) (sym (skip _ _ _ (ap not o))) (omega arith)

done_not_problem : (x : ℕ) (f : Further) (cause : ℕ) → some (done x f) ≡ some (problem cause) → ⊥
unfolding heard_done is_done
done_not_problem x f cause e = true≢false (ap heard_done e)

-- the channels before the first unused one are open
before_open : (n : ℕ) (cs : List Chan) (j : ℕ) → j < open_before n cs → is_open (get_or cs j closed) ≡ true
unfolding open_before
before_open zero cs j = λ h. absurd (not-suc-le-zero h)
before_open (suc n) [] j = λ h. absurd (not-suc-le-zero h)
before_open (suc n) (c ∷ cs) zero = branch (λ (k : ℕ). 0 < k → is_open c ≡ true) _ _ _ (λ e _. e) (λ _ h. absurd (not-suc-le-zero h))
before_open (suc n) (c ∷ cs) (suc j) =
    branch (λ (k : ℕ). suc j < k → is_open (get_or cs j closed) ≡ true) _ _ _
    (λ _ h. before_open n cs j (le_of_suc-le-suc h)) (λ _ h. absurd (not-suc-le-zero h))

-- and that one is not
first_unused : (n : ℕ) (cs : List Chan) → (open_before n cs ≡ n → ⊥) → is_open (get_or cs (open_before n cs) closed) ≡ false
unfolding open_before is_open closed
first_unused zero cs = λ h. absurd (h refl)
first_unused (suc n) [] = λ _. refl
first_unused (suc n) (c ∷ cs) =
    branch (λ (k : ℕ). (k ≡ suc n → ⊥) → is_open (get_or (c ∷ cs) k closed) ≡ false) (is_open c) (suc (open_before n cs)) 0
    (λ _ h. first_unused n cs (λ e. h (ap suc e))) (λ e _. e)

-- the channel of a number stands open, in a state
abbrev is_standing : State → ℕ → Bool
is_standing a k = is_open (chan a (record { 0 = k }))

module _ (a : State) where
  abbrev many : ℕ
  many = channels a.profile

  abbrev stand : ℕ
  stand = open_before many a.chans

  -- the first unused number, where there is one, is the lowest
  lowest : (stand ≡ many → ⊥) → Lowest many (is_standing a) (stand + 1)
  unfolding chan
  lowest u =
      let most = open_before_le many a.chans in
      let at : stand ≡ stand + 1 - 1 = omega arith in
      record {
        from = omega arith;
        upto = omega arith;
        unused = subst (λ (k : ℕ). is_open (get_or a.chans k closed) ≡ false) at (first_unused many a.chans u);
        below = λ j from h. before_open many a.chans (j - 1) (omega arith);
      }

  -- every number is open exactly when none is unused
  all_open : stand ≡ many → AllOpen many (is_standing a)
  unfolding chan
  all_open e k from upto = before_open many a.chans (k - 1) (omega arith)

  none_unused : AllOpen many (is_standing a) → stand ≡ many
  none_unused h =
      let more : stand + 1 ≤ many → ⊥ =
      λ f. true≢false (sym (h (stand + 1) (omega arith) f) ∙ (lowest (omega arith)).unused)
      in
      omega (arith, more, open_before_le many a.chans)

-- the result of an OPEN CHANNEL that opens the number k with the grant g, and with so many cells free
abbrev pub opens_with : ℕ → Bearer → ℕ → Bool → ℕ → ℕ → Result
opens_with q b size i k g =
    let link = bit1 q ⇒ Established else NotYet in
    done (ltb g size ⇒ 0x07 else plain i) (opened (record { number = record { 0 = k }; link = link }) b g)

abbrev pub opens : ℕ → Bearer → ℕ → Bool → ℕ → ℕ → Result
opens q b size i k free = opens_with q b size i k (grant_for size free)

module _
    (a : State) (q : ℕ) (b : Bearer) (size protocol : ℕ) (i : Bool)
    (s : allows_bearer a.profile b.kind ≡ true) (u : served protocol ≡ true) (f : 1 ≤ size) where
  opening_last :
      (Q : Result → Type 0) →
      (AllOpen (many a) (is_standing a) → Q (problem 0x01)) →
      ((AllOpen (many a) (is_standing a) → ⊥) → unpromised a < 2 → Q (problem 0x04)) →
      ((AllOpen (many a) (is_standing a) → ⊥) → 2 ≤ unpromised a → (k : ℕ) → Lowest (many a) (is_standing a) k → Q (opens q b size i k (unpromised a))) →
      Q (opening a q b size protocol i).result
  unfolding opening
  opening_last Q x y z =
      let R : Reply → Type 0 = λ r. Q r.result in
      subst R (sym (skip _ _ _ (ap not s) ∙ skip _ _ _ (ap not u) ∙ skip _ _ _ (ne_eqb size 0 (omega arith))))
      (branch R _ _ _ (λ e. x (all_open a (eqb-true _ _ e))) (λ e.
      let some : AllOpen (many a) (is_standing a) → ⊥ = λ h. eqb-false _ _ e (none_unused a h) in
      branch R _ _ _ (λ c. y some (ltb-true _ _ c)) (λ c.
      z some (ltb-false _ _ c) (stand a + 1) (lowest a (eqb-false _ _ e)))))

-- of the commands only an OPEN CHANNEL is answered with an opening, of the lowest unused number
abbrev Opening-lowest : State → ℕ → Status → Bearer → ℕ → Reply → Type 0
Opening-lowest a x o b g r = r.result ≡ done x (opened o b g) → Lowest (many a) (is_standing a) o.number.0

own_opened : (a : State) (c : Command) (y : Body) (i : Bool) (x : ℕ) (o : Status) (b : Bearer) (g : ℕ) → Opening-lowest a x o b g (own a c y i)
unfolding own
own_opened a c (bare t) i x o b g =
    telling_cases (λ (r : Result). r ≡ done x (opened o b g) → Lowest (many a) (is_standing a) o.number.0) a t i (λ e. absurd (false≢true (cc))) (λ e. absurd (false≢true (cc)))
own_opened a c (event_list es) i x o b g = listing_cases (Opening-lowest a x o b g) a es i (λ e. absurd (false≢true (cc))) (λ _ e. absurd (false≢true (cc)))
own_opened a c (open_channel d size t) i x o b g =
    opening_cases (Opening-lowest a x o b g) a (λ _ _ e. absurd (false≢true (cc))) c.qualifier d size (protocol_of t) i (λ e. absurd (false≢true (cc)))
    (λ n l k eₙ _ _ f e.
    let number : n ≡ o.number = cc in
    subst (Lowest (many a) (is_standing a)) (sym eₙ ∙ ap (λ (m : ChannelNumber). m.0) number) (lowest a f.unused))
own_opened a c close_channel i x o b g =
    closing_cases (Opening-lowest a x o b g) a (λ _ _ e. absurd (false≢true (cc))) (channel_of c.destination) i (λ _ e. absurd (false≢true (cc)))
own_opened a c (receive_data r) i x o b g =
    receiving_cases (Opening-lowest a x o b g) a (λ _ _ e. absurd (false≢true (cc))) (channel_of c.destination) r i (λ _ _ _ e. absurd (false≢true (cc)))
own_opened a c (send_data s) i x o b g =
    sending_cases (Opening-lowest a x o b g) a (λ _ _ e. absurd (false≢true (cc))) c.qualifier (channel_of c.destination) s i (λ _ _ _ _ _ _ e. absurd (false≢true (cc)))
own_opened a c (start_timer n v) i x o b g = starting_timer_cases (Opening-lowest a x o b g) a n v i (λ e. absurd (false≢true (cc))) (λ _ _ _ e. absurd (false≢true (cc)))
own_opened a c (manage_timer n) i x o b g =
    managing_timer_cases (Opening-lowest a x o b g) a c.qualifier n i (λ e. absurd (false≢true (cc))) (λ _ e. absurd (false≢true (cc))) (λ _ _ _ _ _ e. absurd (false≢true (cc)))

-- the histories of the channels, and the state that they tell

-- the cells that the grants told promise are those of the channels
cells_told :
    (h : ChannelNumber → History) (k : ℕ) (xs : List Chan) →
    ((m : ChannelNumber) (j : ℕ) → m.0 ≡ k + j → (h m).grant ≡ (get_or xs j closed).grant) → cells_from h k (length xs) ≡ promised_to xs
unfolding cells_from promised_to
cells_told h k [] e = refl
cells_told h k (x ∷ xs) e =
    let first = ap cells (e (record { 0 = k }) 0 (omega arith)) in
    let rest = cells_told h (k + 1) xs (λ m j q. e m (suc j) (omega arith)) in
    omega (arith, first, rest)

module _ (p : List ℕ) (cs : List Call) where
  abbrev told : ChannelNumber → History
  told n = told_of n p cs

  -- the free cells, as the grants told have them, are the unpromised ones
  pub free_told : free_cells p cs ≡ unpromised (reached p cs)
  unfolding free_by unpromised promised chan
  free_told =
      let a = reached p cs in
      let h = reached_sound p cs in
      let sum = cells_told told 1 a.chans
      (λ m j e. (follows m p cs (omega arith)).grant ∙ ap (λ (k : ℕ). (get_or a.chans k closed).grant) (omega arith))
      in
      let seven = subst (λ (k : ℕ). cells_from told 1 k ≡ promised_to a.chans) h.seven sum in
      ap (λ (k : ℕ). 256 - k) seven

  -- a number stands open in its history exactly when it does in the state
  stands_told : (k : ℕ) → 1 ≤ k → standing p cs k ≡ is_standing (reached p cs) k
  stands_told k h = (follows (record { 0 = k }) p cs h).stands

  all_told : AllOpen (channels (latest p cs)) (standing p cs) → AllOpen (many (reached p cs)) (is_standing (reached p cs))
  all_told h k from upto = sym (stands_told k from) ∙ h k from (omega (arith, upto, reached_channels p cs))

  told_all : AllOpen (many (reached p cs)) (is_standing (reached p cs)) → AllOpen (channels (latest p cs)) (standing p cs)
  told_all h k from upto = stands_told k from ∙ h k from (omega (arith, upto, reached_channels p cs))

  lowest_told : (k : ℕ) → Lowest (many (reached p cs)) (is_standing (reached p cs)) k → Lowest (channels (latest p cs)) (standing p cs) k
  lowest_told k l =
      record {
        from = l.from;
        upto = omega (arith, l.upto, reached_channels p cs);
        unused = stands_told k l.from ∙ l.unused;
        below = λ j from h. stands_told j from ∙ l.below j from h;
      }

-- an OPEN CHANNEL that passed steps 1 to 8 behind these calls, with a bearer and a protocol that are served, and a size
module _
    (p : List ℕ) (cs : List Call) (terms : Terms) (s : List ℕ) (c : Command) (i : Bool) (w : Passed (latest p cs) terms s c i)
    (b : Bearer) (size : ℕ) (t : Option Transport) (e : c.body ≡ open_channel b size t)
    (bearer : allows_bearer (latest p cs) b.kind ≡ true) (protocol : served (protocol_of t) ≡ true) (asks : 1 ≤ size) where
  -- every number from 1 to N stands open, by the histories
  abbrev AllStand : Type 0
  AllStand = AllOpen (channels (latest p cs)) (standing p cs)

  heard_last :
      (Q : Option Result → Type 0) →
      (AllStand → Q (some (problem 0x01))) →
      ((AllStand → ⊥) → free_cells p cs < 2 → Q (some (problem 0x04))) →
      ((AllStand → ⊥) → 2 ≤ free_cells p cs → (k : ℕ) → Lowest (channels (latest p cs)) (standing p cs) k → Q (some (opens c.qualifier b size i k (free_cells p cs)))) →
      Q (answer_to p cs terms s)
  unfolding own
  heard_last Q x y z =
      let a = reached p cs in
      let free = free_told p cs in
      subst Q (sym (own_heard p cs terms s c i w (open_channel b size t) e))
      (opening_last a c.qualifier b size (protocol_of t) i (reached_bearer p cs b.kind ∙ bearer) protocol asks (λ (r : Result). Q (some r))
      (λ h. x (told_all p cs h))
      (λ n l. y (λ h. n (all_told p cs h)) (omega arith))
      (λ n m k l.
      subst (λ (f : ℕ). Q (some (opens c.qualifier b size i k f))) free (z (λ h. n (all_told p cs h)) (omega arith) k (lowest_told p cs k l))))

  -- it lacks a number exactly when every number from 1 to N stands open
  pub no_number : answer_to p cs terms s ≡ some (problem 0x01) ↔ AllStand
  no_number = (
    heard_last (λ (r : Option Result). r ≡ some (problem 0x01) → AllStand) (λ h _. h) (λ _ _ q. let w : ◌≡◌ {A = ℕ} 4 1 = cc in absurd (omega arith)) (λ _ _ _ _ q. absurd (done_not_problem _ _ _ q)),
    heard_last (λ (r : Option Result). AllStand → r ≡ some (problem 0x01)) (λ _ _. refl) (λ n _ h. absurd (n h)) (λ n _ _ _ h. absurd (n h)),
  )

  -- where a number is unused, it lacks cells exactly when fewer than two are free
  pub no_cells : (AllStand → ⊥) → answer_to p cs terms s ≡ some (problem 0x04) ↔ free_cells p cs < 2
  no_cells n = (
    heard_last (λ (r : Option Result). r ≡ some (problem 0x04) → free_cells p cs < 2) (λ h _. absurd (n h)) (λ _ l _. l) (λ _ _ _ _ q. absurd (done_not_problem _ _ _ q)),
    heard_last (λ (r : Option Result). free_cells p cs < 2 → r ≡ some (problem 0x04)) (λ h _. absurd (n h)) (λ _ _ _. refl) (λ _ m _ _ l. absurd (omega arith)),
  )

  -- where a number is unused and two cells are free, it opens the lowest unused number, with the grant for the free cells
  pub opens_lowest :
      (AllStand → ⊥) → 2 ≤ free_cells p cs →
      (k : ℕ) × Lowest (channels (latest p cs)) (standing p cs) k × (answer_to p cs terms s ≡ some (opens c.qualifier b size i k (free_cells p cs)))
  opens_lowest n m =
      heard_last (λ (r : Option Result). (k : ℕ) × Lowest (channels (latest p cs)) (standing p cs) k × (r ≡ some (opens c.qualifier b size i k (free_cells p cs))))
      (λ h. absurd (n h)) (λ _ l. absurd (omega arith)) (λ _ _ k l. (k, l, refl))

-- an opening is told only for a number that does not stand open, the lowest of those from 1 to N
pub opened_unused :
    (p : List ℕ) (cs : List Call) (terms : Terms) (s : List ℕ) (x : ℕ) (o : Status) (b : Bearer) (g : ℕ) → answer_to p cs terms s ≡ some (done x (opened o b g)) →
    Lowest (channels (latest p cs)) (standing p cs) o.number.0
opened_unused p cs terms s x o b g e =
    let a = reached p cs in
    let w = answer_meant p cs terms s _ e in
    let c = done_asked a (reading a.profile s) x (opened o b g) (sym w.result) in
    lowest_told p cs o.number.0
    (own_opened a c.0 c.0.body c.1 x o b g (sym (ap (λ (r : Reply). r.result) (meant_own a (reading a.profile s) c.0 c.1 _ c.2 refl)) ∙ sym w.result))

-- a CLOSE CHANNEL that passed steps 1 to 8, of a channel that stands open, gives the cells of its grant back, both ways
module _
    (p : List ℕ) (cs : List Call) (terms : Terms) (s : List ℕ) (c : Command) (i : Bool) (w : Passed (latest p cs) terms s c i)
    (e : c.body ≡ close_channel) (o : (told_of (channel_of c.destination) p cs).stands ≡ true) where
  abbrev closing_call : Call
  closing_call = commanding terms s

  abbrev was : History
  was = told_of (channel_of c.destination) p cs

  pub closing_frees : free_cells p (next cs closing_call) ≡ free_cells p cs + 2 * cells was.grant
  unfolding own unpromised kind_of to_modem member some_of
  closing_frees =
      let a = reached p cs in
      let n = channel_of c.destination in
      let f = follows_to p cs terms s c i w (ap (λ (y : Body). to_modem (kind_of y)) e) in
      let sum = closed_sum a n i (sym f.stands ∙ o) in
      let now = free_told p (next cs closing_call) ∙ ap unpromised (own_next p cs terms s c i w close_channel e) in
      let size = ap cells f.grant in
      omega (arith, now, free_told p cs, sum, size, (reached_sound p cs).within)

  -- and an OPEN CHANNEL right behind it has them: it is granted in full what fits the free cells and those of the closed channel together
  pub freed_granted :
      (terms' : Terms) (s' : List ℕ) (c' : Command) (i' : Bool) → Passed (latest p (next cs closing_call)) terms' s' c' i' →
      (b : Bearer) (size : ℕ) (t : Option Transport) → c'.body ≡ open_channel b size t →
      allows_bearer (latest p cs) b.kind ≡ true → served (protocol_of t) ≡ true → 1 ≤ size → (channel_of c.destination).0 ≤ channels (latest p cs) →
      2 * cells (min size 1500) ≤ free_cells p cs + 2 * cells was.grant →
      (k : ℕ) × (answer_to p (next cs closing_call) terms' s' ≡ some (opens_with c'.qualifier b size i' k (min size 1500)))
  unfolding begun cells kind_of to_modem member some_of ended
  freed_granted terms' s' c' i' w' b size t e' bearer protocol asks upto fit =
      let cs' = next cs closing_call in
      let same : latest p cs' ≡ latest p cs = latest_next p cs closing_call in
      let n = channel_of c.destination in
      let number = aimed_number p cs terms s c i w (ap (λ (y : Body). to_modem (kind_of y)) e) in
      let gone = ap (λ (h : History). h.stands) (close_done p cs terms s c i w e o).1 in
      let unused : AllOpen (channels (latest p cs')) (standing p cs') → ⊥ = λ h. true≢false (sym (h n.0 number.0 (omega (arith, upto, ap channels same))) ∙ gone) in
      let free = closing_frees in
      let g = opens_lowest p cs' terms' s' c' i' w' b size t e' (ap (λ (q : List ℕ). allows_bearer q b.kind) same ∙ bearer) protocol asks unused (omega arith) in
      let whole = grant_whole size (free_cells p cs') (omega arith) in
      (g.0, subst (λ (y : ℕ). answer_to p cs' terms' s' ≡ some (opens_with c'.qualifier b size i' g.0 y)) whole g.2)
