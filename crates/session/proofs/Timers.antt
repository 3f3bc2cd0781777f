-- The timers among the ledger's numbers: read, and with another one in one place.
-- Assumes nothing.
use Prim.Native.Nat.{ℕ, ◌+◌, ◌-◌, ◌*◌, ◌≤◌, ◌<◌}
use mathlib.Core.Path.{◌≡◌, refl, sym, ap, ◌∙◌}
use mathlib.Core.List.{List, [], ◌∷◌, ◌++◌, append_assoc}
use native.Mathlib.Omega.{arith}
use lib.ListN.{length, take, drop, get_or, set, length-append, take-append-drop, get_or-append}
use lib.Seq.{get_or-append-add, length-take-le}
use Rattle.rules.specs.declared.Time.{Time}
use Rattle.rules.specs.Pool.{unpromised, promised}
use Rattle.rules.specs.Timers.{timer_count, Timer, idle, left_of, started_of}
use Rattle.rules.specs.State.{State, timer, with_timer}
use Rattle.rules.specs.Sound.{Sound}
use Rattle.octets.specs.Parts.{pasted}
use Rattle.octets.proofs.Pastes.{paste_parts}
use Rattle.session.specs.Book.{timers_at, timer_size, timer_at, listed_number}
use Rattle.session.specs.Picture.{entries_of, time_numbers, timer_numbers, timers_of, heads_of, ledger_of, time_at}
use Rattle.session.proofs.Blocks.{blocks_size, block_number, block_parts, block_set}
use Rattle.session.proofs.Ledgers.{timer_size_lem, idle_zeros}

module _ (a : State) (h : Sound a) where
  -- what stands before the timers, and behind them
  abbrev three : List ℕ
  three = listed_number a.events.available ∷ listed_number a.events.status ∷ unpromised a ∷ []

  abbrev front : List ℕ
  front = a.profile ++ three

  abbrev all : List ℕ
  all = timers_of a.timers

  abbrev behind : List ℕ
  behind = entries_of a.chans

  front_size : length front ≡ timers_at
  front_size = length-append a.profile three ∙ omega (arith, h.thirteen)

  parts : (ts : List ℕ) → front ++ (ts ++ behind) ≡ a.profile ++ ((listed_number a.events.available ∷ listed_number a.events.status ∷ unpromised a ∷ ts) ++ behind)
  parts ts = append_assoc a.profile three (ts ++ behind)

  ledger_is : ledger_of a ≡ front ++ (all ++ behind)
  unfolding ledger_of heads_of
  ledger_is = sym (parts all)

  module _ (n : ℕ) (low : 1 ≤ n) (high : n ≤ timer_count) where
    abbrev k : ℕ
    k = n - 1

    place : k < length a.timers
    place = omega (arith, h.eight)

    -- a number of a timer
    number_read : (j at : ℕ) → j < timer_size → at ≡ timer_at k + j → get_or (ledger_of a) at 0 ≡ get_or (timer_numbers (timer a n)) j 0
    unfolding timer
    number_read j at l e =
        let p : at ≡ length front + (timer_size * k + j) = omega (arith, front_size) in
        let size = blocks_size timer_numbers timer_size timer_size_lem a.timers in
        (λ i. get_or (ledger_is i) (p i) 0) ∙ get_or-append-add front (all ++ behind) (timer_size * k + j) 0
        ∙ get_or-append all behind 0 (timer_size * k + j) (omega (arith, size, place, l))
        ∙ block_number timer_numbers timer_size timer_size_lem idle idle_zeros a.timers k j l

    -- the time left, and the time that it was started with
    pub left_read : time_at (ledger_of a) (timer_at k) ≡ left_of (timer a n)
    unfolding timer_numbers
    left_read =
        λ i.
        record {
          hours = number_read 0 (timer_at k) (omega arith) (omega arith) i;
          minutes = number_read 1 (timer_at k + 1) (omega arith) refl i;
          seconds = number_read 2 (timer_at k + 2) (omega arith) refl i;
        }

    pub started_read : time_at (ledger_of a) (timer_at k + 3) ≡ started_of (timer a n)
    unfolding timer_numbers
    started_read =
        λ i.
        record {
          hours = number_read 3 (timer_at k + 3) (omega arith) refl i;
          minutes = number_read 4 (timer_at k + 3 + 1) (omega arith) (omega arith) i;
          seconds = number_read 5 (timer_at k + 3 + 2) (omega arith) (omega arith) i;
        }

    -- what stands before the numbers of a timer, these, and what stands behind them
    abbrev before : List ℕ
    before = front ++ take (timer_size * k) all

    abbrev rest : List ℕ
    rest = drop (timer_size * k + timer_size) all ++ behind

    before_size : length before ≡ timer_at k
    before_size =
        let e = length-append front (take (timer_size * k) all) in
        let size = blocks_size timer_numbers timer_size timer_size_lem a.timers in
        let f = length-take-le (timer_size * k) all (omega (arith, size, place)) in
        omega (arith, front_size, e, f)

    with_numbers : (t : Timer) → before ++ (timer_numbers t ++ rest) ≡ ledger_of (with_timer a n t)
    unfolding ledger_of heads_of with_timer unpromised promised
    with_numbers t =
        append_assoc front (take (timer_size * k) all) (timer_numbers t ++ rest)
        ∙ ap (λ (l : List ℕ). front ++ (take (timer_size * k) all ++ l)) (sym (append_assoc (timer_numbers t) (drop (timer_size * k + timer_size) all) behind))
        ∙ ap (λ (l : List ℕ). front ++ l) (sym (append_assoc (take (timer_size * k) all) (timer_numbers t ++ drop (timer_size * k + timer_size) all) behind)
        ∙ ap (λ (l : List ℕ). l ++ behind) (block_set timer_numbers timer_size timer_size_lem a.timers k t place))
        ∙ parts (timers_of (set a.timers k t))

    ledger_parts : ledger_of a ≡ before ++ (timer_numbers (timer a n) ++ rest)
    unfolding timer
    ledger_parts =
        ledger_is
        ∙ ap (λ (l : List ℕ). front ++ (l ++ behind)) (sym (take-append-drop (timer_size * k) all)
        ∙ ap (λ (l : List ℕ). take (timer_size * k) all ++ l) (block_parts timer_numbers timer_size timer_size_lem idle a.timers k place))
        ∙ ap (λ (l : List ℕ). front ++ l) (append_assoc (take (timer_size * k) all) (timer_numbers (get_or a.timers k idle) ++ drop (timer_size * k + timer_size) all) behind)
        ∙ ap (λ (l : List ℕ). front ++ (take (timer_size * k) all ++ l)) (append_assoc (timer_numbers (get_or a.timers k idle)) (drop (timer_size * k + timer_size) all) behind)
        ∙ sym (append_assoc front (take (timer_size * k) all) (timer_numbers (get_or a.timers k idle) ++ rest))

    -- another timer there, and one that differs in the time left alone
    pub timer_written : (t : Timer) → pasted (ledger_of a) (timer_at k) (timer_numbers t) ≡ ledger_of (with_timer a n t)
    timer_written t =
        (λ i. pasted (ledger_parts i) (timer_at k) (timer_numbers t))
        ∙ paste_parts before (timer_numbers (timer a n)) (timer_numbers t) rest (timer_at k) before_size (timer_size_lem (timer a n) ∙ sym (timer_size_lem t))
        ∙ with_numbers t

    pub left_written : (l : Time) (t : Timer) → left_of t ≡ l → started_of t ≡ started_of (timer a n) → pasted (ledger_of a) (timer_at k) (time_numbers l) ≡ ledger_of (with_timer a n t)
    unfolding timer_numbers
    left_written l t e f =
        let was = timer a n in
        (λ i. pasted (ledger_parts i) (timer_at k) (time_numbers l))
        ∙ paste_parts before (time_numbers (left_of was)) (time_numbers l) (time_numbers (started_of was) ++ rest) (timer_at k) before_size refl
        ∙ (λ i. before ++ (time_numbers (sym e i) ++ (time_numbers (sym f i) ++ rest))) ∙ with_numbers t
