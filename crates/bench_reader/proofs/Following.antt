-- What follows a result, by type: a channel that was opened, data, room.
-- Assumes nothing.
use Prim.Native.Nat.{ℕ, ◌+◌, ◌*◌, ◌/◌, ◌%◌, ◌≤◌, ◌<◌}
use mathlib.Core.Path.{◌≡◌, refl, sym, ap, subst, ◌∙◌}
use mathlib.Core.Bool.{Bool, true, false, not, ◌&&◌, false≢true, true≢false}
use mathlib.Core.List.{List, [], ◌∷◌}
use native.Mathlib.Omega.{arith}
use lib.ListN.{length, get_or, drop}
use Rattle.std.proofs.lemmas.List.{nil_from_length}
use lib.Dec.{leb}
use borrow.Author.Tests.{le-leb, leb-true}
use Rattle.rules.specs.declared.ChannelNumber.{ChannelNumber}
use Rattle.std.specs.Prelude.{Option}
use Rattle.rules.specs.declared.CommandType.{CommandType}
use Rattle.rules.specs.Words.{byte_of}
use Rattle.objects.specs.declared.Cursor.{Cursor}
use Rattle.bench_reader.specs.declared.Further.{Further}
use Rattle.rules.specs.declared.Details.{Details}
use denote.Enum.Bare.{sameb}
use Rattle.rules.specs.contracts.Link.{the_type}
use Rattle.rules.specs.declared.Link.{Link}
use Rattle.rules.specs.declared.Link.TheVariants.{NotYet, Established, Dropped}
use Rattle.rules.specs.Checks.{◌⇒◌else◌, some_of, member}
use Rattle.rules.specs.Results.{data_cap}
use Rattle.rules.specs.Frames.{walk}
use Rattle.rules.specs.Timers.{is_start}
use Rattle.rules.specs.State.{is_dropped}
use Rattle.rules.specs.Pool.{grant_cap}
use Rattle.rules.specs.Reading.{Bearer, pair_in, bearer_in}
use Rattle.rules.specs.Own.{Status, opened, received, nothing, done}
use Rattle.rules.specs.Written.{unflagged, pair_bytes, bearer_bytes, status_object, further_objects}
use Rattle.rules.specs.Bench.{bearer_proper, rising, further_proper, value_at, further_in, unfollowed, untold}
use Rattle.rules.proofs.Laws.{both_left, both_right, each_member}
use Rattle.rules.proofs.Forms.{status_back}
use Rattle.std.specs.Int.{w16, from_be_bytes}
use Rattle.rules.specs.Table.{known, table}
use Rattle.bench_reader.proofs.Results.{other_type}
use Rattle.rules.specs.declared.Refusal.TheVariants.{NoResponse}
use Rattle.octets.specs.Parts.{part}
use Rattle.bench_reader.specs.declared.Further.TheVariants.{Plain, Opened, Received, Sent}
use Rattle.bench_reader.specs.Heard.{further_of}
use Rattle.bench_reader.specs.Tails.{Absent, Misfit, Hidden, Valued, Bytes, Displays, checked, followed, borne, Leads, Follows}
use Rattle.bench_reader.proofs.Standing.{named, byte_there, pair_there, pair_list, value_long, behind_one, behind_two, silent, step_on}
use Rattle.bench_reader.proofs.Rising.{rising_first}

-- two bytes as a number
pair_of : {s : List ℕ} {at number : ℕ} {flag : Bool} {v : List ℕ} {next : ℕ} → Bytes s at number flag 2 v next → (from_be_bytes w16 v ≡ pair_in v) × (pair_bytes (from_be_bytes w16 v) ≡ v)
unfolding pair_in pair_bytes
pair_of {v = v} u =
    let a = u.fits 0 (omega arith) in
    let b = u.fits 1 (omega arith) in
    let n = from_be_bytes w16 v in
    let same : n ≡ 256 * get_or v 0 0 + get_or v 1 0 = omega arith in
    let high : n / 256 ≡ get_or v 0 0 = omega arith in
    let low : n % 256 ≡ get_or v 1 0 = omega arith in
    (same, (λ i. high i ∷ low i ∷ []) ∙ sym (pair_list v u.long))

-- a bearer, type and parameters, and the grant
module _ (d : Details) (x : ℕ) (st : Status) {s : List ℕ} {at : ℕ} where
  pub bearer_missed : Absent s at 0x35 false → borne d x st (drop at s) ≡ untold NoResponse
  unfolding borne
  bearer_missed m = silent _ _ _ _ (λ _ q. m.never _ _ q)

  module _ {start k next : ℕ} (w : Valued s at 0x35 false start k next) where
    bearer_on :
        let b = bearer_in (part start (start + k) s) in
        let g = pair_in (value_at (walk (drop next s)).objects 0) in
        borne d x st (drop at s) ≡
        checked (bearer_proper b && leb 1 g && leb g grant_cap) (unflagged 0x35 (bearer_bytes b) ∷ unflagged 0x39 (pair_bytes g) ∷ []) (drop at s) (record { details = d; result = done x (opened st b g) })
    unfolding borne value_at
    bearer_on = rw w.holds.walked

    improper : bearer_proper (bearer_in (part start (start + k) s)) ≡ false → borne d x st (drop at s) ≡ untold NoResponse
    improper f = bearer_on ∙ silent _ _ _ _ (λ t _. true≢false (sym (both_left _ _ (both_left _ _ t)) ∙ f))

    value_from : {v : List ℕ} → part start next s ≡ v → part start (start + k) s ≡ v
    value_from e = ap (λ (i : ℕ). part start i s) (sym w.ends) ∙ e

    pub bearer_empty : length (part start next s) ≡ 0 → borne d x st (drop at s) ≡ untold NoResponse
    unfolding bearer_proper bearer_in
    bearer_empty h = improper (ap (λ (v : List ℕ). bearer_proper (bearer_in v)) (value_from (nil_from_length _ h)))

    module _ {b : ℕ} {ps : List ℕ} (e : part start next s ≡ b ∷ ps) where
      abbrev bearer : Bearer
      bearer = record { kind = b; parameters = ps }

      pub bearer_unfit : bearer_proper bearer ≡ false → borne d x st (drop at s) ≡ untold NoResponse
      unfolding bearer_in
      bearer_unfit f = improper (ap (λ (v : List ℕ). bearer_proper (bearer_in v)) (value_from e) ∙ f)

      module _ (f : bearer_proper bearer ≡ true) where
        bearer_fits :
            let g = pair_in (value_at (walk (drop next s)).objects 0) in
            borne d x st (drop at s) ≡
            checked (leb 1 g && leb g grant_cap) (unflagged 0x39 (pair_bytes g) ∷ []) (drop next s) (record { details = d; result = done x (opened st (bearer_in (part start (start + k) s)) g) })
        unfolding bearer_in bearer_bytes
        bearer_fits =
            bearer_on ∙ step_on w.holds (named (omega arith)) _ _ _ (ap (λ (v : List ℕ). bearer_bytes (bearer_in v)) (value_from e) ∙ sym (value_from e))
            ∙ rw (ap (λ (v : List ℕ). bearer_proper (bearer_in v)) (value_from e) ∙ f)

        pub grant_missed : Misfit s next 0x39 false 2 → borne d x st (drop at s) ≡ untold NoResponse
        unfolding pair_bytes
        grant_missed m = bearer_fits ∙ silent _ _ _ _ (λ _ o. m.never _ _ refl o)

        module _ {pair : List ℕ} {end : ℕ} (u : Bytes s next 0x39 false 2 pair end) {g : ℕ} (q : g ≡ from_be_bytes w16 pair) where
          grant_on : borne d x st (drop at s) ≡ checked (leb 1 g && leb g grant_cap) [] (drop end s) (record { details = d; result = done x (opened st (bearer_in (part start (start + k) s)) g) })
          unfolding value_at
          grant_on =
              let p = pair_of u in
              bearer_fits ∙ rw u.holds.walked (rw (← p.0) (rw (← q) (step_on u.holds (named (omega arith)) _ _ _ (ap pair_bytes q ∙ p.1))))

          pub grant_unfit : ((1 ≤ g) × (g ≤ grant_cap) → ⊥) → borne d x st (drop at s) ≡ untold NoResponse
          grant_unfit o = grant_on ∙ silent _ _ _ _ (λ t _. o (leb-true 1 g (both_left _ _ t), leb-true g grant_cap (both_right (leb 1 g) _ t)))

          pub grant_fits : (1 ≤ g) × (g ≤ grant_cap) → Leads (borne d x st (drop at s)) d x s (Opened st.number st.link start k g) end
          unfolding further_of
          grant_fits o =
              let l = value_long w in
              let z = ap length (value_from e) in
              record {
                is = grant_on ∙ rw (le-leb 1 g o.0, le-leb g grant_cap o.1);
                at = λ n. (omega arith, omega (arith, w.ends, behind_two (pair_there u), u.holds.within));
              }

-- the status of a channel that was opened
pub same_dropped : (l : Link) → sameb the_type l Dropped ≡ is_dropped l
unfolding is_dropped
same_dropped NotYet = refl
same_dropped Established = refl
same_dropped Dropped = refl

module _ (d : Details) (x : ℕ) {s : List ℕ} {at : ℕ} where
  pub opened_missed : Hidden s at → followed d 0x40 x (drop at s) ≡ untold NoResponse
  unfolding followed further_in further_proper further_objects ◌⇒◌else◌
  opened_missed m = silent _ _ _ _ (λ t q. m.never _ _ (both_left _ _ (both_left _ _ (both_left _ _ (both_left _ _ t)))) q)

  module _ {n : ChannelNumber} {l : Link} {next : ℕ} (h : Displays s at (record { number = n; link = l }) next) where
    abbrev st : Status
    st = record { number = n; link = l }

    opened_on :
        let os = (walk (drop next s)).objects in
        let b = bearer_in (value_at os 0) in
        let g = pair_in (value_at os 1) in
        followed d 0x40 x (drop at s) ≡
        checked (rising 0 (st ∷ []) && not (is_dropped l) && bearer_proper b && leb 1 g && leb g grant_cap) (status_object n l ∷ unflagged 0x35 (bearer_bytes b) ∷ unflagged 0x39 (pair_bytes g) ∷ []) (drop at s)
        (record { details = d; result = done x (opened st b g) })
    unfolding followed further_in further_proper further_objects ◌⇒◌else◌ value_at status_object
    opened_on = rw h.holds.walked (rw (status_back n l (rising_first 0 st [] h.numbered).1))

    pub opened_dropped : is_dropped l ≡ true → followed d 0x40 x (drop at s) ≡ untold NoResponse
    opened_dropped q =
        opened_on ∙ silent _ _ _ _ (λ t _.
        false≢true (sym (ap not q) ∙ both_right (rising 0 (st ∷ [])) _ (both_left _ _ (both_left _ _ (both_left _ _ t)))))

    pub opened_fits : is_dropped l ≡ false → followed d 0x40 x (drop at s) ≡ borne d x st (drop next s)
    unfolding borne status_object
    opened_fits q = opened_on ∙ step_on h.holds (named (omega arith)) _ _ _ refl ∙ rw (h.numbered, q)

-- data, and the count of bytes still held
module _ (d : Details) (x : ℕ) {s : List ℕ} {at : ℕ} where
  pub data_missed : Absent s at 0x36 false → followed d 0x42 x (drop at s) ≡ untold NoResponse
  unfolding followed further_in further_proper further_objects ◌⇒◌else◌
  data_missed m = silent _ _ _ _ (λ _ q. m.never _ _ q)

  module _ {start k next : ℕ} (w : Valued s at 0x36 false start k next) where
    data_on :
        let v = part start (start + k) s in
        let n = get_or (value_at (walk (drop next s)).objects 0) 0 0 in
        followed d 0x42 x (drop at s) ≡ checked (leb k data_cap && leb n 255) (unflagged 0x37 (n ∷ []) ∷ []) (drop next s) (record { details = d; result = done x (received v n) })
    unfolding followed further_in further_proper further_objects ◌⇒◌else◌ value_at
    data_on = rw w.holds.walked (step_on w.holds (named (omega arith)) _ _ _ refl ∙ rw (value_long w))

    pub data_long : data_cap < k → followed d 0x42 x (drop at s) ≡ untold NoResponse
    data_long h = data_on ∙ silent _ _ _ _ (λ t _. omega (arith, leb-true k data_cap (both_left _ _ t)))

    pub count_missed : Misfit s next 0x37 false 1 → followed d 0x42 x (drop at s) ≡ untold NoResponse
    count_missed m = data_on ∙ silent _ _ _ _ (λ _ o. m.never _ _ refl o)

    pub count_fits : {v : List ℕ} {end : ℕ} → k ≤ data_cap → Bytes s next 0x37 false 1 v end → Leads (followed d 0x42 x (drop at s)) d x s (Received start k (get_or v 0 0)) end
    unfolding value_at further_of
    count_fits {v} h u =
        let f = byte_there u in
        record {
          is = data_on ∙ rw (le-leb k data_cap h) (rw f.walked (rw (le-leb (get_or v 0 0) 255 (let y = u.fits 0 (omega arith) in omega arith)) (step_on f (named (omega arith)) _ _ _ refl)));
          at = λ o. omega (arith, w.ends, behind_one f, f.within);
        }

-- room
module _ (d : Details) (x : ℕ) {s : List ℕ} {at : ℕ} where
  pub room_missed : Misfit s at 0x37 false 1 → followed d 0x43 x (drop at s) ≡ untold NoResponse
  unfolding followed further_in further_proper further_objects ◌⇒◌else◌
  room_missed m = silent _ _ _ _ (λ _ q. m.never _ _ refl q)

  pub room_fits : {v : List ℕ} {next : ℕ} → Bytes s at 0x37 false 1 v next → Leads (followed d 0x43 x (drop at s)) d x s (Sent (get_or v 0 0)) next
  unfolding followed further_in further_proper further_objects ◌⇒◌else◌ value_at further_of
  room_fits {v} u = let h = byte_there u in record { is = rw h.walked (rw (le-leb (get_or v 0 0) 255 (let y = u.fits 0 (omega arith) in omega arith)) (step_on h (named (omega arith)) _ _ _ refl)); at = λ o. tt }

-- nothing, and a type that is none of the table
module _ (d : Details) (x : ℕ) (s : List ℕ) (at k : ℕ) where
  pub plain_fits : member k unfollowed ≡ true → Leads (followed d k x (drop at s)) d x s Plain at
  unfolding followed further_in further_proper further_objects is_start member some_of ◌⇒◌else◌ further_of
  plain_fits e =
      let P : ℕ → Type 0 = λ j. followed d j x (drop at s) ≡ checked true [] (drop at s) (record { details = d; result = done x nothing }) in
      record { is = each_member P k unfollowed (refl, (refl, (refl, tt))) e; at = λ o. tt }

  pub none_follows : known k ≡ false → followed d k x (drop at s) ≡ untold NoResponse
  unfolding followed further_in further_proper further_objects is_start member some_of known table ◌⇒◌else◌
  none_follows e =
      let z : followed d k x (drop at s) ≡ checked false [] (drop at s) (record { details = d; result = done x nothing }) =
      simp (other_type k 0x40 refl e, other_type k 0x42 refl e, other_type k 0x43 refl e, other_type k 0x44 refl e, other_type k 0x27 refl e, other_type k 0x02 refl e, other_type k 0x05 refl e, other_type k 0x41 refl e) in
      z ∙ silent _ _ _ _ (λ q _. false≢true q)

  pub followed_as : {t u : CommandType} (r : Option (Further × Cursor)) → t ≡ u → byte_of t ≡ k → Follows (followed d (byte_of u) x (drop at s)) d x s r → Follows (followed d k x (drop at s)) d x s r
  followed_as r e f h = subst (λ (j : ℕ). Follows (followed d j x (drop at s)) d x s r) (ap byte_of (sym e) ∙ f) h
