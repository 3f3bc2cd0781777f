-- Bytes written one behind the other into a lent buffer.
-- Assumes nothing.
use Prim.Native.Nat.{ℕ, suc, ◌+◌, ◌/◌, ◌%◌, ◌^◌, ◌≤◌, ◌<◌}
use Rattle.std.specs.Int.{w16, to_be_bytes}
use mathlib.Core.Path.{◌≡◌, refl, sym, ap, subst, ◌∙◌}
use mathlib.Core.List.{List, [], ◌∷◌, ◌++◌, append_assoc, append-nil}
use mathlib.Core.Bool.{true, not}
use native.Mathlib.Omega.{arith}
use native.Mathlib.Nat.{add-zero}
use lib.ListN.{length, drop, length-append, take, take-append-drop}
use borrow.Author.Tests.{le-ltb}
use Rattle.octets.specs.Parts.{pasted, overlaid}
use Rattle.rules.specs.Checks.{◌⇒◌else◌}
use Rattle.rules.specs.Results.{command_cap}
use Rattle.rules.specs.Frames.{Object, length_bytes, object_bytes, written, frame}
use Rattle.rules.specs.Reading.{Body, kind_of, details_of, addressed}
use Rattle.rules.specs.Written.{flagged, unflagged, pair_bytes, details_bytes, bearer_bytes}
use Rattle.rules.specs.Command.{Outcome, wrote, ended_of, written_by}
use Rattle.rules.specs.Bench.{body_proper, transport_objects, body_objects, command_objects, bench_write}
use Rattle.std.specs.Prelude.{Ok, Option}
use Rattle.octets.proofs.Pastes.{paste_after, length_pasted, front_over}
use Rattle.objects.proofs.Writing.{short_length}
use Rattle.rules.proofs.Laws.{skip}
use Rattle.rules.proofs.Sizes.{length_bytes_lem}
use Rattle.bench_writer.specs.declared.Level.{Level}
use Rattle.bench_writer.specs.declared.Asking.TheVariants.{Open}
use Rattle.bench_writer.specs.declared.Record.{Record}
use Rattle.bench_writer.specs.Records.{level_of, body_of, command_of}
use Rattle.bench_writer.specs.Wrote.{body_cap, Wrote, front_bytes}

-- a write leaves the buffer its length
pub still : (s : List ℕ) (at end : ℕ) (before after : List ℕ) → Wrote s at end before after → length after ≡ length before
still s at end before after w = ap length w.lent ∙ length_pasted before at s w.room

-- a write behind a write is one write
pub joined :
    (s t : List ℕ) (at m end : ℕ) (before mid after : List ℕ) → Wrote s at m before mid → Wrote t m end mid after →
    Wrote (s ++ t) at end before after
joined s t at m end before mid after w v =
    let l = still s at m before mid w in
    let a = length-append s t in
    record {
      room = omega (arith, v.room, w.behind);
      behind = omega (arith, v.behind, w.behind);
      lent =
          v.lent
          ∙ ap (λ (k : ℕ). pasted mid k t) w.behind
          ∙ ap (λ (d : List ℕ). pasted d (at + length s) t) w.lent
          ∙ paste_after before at s w.room t;
    }

-- a write of bytes put at a place
pub by_put :
    (s : List ℕ) (at end : ℕ) (before after : List ℕ) → at + length s ≤ length before → end ≡ at + length s → after ≡ pasted before at s →
    Wrote s at end before after
by_put s at end before after r e l = record { room = r; behind = e; lent = l }

-- bytes put behind a write
pub then_put :
    (s t : List ℕ) (at m end : ℕ) (before mid after : List ℕ) → Wrote s at m before mid → at + length s + length t ≤ length before →
    end ≡ m + length t → after ≡ pasted mid m t → Wrote (s ++ t) at end before after
then_put s t at m end before mid after w r e p =
    let l = still s at m before mid w in
    joined s t at m end before mid after w (by_put t m end mid after (omega (arith, w.behind)) e p)

-- the same bytes, told in another way
pub as_form :
    (s t : List ℕ) (at end : ℕ) (before after : List ℕ) → t ≡ s → Wrote s at end before after → Wrote t at end before after
as_form s t at end before after e w = subst (λ (x : List ℕ). Wrote x at end before after) (sym e) w

-- nothing written
pub unwritten : (at : ℕ) (d : List ℕ) → at ≤ length d → Wrote (written []) at at d d
unfolding written pasted
unwritten at d h = record { room = omega arith; behind = omega arith; lent = sym (ap (λ (k : ℕ). take at d ++ drop k d) (add-zero at) ∙ take-append-drop at d) }

-- one object alone, with its flag set or clear
alone :
    (o : Object) (at end : ℕ) (before after : List ℕ) → Wrote (object_bytes o) at end before after → Wrote (written (o ∷ [])) at end before after
unfolding written
alone o at end before after w = as_form (object_bytes o) _ at end before after (append-nil (object_bytes o)) w

pub flagged_alone :
    (n at end : ℕ) (v before after : List ℕ) → Wrote ((n + 0x80) ∷ length_bytes (length v) ++ v) at end before after →
    Wrote (written (flagged n v ∷ [])) at end before after
unfolding object_bytes ◌⇒◌else◌
flagged_alone n at end v before after w = alone (flagged n v) at end before after w

pub unflagged_alone :
    (n at end : ℕ) (v before after : List ℕ) → Wrote (n ∷ length_bytes (length v) ++ v) at end before after →
    Wrote (written (unflagged n v ∷ [])) at end before after
unfolding object_bytes ◌⇒◌else◌
unflagged_alone n at end v before after w = alone (unflagged n v) at end before after w

-- a tag and a length, put at a place, and bytes behind them
pub tagged :
    (tag n at start end : ℕ) (s before mid after : List ℕ) → at + 3 + length s ≤ length before →
    mid ≡ pasted before at (tag ∷ length_bytes n) → start ≡ at + length (tag ∷ length_bytes n) → after ≡ pasted mid start s → end ≡ start + length s →
    Wrote (tag ∷ length_bytes n ++ s) at end before after
tagged tag n at start end s before mid after r p e q f =
    let b = length_bytes_lem n in
    let w = by_put (tag ∷ length_bytes n) at start before mid (omega arith) e p in
    then_put (tag ∷ length_bytes n) s at start end before mid after w (omega arith) f q

-- the two bytes of a number, high byte first
pub pair_is : (n : ℕ) → n < 2 ^ 16 → to_be_bytes w16 n ≡ pair_bytes n
unfolding pair_bytes
pair_is n h = let e : n / 256 % 256 ≡ n / 256 = omega arith in rw e

-- the objects of an OPEN CHANNEL: bearer, size and transport level
abbrev pub behind_bearer : ℕ → Option Level → List ℕ
behind_bearer size level = object_bytes (flagged 0x39 (pair_bytes size)) ++ written (transport_objects (level_of level))

pub opening_form :
    (kind size : ℕ) (level : Option Level) (s : List ℕ) → length s ≤ 6 →
    written (body_objects (body_of (Open kind size level) s)) ≡ 0xB5 ∷ (1 + length s) ∷ kind ∷ s ++ behind_bearer size level
unfolding body_objects body_of written object_bytes bearer_bytes ◌⇒◌else◌
opening_form kind size level s h =
    let e : suc (length s) ≡ 1 + length s = omega arith in
    ap (λ (n : ℕ). 0xB5 ∷ (length_bytes n ++ (kind ∷ s)) ++ behind_bearer size level) e
    ∙ ap (λ (l : List ℕ). 0xB5 ∷ (l ++ (kind ∷ s)) ++ behind_bearer size level) (short_length (1 + length s) (omega arith))

module _ (kind size at : ℕ) (level : Option Level) (s before : List ℕ) {d₁ d₂ : List ℕ} (pre : (at + body_cap ≤ length before) × (length s ≤ 6))
    (p₁ : d₁ ≡ pasted before at (0xB5 ∷ (1 + length s) ∷ kind ∷ [])) (p₂ : d₂ ≡ pasted d₁ (at + 3) s) where
  bearer_wrote : Wrote (0xB5 ∷ (1 + length s) ∷ kind ∷ s) at (at + 3 + length s) before d₂
  bearer_wrote =
      then_put (0xB5 ∷ (1 + length s) ∷ kind ∷ []) s at (at + 3) _ before d₁ d₂ (by_put _ at (at + 3) before d₁ (omega arith) refl p₁) (omega arith) refl p₂

  pub opening_wrote :
      {m end : ℕ} {d₃ after : List ℕ} → Wrote (object_bytes (flagged 0x39 (pair_bytes size))) (at + 3 + length s) m d₂ d₃ →
      Wrote (written (transport_objects (level_of level))) m end d₃ after →
      Wrote (written (body_objects (body_of (Open kind size level) s))) at end before after
  opening_wrote {m} {end} {d₃} {after} w₃ w₄ =
      as_form _ _ at end before after (opening_form kind size level s pre.1)
      (joined _ _ at (at + 3 + length s) end before d₂ after bearer_wrote (joined _ _ (at + 3 + length s) m end d₂ d₃ after w₃ w₄))

-- behind the front there is room for the values
pub front_room :
    (order : Record) (kind size at : ℕ) (before after : List ℕ) → command_cap ≤ length before → Wrote (front_bytes order kind size) 0 at before after →
    at + body_cap ≤ length after
unfolding front_bytes
front_room order kind size at before after h w =
    let l = still _ _ _ _ _ w in
    let b = length_bytes_lem (9 + size) in
    let a = length-append (length_bytes (9 + size)) (0x81 ∷ 0x03 ∷ order.number ∷ kind ∷ order.qualifier ∷ 0x82 ∷ 0x02 ∷ order.source.0 ∷ order.destination.0 ∷ []) in
    omega (arith, w.behind)

-- how a call ends that wrote
pub wrote_ends :
    (o : Outcome) (s : List ℕ) (end : ℕ) (before after : List ℕ) → o ≡ wrote s → Wrote s 0 end before after →
    (Ok end ≡ ended_of o) × (after ≡ overlaid (written_by o) before)
unfolding ended_of written_by
wrote_ends o s end before after e w = (
  ap Ok (omega (arith, w.behind)) ∙ ap ended_of (sym e),
  w.lent ∙ front_over before s ∙ ap (λ (x : Outcome). overlaid (written_by x) before) (sym e),
)

-- the bench writer where no check refuses
module _ (order : Record) (s : List ℕ) (buffer kind size : ℕ) where
  abbrev body : Body
  body = body_of order.asking s

  front_frame :
      kind ≡ kind_of body → size ≡ length (written (body_objects body)) →
      frame (command_objects (command_of order s)) ≡ front_bytes order kind size ++ written (body_objects body)
  unfolding frame command_objects command_of details_of details_bytes written object_bytes length_bytes front_bytes ◌⇒◌else◌
  front_frame k e =
      let n = length (written (body_objects body)) in
      let objects : List ℕ = 0x81 ∷ 0x03 ∷ order.number ∷ kind_of body ∷ order.qualifier ∷ 0x82 ∷ 0x02 ∷ order.source.0 ∷ order.destination.0 ∷ [] in
      let nine : suc (suc (suc (suc (suc (suc (suc (suc (suc n)))))))) ≡ 9 + n = omega arith in
      ap (λ (k : ℕ). 0xD0 ∷ length_bytes k ++ (objects ++ written (body_objects body))) nine
      ∙ sym (append_assoc (0xD0 ∷ length_bytes (9 + n)) objects (written (body_objects body)))
      ∙ (λ i. front_bytes order (sym k i) (sym e i) ++ written (body_objects body))

  pub whole :
      command_cap ≤ buffer → kind ≡ kind_of body → addressed kind order.source order.destination ≡ true → body_proper body ≡ true →
      size ≡ length (written (body_objects body)) → bench_write buffer (command_of order s) ≡ wrote (front_bytes order kind size ++ written (body_objects body))
  unfolding bench_write command_of
  whole h k a p e =
      skip _ _ _ (le-ltb buffer command_cap h)
      ∙ skip _ _ _ (ap (λ (x : ℕ). not (addressed x order.source order.destination)) (sym k) ∙ ap not a)
      ∙ skip _ _ _ (ap not p)
      ∙ ap wrote (front_frame k e)
