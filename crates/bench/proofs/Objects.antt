-- The objects of a response on one line.
-- Assumes nothing.
use Prim.Native.Nat.{ℕ, zero, suc, ◌+◌, ◌-◌, ◌*◌, ◌/◌, ◌%◌, ◌≤◌, ◌<◌}
use mathlib.Core.Path.{◌≡◌, refl, sym, ap, subst, ◌∙◌}
use mathlib.Core.Bool.{Bool}
use mathlib.Core.List.{List, [], ◌∷◌, ◌++◌}
use native.Mathlib.Omega.{arith}
use lib.ListN.{length, get_or, set, drop}
use borrow.Author.Tests.{eq-eqb, ne_eqb}
use Rattle.rules.specs.declared.Ending.{Ending}
use Rattle.rules.specs.declared.Refusal.TheVariants.{NoResponse}
use Rattle.rules.specs.Checks.{◌⇒◌else◌}
use Rattle.rules.specs.Frames.{Object, Walk, walk, object_at, faulty, length_bytes, object_bytes, written}
use Rattle.rules.specs.Written.{Response, flagged, unflagged, details_bytes, result_bytes, result_objects, response_objects, response_bytes}
use Rattle.rules.specs.Command.{wrote, refused}
use Rattle.rules.specs.Lines.{printed}
use Rattle.rules.specs.Bench.{bench_read}
use Rattle.rules.proofs.Laws.{branch, stop, skip}
use Rattle.rules.proofs.Walks.{walk_end, walk_fault}
use Rattle.rules.proofs.Forms.{walk_written}
use Rattle.rules.proofs.Heard.{response_named, one_form}
use Rattle.octets.specs.Parts.{part}
use Rattle.octets.proofs.Copies.{Copied, copied_none, copied_more, copied_all, length_part}
use Rattle.octets.proofs.Pastes.{length_pasted}
use Rattle.objects.specs.Places.{Stands}
use Rattle.objects.proofs.Walking.{here_object}
use Rattle.text.specs.Prints.{line_of, Prints}
use Rattle.text.proofs.Printing.{value_few, prints_after, prints_as}
use Rattle.std.specs.Prelude.{Some, None}
use Rattle.bench_reader.specs.declared.Response as heard
use Rattle.bench_reader.specs.Heard.{result_of, heard_of}
use Rattle.bench_reader.specs.Tails.{Hears}
use Rattle.bench.specs.Printed.{digits_text, object_text, objects_behind, heard_line}

-- where no object stands, none is walked
no_object : (t : List ℕ) (e : Ending) → object_at t ≡ faulty e → (walk t).objects ≡ []
no_object [] e f = ap (λ (w : Walk). w.objects) walk_end
no_object (b ∷ t) e f = ap (λ (w : Walk). w.objects) (walk_fault b t e f)

-- the objects from a place on
abbrev pub tail : List ℕ → ℕ → List ℕ
tail s at = objects_behind (walk (drop at s)).objects

-- what is printed from here completes what is to be printed from the first place on
pub record Going (s before : List ℕ) (at from : ℕ) (out : List ℕ) (end here : ℕ) : Type 0 where
  pub room : end + 2 * (length s - here) + 1 ≤ length out
  pub same : length out ≡ length before
  pub completes : (e : ℕ) (after : List ℕ) → Prints (tail s here) e out end after → Prints (tail s from) e before at after

-- two digits for each byte of a time
digits_size : (v : List ℕ) → length (digits_text v) ≡ 2 * length v
unfolding digits_text
digits_size [] = refl
digits_size (b ∷ v) = let e = digits_size v in omega arith

digits_at_lem :
    (v : List ℕ) (i : ℕ) → i < length v →
    (get_or (digits_text v) (2 * i) 0 ≡ get_or v i 0 % 16 + 48) × (get_or (digits_text v) (2 * i + 1) 0 ≡ get_or v i 0 / 16 + 48)
unfolding digits_text
digits_at_lem [] i h = absurd (let z : i < 0 = h in omega arith)
digits_at_lem (b ∷ v) zero h = (refl, refl)
digits_at_lem (b ∷ v) (suc i) h =
    let k : 2 * suc i ≡ suc (suc (2 * i)) = omega arith in
    let m : 2 * suc i + 1 ≡ suc (suc (2 * i + 1)) = omega arith in
    let r = digits_at_lem v i (omega arith) in
    (ap (λ (j : ℕ). get_or (digits_text (b ∷ v)) j 0) k ∙ r.0, ap (λ (j : ℕ). get_or (digits_text (b ∷ v)) j 0) m ∙ r.1)

-- the digits of i bytes stand in the buffer
abbrev pub Timed : List ℕ → ℕ → List ℕ → ℕ → List ℕ → Type 0
Timed before at v i after = Copied before at (digits_text v) (2 * i) after

pub timed_none : (before : List ℕ) (at : ℕ) (v : List ℕ) → at + 2 * length v ≤ length before → Timed before at v 0 before
timed_none before at v h = copied_none before at (digits_text v) (let e = digits_size v in omega arith)

pub timed_more :
    (before : List ℕ) (at : ℕ) (v : List ℕ) (i : ℕ) (after : List ℕ) → Timed before at v i after → i < length v →
    Timed before at v (i + 1) (set (set after (at + 2 * i) (get_or v i 0 % 16 + 48)) (at + 2 * i + 1) (get_or v i 0 / 16 + 48))
timed_more before at v i after c h =
    let z = digits_size v in
    let r = digits_at_lem v i h in
    let k : 2 * i + 1 + 1 ≡ 2 * (i + 1) = omega arith in
    let p : at + (2 * i + 1) ≡ at + 2 * i + 1 = omega arith in
    let tens : List ℕ = set after (at + 2 * i) (get_or v i 0 % 16 + 48) in
    let once = copied_more before at (digits_text v) (2 * i) after _ c (omega arith) (sym r.0) in
    let twice = copied_more before at (digits_text v) (2 * i + 1) tens _ once (omega arith) (sym r.1) in
    subst (λ (j : ℕ). Copied before at (digits_text v) j (set tens (at + 2 * i + 1) (get_or v i 0 / 16 + 48))) k
    (subst (λ (j : ℕ). Copied before at (digits_text v) (2 * i + 1 + 1) (set tens j (get_or v i 0 / 16 + 48))) p twice)

pub timed_all :
    (before : List ℕ) (at : ℕ) (v : List ℕ) (i : ℕ) (after : List ℕ) → Timed before at v i after → length v ≤ i →
    Prints (digits_text v) (at + 2 * length v) before at after
timed_all before at v i after c h =
    let z = digits_size v in
    record { stands = copied_all before at (digits_text v) (2 * i) after c (omega arith); place = omega arith }

-- a blank, and the text of an object by its number
module _ (number : ℕ) (v : List ℕ) {before middle after : List ℕ} {at m e : ℕ} (b : Prints (32 ∷ []) m before at middle) (h : at < length before) where
  pub time_text : number ≡ 0x25 → Prints (digits_text v) e middle m after → Prints (32 ∷ object_text (unflagged number v)) e before at after
  unfolding object_text
  time_text q p = prints_as (ap (λ (l : List ℕ). 32 ∷ l) (sym (stop _ _ _ (eq-eqb number 0x25 q)))) (prints_after b p (omega arith))

  pub value_text : (number ≡ 0x25 → ⊥) → Prints (printed (wrote v)) e middle m after → Prints (32 ∷ object_text (unflagged number v)) e before at after
  unfolding object_text
  value_text q p = prints_as (ap (λ (l : List ℕ). 32 ∷ l) (sym (skip _ _ _ (ne_eqb number 0x25 q)))) (prints_after b p (omega arith))

-- the text of an object has two characters for each byte, and two where there is none
text_few : (number : ℕ) (v : List ℕ) → length (object_text (unflagged number v)) ≤ 2 * length v + 2
unfolding object_text
text_few number v =
    branch (λ (l : List ℕ). length l ≤ 2 * length v + 2) _ _ _ (λ _. let e = digits_size v in omega arith) (λ _. let e = value_few v in omega arith)

module _ {s : List ℕ} {here number : ℕ} {flag : Bool} {start n next : ℕ} (st : Stands s here number flag start n next) where
  -- it is printed, and behind it the rest
  pub going_on :
      {before out after : List ℕ} {at from end m : ℕ} → Going s before at from out end here →
      Prints (32 ∷ object_text (unflagged number (part start next s))) m out end after → Going s before at from after m next
  unfolding objects_behind object_text
  going_on {out = out} {end = end} w p =
      let v = part start next s in
      let few = text_few number v in
      let size = length_part start next s st.within in
      let fits : end + length (32 ∷ object_text (unflagged number v)) ≤ length out = omega (arith, w.room, st.behind, st.ends, st.within) in
      let l = ap length p.stands ∙ length_pasted out end _ fits in
      let is = ap (λ (e : ℕ). 32 ∷ object_text (unflagged number (part start e s)) ++ tail s next) st.ends in
      record {
        room = omega (arith, w.room, p.place, st.behind, st.ends, st.within);
        same = l ∙ w.same;
        completes = λ e after' q.
            w.completes e after'
            (prints_as (ap (λ (k : Walk). objects_behind k.objects) (sym (here_object st))) (prints_as is (prints_after p q fits)));
      }

pub going_end :
    {s before out after : List ℕ} {at from end here m : ℕ} (e : Ending) → Going s before at from out end here → object_at (drop here s) ≡ faulty e →
    Prints (10 ∷ []) m out end after → Prints (tail s from) m before at after
unfolding objects_behind
going_end {s} {here = here} e w f p = w.completes _ _ (prints_as (ap objects_behind (sym (no_object (drop here s) e f))) p)

-- a response has its result behind its details and its devices
result_behind : (r : Response) → (walk (drop 9 (response_bytes r))).objects ≡ flagged 0x03 (result_bytes r.result) ∷ result_objects r.result
unfolding response_bytes response_objects written object_bytes length_bytes details_bytes ◌⇒◌else◌
result_behind r =
    ap (λ (w : Walk). w.objects) (walk_written (flagged 0x03 (result_bytes r.result) ∷ result_objects r.result) (response_named r).1.1)

pub silence_line :
    {s before after : List ℕ} {at m : ℕ} → Hears (bench_read s) s None → Prints (line_of (refused NoResponse)) m before at after →
    Prints (heard_line (bench_read s)) m before at after
unfolding heard_line heard_of
silence_line h w = prints_as (sym (ap heard_line h.is)) w

pub response_line :
    {s : List ℕ} {x : heard.Response} {before middle after : List ℕ} {at m e : ℕ} → Hears (bench_read s) s (Some x) → let d = x.details in
    at + 8 ≤ length before →
    Prints (printed (wrote (d.number ∷ d.kind ∷ d.qualifier ∷ []))) m before at middle → Prints (tail s 9) e middle m after →
    Prints (heard_line (bench_read s)) e before at after
unfolding heard_line heard_of object_text details_bytes ◌⇒◌else◌
response_line {s} {x} h room p w =
    let d = x.details in
    let r : Response = record { details = d; result = result_of x.verdict s } in
    let few = value_few (d.number ∷ d.kind ∷ d.qualifier ∷ []) in
    let rest = ap (λ (t : List ℕ). (walk (drop 9 t)).objects) (one_form s r h.is).1 ∙ result_behind r in
    prints_as (ap (λ (os : List Object). printed (wrote (d.number ∷ d.kind ∷ d.qualifier ∷ [])) ++ objects_behind os) rest ∙ sym (ap heard_line h.is))
    (prints_after p w (omega arith))
